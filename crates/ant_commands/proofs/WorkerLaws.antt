-- No command's files and no text depend on how many workers play, or on whether they stay ready.
use Rattle.std.proofs.Common.{◌≡◌, ◌≢◌, ℕ, Bool, false, List, Option, Some, refl, sym, ◌∙◌, ap, subst, slice_get}
use Rattle.command_words.specs.Command.{PlainAsked}
use Rattle.command_words.specs.Table.{number_place, places_of}
use Rattle.command_words.specs.declared.limits.NumberKind.TheVariants.{WorkerCount}
use Rattle.command_words.specs.declared.slot.Place.{Place}
use Rattle.command_words.specs.declared.slot.Place.TheVariants.{Word}
use Rattle.command_words.specs.declared.slot.Slot.TheVariants.{Number}
use Rattle.command_words.specs.declared.table.Choice.{Choice}
use Rattle.command_words.specs.declared.table.Choice.TheVariants.{Far, Workers}
use Rattle.command_words.specs.declared.table.CommandKind.{CommandKind}
use Rattle.command_words.specs.declared.table.CommandKind.TheVariants.{Run}
use Rattle.ant_commands.specs.Files.{FileContent}
use Rattle.ant_commands.specs.Job.{IsJobText, files_of}
use Rattle.ant_commands.specs.Jobs.{job_by, job_of}
use Rattle.ant_commands.specs.Laws.{AreAlikeButForWorkers, WorkersChangeNothing}
use Rattle.ant_commands.specs.Outputs.{match_output, resume_output, save_output}

-- a word's number, an option's number, and whether an option is given; 0 and false if it is about workers
abbrev number-of : Option Place → ℕ → ℕ
number-of (Some (Word (Number WorkerCount))) number = 0
number-of place number = number

abbrev option-of : Choice → ℕ → ℕ
option-of Workers number = 0
option-of choice number = number

abbrev has-of : Choice → Bool → Bool
has-of Workers is = false
has-of Far is = false
has-of choice is = is

-- what is requested, except for workers
abbrev without : CommandKind → PlainAsked → PlainAsked
without kind a = record a {
  number = λ place. number-of (slice_get (places_of kind) place) (a.number place);
  option = λ choice. option-of choice (a.option choice);
  has = λ choice. has-of choice (a.has choice);
}

number-same : (place : Option Place) (m n : ℕ) → (place ≢ Some (number_place WorkerCount) → m ≡ n) → number-of place m ≡ number-of place n
number-same (Some (Word (Number WorkerCount))) m n same = refl
number-same place m n same = same (λ e. let no : ⊥ = cc in no)

option-same : (choice : Choice) (m n : ℕ) → (choice ≢ Workers → m ≡ n) → option-of choice m ≡ option-of choice n
option-same Workers m n same = refl
option-same choice m n same = same (λ e. let no : ⊥ = cc in no)

has-same : (choice : Choice) (a b : Bool) → (choice ≢ Workers → choice ≢ Far → a ≡ b) → has-of choice a ≡ has-of choice b
has-same Workers a b same = refl
has-same Far a b same = refl
has-same choice a b same = same (λ e. let no : ⊥ = cc in no) (λ e. let no : ⊥ = cc in no)

-- two command lines that are alike are equal without their workers
without-same : (a b : PlainAsked) → AreAlikeButForWorkers a b → without a.kind a ≡ without b.kind b
without-same a b like = λ i. record {
  kind = like.kind i;
  file = λ place. like.file place i;
  number = λ place. (number-same (slice_get (places_of a.kind) place) (a.number place) (b.number place) (like.number place)
      ∙ ap (λ kind. number-of (slice_get (places_of kind) place) (b.number place)) like.kind) i;
  names = λ list. like.names list i;
  option = λ choice. option-same choice (a.option choice) (b.option choice) (like.option choice) i;
  dumps = like.dumps i;
  has = λ choice. has-same choice (a.has choice) (b.has choice) (like.has choice) i;
}

-- no job depends on the workers
same_files : (kind : CommandKind) (a : PlainAsked) → files_of (job_by kind a) ≡ files_of (job_by kind (without kind a))
same_files Run a = refl
same_files kind a = refl

same_text : (kind : CommandKind) (a : PlainAsked) (contents : List FileContent) (text : List ℕ) → IsJobText (job_by kind a) contents text ≡ IsJobText (job_by kind (without kind a)) contents text
unfolding match_output save_output resume_output
same_text Run a contents text = refl
same_text kind a contents text = refl

pub workers_change_nothing : WorkersChangeNothing
workers_change_nothing = record {
  files = λ a b like. same_files a.kind a ∙ ap (λ x. files_of (job_of x)) (without-same a b like) ∙ sym (same_files b.kind b);
  text = λ a b like contents text is.
      subst (λ (T : Type 0). T) (same_text a.kind a contents text ∙ ap (λ x. IsJobText (job_of x) contents text) (without-same a b like) ∙ sym (same_text b.kind b contents text)) is;
}
