-- Each text is read in one way, or refused in one way.
use Rattle.std.proofs.Common.{◌≡◌, ◌⊎◌, inl, inr, ℕ, List, Result, Ok, Err, refl, sym, ◌∙◌, ap, arith}
use Rattle.std.proofs.lemmas.Bool.{cases_lt}
use Rattle.ant_asm.proofs.Expansion.{no-fault}
use Rattle.ant_asm.proofs.HasAssembled.{one-reading, some-reading}
use Rattle.ant_asm.proofs.LineLemmas.{lines_decide}
use Rattle.ant_asm.proofs.SourceRead.{has-source, one-source, source-fault}
use Rattle.ant_asm.proofs.TextLemmas as program_text
use Rattle.ant_asm.specs.Source.{IsSourceOf}
use Rattle.ant_asm.specs.Text.{IsAsmFault}
use Rattle.brain_read.proofs.FaultyLemmas as brain_text
use Rattle.brain_read.specs.Grammar.{IsBrainText}
use Rattle.brain_read.specs.Faulty.{IsBrainFault}
use Rattle.cell_world.specs.Grid.{Grid}
use Rattle.match_save.proofs.SaveVerdicts.{every_verdict}
use Rattle.match_save.specs.Faulty.{IsSaveFault}
use Rattle.match_save.specs.Saved.{IsSaveText, SavedValue}
use Rattle.world_read.proofs.AnswersLemmas as world_text
use Rattle.world_read.specs.Faulty.{IsWorldFault}
use Rattle.world_read.specs.Inner.Reading.{world_of_text}
use Rattle.world_read.specs.Opened.{OpensAs}
use Rattle.world_read.specs.declared.fault.WorldFault.{WorldFault}
use Rattle.text_fault.specs.declared.fault.TextFault.{TextFault}
use Rattle.text_fault.specs.declared.fault.TextFault.TheVariants.{World, Brain, Labelled, Save, AlreadyAt}
use Rattle.text_fault.specs.Opens.{IsProgramOf, IsSaveWithin}
use Rattle.text_fault.specs.Refusals.{IsNoBrain, IsNoProgram, IsNoSave, IsReadersFault, IsNoWorld, IsPast}
use Rattle.text_fault.specs.Verdicts.{EveryTextHasOneVerdict, HasOneVerdict}

-- there is one verdict, since the reader has one
by_reader : {V F : Type 0} (wrap : F → TextFault) (IsFault : List ℕ → F → Type 0) (Is : List ℕ → V → Type 0) (text : List ℕ) → ((value : V) × Is text value) ⊎ ((why : F) × IsFault text why)
    → ((a b : V) → Is text a → Is text b → a ≡ b) → ((a b : F) → IsFault text a → IsFault text b → a ≡ b) → ((value : V) (why : F) → Is text value → IsFault text why → ⊥) → HasOneVerdict Is (IsReadersFault wrap IsFault) text
by_reader wrap IsFault Is text some one one_why never = record {
  some = elim some [ inl is ↦ inl is | inr wrong ↦ inr (wrap wrong.0, record { why = wrong.0; is = wrong.1; told = refl }) ];
  one_value = one;
  one_fault = λ a b first second. first.told ∙ ap wrap (one_why first.why second.why first.is second.is) ∙ sym second.told;
  never_both = λ value fault is wrong. never value wrong.why is wrong.is;
}

some_world : (text : List ℕ) (read : Result Grid WorldFault) → world_of_text text ≡ read → ((grid : Grid) × OpensAs text grid) ⊎ ((fault : WorldFault) × IsWorldFault text fault)
some_world text (Ok grid) is = inl (grid, world_text.OpensAs-known text grid is)
some_world text (Err fault) is = inr (fault, world_text.IsWorldFault-known text fault is)

pub world_verdict : (text : List ℕ) → HasOneVerdict OpensAs IsNoWorld text
world_verdict text = by_reader World IsWorldFault OpensAs text (some_world text (world_of_text text) refl)
    (λ a b first second. let one = world_text.world_of_text-opens text a first in let two = world_text.world_of_text-opens text b second in cc)
    (λ a b first second. let one = world_text.world_of_text-wrong text a first in let two = world_text.world_of_text-wrong text b second in cc)
    (λ grid why opens wrong. let read = world_text.world_of_text-opens text grid opens in let not_read = world_text.world_of_text-wrong text why wrong in cc)

pub brain_verdict : (text : List ℕ) → HasOneVerdict IsBrainText IsNoBrain text
brain_verdict text = by_reader Brain IsBrainFault IsBrainText text (brain_text.some_answer text) (brain_text.one_brain text) (brain_text.one_fault text) (brain_text.never_both text)

pub program_verdict : (text : List ℕ) → HasOneVerdict IsProgramOf IsNoProgram text
program_verdict text = by_reader Labelled IsAsmFault IsProgramOf text
    (elim (some-reading text) [ inl is ↦ inl (record { brain = is.0; places = is.1 }, is.2) | inr wrong ↦ inr wrong ])
    (λ a b first second. let same = one-reading text a.brain b.brain a.places b.places first second in λ i. record { brain = same.0 i; places = same.1 i })
    (program_text.one_fault lines_decide text) (λ made why is wrong. no-fault text made.brain made.places is why wrong)

pub source_verdict : (text : List ℕ) → HasOneVerdict IsSourceOf IsNoProgram text
source_verdict text = by_reader Labelled IsAsmFault IsSourceOf text
    (elim (some-reading text) [ inl is ↦ inl (has-source text is.2.main is.2.is) | inr wrong ↦ inr wrong ])
    (one-source text) (program_text.one_fault lines_decide text) (λ source why is wrong. source-fault text source is why wrong)

-- a save has one verdict, however many rounds are done
pub any_save_verdict : (text : List ℕ) → HasOneVerdict IsSaveText (IsReadersFault Save IsSaveFault) text
any_save_verdict text = by_reader Save IsSaveFault IsSaveText text (every_verdict.some text) (every_verdict.one_save text) (every_verdict.one_fault text) (every_verdict.never_both text)

some_save : (rounds : ℕ) (text : List ℕ) (saved : SavedValue) → IsSaveText text saved → ((saved : SavedValue) × IsSaveWithin rounds text saved) ⊎ ((fault : TextFault) × IsNoSave rounds text fault)
some_save rounds text saved is = elim (cases_lt rounds saved.round) [
  | inl past ↦ inr (AlreadyAt saved.round, inr (record { saved = saved; is = is; past = past; told = refl }))
  | inr early ↦ inl (saved, (is, early))
]

-- If too many rounds are done, that is the one fault, and the reader finds none. Otherwise it isn't a fault.
one_past : (rounds : ℕ) (text : List ℕ) (a b : TextFault) → IsPast rounds text a → IsPast rounds text b → a ≡ b
one_past rounds text a b first second =
    first.told ∙ ap (λ (saved : SavedValue). AlreadyAt saved.round) (every_verdict.one_save text first.saved second.saved first.is second.is) ∙ sym second.told

never_past : (rounds : ℕ) (text : List ℕ) (saved : SavedValue) (fault : TextFault) → IsSaveWithin rounds text saved → IsPast rounds text fault → ⊥
never_past rounds text saved fault within past =
    let same : saved.round ≡ past.saved.round = ap (λ (s : SavedValue). s.round) (every_verdict.one_save text saved past.saved within.0 past.is) in
    omega (arith, same, within.1, past.past)

never_read : (rounds : ℕ) (text : List ℕ) (fault other : TextFault) → IsReadersFault Save IsSaveFault text fault → IsPast rounds text other → ⊥
never_read rounds text fault other wrong past = every_verdict.never_both text past.saved wrong.why past.is wrong.is

pub save_verdict : (rounds : ℕ) (text : List ℕ) → HasOneVerdict (IsSaveWithin rounds) (IsNoSave rounds) text
save_verdict rounds text = record {
  some = elim (any_save_verdict text).some [ inl is ↦ some_save rounds text is.0 is.1 | inr wrong ↦ inr (wrong.0, inl wrong.1) ];
  one_value = λ a b first second. (any_save_verdict text).one_value a b first.0 second.0;
  one_fault = λ a b first second. elim first [
    | inl wrong ↦ elim second [ inl also ↦ (any_save_verdict text).one_fault a b wrong also | inr past ↦ absurd (never_read rounds text a b wrong past) ]
    | inr past ↦ elim second [ inl wrong ↦ absurd (never_read rounds text b a wrong past) | inr also ↦ one_past rounds text a b past also ]
  ];
  never_both = λ saved fault within wrong. elim wrong [ inl wrong ↦ (any_save_verdict text).never_both saved fault within.0 wrong | inr past ↦ never_past rounds text saved fault within past ];
}

pub every_text_has_one_verdict : EveryTextHasOneVerdict
every_text_has_one_verdict = record { of_world = world_verdict; of_brain = brain_verdict; of_program = program_verdict; of_source = source_verdict; of_save = save_verdict }
