-- Books on fields: where one begins, continues, and ends.
use Rattle.std.proofs.Common.{◌≡◌, ℕ, ◌+◌, ◌-◌, ◌<◌, ◌≤◌, true, [], Option, Some, None, refl, sym, ◌∙◌, ap, ap₂, subst, arith}
use Rattle.std.specs.Prelude.{IfOk, OnOk, Result, Ok, Err}
use Rattle.std.specs.List.{AllByRecursion, count_by}
use Rattle.cell_world.specs.Grid.{IsWorld, world_of}
use Rattle.ant_turn.specs.Keeps.{Keeps}
use Rattle.ant_turn.specs.Minds.{AreSound, Fits, Minds}
use Rattle.spec_record.specs.Look.{LookValue}
use Rattle.round_book.specs.declared.verdict.Cause.{Cause}
use Rattle.round_book.specs.Book.{AgreesUnwritten, BookValue, CanBegin, CanTake, FieldValue, HoldsInBook, IsCause, IsPlayed, IsRedone, IsSameWindow, IsTaken, Settles, Stands, StandsFor, StandsOn, begun, lent_for, moment_of, window_of}
use Rattle.round_book.specs.Counts.{Counted, counts_of, is_taken_verdict, taken_among}
use Rattle.round_book.specs.Window.{AreVerdicts, Window, look_for, moment_before}
use Rattle.round_book.proofs.BookLemmas.{Stands-redone, Stands-taken, keeps, look_for-CanTake, look_for-turn, look_for-unwritten}
use Rattle.round_book.proofs.CountLemmas.{verdicts-counts}
use Rattle.round_book.proofs.MachineLemmas.{moment_before-from}

-- what settling answered
pub settles-none : (look : LookValue) (book new : BookValue) (answer : Option Cause) → answer ≡ None → Settles look book new answer → IsTaken look book new
settles-none look book new answer is settled = subst (Settles look book new) is settled

pub settles-some : (look : LookValue) (book new : BookValue) (answer : Option Cause) (found : Cause) → answer ≡ Some found → Settles look book new answer → (new ≡ book) × IsCause look (moment_of book) found
settles-some look book new answer found is settled = subst (Settles look book new) is settled

-- a book that stands for a window
module _ (window : Window) (book : BookValue) (for : StandsFor window book) where
  pub for-keeps : Keeps window.minds window.base (world_of book.world)
  for-keeps = keeps window book for.playable for.stands

  module _ (look : LookValue) (is : look ≡ look_for window book.next) where
    pub for-turn : look.turn ≡ book.next
    for-turn = ap (λ (l : LookValue). l.turn) is ∙ look_for-turn window book for.playable for.stands book.next

    pub for-unwritten : AllByRecursion (AgreesUnwritten book) look.reads
    for-unwritten = subst (λ (l : LookValue). AllByRecursion (AgreesUnwritten book) l.reads) (sym is) (look_for-unwritten window book for.playable for.stands book.next)

    pub for-writes : HoldsInBook book look → CanTake (world_of book.world) look.writes
    for-writes = subst (λ (l : LookValue). HoldsInBook book l → CanTake (world_of book.world) l.writes) (sym is) (look_for-CanTake window book for.playable for.stands book.next)

  window-begun : window.from ≤ book.next
  window-begun = let a : book.from ≡ window.from = for.stands.from in let d : book.from ≤ book.next = for.begun in omega arith

  -- the same window continues
  for-goes : (new : BookValue) → IsSameWindow book new → new.next ≡ book.next + 1 → Stands window new → StandsFor window new
  for-goes new same next stands = record {
    playable = for.playable;
    begun = (let a : new.from ≡ book.from = same.from in let b : new.next ≡ book.next + 1 = next in let d : book.from ≤ book.next = for.begun in omega arith);
    stands = stands;
  }

  pub for-taken : (new : BookValue) (look : LookValue) → look ≡ look_for window book.next → book.next < book.to → IsTaken look book new → IsSameWindow book new → StandsFor window new
  for-taken new look is below taken_so same =
      for-goes new same taken_so.ended.next
      (Stands-taken window book new for.playable for.stands same window-begun (subst (λ to. book.next < to) for.stands.to below) (subst (λ l. IsTaken l book new) is taken_so))

  pub for-redone : (new : BookValue) (look : LookValue) (minds : Minds) (found : Cause) → look ≡ look_for window book.next → minds ≡ window.minds → IsCause look (moment_of book) found → IsRedone minds found book new → IsSameWindow book new → StandsFor window new
  for-redone new look minds found is own cause_is redone same =
      for-goes new same redone.next
      (Stands-redone window book new for.playable for.stands same found window-begun (subst (λ l. IsCause l (moment_of book) found) is cause_is) (subst (λ m. IsRedone m found book new) own redone))

-- a book that stands on a field
module _ (field : FieldValue) (book : BookValue) (on : StandsOn field book) where
  abbrev its : Window
  its = window_of field book.from book.to

  -- what a field's book keeps
  pub on-keeps : Keeps field.minds (world_of field.world) (world_of book.world)
  on-keeps = for-keeps (window_of field book.from book.to) book on.stands

  module _ (look : LookValue) (is : look ≡ look_for (window_of field book.from book.to) book.next) where
    pub on-turn : look.turn ≡ book.next
    on-turn = for-turn its book on.stands look is

    pub on-unwritten : AllByRecursion (AgreesUnwritten book) look.reads
    on-unwritten = for-unwritten its book on.stands look is

    pub on-writes : HoldsInBook book look → CanTake (world_of book.world) look.writes
    on-writes = for-writes its book on.stands look is

  -- the field is lent for the same window still
  on-goes : (new : BookValue) → IsSameWindow book new → StandsFor (window_of field book.from book.to) new → StandsOn field new
  on-goes new same stands = record {
    lent = on.lent ∙ ap₂ (λ (from to : ℕ). Some (from, to)) (sym same.from) (sym same.to);
    stands = subst (λ window. StandsFor window new) (sym (ap₂ (window_of field) same.from same.to)) stands;
  }

  pub on-taken : (new : BookValue) (look : LookValue) → look ≡ look_for (window_of field book.from book.to) book.next → book.next < book.to → IsTaken look book new → IsSameWindow book new → StandsOn field new
  on-taken new look is below taken_so same = on-goes new same (for-taken its book on.stands new look is below taken_so same)

  pub on-redone : (new : BookValue) (look : LookValue) (minds : Minds) (found : Cause) → look ≡ look_for (window_of field book.from book.to) book.next → minds ≡ field.minds → IsCause look (moment_of book) found → IsRedone minds found book new → IsSameWindow book new → StandsOn field new
  on-redone new look minds found is own cause_is redone same = on-goes new same (for-redone its book on.stands new look minds found is own cause_is redone same)

  -- the end of the window
  module _ (done : book.next ≡ book.to) where
    pub end-counts : (taken redone : ℕ) → taken ≡ count_by is_taken_verdict book.verdicts → redone ≡ book.to - book.from - taken → record { taken = taken; redone = redone } ≡ counts_of (window_of field book.from book.to)
    unfolding counts_of
    end-counts taken redone is_taken is_redone =
        let made : ℕ → ℕ → Counted = λ a b. record { taken = a; redone = b } in
        let all : taken ≡ taken_among its (book.to - book.from) = is_taken ∙ verdicts-counts its (book.next - book.from) book.verdicts on.stands.stands.verdicts ∙ ap (λ n. taken_among its (n - book.from)) done in
        ap₂ made all (is_redone ∙ ap (λ n. book.to - book.from - n) all)

    pub end-played : (new : FieldValue) → new ≡ record field { world = book.world; place = book.place; whole = true; lent = None } → IsPlayed field book.from book.to new
    end-played new is = subst (IsPlayed field book.from book.to) (sym is) (record {
      now = on.stands.stands.now ∙ ap (moment_before its) done;
      minds = refl;
      seed = refl;
      ids = on-keeps.ids;
      whole = refl;
      lent = refl;
    })

-- where a window begins
pub on-begun : (field : FieldValue) (from to : ℕ) → CanBegin field from to → IsWorld field.world → AreSound field.minds → Fits (world_of field.world) field.minds → StandsOn (lent_for field from to) (begun field from to)
on-begun field from to can world sound fits = record {
  lent = refl;
  stands = record {
    playable = record { valid = world.valid; sound = sound; fits = fits; forwards = can.forwards; ids = can.ids; lasting = can.lasting };
    begun = omega arith;
    stands = record {
      seed = refl;
      from = refl;
      to = refl;
      now = sym (moment_before-from (window_of field from to));
      verdicts = subst (λ k. AreVerdicts (window_of field from to) k []) (let none : 0 ≡ from - from = omega arith in none) refl;
      unwritten = λ p none. refl;
    };
  };
}

-- what follows of what is true where it went well
pub ok_both : {A E : Type 0} {P R : A → Type 0} {Q : Type 0} (r : Result A E) → ((x : A) → P x → Q → R x) → IfOk r P → OnOk r Q → IfOk r R
ok_both (Ok x) f one other = f x one other
ok_both (Err e) f one other = one
