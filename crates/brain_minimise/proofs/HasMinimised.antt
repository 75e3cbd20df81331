-- Each brain has a minimised one: its states are explored, parted into classes, numbered and merged, step by step.
use Rattle.std.proofs.Common.{◌≡◌, ◌⊎◌, inl, inr, ℕ, zero, suc, ◌+◌, ◌*◌, ◌<◌, ◌≤◌, Bool, true, false, List, [], ◌∷◌, ◌++◌, length, replicate, slice_index, slice_index_or, slice_set, Option, Some, None, unwrap_or, refl, sym, ◌∙◌, ap, subst, arith}
use Rattle.std.specs.List.{IsDistinct}
use Rattle.std.specs.Prelude.{nat_eq}
use Rattle.std.proofs.lemmas.Bool.{cases_Bool, cases_eq, false≢true, ne_eqb}
use Rattle.std.proofs.lemmas.List.{get_or_push, length-replicate, length_push}
use Rattle.std.proofs.lemmas.Option.{none-some}
use Rattle.list_lemmas.proofs.AllElements.{AllByRecursion-push}
use Rattle.ant_turn.specs.Renumber.{redirected}
use Rattle.ant_turn.specs.Turn.{instruction_at}
use Rattle.brain_read.specs.Soundness.{IsBrain}
use Rattle.brain_read.specs.declared.instr.Instr.{Instr}
use Rattle.brain_minimise.specs.Existence.{HasMinimised}
use Rattle.brain_minimise.specs.Inner.Classes.{AreClasses, AreStable, slack}
use Rattle.brain_minimise.specs.Inner.Seen.{AreSeen, is_seen, with_waiting}
use Rattle.brain_minimise.specs.Inner.Kept.{AreKept}
use Rattle.brain_minimise.specs.Inner.Numbering.{AreNumbers, IsRising, IsTable}
use Rattle.brain_minimise.specs.Inner.Successors.{first_next, last_next}
use Rattle.brain_minimise.specs.Minimised.{new_number}
use Rattle.brain_minimise.proofs.CasesInstruction.{cases_instruction}
use Rattle.brain_minimise.proofs.Search.{Explores, Explores-all, Explores-below, Explores-more, Explores-start, first-below, last-below, step-work, unseen}
use Rattle.brain_minimise.proofs.MinimisedLemmas.{IsMinimised-from}
use Rattle.brain_minimise.proofs.Numbers.{IsKeeping, IsKeeping-all, IsKeeping-more, IsKeeping-none, IsKeeping-skip, IsNumbering, IsNumbering-all, IsNumbering-more, IsNumbering-none, IsNumbering-skip, IsTabling, IsTabling-all, IsTabling-more, IsTabling-none}
use Rattle.brain_minimise.proofs.Ranks.{is_number}
use Rattle.brain_minimise.proofs.RedirectedLemmas.{instruction-sound}
use Rattle.brain_minimise.proofs.Refinement.{AreClasses-one, IsRefining, IsRefining-classes, IsRefining-finer, IsRefining-parts, IsRefining-stays}

-- a list is empty, or has a last element
last_cases : (xs : List ℕ) → (xs ≡ []) ⊎ ((rest : List ℕ) × (x : ℕ) × (xs ≡ rest ++ x ∷ []))
last_cases [] = inl refl
last_cases (x ∷ xs) =
    elim (last_cases xs) [
      | inl none ↦ inr ([], x, ap (λ (l : List ℕ). x ∷ l) none)
      | inr some ↦ inr (x ∷ some.0, some.1, ap (λ (l : List ℕ). x ∷ l) some.2)
    ]

-- the states that can be reached are seen
record Seen (brain : List Instr) : Type 0 where
  seen : List Bool
  are : AreSeen brain seen

explored : (brain : List Instr) → IsBrain brain → (fuel : ℕ) (seen : List Bool) (waiting : List ℕ) → 2 * unseen seen + length waiting ≤ fuel → Explores brain seen waiting → Seen brain
explored brain is fuel seen [] work explores = record { seen = seen; are = Explores-all brain seen [] refl explores }
explored brain is zero seen (next ∷ waiting) work explores = absurd (omega arith)
explored brain is (suc fuel) seen (next ∷ waiting) work explores =
    elim (last_cases (next ∷ waiting)) [
      | inl none ↦ absurd (cc)
      | inr it ↦
          let rest : List ℕ = it.0 in
          let state : ℕ = it.1 in
          let cut : next ∷ waiting ≡ rest ++ state ∷ [] = it.2 in
          let first : ℕ = first_next (instruction_at brain state) in
          let last : ℕ = last_next (instruction_at brain state) in
          let now : List Bool = slice_set seen first true in
          let size = explores.each in
          let sound = instruction-sound brain state is (Explores-below brain seen (next ∷ waiting) rest state explores cut) in
          let low = first-below (length brain) (instruction_at brain state) sound in
          let high = last-below (length brain) (instruction_at brain state) sound in
          let long : length (next ∷ waiting) ≡ length (rest ++ state ∷ []) = ap length cut in
          let less = step-work seen rest state first last (omega (arith, low, size)) (omega (arith, high, size)) in
          explored brain is fuel (slice_set now last true) (with_waiting (with_waiting rest (is_seen seen first) first) (is_seen now last) last) (omega (arith, less, long, work))
          (Explores-more brain seen rest state first last (subst (Explores brain seen) cut explores) refl refl low high)
    ]

seen_of : (brain : List Instr) → IsBrain brain → Seen brain
seen_of brain is =
    let none : List Bool = replicate (length brain) false in
    let seen : List Bool = slice_set none 0 true in
    let waiting : List ℕ = with_waiting [] (is_seen none 0) 0 in
    explored brain is (2 * unseen seen + length waiting) seen waiting (omega arith) (Explores-start brain (length brain) refl is.some)

-- what is at i + 1 is at the next number
one_more : (F : ℕ → Type 0) (i : ℕ) → F (i + 1) → F (suc i)
one_more F i here = let next : i + 1 ≡ suc i = omega arith in subst F next here

-- the states before one, in a round that parts classes
record Round (brain : List Instr) (classes : List ℕ) (i : ℕ) : Type 0 where
  heirs : List (Option ℕ)
  finer : List ℕ
  parted : Bool
  refining : IsRefining brain classes heirs finer parted i

none_there : (n least : ℕ) → slice_index_or (replicate {A = Option ℕ} n None) least None ≡ None
none_there (suc n) (suc least) = none_there n least
none_there it least = refl

round_none : (brain : List Instr) (classes : List ℕ) → Round brain classes 0
round_none brain classes = record {
  heirs = replicate (length brain) None;
  finer = [];
  parted = false;
  refining = record {
    heirs_each = length-replicate (length brain) None;
    finer_each = refl;
    heir = λ least first there. absurd (none-some first (sym (none_there (length brain) least) ∙ there));
    new = λ state early. absurd (omega arith);
    low = λ state early. absurd (omega arith);
    whole = λ none state early. absurd (omega arith);
    parts = λ some. absurd (false≢true some);
  };
}

round_to : (brain : List Instr) (classes : List ℕ) → AreClasses brain classes → (i : ℕ) → i ≤ length brain → Round brain classes i
round_to brain classes are zero within = round_none brain classes
round_to brain classes are (suc i) within =
    let before = round_to brain classes are i (omega arith) in
    let least : ℕ = slice_index classes i in
    let class : ℕ = unwrap_or (slice_index_or before.heirs least None) i in
    one_more (Round brain classes) i
    (elim (cases_instruction (redirected (slice_index classes) (instruction_at brain i)) (redirected (slice_index classes) (instruction_at brain least))) [
      | inl alike ↦ record {
        heirs = before.heirs;
        finer = before.finer ++ least ∷ [];
        parted = before.parted;
        refining = IsRefining-stays brain classes before.heirs before.finer before.parted i least are before.refining (omega arith) refl alike;
      }
      | inr unlike ↦ record {
        heirs = slice_set before.heirs least (Some class);
        finer = before.finer ++ class ∷ [];
        parted = true;
        refining = IsRefining-parts brain classes before.heirs before.finer before.parted i least class are before.refining (omega arith) refl unlike refl;
      }
    ])

-- classes that no round parts
record Classes (brain : List Instr) : Type 0 where
  classes : List ℕ
  are : AreClasses brain classes
  stable : AreStable brain classes

classes_from : (brain : List Instr) (fuel : ℕ) (classes : List ℕ) → slack 0 classes ≤ fuel → AreClasses brain classes → Classes brain
classes_from brain zero classes work are =
    let round = round_to brain classes are (length brain) (omega arith) in
    elim (cases_Bool round.parted) [
      | inl parts ↦ (let less = IsRefining-finer brain classes round.heirs round.finer round.parted are round.refining parts in absurd (omega (arith, less, work)))
      | inr whole ↦ record { classes = classes; are = are; stable = λ state below. round.refining.whole whole state below }
    ]
classes_from brain (suc fuel) classes work are =
    let round = round_to brain classes are (length brain) (omega arith) in
    elim (cases_Bool round.parted) [
      | inl parts ↦
          let less = IsRefining-finer brain classes round.heirs round.finer round.parted are round.refining parts in
          classes_from brain fuel round.finer (omega (arith, less, work)) (IsRefining-classes brain classes round.heirs round.finer round.parted are round.refining)
      | inr whole ↦ record { classes = classes; are = are; stable = λ state below. round.refining.whole whole state below }
    ]

classes_of : (brain : List Instr) → Classes brain
classes_of brain = classes_from brain (slack 0 (replicate (length brain) 0)) (replicate (length brain) 0) (omega arith) (AreClasses-one brain (length brain) refl)

-- the place of a class among the keys, if it is there
record At (keys : List ℕ) (class : ℕ) : Type 0 where
  at : ℕ
  within : at < length keys
  is : slice_index keys at ≡ class

at_or_not : (keys : List ℕ) (class : ℕ) → At keys class ⊎ ((j : ℕ) → j < length keys → slice_index keys j ≡ class → ⊥)
at_or_not [] class = inr (λ j within. absurd (omega arith))
at_or_not (key ∷ keys) class =
    elim (cases_eq key class) [
      | inl one ↦ inl (record { at = 0; within = omega arith; is = one })
      | inr apart ↦ elim (at_or_not keys class) [
        | inl later ↦ (let within = later.within in inl (record { at = suc later.at; within = omega arith; is = later.is }))
        | inr none ↦ inr (none_at keys apart none)
      ]
    ]
  where
    none_at : (keys : List ℕ) → (key ≡ class → ⊥) → ((j : ℕ) → j < length keys → slice_index keys j ≡ class → ⊥) → (j : ℕ) → j < length (key ∷ keys) → slice_index (key ∷ keys) j ≡ class → ⊥
    none_at keys apart none zero within is = apart is
    none_at keys apart none (suc j) within is = none j (omega arith) is

distinct_last : (keys : List ℕ) (class : ℕ) → IsDistinct nat_eq keys → ((j : ℕ) → j < length keys → slice_index keys j ≡ class → ⊥) → IsDistinct nat_eq (keys ++ class ∷ [])
unfolding IsDistinct
distinct_last [] class distinct none = (tt, tt)
distinct_last (key ∷ keys) class distinct none =
    (AllByRecursion-push (λ y. nat_eq key y ≡ false) keys class distinct.0 (ne_eqb key class (λ same. none 0 (omega arith) same)), distinct_last keys class distinct.1 (λ j within is. none (suc j) (omega arith) is))

no_keys : IsDistinct nat_eq []
unfolding IsDistinct
no_keys = tt

-- the numbers of the states before one
record Numbered (classes : List ℕ) (seen : List Bool) (i : ℕ) : Type 0 where
  keys : List ℕ
  numbers : List (Option ℕ)
  distinct : IsDistinct nat_eq keys
  numbering : IsNumbering classes seen keys numbers i

numbered_next : (classes : List ℕ) (seen : List Bool) (i : ℕ) → Numbered classes seen i → Numbered classes seen (i + 1)
numbered_next classes seen i before =
    let class : ℕ = slice_index classes i in
    elim (cases_Bool (is_seen seen i)) [
      | inl there ↦ elim (at_or_not before.keys class) [
        | inl found ↦ record {
          keys = before.keys;
          numbers = before.numbers ++ Some found.at ∷ [];
          distinct = before.distinct;
          numbering = IsNumbering-more classes seen before.keys before.keys before.numbers i found.at class before.numbering there refl (inl refl) before.distinct found.within found.is;
        }
        | inr none ↦
            let after : List ℕ = before.keys ++ class ∷ [] in
            let long = length_push before.keys class in
            record {
              keys = after;
              numbers = before.numbers ++ Some (length before.keys) ∷ [];
              distinct = distinct_last before.keys class before.distinct none;
              numbering = IsNumbering-more classes seen before.keys after before.numbers i (length before.keys) class before.numbering there refl (inr refl) (distinct_last before.keys class before.distinct none) (omega (arith, long))
                  (get_or_push before.keys class 0 (length before.keys) refl);
            }
      ]
      | inr unseen ↦ record { keys = before.keys; numbers = before.numbers ++ None ∷ []; distinct = before.distinct; numbering = IsNumbering-skip classes seen before.keys before.numbers i before.numbering unseen }
    ]

numbered_to : (classes : List ℕ) (seen : List Bool) (i : ℕ) → Numbered classes seen i
numbered_to classes seen zero = record { keys = []; numbers = []; distinct = no_keys; numbering = IsNumbering-none classes seen }
numbered_to classes seen (suc i) = one_more (Numbered classes seen) i (numbered_next classes seen i (numbered_to classes seen i))

-- the table of the new numbers of the states before one
record Tabled (numbers : List (Option ℕ)) (i : ℕ) : Type 0 where
  table : List ℕ
  tabling : IsTabling numbers table i

tabled_to : (numbers : List (Option ℕ)) (i : ℕ) → Tabled numbers i
tabled_to numbers zero = record { table = []; tabling = IsTabling-none numbers }
tabled_to numbers (suc i) =
    let before = tabled_to numbers i in
    let entry : ℕ = unwrap_or (new_number numbers i) i in
    one_more (Tabled numbers) i (record { table = before.table ++ entry ∷ []; tabling = IsTabling-more numbers before.table i entry before.tabling refl })

-- the instructions that are kept of the states before one
record Kept (brain : List Instr) (numbers : List (Option ℕ)) (table : List ℕ) (i : ℕ) : Type 0 where
  list : List Instr
  keeping : IsKeeping brain numbers table list i

kept_to : (brain : List Instr) (numbers : List (Option ℕ)) (table : List ℕ) → IsRising numbers → (i : ℕ) → Kept brain numbers table i
kept_to brain numbers table rising zero = record { list = []; keeping = IsKeeping-none brain numbers table }
kept_to brain numbers table rising (suc i) =
    let before = kept_to brain numbers table rising i in
    let instruction : Instr = redirected (slice_index table) (instruction_at brain i) in
    one_more (Kept brain numbers table) i
    (elim (is_number (new_number numbers i) (length before.list)) [
      | inl has ↦ record { list = before.list ++ instruction ∷ []; keeping = IsKeeping-more brain numbers table before.list i instruction before.keeping has refl }
      | inr other ↦ record { list = before.list; keeping = IsKeeping-skip brain numbers table before.list i rising before.keeping other }
    ])

pub has_minimised : HasMinimised
has_minimised brain is =
    let seen = seen_of brain is in
    let parts = classes_of brain in
    let all = numbered_to parts.classes seen.seen (length seen.seen) in
    let numbered : AreNumbers parts.classes seen.seen all.numbers = IsNumbering-all parts.classes seen.seen all.keys all.numbers all.numbering in
    let tabled = tabled_to all.numbers (length all.numbers) in
    let table : IsTable all.numbers tabled.table = IsTabling-all all.numbers tabled.table tabled.tabling in
    let kept = kept_to brain all.numbers tabled.table numbered.rising (length brain) in
    let keeps : AreKept brain all.numbers kept.list = IsKeeping-all brain all.numbers tabled.table kept.list is (numbered.each ∙ seen.are.each) table kept.keeping in
    (kept.list, all.numbers, IsMinimised-from brain kept.list seen.seen parts.classes all.numbers is seen.are parts.are parts.stable numbered keeps)
