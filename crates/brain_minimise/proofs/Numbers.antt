-- Numbering the classes of the seen states, and keeping an instruction for each number.
pub use Rattle.ant_turn.proofs.RenumberedTurns.{the_number}
use Rattle.std.proofs.Common.{◌≡◌, ◌⊎◌, inl, inr, ℕ, ◌+◌, ◌<◌, ◌≤◌, Bool, true, false, List, [], ◌∷◌, ◌++◌, length, slice_index, slice_get, Option, Some, None, unwrap_or, IsSome, refl, sym, ap, ◌∙◌, subst, arith}
use Rattle.std.specs.Prelude.{nat_eq}
use Rattle.std.specs.List.{IsDistinct}
use Rattle.std.proofs.lemmas.Bool.{cases_lt, cases_order, eq-eqb, false≢true}
use Rattle.std.proofs.lemmas.List.{get_or_append_left, get_or_past, get_or_push, length_push}
use Rattle.std.proofs.lemmas.Map.Keys.{apart_from_distinct}
use Rattle.std.proofs.lemmas.Option.{none-some, same_Some}
use Rattle.list_lemmas.proofs.AllElements.{AllByRecursion-weaker}
use Rattle.list_lemmas.proofs.Entries.{slice_get-front, slice_get-last}
use Rattle.brain_read.specs.declared.instr.Instr.{Instr}
use Rattle.brain_read.specs.Grammar.{states_of}
use Rattle.brain_read.specs.Soundness.{IsBrain}
use Rattle.ant_turn.specs.Renumber.{state_number, redirected}
use Rattle.ant_turn.specs.Turn.{instruction_at}
use Rattle.brain_minimise.specs.Inner.Seen.{is_seen}
use Rattle.brain_minimise.specs.Inner.Numbering.{AreNumbers, IsRising, IsTable}
use Rattle.brain_minimise.specs.Inner.Kept.{AreKept}
use Rattle.brain_minimise.specs.Minimised.{new_number}
use Rattle.brain_minimise.proofs.RedirectedLemmas.{redirected-agree, successors-below}

-- what stays in the numbering, before the state i: the keys are the classes by number
pub record IsNumbering (classes : List ℕ) (seen : List Bool) (keys : List ℕ) (numbers : List (Option ℕ)) (i : ℕ) : Type 0 where
  pub each : length numbers ≡ i
  pub few : length keys ≤ i
  pub distinct : (j k : ℕ) → j < length keys → k < length keys → slice_index keys j ≡ slice_index keys k → j ≡ k
  pub unseen : (state number : ℕ) → new_number numbers state ≡ Some number → is_seen seen state ≡ true
  pub numbered : (state : ℕ) → state < i → is_seen seen state ≡ true → IsSome (new_number numbers state)
  pub keyed : (state number : ℕ) → new_number numbers state ≡ Some number → (number < length keys) × (slice_index keys number ≡ slice_index classes state)
  pub onto : (number : ℕ) → number < length keys → (state : ℕ) × (state < i) × (new_number numbers state ≡ Some number)
  pub rising : IsRising numbers

-- what stays in making the table
pub record IsTabling (numbers : List (Option ℕ)) (table : List ℕ) (i : ℕ) : Type 0 where
  pub each : length table ≡ i
  pub entry : (state : ℕ) → state < i → slice_index table state ≡ unwrap_or (new_number numbers state) state

-- what stays in keeping the instructions
pub record IsKeeping (brain : List Instr) (numbers : List (Option ℕ)) (table : List ℕ) (list : List Instr) (i : ℕ) : Type 0 where
  pub few : length list ≤ i
  pub below : (state number : ℕ) → state < i → new_number numbers state ≡ Some number → number < length list
  pub from : (number : ℕ) → number < length list → (state : ℕ) × (state < i) × (new_number numbers state ≡ Some number) × (slice_get list number ≡ Some (redirected (slice_index table) (instruction_at brain state)))

-- a seen state is one of the list
pub seen-inside : (seen : List Bool) (state : ℕ) → is_seen seen state ≡ true → state < length seen
seen-inside seen state was =
    elim (cases_lt state (length seen)) [
      | inl below ↦ below
      | inr above ↦ absurd (false≢true (sym (get_or_past seen state false above) ∙ was))
    ]

-- a number is that of a state of the map
pub number-inside : (numbers : List (Option ℕ)) (state number : ℕ) → new_number numbers state ≡ Some number → state < length numbers
number-inside numbers state number is =
    elim (cases_lt state (length numbers)) [
      | inl below ↦ below
      | inr above ↦ absurd (none-some number (sym (get_or_past numbers state None above) ∙ is))
    ]

-- of one more state
pub number-push : (numbers : List (Option ℕ)) (last : Option ℕ) (state number : ℕ) → new_number (numbers ++ last ∷ []) state ≡ Some number → ((state < length numbers) × (new_number numbers state ≡ Some number)) ⊎ ((state ≡ length numbers) × (last ≡ Some number))
number-push numbers last state number is =
    let size : length (numbers ++ last ∷ []) ≡ length numbers + 1 = length_push numbers last in
    let inside : state < length (numbers ++ last ∷ []) = number-inside (numbers ++ last ∷ []) state number is in
    elim (cases_lt state (length numbers)) [
      | inl below ↦ inl (below, sym (get_or_append_left numbers (last ∷ []) None state below) ∙ is)
      | inr above ↦
          let one : state ≡ length numbers = omega arith in
          inr (one, sym (get_or_push numbers last None (length numbers) refl) ∙ ap (new_number (numbers ++ last ∷ [])) (sym one) ∙ is)
    ]

-- the earlier states keep theirs
pub number-kept : (numbers : List (Option ℕ)) (last : Option ℕ) (state number : ℕ) → new_number numbers state ≡ Some number → new_number (numbers ++ last ∷ []) state ≡ Some number
number-kept numbers last state number is = get_or_append_left numbers (last ∷ []) None state (number-inside numbers state number is) ∙ is

-- lower numbers come before
rising-push : (numbers : List (Option ℕ)) (last : Option ℕ) → IsRising numbers → ((number lower : ℕ) → last ≡ Some number → lower < number → (earlier : ℕ) × (earlier < length numbers) × (new_number numbers earlier ≡ Some lower)) → IsRising (numbers ++ last ∷ [])
rising-push numbers last rising new state number lower is less =
    elim (number-push numbers last state number is) [
      | inl old ↦ let it = rising state number lower old.1 less in (it.0, it.1, number-kept numbers last it.0 lower it.2)
      | inr now ↦ let it = new number lower now.1 less in (it.0, omega (arith, it.1, now.0), number-kept numbers last it.0 lower it.2)
    ]

-- before the first state
pub IsNumbering-none : (classes : List ℕ) (seen : List Bool) → IsNumbering classes seen [] [] 0
IsNumbering-none classes seen = record {
  each = refl;
  few = omega arith;
  distinct = λ j k low. absurd (omega arith);
  unseen = λ state number is. absurd (none-some number is);
  numbered = λ state early. absurd (omega arith);
  keyed = λ state number is. absurd (none-some number is);
  onto = λ number below. absurd (omega arith);
  rising = λ state number lower is. absurd (none-some number is);
}

-- a state that wasn't seen
pub IsNumbering-skip : (classes : List ℕ) (seen : List Bool) (keys : List ℕ) (numbers : List (Option ℕ)) (i : ℕ) → IsNumbering classes seen keys numbers i → is_seen seen i ≡ false → IsNumbering classes seen keys (numbers ++ None ∷ []) (i + 1)
IsNumbering-skip classes seen keys numbers i before unseen =
    let few = before.few in
    record {
      each = length_push numbers None ∙ ap (λ n. n + 1) before.each;
      few = omega arith;
      distinct = before.distinct;
      unseen = λ state number is. elim (number-push numbers None state number is) [
        | inl old ↦ before.unseen state number old.1
        | inr now ↦ absurd (none-some number now.1)
      ];
      numbered = λ state early there. elim (cases_lt state i) [
        | inl old ↦ let size = before.each in subst IsSome (sym (get_or_append_left numbers (None ∷ []) None state (omega arith))) (before.numbered state old there)
        | inr now ↦ let one : state ≡ i = omega arith in absurd (false≢true (sym unseen ∙ ap (is_seen seen) (sym one) ∙ there))
      ];
      keyed = λ state number is. elim (number-push numbers None state number is) [
        | inl old ↦ before.keyed state number old.1
        | inr now ↦ absurd (none-some number now.1)
      ];
      onto = λ number below. let it = before.onto number below in (it.0, omega (arith, it.1), number-kept numbers None it.0 number it.2);
      rising = rising-push numbers None before.rising (λ number lower is. absurd (none-some number is));
    }

-- a state that was seen: its class has this number among the keys, if it stood already or was put last
pub IsNumbering-more : (classes : List ℕ) (seen : List Bool) (keys after : List ℕ) (numbers : List (Option ℕ)) (i number class : ℕ) → IsNumbering classes seen keys numbers i → is_seen seen i ≡ true → class ≡ slice_index classes i →
    (after ≡ keys) ⊎ (after ≡ keys ++ class ∷ []) → IsDistinct nat_eq after → number < length after → slice_index after number ≡ class → IsNumbering classes seen after (numbers ++ Some number ∷ []) (i + 1)
IsNumbering-more classes seen keys after numbers i number class before there is_class which distinct within stored =
    let few = before.few in
    let size = before.each in
    let grown : (length keys ≤ length after) × (length after ≤ length keys + 1) = elim which [
      | inl same ↦ (omega (arith, ap length same), omega (arith, ap length same))
      | inr more ↦ (omega (arith, ap length more, length_push keys class), omega (arith, ap length more, length_push keys class))
    ] in
    let stays : (k : ℕ) → k < length keys → slice_index after k ≡ slice_index keys k = λ k below. elim which [
      | inl same ↦ ap (λ (list : List ℕ). slice_index list k) same
      | inr more ↦ ap (λ (list : List ℕ). slice_index list k) more ∙ get_or_append_left keys (class ∷ []) 0 k below
    ] in
    let apart : (j k : ℕ) → j < length after → k < length after → slice_index after j ≡ slice_index after k → j ≡ k = λ j k low high one. elim (cases_order j k) [
      | inl same ↦ same
      | inr differ ↦ elim differ [
        | inl less ↦ absurd (false≢true (sym (apart_from_distinct nat_eq after j k 0 distinct less high) ∙ eq-eqb (slice_index after j) (slice_index after k) one))
        | inr more ↦ absurd (false≢true (sym (apart_from_distinct nat_eq after k j 0 distinct more low) ∙ eq-eqb (slice_index after k) (slice_index after j) (sym one)))
      ]
    ] in
    let last : new_number (numbers ++ Some number ∷ []) i ≡ Some number = get_or_push numbers (Some number) None i before.each in
    let newest : (k : ℕ) → k < length after → length keys ≤ k → slice_index after k ≡ class = λ k below above. elim which [
      | inl same ↦ absurd (omega (arith, ap length same))
      | inr more ↦
          let one : length keys ≡ k = omega (arith, ap length more, length_push keys class) in
          ap (λ (list : List ℕ). slice_index list k) more ∙ get_or_push keys class 0 k one
    ] in
    record {
      each = length_push numbers (Some number) ∙ ap (λ n. n + 1) before.each;
      few = omega (arith, grown.1);
      distinct = apart;
      unseen = λ state k is. elim (number-push numbers (Some number) state k is) [
        | inl old ↦ before.unseen state k old.1
        | inr now ↦ ap (is_seen seen) (now.0 ∙ before.each) ∙ there
      ];
      numbered = λ state early was. elim (cases_lt state i) [
        | inl old ↦ subst IsSome (sym (get_or_append_left numbers (Some number ∷ []) None state (omega arith))) (before.numbered state old was)
        | inr now ↦ let one : state ≡ i = omega arith in subst IsSome (sym (ap (new_number (numbers ++ Some number ∷ [])) one ∙ last)) refl
      ];
      keyed = λ state k is. elim (number-push numbers (Some number) state k is) [
        | inl old ↦
            let it = before.keyed state k old.1 in
            (omega (arith, it.0, grown.0), stays k it.0 ∙ it.1)
        | inr now ↦
            let one : number ≡ k = same_Some number k now.1 in
            let here : state ≡ i = now.0 ∙ before.each in
            (omega arith, ap (slice_index after) (sym one) ∙ stored ∙ is_class ∙ ap (slice_index classes) (sym here))
      ];
      onto = λ k below. elim (cases_lt k (length keys)) [
        | inl old ↦ let it = before.onto k old in (it.0, omega (arith, it.1), number-kept numbers (Some number) it.0 k it.2)
        | inr new ↦
            let one : number ≡ k = apart number k within below (stored ∙ sym (newest k below new)) in
            (i, omega arith, last ∙ ap Some one)
      ];
      rising = rising-push numbers (Some number) before.rising (λ k lower is less.
          let one : number ≡ k = same_Some number k is in
          let it = before.onto lower (omega (arith, grown.1)) in
          (it.0, omega (arith, it.1), it.2));
    }

-- after the last state
pub IsNumbering-all : (classes : List ℕ) (seen : List Bool) (keys : List ℕ) (numbers : List (Option ℕ)) → IsNumbering classes seen keys numbers (length seen) → AreNumbers classes seen numbers
IsNumbering-all classes seen keys numbers all = record {
  each = all.each;
  unseen = all.unseen;
  numbered = λ state was. all.numbered state (seen-inside seen state was) was;
  same_class = λ a b number is too. sym (all.keyed a number is).1 ∙ (all.keyed b number too).1;
  same_number = λ a b was too one.
      let j = the_number (new_number numbers a) (all.numbered a (seen-inside seen a was) was) in
      let k = the_number (new_number numbers b) (all.numbered b (seen-inside seen b too) too) in
      let first = all.keyed a j.0 j.1 in
      let second = all.keyed b k.0 k.1 in
      j.1 ∙ ap Some (all.distinct j.0 k.0 first.0 second.0 (first.1 ∙ one ∙ sym second.1)) ∙ sym k.1;
  rising = all.rising;
}

-- the table so far
pub IsTabling-none : (numbers : List (Option ℕ)) → IsTabling numbers [] 0
IsTabling-none numbers = record { each = refl; entry = λ state early. absurd (omega arith) }

pub IsTabling-more : (numbers : List (Option ℕ)) (table : List ℕ) (i entry : ℕ) → IsTabling numbers table i → entry ≡ unwrap_or (new_number numbers i) i → IsTabling numbers (table ++ entry ∷ []) (i + 1)
IsTabling-more numbers table i entry before is = record {
  each = length_push table entry ∙ ap (λ n. n + 1) before.each;
  entry = λ state early. elim (cases_lt state i) [
    | inl old ↦ let size = before.each in get_or_append_left table (entry ∷ []) 0 state (omega arith) ∙ before.entry state old
    | inr now ↦
        let one : i ≡ state = omega arith in
        subst (λ s. slice_index (table ++ entry ∷ []) s ≡ unwrap_or (new_number numbers s) s) one (get_or_push table entry 0 i before.each ∙ is)
  ];
}

pub IsTabling-all : (numbers : List (Option ℕ)) (table : List ℕ) → IsTabling numbers table (length numbers) → IsTable numbers table
IsTabling-all numbers table all = record { each = all.each; entry = all.entry }

-- no instruction is kept yet
pub IsKeeping-none : (brain : List Instr) (numbers : List (Option ℕ)) (table : List ℕ) → IsKeeping brain numbers table [] 0
IsKeeping-none brain numbers table = record {
  few = omega arith;
  below = λ state number early. absurd (omega arith);
  from = λ number below. absurd (omega arith);
}

-- the instruction of a state with the next number is kept
pub IsKeeping-more : (brain : List Instr) (numbers : List (Option ℕ)) (table : List ℕ) (list : List Instr) (i : ℕ) (instruction : Instr) → IsKeeping brain numbers table list i → new_number numbers i ≡ Some (length list) → instruction ≡ redirected (slice_index table) (instruction_at brain i) →
    IsKeeping brain numbers table (list ++ instruction ∷ []) (i + 1)
IsKeeping-more brain numbers table list i instruction before next is =
    let size : length (list ++ instruction ∷ []) ≡ length list + 1 = length_push list instruction in
    let few = before.few in
    record {
      few = omega arith;
      below = λ state number early has. elim (cases_lt state i) [
        | inl old ↦ omega (arith, before.below state number old has)
        | inr now ↦
            let one : state ≡ i = omega arith in
            let same : number ≡ length list = same_Some number (length list) (sym has ∙ ap (new_number numbers) one ∙ next) in
            omega arith
      ];
      from = λ number below. elim (cases_lt number (length list)) [
        | inl old ↦
            let it = before.from number old in
            (it.0, omega (arith, it.1), it.2, slice_get-front list (instruction ∷ []) number old ∙ it.3)
        | inr new ↦
            let one : length list ≡ number = omega arith in
            (i, omega arith, next ∙ ap Some one, subst (λ k. slice_get (list ++ instruction ∷ []) k ≡ Some (redirected (slice_index table) (instruction_at brain i))) one (slice_get-last list instruction ∙ ap Some is))
      ];
    }

-- the instruction of any other state isn't
pub IsKeeping-skip : (brain : List Instr) (numbers : List (Option ℕ)) (table : List ℕ) (list : List Instr) (i : ℕ) → IsRising numbers → IsKeeping brain numbers table list i → (new_number numbers i ≡ Some (length list) → ⊥) → IsKeeping brain numbers table list (i + 1)
IsKeeping-skip brain numbers table list i rising before other =
    let few = before.few in
    record {
      few = omega arith;
      below = λ state number early has. elim (cases_lt state i) [
        | inl old ↦ before.below state number old has
        | inr now ↦
            let one : state ≡ i = omega arith in
            let here : new_number numbers i ≡ Some number = ap (new_number numbers) (sym one) ∙ has in
            elim (cases_order number (length list)) [
              | inl same ↦ absurd (other (here ∙ ap Some same))
              | inr differ ↦ elim differ [
                | inl less ↦ less
                | inr more ↦
                    let it = rising i number (length list) here more in
                    absurd (omega (arith, before.below it.0 (length list) it.1 it.2))
              ]
            ]
      ];
      from = λ number below. let it = before.from number below in (it.0, omega (arith, it.1), it.2, it.3);
    }

-- the table's entries are the new numbers
pub IsKeeping-all : (brain : List Instr) (numbers : List (Option ℕ)) (table : List ℕ) (list : List Instr) → IsBrain brain → length numbers ≡ length brain → IsTable numbers table → IsKeeping brain numbers table list (length brain) → AreKept brain numbers list
IsKeeping-all brain numbers table list is_brain each tabled all = record {
  few = all.few;
  below = λ state number has. all.below state number (omega (arith, number-inside numbers state number has)) has;
  from = λ number below.
      let it = all.from number below in
      let same : redirected (slice_index table) (instruction_at brain it.0) ≡ redirected (state_number (new_number numbers)) (instruction_at brain it.0) =
      redirected-agree (slice_index table) (state_number (new_number numbers)) (instruction_at brain it.0)
      (AllByRecursion-weaker _ _ (states_of (instruction_at brain it.0)) (successors-below brain it.0 is_brain it.1) (λ state low. tabled.entry state (omega arith))) in
      (it.0, it.2, it.3 ∙ ap Some same);
}
