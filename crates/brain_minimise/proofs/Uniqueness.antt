-- A brain is minimised to one brain, by one map.
use Rattle.std.proofs.Common.{◌≡◌, inl, inr, ℕ, zero, suc, ◌<◌, List, length, Option, Some, None, IsSome, refl, sym, ap, ◌∙◌, subst, arith}
use Rattle.std.proofs.lemmas.Bool.{cases_lt, cases_order}
use Rattle.std.proofs.lemmas.List.{ext_get_or}
use Rattle.std.proofs.lemmas.Option.{same_Some}
use Rattle.list_lemmas.proofs.Entries.{same_entries}
use Rattle.brain_read.specs.declared.instr.Instr.{Instr}
use Rattle.ant_turn.specs.Renumber.{state_number, redirected}
use Rattle.ant_turn.specs.Turn.{instruction_at}
use Rattle.brain_minimise.specs.Minimised.{IsMinimised, new_number}
use Rattle.brain_minimise.proofs.Ranks.{IsRising-minimised, number-below}

module _ (old new other : List Instr) (numbers others : List (Option ℕ)) (first : IsMinimised old new numbers) (second : IsMinimised old other others) where
  -- a state whose number by the first map would be lower
  no_lower : (n k j : ℕ) → ((state : ℕ) → state < n → new_number numbers state ≡ new_number others state) → new_number numbers n ≡ Some k → new_number others n ≡ Some j → k < j → ⊥
  no_lower n k j before is too less =
      let it = IsRising-minimised old other others second n j k too less in
      let has : new_number numbers it.0 ≡ Some k = before it.0 it.1 ∙ it.2 in
      let one : new_number others it.0 ≡ new_number others n =
      second.alike it.0 n (first.dropped it.0 k has) (first.dropped n k is) (first.merged it.0 n k has is) in
      let same : k ≡ j = same_Some k j (sym it.2 ∙ one ∙ too) in
      omega arith

  -- or by the second
  no_higher : (n k j : ℕ) → ((state : ℕ) → state < n → new_number numbers state ≡ new_number others state) → new_number numbers n ≡ Some k → new_number others n ≡ Some j → j < k → ⊥
  no_higher n k j before is too less =
      let it = IsRising-minimised old new numbers first n k j is less in
      let has : new_number others it.0 ≡ Some j = sym (before it.0 it.1) ∙ it.2 in
      let one : new_number numbers it.0 ≡ new_number numbers n =
      first.alike it.0 n (second.dropped it.0 j has) (second.dropped n j too) (second.merged it.0 n j has too) in
      let same : j ≡ k = same_Some j k (sym it.2 ∙ one ∙ is) in
      omega arith

  -- a state has the same number by both, if those before it do
  same_at : (n : ℕ) (o p : Option ℕ) → new_number numbers n ≡ o → new_number others n ≡ p → ((state : ℕ) → state < n → new_number numbers state ≡ new_number others state) → o ≡ p
  same_at n None None is too before = refl
  same_at n None (Some j) is too before = let some = subst IsSome is (first.kept n (second.dropped n j too)) in absurd (cc)
  same_at n (Some k) None is too before = let some = subst IsSome too (second.kept n (first.dropped n k is)) in absurd (cc)
  same_at n (Some k) (Some j) is too before =
      elim (cases_order k j) [
        | inl same ↦ ap Some same
        | inr differ ↦ elim differ [
          | inl less ↦ absurd (no_lower n k j before is too less)
          | inr more ↦ absurd (no_higher n k j before is too more)
        ]
      ]

  -- so do all states below n
  same_below : (n state : ℕ) → state < n → new_number numbers state ≡ new_number others state
  same_below zero state below = absurd (omega arith)
  same_below (suc n) state below =
      elim (cases_lt state n) [
        | inl early ↦ same_below n state early
        | inr last ↦
            let one : n ≡ state = omega arith in
            subst (λ s. new_number numbers s ≡ new_number others s) one (same_at n (new_number numbers n) (new_number others n) refl refl (same_below n))
      ]

  -- the maps are one
  one_map : numbers ≡ others
  one_map = ext_get_or None numbers others (first.each ∙ sym second.each) (λ state below. same_below (length numbers) state below)

  -- the brains are as long
  one_length : length new ≡ length other
  one_length =
      elim (cases_order (length new) (length other)) [
        | inl same ↦ same
        | inr differ ↦ elim differ [
          | inl less ↦
              let it = second.onto (length new) less in
              absurd (omega (arith, number-below old new numbers first it.0 (length new) (ap (λ map. new_number map it.0) one_map ∙ it.1)))
          | inr more ↦
              let it = first.onto (length other) more in
              absurd (omega (arith, number-below old other others second it.0 (length other) (ap (λ map. new_number map it.0) (sym one_map) ∙ it.1)))
        ]
      ]

  -- and one
  one_brain : new ≡ other
  one_brain = same_entries new other one_length (λ k below.
      let it = first.onto k below in
      let too : new_number others it.0 ≡ Some k = ap (λ map. new_number map it.0) (sym one_map) ∙ it.1 in
      first.acts it.0 k it.1
      ∙ ap (λ map. Some (redirected (state_number (new_number map)) (instruction_at old it.0))) one_map
      ∙ sym (second.acts it.0 k too))

  -- both
  pub one_minimised : (new ≡ other) × (numbers ≡ others)
  one_minimised = (one_brain, one_map)
