-- The numbers of a minimised brain: each appears after all lower ones.
use Rattle.std.proofs.Common.{◌≡◌, ◌⊎◌, inl, inr, ℕ, zero, suc, ◌<◌, ◌≤◌, List, [], ◌∷◌, map, length, slice_get, Option, Some, None, IsSome, unwrap_or, refl, sym, ap, ◌∙◌, arith}
use Rattle.std.specs.Prelude.{option_map}
use Rattle.std.proofs.lemmas.Bool.{cases_eq, cases_lt, cases_order}
use Rattle.std.proofs.lemmas.List.{length-map}
use Rattle.std.proofs.lemmas.Option.{none-some, same_Some, slice_get-get_or, slice_get-map, slice_get_within}
use Rattle.indexmap.proofs.IndexTableLemmas.Probe.{pigeonhole}
use Rattle.list_lemmas.proofs.AllElements.{AllByRecursion-weaker}
use Rattle.list_lemmas.proofs.Entries.{same_entries}
use Rattle.brain_read.specs.declared.instr.Instr.{Instr}
use Rattle.brain_read.specs.declared.instr.Instr.TheVariants.{Drop}
use Rattle.brain_read.specs.Grammar.{states_of}
use Rattle.ant_turn.specs.Renumber.{state_number, redirected}
use Rattle.ant_turn.specs.Turn.{instruction_at}
use Rattle.brain_minimise.specs.Equivalence.{AreEquivalent}
use Rattle.brain_minimise.specs.Inner.Numbering.{IsRising}
use Rattle.brain_minimise.specs.Laws.{AreDifferent, KeepsText, Merges, kept_before, left_of}
use Rattle.brain_minimise.specs.Minimised.{IsLeast, IsMinimised, new_number}
use Rattle.brain_minimise.specs.Reach.{IsReachable}
use Rattle.brain_minimise.specs.Reach.IsReachable.{Start}
use Rattle.brain_minimise.proofs.MinimisedLemmas.{successors-reached}
use Rattle.brain_minimise.proofs.Numbers.{number-inside, the_number}
use Rattle.brain_minimise.proofs.RedirectedLemmas.{redirected-agree, redirected-self}

-- an entry is this number or not
pub is_number : (o : Option ℕ) (number : ℕ) → (o ≡ Some number) ⊎ (o ≡ Some number → ⊥)
is_number None number = inr (none-some number)
is_number (Some other) number = elim (cases_eq other number) [
  | inl same ↦ inl (ap Some same)
  | inr apart ↦ inr (λ is. apart (same_Some other number is))
]

-- the least state of a number below n, if there is one
least_below : (numbers : List (Option ℕ)) (number n : ℕ) → ((state : ℕ) → state < n → new_number numbers state ≡ Some number → ⊥) ⊎ ((state : ℕ) × (state < n) × IsLeast numbers number state)
least_below numbers number zero = inl (λ state below _. omega arith)
least_below numbers number (suc n) =
    elim (least_below numbers number n) [
      | inr found ↦ inr (found.0, omega (arith, found.1), found.2)
      | inl none ↦ elim (is_number (new_number numbers n) number) [
        | inl here ↦ inr (
          n,
          omega arith,
          record {
            has = here;
            least = λ other there. elim (cases_lt other n) [
              | inl below ↦ absurd (none other below there)
              | inr above ↦ above
            ];
          },
        )
        | inr not_here ↦ inl (λ state below there. elim (cases_lt state n) [
          | inl early ↦ none state early there
          | inr last ↦ let one : state ≡ n = omega arith in not_here (ap (new_number numbers) (sym one) ∙ there)
        ])
      ]
    ]

-- if a state has a number, some state is the least that has it
least_of : (numbers : List (Option ℕ)) (number state : ℕ) → new_number numbers state ≡ Some number → (least : ℕ) × (least ≤ state) × IsLeast numbers number least
least_of numbers number state has =
    elim (least_below numbers number (suc state)) [
      | inl none ↦ absurd (none state (omega arith) has)
      | inr found ↦ (found.0, omega (arith, found.1), found.2)
    ]

-- the number of a state is one of the new brain's
pub number-below : (old new : List Instr) (numbers : List (Option ℕ)) → IsMinimised old new numbers → (state number : ℕ) → new_number numbers state ≡ Some number → number < length new
number-below old new numbers minimised state number has =
    slice_get_within new number (redirected (state_number (new_number numbers)) (instruction_at old state)) (minimised.acts state number has)

-- before a state of a number there is one of each lower number
pub IsRising-minimised : (old new : List Instr) (numbers : List (Option ℕ)) → IsMinimised old new numbers → IsRising numbers
IsRising-minimised old new numbers minimised state number lower has less =
    let below = number-below old new numbers minimised state number has in
    let some = minimised.onto lower (omega arith) in
    let a = least_of numbers lower some.0 some.1 in
    let b = least_of numbers number state has in
    (a.0, omega (arith, b.1, minimised.rising lower number a.0 b.0 less a.2 b.2), a.2.has)

-- state 0 has number 0
pub zero-number : (old new : List Instr) (numbers : List (Option ℕ)) → IsMinimised old new numbers → new_number numbers 0 ≡ Some 0
zero-number old new numbers minimised =
    let it = the_number (new_number numbers 0) (minimised.kept 0 Start) in
    elim (cases_eq it.0 0) [
      | inl none ↦ it.1 ∙ ap Some none
      | inr some ↦
          let more : 0 < it.0 = elim (cases_lt 0 it.0) [ inl more ↦ more | inr less ↦ absurd (some (omega arith)) ] in
          let earlier = IsRising-minimised old new numbers minimised 0 it.0 0 it.1 more in
          absurd (omega (arith, earlier.1))
    ]

-- one more state
kept_before-some : (numbers : List (Option ℕ)) (state number : ℕ) → new_number numbers state ≡ Some number → kept_before numbers (suc state) ≡ suc (kept_before numbers state)
kept_before-some [] state number has = absurd (none-some number has)
kept_before-some (None ∷ numbers) zero number has = absurd (none-some number has)
kept_before-some (Some k ∷ []) zero number has = refl
kept_before-some (Some k ∷ (o ∷ numbers)) zero number has = refl
kept_before-some (None ∷ numbers) (suc state) number has = kept_before-some numbers state number has
kept_before-some (Some k ∷ numbers) (suc state) number has = ap suc (kept_before-some numbers state number has)

kept_before-none : (numbers : List (Option ℕ)) (state : ℕ) → new_number numbers state ≡ None → kept_before numbers (suc state) ≡ kept_before numbers state
kept_before-none [] state has = refl
kept_before-none (None ∷ []) zero has = refl
kept_before-none (None ∷ (o ∷ numbers)) zero has = refl
kept_before-none (Some k ∷ numbers) zero has = absurd (none-some k (sym has))
kept_before-none (None ∷ numbers) (suc state) has = kept_before-none numbers state has
kept_before-none (Some k ∷ numbers) (suc state) has = ap suc (kept_before-none numbers state has)

-- the numbers of the states below n are those below how many of them have one
record AreRanked (numbers : List (Option ℕ)) (n : ℕ) : Type 0 where
  pub low : (state number : ℕ) → state < n → new_number numbers state ≡ Some number → number < kept_before numbers n
  pub all : (number : ℕ) → number < kept_before numbers n → (state : ℕ) × (state < n) × (new_number numbers state ≡ Some number)

-- no two states have one number
abbrev AreApart : List (Option ℕ) → Type 0
AreApart numbers = (a b number : ℕ) → new_number numbers a ≡ Some number → new_number numbers b ≡ Some number → a ≡ b

-- then the number of a state is how many before it have one
rank_of : (numbers : List (Option ℕ)) (state number : ℕ) → IsRising numbers → AreApart numbers → AreRanked numbers state → new_number numbers state ≡ Some number → number ≡ kept_before numbers state
rank_of numbers state number rising apart ranked has =
    elim (cases_order number (kept_before numbers state)) [
      | inl same ↦ same
      | inr differ ↦ elim differ [
        | inl less ↦
            let it = ranked.all number less in
            let one : it.0 ≡ state = apart it.0 state number it.2 has in
            absurd (omega (arith, it.1))
        | inr more ↦
            let it = rising state number (kept_before numbers state) has more in
            absurd (omega (arith, ranked.low it.0 (kept_before numbers state) it.1 it.2))
      ]
    ]

-- a state more, by what it has
ranked_more : (numbers : List (Option ℕ)) (n : ℕ) (o : Option ℕ) → new_number numbers n ≡ o → IsRising numbers → AreApart numbers → AreRanked numbers n → AreRanked numbers (suc n)
ranked_more numbers n None is rising apart ranked =
    let same : kept_before numbers (suc n) ≡ kept_before numbers n = kept_before-none numbers n is in
    record {
      low = λ state number below has. elim (cases_lt state n) [
        | inl early ↦ omega (arith, ranked.low state number early has)
        | inr last ↦ let one : state ≡ n = omega arith in absurd (none-some number (sym is ∙ ap (new_number numbers) (sym one) ∙ has))
      ];
      all = λ number less. let it = ranked.all number (omega arith) in (it.0, omega (arith, it.1), it.2);
    }
ranked_more numbers n (Some k) is rising apart ranked =
    let more : kept_before numbers (suc n) ≡ suc (kept_before numbers n) = kept_before-some numbers n k is in
    let rank : k ≡ kept_before numbers n = rank_of numbers n k rising apart ranked is in
    record {
      low = λ state number below has. elim (cases_lt state n) [
        | inl early ↦ omega (arith, ranked.low state number early has)
        | inr last ↦
            let one : state ≡ n = omega arith in
            let same : k ≡ number = same_Some k number (sym is ∙ ap (new_number numbers) (sym one) ∙ has) in
            omega arith
      ];
      all = λ number less. elim (cases_lt number (kept_before numbers n)) [
        | inl early ↦ let it = ranked.all number early in (it.0, omega (arith, it.1), it.2)
        | inr last ↦ let one : k ≡ number = omega arith in (n, omega arith, is ∙ ap Some one)
      ];
    }

-- however many states
ranked : (numbers : List (Option ℕ)) (n : ℕ) → IsRising numbers → AreApart numbers → AreRanked numbers n
ranked numbers zero rising apart = record { low = λ state number below has. absurd (omega arith); all = λ number less. absurd (none_kept numbers number less) }
  where
    none_kept : (numbers : List (Option ℕ)) (number : ℕ) → number < kept_before numbers 0 → ⊥
    none_kept [] number less = omega arith
    none_kept (None ∷ numbers) number less = omega arith
    none_kept (Some k ∷ numbers) number less = omega arith
ranked numbers (suc n) rising apart = ranked_more numbers n (new_number numbers n) refl rising apart (ranked numbers n rising apart)

-- the instruction of a state that has a number, among those that are left
left_of-at : (numbers : List (Option ℕ)) (brain : List Instr) (state number : ℕ) → length numbers ≡ length brain → new_number numbers state ≡ Some number → slice_get (left_of numbers brain) (kept_before numbers state) ≡ slice_get brain state
left_of-at [] brain state number each has = absurd (none-some number has)
left_of-at (o ∷ numbers) [] state number each has = absurd (omega arith)
left_of-at (None ∷ numbers) (x ∷ brain) zero number each has = absurd (none-some number has)
left_of-at (Some k ∷ numbers) (x ∷ brain) zero number each has = refl
left_of-at (None ∷ numbers) (x ∷ brain) (suc state) number each has = left_of-at numbers brain state number (omega arith) has
left_of-at (Some k ∷ numbers) (x ∷ brain) (suc state) number each has = left_of-at numbers brain state number (omega arith) has

-- as many are left as have a number
left_of-length : (numbers : List (Option ℕ)) (brain : List Instr) → length numbers ≡ length brain → length (left_of numbers brain) ≡ kept_before numbers (length brain)
left_of-length [] brain each = refl
left_of-length (o ∷ numbers) [] each = absurd (omega arith)
left_of-length (None ∷ numbers) (x ∷ brain) each = left_of-length numbers brain (omega arith)
left_of-length (Some k ∷ numbers) (x ∷ brain) each = ap suc (left_of-length numbers brain (omega arith))

-- if each state has a number, as many as there are have one
kept_before-all : (numbers : List (Option ℕ)) (n : ℕ) → ((state : ℕ) → state < n → IsSome (new_number numbers state)) → kept_before numbers n ≡ n
kept_before-all [] zero each = refl
kept_before-all (o ∷ numbers) zero each = refl
kept_before-all numbers (suc n) each =
    let it = the_number (new_number numbers n) (each n (omega arith)) in
    kept_before-some numbers n it.0 it.1 ∙ ap suc (kept_before-all numbers n (λ state below. each state (omega arith)))

module _ (old new : List Instr) (numbers : List (Option ℕ)) (minimised : IsMinimised old new numbers) (different : AreDifferent old) where
  -- no two states have one number
  numbers-apart : AreApart numbers
  numbers-apart a b number first second = different a b (minimised.dropped a number first) (minimised.dropped b number second) (minimised.merged a b number first second)

  -- each has its rank
  number-rank : (state number : ℕ) → new_number numbers state ≡ Some number → number ≡ kept_before numbers state
  number-rank state number has =
      rank_of numbers state number (IsRising-minimised old new numbers minimised) numbers-apart (ranked numbers state (IsRising-minimised old new numbers minimised) numbers-apart) has

  -- there are as many as have a number
  new-length : length new ≡ kept_before numbers (length old)
  new-length =
      let all : AreRanked numbers (length old) = ranked numbers (length old) (IsRising-minimised old new numbers minimised) numbers-apart in
      let each = minimised.each in
      elim (cases_order (length new) (kept_before numbers (length old))) [
        | inl same ↦ same
        | inr differ ↦ elim differ [
          | inl less ↦
              let it = all.all (length new) less in
              absurd (omega (arith, number-below old new numbers minimised it.0 (length new) it.2))
          | inr more ↦
              let it = minimised.onto (kept_before numbers (length old)) more in
              absurd (omega (arith, all.low it.0 (kept_before numbers (length old)) (omega (arith, number-inside numbers it.0 (kept_before numbers (length old)) it.1)) it.1))
        ]
      ]

  -- the instructions are those that are left, renumbered
  new-text : new ≡ map (redirected (state_number (new_number numbers))) (left_of numbers old)
  new-text =
      let f : Instr → Instr = redirected (state_number (new_number numbers)) in
      let left : List Instr = left_of numbers old in
      let each = minimised.each in
      let size : length new ≡ length (map f left) = new-length ∙ sym (left_of-length numbers old minimised.each) ∙ sym (length-map left f) in
      same_entries new (map f left) size (λ k below.
      let it = minimised.onto k below in
      let rank : k ≡ kept_before numbers it.0 = number-rank it.0 k it.1 in
      let inside : it.0 < length old = omega (arith, number-inside numbers it.0 k it.1) in
      let there : slice_get left k ≡ Some (instruction_at old it.0) =
      ap (slice_get left) rank ∙ left_of-at numbers old it.0 k minimised.each it.1 ∙ slice_get-get_or old it.0 (Drop 0) inside in
      minimised.acts it.0 k it.1 ∙ sym (slice_get-map f left k ∙ ap (λ o. option_map f o) there))

  -- if all can be reached, each state keeps its number
  pub number-same : ((state : ℕ) → state < length old → IsReachable old state) → (state : ℕ) → state < length old → new_number numbers state ≡ Some state
  number-same all state below =
      let it = the_number (new_number numbers state) (minimised.kept state (all state below)) in
      it.1 ∙ ap Some (number-rank state it.0 it.1 ∙ kept_before-all numbers state (λ other early. minimised.kept other (all other (omega arith))))

  -- and its instruction
  pub new-same : ((state : ℕ) → state < length old → IsReachable old state) → new ≡ old
  new-same all =
      let size : length new ≡ length old = new-length ∙ kept_before-all numbers (length old) (λ state below. minimised.kept state (all state below)) in
      let each = minimised.each in
      same_entries new old size (λ k below.
      let inside : k < length old = omega arith in
      let f = state_number (new_number numbers) in
      let agree : redirected f (instruction_at old k) ≡ redirected (λ state. state) (instruction_at old k) =
      redirected-agree f (λ state. state) (instruction_at old k) (AllByRecursion-weaker _ _ (states_of (instruction_at old k)) (successors-reached old k (all k inside)) (λ next reached.
      let some = the_number (new_number numbers next) (minimised.kept next reached) in
      let low : next < length old = omega (arith, number-inside numbers next some.0 some.1) in
      ap (λ o. unwrap_or o next) (number-same all next low))) in
      minimised.acts k k (number-same all k inside) ∙ ap Some (agree ∙ redirected-self (instruction_at old k)) ∙ sym (slice_get-get_or old k (Drop 0) inside))

  -- all of it together
  pub KeepsText-minimised : KeepsText old new numbers
  KeepsText-minimised = record { order = number-rank; text = new-text; whole = new-same }

-- minimising twice is minimising once
pub twice : (old new again : List Instr) (numbers others : List (Option ℕ)) → IsMinimised old new numbers → IsMinimised new again others → (again ≡ new) × ((state : ℕ) → state < length new → new_number others state ≡ Some state)
twice old new again numbers others first second =
    let different : AreDifferent new = λ a b _ _ equivalent. first.apart a b equivalent in
    (new-same new again others second different first.reached, number-same new again others second different first.reached)

-- the state of another brain that a new state comes to
module _ (old new other : List Instr) (numbers others : List (Option ℕ)) (minimised : IsMinimised old new numbers) (merges : Merges old other others) where
  -- by an old state that has the number, if there is one
  come_to : (k : ℕ) → (k < length new) ⊎ (length new ≤ k) → ℕ
  come_to k (inl below) = let it = minimised.onto k below in (merges.kept it.0 (minimised.dropped it.0 k it.1)).0
  come_to k (inr above) = 0

  comes_to : ℕ → ℕ
  comes_to k = come_to k (cases_lt k (length new))

  -- what is known of it
  record ComesTo (k j : ℕ) : Type 0 where
    pub state : ℕ
    pub has : new_number numbers state ≡ Some k
    pub low : j < length other
    pub there : new_number others state ≡ Some j

  come_to-is : (k : ℕ) (which : (k < length new) ⊎ (length new ≤ k)) → k < length new → ComesTo k (come_to k which)
  unfolding come_to
  come_to-is k (inl below) inside =
      let it = minimised.onto k below in
      let there = merges.kept it.0 (minimised.dropped it.0 k it.1) in
      record { state = it.0; has = it.1; low = there.1; there = there.2 }
  come_to-is k (inr above) inside = absurd (omega arith)

  comes_to-is : (k : ℕ) → k < length new → ComesTo k (comes_to k)
  unfolding comes_to
  comes_to-is k inside = come_to-is k (cases_lt k (length new)) inside

  -- two new states don't come to one
  comes_to-apart : (j k : ℕ) → j < length new → k < length new → comes_to j ≡ comes_to k → j ≡ k
  comes_to-apart j k low high one =
      let a = comes_to-is j low in
      let b = comes_to-is k high in
      let equivalent : AreEquivalent old a.state b.state = merges.merged a.state b.state (comes_to k) (a.there ∙ ap Some one) b.there in
      same_Some j k (sym a.has ∙ minimised.alike a.state b.state (minimised.dropped a.state j a.has) (minimised.dropped b.state k b.has) equivalent ∙ b.has)

  -- so there are no fewer
  pub fewest : length new ≤ length other
  fewest = pigeonhole (length new) (length other) comes_to (λ k inside. (comes_to-is k inside).low) comes_to-apart
