-- The brain of pairs: its states are pairs of a state of one brain and a state of the other that is related to it, and
-- it carries over to both.
use Rattle.std.proofs.Common.{◌≡◌, inl, inr, ℕ, zero, suc, ◌<◌, Bool, true, false, List, [], ◌∷◌, ◌++◌, map, length, slice_get, Option, Some, None, IsSome, unwrap_or, refl, sym, ap, ap₂, ◌∙◌, subst, arith}
use Rattle.std.specs.Prelude.{◌&&◌, ◌==◌, if◌then◌else◌, option_and_then, option_map}
use Rattle.std.specs.List.{AllByRecursion, Contains}
use Rattle.std.proofs.lemmas.Bool.{and_from, and_parts, both_ways, cases_lt, eq-eqb, eqb-true}
use Rattle.std.proofs.lemmas.List.Elements.{Contains-append_left, Contains-append_right}
use Rattle.std.proofs.lemmas.Option.{get_or_from_slice_get, none-some, option_and_then_some, same_Some, slice_get-map, slice_get_within}
use Rattle.list_lemmas.proofs.Elements.{Contains-cases, Contains-first, Contains-later, Contains-none}
use Rattle.brain_read.specs.declared.instr.Instr.{Instr}
use Rattle.brain_read.specs.declared.instr.Instr.TheVariants.{Sense, Mark, Unmark, PickUp, Drop, Turn, Move, Flip}
use Rattle.brain_read.specs.Grammar.{states_of}
use Rattle.ant_turn.specs.Renumber.{Carries, Numbers, redirected, state_number}
use Rattle.ant_turn.specs.Turn.{instruction_at}
use Rattle.ant_turn.proofs.RenumberedTurns.{redirected-self}
use Rattle.brain_minimise.specs.Equivalence.{shape_of}
use Rattle.brain_same.specs.Answers.{next_by}
use Rattle.brain_same.specs.Difference.{AreSame}
use Rattle.brain_same.proofs.AnswersLemmas.{AreBoth-shape, filled_by, redirected-alike}
use Rattle.brain_same.proofs.AnswersLemmas.AreBoth.{Both, Neither}
use Rattle.brain_same.proofs.SameLaws.{related-next}

-- two numbers
abbrev Two : Type 0
Two = ℕ × ℕ

-- all pairs of a number and one below m
row : ℕ → ℕ → List Two
row a zero = []
row a (suc m) = (a, m) ∷ row a m

-- all pairs of a number below n and one below m
rows : ℕ → ℕ → List Two
rows m zero = []
rows m (suc n) = row n m ++ rows m n

row-has : (a m b : ℕ) → b < m → Contains (row a m) (a, b)
unfolding row
row-has a zero b low = absurd (omega arith)
row-has a (suc m) b low =
    elim (cases_lt b m) [
      | inl less ↦ Contains-later (a, m) (a, b) (row a m) (row-has a m b less)
      | inr last ↦ let one : m ≡ b = omega arith in subst (λ k. Contains ((a, m) ∷ row a m) (a, k)) one (Contains-first (a, m) (row a m))
    ]

rows-have : (m n a b : ℕ) → a < n → b < m → Contains (rows m n) (a, b)
unfolding rows
rows-have m zero a b low high = absurd (omega arith)
rows-have m (suc n) a b low high =
    elim (cases_lt a n) [
      | inl less ↦ Contains-append_right (row n m) (rows m n) (a, b) (rows-have m n a b less high)
      | inr last ↦ let one : n ≡ a = omega arith in Contains-append_left (row n m) (rows m n) (a, b) (subst (λ k. Contains (row n m) (k, b)) one (row-has n m b high))
    ]

-- the first place of a pair in a list
place_in : List Two → ℕ → ℕ → ℕ
place_in [] a b = 0
place_in (pair ∷ pairs) a b = if pair.0 == a && pair.1 == b then 0 else suc (place_in pairs a b)

place_in-there : (pairs : List Two) (a b : ℕ) → Contains pairs (a, b) → slice_get pairs (place_in pairs a b) ≡ Some (a, b)
unfolding place_in
place_in-there [] a b there = absurd (Contains-none (a, b) there)
place_in-there (pair ∷ pairs) a b there = go (pair.0 == a && pair.1 == b) refl (place_in-there pairs a b) where
  is_pair : (pair.0 ≡ a) → (pair.1 ≡ b) → ◌≡◌ {A = Two} pair (a, b)
  is_pair one other = ap₂ (λ (x y : ℕ). let two : Two = (x, y) in two) one other

  go : (test : Bool) → (pair.0 == a && pair.1 == b) ≡ test → (Contains pairs (a, b) → slice_get pairs (place_in pairs a b) ≡ Some (a, b)) → slice_get (pair ∷ pairs) (if test then 0 else suc (place_in pairs a b)) ≡ Some (a, b)
  go true is later = let both = and_parts (pair.0 == a) (pair.1 == b) is in ap Some (is_pair (eqb-true pair.0 a both.0) (eqb-true pair.1 b both.1))
  go false is later =
      elim (Contains-cases pair (a, b) pairs there) [
        | inl one ↦ absurd (both_ways (pair.0 == a && pair.1 == b) is (and_from (pair.0 == a) (pair.1 == b) (eq-eqb pair.0 a (ap (λ (p : Two). p.0) one)) (eq-eqb pair.1 b (ap (λ (p : Two). p.1) one))))
        | inr more ↦ later more
      ]

-- the shape and the successors of an instruction that is filled in
shape_of-filled_by : (x : Instr) (o p : Option ℕ) → shape_of (filled_by x o p) ≡ shape_of x
shape_of-filled_by (Sense sight taken unmet condition) o p = refl
shape_of-filled_by it o p = refl

-- of two options the one of this answer
abbrev by_answer : Bool → Option ℕ → Option ℕ → Option ℕ
by_answer true o p = o
by_answer false o p = p

next_by-filled_by : (x : Instr) (o p : Option ℕ) (met : Bool) → next_by (filled_by x o p) met ≡ option_map (λ _. unwrap_or (by_answer met o p) 0) (next_by x met)
next_by-filled_by (Sense sight taken unmet condition) o p true = refl
next_by-filled_by (Sense sight taken unmet condition) o p false = refl
next_by-filled_by x o p true = refl
next_by-filled_by x o p false = refl

-- what holds of the successors by each answer holds of all states that it names
all-next : (P : ℕ → Type 0) (x : Instr) → ((met : Bool) (a : ℕ) → next_by x met ≡ Some a → P a) → AllByRecursion P (states_of x)
all-next P (Sense sight taken unmet condition) each = (each true taken refl, (each false unmet refl, tt))
all-next P (Mark i next) each = (each true next refl, tt)
all-next P (Unmark i next) each = (each true next refl, tt)
all-next P (PickUp taken unmet) each = (each true taken refl, (each false unmet refl, tt))
all-next P (Drop next) each = (each true next refl, tt)
all-next P (Turn side next) each = (each true next refl, tt)
all-next P (Move taken unmet) each = (each true taken refl, (each false unmet refl, tt))
all-next P (Flip bound taken unmet) each = (each true taken refl, (each false unmet refl, tt))

module _ (first second : List Instr) (same : AreSame first second) where
  -- the pairs by state, that of the states 0 first
  pairs : List Two
  pairs = (0, 0) ∷ rows (length second) (length first)

  -- the state of a pair, if there are two
  joint_state : Option ℕ → Option ℕ → Option ℕ
  joint_state None p = None
  joint_state (Some a) None = None
  joint_state (Some a) (Some b) = Some (place_in pairs a b)

  -- the instruction of a pair: that of its first state, with the pairs of successors
  joint : Two → Instr
  joint pair =
      let x = instruction_at first pair.0 in
      let y = instruction_at second pair.1 in
      filled_by x (joint_state (next_by x true) (next_by y true)) (joint_state (next_by x false) (next_by y false))

  -- the brain of pairs
  pub pair_brain : List Instr
  pair_brain = map joint pairs

  -- one of the two states of a related pair
  chosen : (Two → ℕ) → Two → Option ℕ
  chosen choose pair = if same.related pair.0 pair.1 then Some (choose pair) else None

  numbers_by : (Two → ℕ) → Numbers
  numbers_by choose k = option_and_then (chosen choose) (slice_get pairs k)

  abbrev one_of : Two → ℕ
  one_of pair = pair.0

  abbrev other_of : Two → ℕ
  other_of pair = pair.1

  -- which state of the first brain, and which of the second, is in a pair
  pub first_numbers : Numbers
  first_numbers = numbers_by one_of

  pub second_numbers : Numbers
  second_numbers = numbers_by other_of

  -- the pair that has a number
  record Chosen (choose : Two → ℕ) (k number : ℕ) : Type 0 where
    pub pair : Two
    pub there : slice_get pairs k ≡ Some pair
    pub related : same.related pair.0 pair.1 ≡ true
    pub is : choose pair ≡ number

  chosen-says : (choose : Two → ℕ) (pair : Two) (number : ℕ) → chosen choose pair ≡ Some number → (same.related pair.0 pair.1 ≡ true) × (choose pair ≡ number)
  unfolding chosen
  chosen-says choose pair number is = go (same.related pair.0 pair.1) refl is where
    go : (test : Bool) → same.related pair.0 pair.1 ≡ test → (if test then Some (choose pair) else None) ≡ Some number → (same.related pair.0 pair.1 ≡ true) × (choose pair ≡ number)
    go true holds has = (holds, same_Some (choose pair) number has)
    go false holds has = absurd (none-some number has)

  number-says : (choose : Two → ℕ) (k number : ℕ) → numbers_by choose k ≡ Some number → Chosen choose k number
  unfolding numbers_by
  number-says choose k number has =
      option_and_then_some (chosen choose) (slice_get pairs k) number has (λ pair there is.
      let it = chosen-says choose pair number is in
      record { pair = pair; there = there; related = it.0; is = it.1 })

  -- a related pair has a number
  number-of : (choose : Two → ℕ) (k : ℕ) (pair : Two) → slice_get pairs k ≡ Some pair → same.related pair.0 pair.1 ≡ true → numbers_by choose k ≡ Some (choose pair)
  unfolding numbers_by chosen
  number-of choose k pair there related =
      ap (option_and_then (chosen choose)) there ∙ ap (λ (test : Bool). if test then Some (choose pair) else None) related

  number-placed : (choose : Two → ℕ) (a b : ℕ) → same.related a b ≡ true → numbers_by choose (place_in pairs a b) ≡ Some (choose (a, b))
  unfolding pairs
  number-placed choose a b related =
      let inside = same.bisimulation.inside a b related in
      number-of choose (place_in pairs a b) (a, b)
      (place_in-there pairs a b (Contains-later (0, 0) (a, b) (rows (length second) (length first)) (rows-have (length second) (length first) a b inside.0 inside.1)))
      related

  -- state 0 is the pair of the states 0
  zero-placed : (choose : Two → ℕ) → choose (0, 0) ≡ 0 → numbers_by choose 0 ≡ Some 0
  unfolding pairs
  zero-placed choose start = number-of choose 0 (0, 0) refl same.holds ∙ ap Some start

  -- a successor of a pair is the pair of the successors
  record Successors (pair : Two) (met : Bool) (c : ℕ) : Type 0 where
    pub a : ℕ
    pub b : ℕ
    pub one : next_by (instruction_at first pair.0) met ≡ Some a
    pub other : next_by (instruction_at second pair.1) met ≡ Some b
    pub related : same.related a b ≡ true
    pub is : place_in pairs a b ≡ c

  -- the successor of a pair by an answer
  next-joint : (pair : Two) (met : Bool) → next_by (joint pair) met
      ≡ option_map (λ _. unwrap_or (joint_state (next_by (instruction_at first pair.0) met) (next_by (instruction_at second pair.1) met)) 0) (next_by (instruction_at first pair.0) met)
  unfolding joint
  next-joint pair true = next_by-filled_by (instruction_at first pair.0) _ _ true
  next-joint pair false = next_by-filled_by (instruction_at first pair.0) _ _ false

  successors-of : (pair : Two) (met : Bool) (c : ℕ) → same.related pair.0 pair.1 ≡ true → next_by (joint pair) met ≡ Some c → Successors pair met c
  unfolding joint_state
  successors-of pair met c related next =
      let x = instruction_at first pair.0 in
      let y = instruction_at second pair.1 in
      let is = sym (next-joint pair met) ∙ next in
      elim (AreBoth-shape x y met (same.bisimulation.shape pair.0 pair.1 related)) [
        | Neither one other ↦ absurd (none-some c (sym (ap (option_map (λ _. unwrap_or (joint_state (next_by x met) (next_by y met)) 0)) one) ∙ is))
        | Both a b one other ↦ record {
          a = a;
          b = b;
          one = one;
          other = other;
          related = related-next same.related x y met a b (same.bisimulation.onward pair.0 pair.1 related) one other;
          is = same_Some (place_in pairs a b) c (sym (ap₂ (λ o p. option_map (λ _. unwrap_or (joint_state o p) 0) o) one other) ∙ is);
        }
      ]

  -- the instruction of a pair's state
  joint-at : (k : ℕ) (pair : Two) → slice_get pairs k ≡ Some pair → slice_get pair_brain k ≡ Some (joint pair)
  unfolding pair_brain
  joint-at k pair there = slice_get-map joint pairs k ∙ ap (option_map joint) there

  -- a choice of one of the two states carries the brain of pairs over to that state's brain
  module _ (brain : List Instr) (choose : Two → ℕ)
      (inside : (pair : Two) → same.related pair.0 pair.1 ≡ true → choose pair < length brain)
      (shape : (pair : Two) → same.related pair.0 pair.1 ≡ true → shape_of (joint pair) ≡ shape_of (instruction_at brain (choose pair)))
      (next : (pair : Two) (met : Bool) (c : ℕ) (to : Successors pair met c) → next_by (instruction_at brain (choose pair)) met ≡ Some (choose (to.a, to.b))) where
    numbers : Numbers
    numbers = numbers_by choose

    -- its successor has the number that is chosen of the pair of successors
    to-number : (pair : Two) (met : Bool) (c : ℕ) (to : Successors pair met c) → numbers c ≡ Some (choose (to.a, to.b))
    unfolding numbers
    to-number pair met c to = ap (numbers_by choose) (sym to.is) ∙ number-placed choose to.a to.b to.related

    acts-chosen : (pair : Two) → same.related pair.0 pair.1 ≡ true → redirected (state_number numbers) (joint pair) ≡ instruction_at brain (choose pair)
    acts-chosen pair related =
        redirected-alike (state_number numbers) (λ state. state) (joint pair) (instruction_at brain (choose pair)) (shape pair related) (λ met c a one other.
        let to = successors-of pair met c related one in
        ap (λ o. unwrap_or o c) (to-number pair met c to) ∙ same_Some (choose (to.a, to.b)) a (sym (next pair met c to) ∙ other))
        ∙ redirected-self (instruction_at brain (choose pair))

    carried-pairs : Carries numbers pair_brain brain
    unfolding numbers
    carried-pairs = record {
      inside = λ k number has.
          let it = number-says choose k number has in
          (slice_get_within pair_brain k (joint it.pair) (joint-at k it.pair it.there), subst (λ n. n < length brain) it.is (inside it.pair it.related));
      acts = λ k number has.
          let it = number-says choose k number has in
          sym (ap (redirected (state_number numbers)) (get_or_from_slice_get pair_brain k (joint it.pair) (Drop 0) (joint-at k it.pair it.there))
          ∙ acts-chosen it.pair it.related
          ∙ ap (instruction_at brain) it.is);
      onward = λ k number has.
          let it = number-says choose k number has in
          all-next (λ c. IsSome (numbers c)) (instruction_at pair_brain k) (λ met c one.
          let to = successors-of it.pair met c it.related (ap (λ x. next_by x met) (sym (get_or_from_slice_get pair_brain k (joint it.pair) (Drop 0) (joint-at k it.pair it.there))) ∙ one) in
          subst IsSome (sym (to-number it.pair met c to)) refl);
    }

  -- over to the first brain
  pub Carries-first : Carries first_numbers pair_brain first
  unfolding first_numbers joint numbers_by numbers
  Carries-first =
      carried-pairs first one_of
      (λ pair related. (same.bisimulation.inside pair.0 pair.1 related).0)
      (λ pair related. shape_of-filled_by (instruction_at first pair.0) _ _)
      (λ pair met c to. to.one)

  -- and to the second
  pub Carries-second : Carries second_numbers pair_brain second
  unfolding second_numbers joint numbers_by numbers
  Carries-second =
      carried-pairs second other_of
      (λ pair related. (same.bisimulation.inside pair.0 pair.1 related).1)
      (λ pair related. shape_of-filled_by (instruction_at first pair.0) _ _ ∙ same.bisimulation.shape pair.0 pair.1 related)
      (λ pair met c to. to.other)

  -- its state 0 stands for both states 0
  pub first-zero : first_numbers 0 ≡ Some 0
  unfolding first_numbers
  first-zero = zero-placed one_of refl

  pub second-zero : second_numbers 0 ≡ Some 0
  unfolding second_numbers
  second-zero = zero-placed other_of refl
