-- A brain of ten states and what it is minimised to, worked out fact by fact.
use Rattle.std.proofs.Common.{◌≡◌, ℕ, zero, suc, ◌<◌, ◌≤◌, List, [], ◌∷◌, slice_index, slice_get, Option, Some, None, IsSome, refl, sym, ap, ◌∙◌, subst, inl, inr, arith}
use Rattle.std.specs.List.{AllByRecursion}
use Rattle.std.proofs.lemmas.Bool.{cases_lt, false≢true}
use Rattle.std.proofs.lemmas.List.{get_or_past}
use Rattle.std.proofs.lemmas.Option.{get_or_from_slice_get, none-some, same_Some, slice_get_within}
use Rattle.list_lemmas.proofs.AllElements.{AllByRecursion-at}
use Rattle.hex_geometry.specs.declared.direction.Side.TheVariants.{Left, Right}
use Rattle.hex_geometry.specs.declared.neighbourhood.Sight.TheVariants.{Ahead}
use Rattle.brain_read.specs.declared.instr.Cond.TheVariants.{Food}
use Rattle.brain_read.specs.declared.instr.Instr.{Instr}
use Rattle.brain_read.specs.declared.instr.Instr.TheVariants.{Sense, Mark, Unmark, PickUp, Drop, Turn, Move, Flip}
use Rattle.brain_read.specs.Grammar.{states_of}
use Rattle.brain_read.specs.Soundness.{IsBrain, IsSound}
use Rattle.ant_turn.specs.Renumber.{state_number, redirected}
use Rattle.ant_turn.specs.Turn.{instruction_at}
use Rattle.brain_minimise.specs.Equivalence.{shape_of}
use Rattle.brain_minimise.specs.Inner.Classes.{AreStable, DoAlike}
use Rattle.brain_minimise.specs.Minimised.{IsMinimised, new_number}
use Rattle.brain_minimise.specs.Reach.{IsReachable}
use Rattle.brain_minimise.specs.Reach.IsReachable.{Start, Next}
use Rattle.brain_minimise.proofs.Equivalences.{class-equivalent}
use Rattle.brain_minimise.proofs.Numbers.{number-inside}

-- the brain: states 3 and 7 are equivalent, and nothing leads to state 9
abbrev pub ten : List Instr
ten = Sense Ahead 1 5 Food ∷ PickUp 3 7 ∷ Move 0 4 ∷ Turn Left 2 ∷ Flip 2 6 8 ∷ Mark 0 2 ∷ Turn Right 2 ∷ Turn Left 2 ∷ Drop 0 ∷ Move 0 0 ∷ []

-- what is left of it, and what became of each state
abbrev pub eight : List Instr
eight = Sense Ahead 1 5 Food ∷ PickUp 3 3 ∷ Move 0 4 ∷ Turn Left 2 ∷ Flip 2 6 7 ∷ Mark 0 2 ∷ Turn Right 2 ∷ Drop 0 ∷ []

abbrev pub numbers : List (Option ℕ)
numbers = Some 0 ∷ Some 1 ∷ Some 2 ∷ Some 3 ∷ Some 4 ∷ Some 5 ∷ Some 6 ∷ Some 3 ∷ Some 7 ∷ None ∷ []

-- what holds of all numbers below n, one by one
abbrev Each : (ℕ → Type 0) → ℕ → Type 0
Each P zero = Unit {0}
Each P (suc n) = Each P n × P n

each-at : (P : ℕ → Type 0) (n k : ℕ) → Each P n → k < n → P k
each-at P zero k all below = absurd (omega arith)
each-at P (suc n) k all below =
    elim (cases_lt k n) [
      | inl early ↦ each-at P n k all.0 early
      | inr last ↦ let one : n ≡ k = omega arith in subst P one all.1
    ]

-- what holds of all that have a number
abbrev OfNumbered : (ℕ → ℕ → Type 0) → ℕ → Type 0
OfNumbered P state = (number : ℕ) → new_number numbers state ≡ Some number → P state number

-- is shown by that number, and needs nothing of state 9
it : (P : ℕ → ℕ → Type 0) (state here : ℕ) → P state here → (number : ℕ) → Some here ≡ Some number → P state number
it P state here holds number has = subst (P state) (same_Some here number has) holds

numbered-at : (P : ℕ → ℕ → Type 0) → Each (OfNumbered P) 10 → (state number : ℕ) → new_number numbers state ≡ Some number → P state number
numbered-at P all state number has = each-at (OfNumbered P) 10 state all (number-inside numbers state number has) number has

-- the place of an instruction of the eight, by its shape
abbrev place : Instr → Option ℕ
place (Sense sight met unmet condition) = Some 0
place (PickUp met unmet) = Some 1
place (Move met unmet) = Some 2
place (Turn Left next) = Some 3
place (Flip bound met unmet) = Some 4
place (Mark i next) = Some 5
place (Turn Right next) = Some 6
place (Drop next) = Some 7
place (Unmark i next) = None

-- which states can be reached
one : IsReachable ten 1
one = Next 0 1 Start (0, omega arith, refl)

five : IsReachable ten 5
five = Next 0 5 Start (1, omega arith, refl)

three : IsReachable ten 3
three = Next 1 3 one (0, omega arith, refl)

seven : IsReachable ten 7
seven = Next 1 7 one (1, omega arith, refl)

two : IsReachable ten 2
two = Next 5 2 five (0, omega arith, refl)

four : IsReachable ten 4
four = Next 2 4 two (1, omega arith, refl)

six : IsReachable ten 6
six = Next 4 6 four (0, omega arith, refl)

last : IsReachable ten 8
last = Next 4 8 four (1, omega arith, refl)

ten_reached : Each (OfNumbered (λ state _. IsReachable ten state)) 10
ten_reached =
    ((((((((((tt, λ _ _. Start), λ _ _. one), λ _ _. two), λ _ _. three), λ _ _. four), λ _ _. five), λ _ _. six), λ _ _. seven), λ _ _. last), λ number has. absurd (none-some number has))

-- and no others: the successors of a state that has a number have numbers
abbrev Onward : ℕ → Type 0
Onward state = IsSome (new_number numbers state) → AllByRecursion (λ next. IsSome (new_number numbers next)) (states_of (instruction_at ten state))

ten_onward : Each Onward 10
ten_onward =
    ((((((((((tt, λ _. (refl, (refl, tt))), λ _. (refl, (refl, tt))), λ _. (refl, (refl, tt))), λ _. (refl, tt)), λ _. (refl, (refl, tt))), λ _. (refl, tt)), λ _. (refl, tt)), λ _. (refl, tt)), λ _. (refl, tt)), λ none. absurd (false≢true none))

inside : (state : ℕ) → IsSome (new_number numbers state) → state < 10
inside state some =
    elim (cases_lt state 10) [
      | inl below ↦ below
      | inr above ↦ absurd (false≢true (subst IsSome (get_or_past numbers state None above) some))
    ]

ten_kept : (state : ℕ) → IsReachable ten state → IsSome (new_number numbers state)
ten_kept _ Start = refl
ten_kept _ (Next state next before there) =
    let some = ten_kept state before in
    AllByRecursion-at (λ n. IsSome (new_number numbers n)) (states_of (instruction_at ten state)) next (each-at Onward 10 state ten_onward (inside state some) some) there

-- the place of a reachable state's instruction is its number
abbrev IsPlaced : ℕ → Type 0
IsPlaced state = IsSome (new_number numbers state) → new_number numbers state ≡ place (shape_of (instruction_at ten state))

ten_placed : Each IsPlaced 10
ten_placed = ((((((((((tt, λ _. refl), λ _. refl), λ _. refl), λ _. refl), λ _. refl), λ _. refl), λ _. refl), λ _. refl), λ _. refl), λ none. absurd (false≢true none))

placed : (state : ℕ) → IsReachable ten state → new_number numbers state ≡ place (shape_of (instruction_at ten state))
placed state reachable = let some = ten_kept state reachable in each-at IsPlaced 10 state ten_placed (inside state some) some

eight_placed : Each (λ number. place (shape_of (instruction_at eight number)) ≡ Some number) 8
eight_placed = ((((((((tt, refl), refl), refl), refl), refl), refl), refl), refl)

-- states 3 and 7 are of one class, and each other state is of its own
abbrev classes : List ℕ
classes = 0 ∷ 1 ∷ 2 ∷ 3 ∷ 4 ∷ 5 ∷ 6 ∷ 3 ∷ 8 ∷ 9 ∷ []

-- the least state of each number
abbrev lows : List ℕ
lows = 0 ∷ 1 ∷ 2 ∷ 3 ∷ 4 ∷ 5 ∷ 6 ∷ 8 ∷ []

ten_alike : Each (λ state. DoAlike ten classes state (slice_index classes state)) 10
ten_alike = ((((((((((tt, refl), refl), refl), refl), refl), refl), refl), refl), refl), refl)

stable : AreStable ten classes
stable state below = each-at (λ s. DoAlike ten classes s (slice_index classes s)) 10 state ten_alike below

ten_sound : Each (λ state. IsSound 10 (instruction_at ten state)) 10
ten_sound =
    ((((((((((tt, (omega arith, omega arith, tt)), (omega arith, omega arith)), (omega arith, omega arith)), omega arith), (omega arith, omega arith, omega arith)), (omega arith, omega arith)), omega arith), omega arith), omega arith), (omega arith, omega arith))

is_brain : IsBrain ten
is_brain = record {
  some = omega arith;
  few = omega arith;
  sound = λ state instruction at.
      let below : state < 10 = slice_get_within ten state instruction at in
      subst (IsSound 10) (get_or_from_slice_get ten state instruction (Drop 0) at) (each-at (λ s. IsSound 10 (instruction_at ten s)) 10 state ten_sound below);
}

class_of : Each (OfNumbered (λ state number. slice_index classes state ≡ slice_index lows number)) 10
class_of =
    let P : ℕ → ℕ → Type 0 = λ state number. slice_index classes state ≡ slice_index lows number in
    ((((((((((tt, it P 0 0 refl), it P 1 1 refl), it P 2 2 refl), it P 3 3 refl), it P 4 4 refl), it P 5 5 refl), it P 6 6 refl), it P 7 3 refl), it P 8 7 refl), λ number has. absurd (none-some number has))

-- the instruction at each number
abbrev Acts : ℕ → ℕ → Type 0
Acts state number = slice_get eight number ≡ Some (redirected (state_number (new_number numbers)) (instruction_at ten state))

ten_acts : Each (OfNumbered Acts) 10
ten_acts =
    ((((((((((tt, it Acts 0 0 refl), it Acts 1 1 refl), it Acts 2 2 refl), it Acts 3 3 refl), it Acts 4 4 refl), it Acts 5 5 refl), it Acts 6 6 refl), it Acts 7 3 refl), it Acts 8 7 refl), λ number has. absurd (none-some number has))

eight_onto : Each (λ number. (state : ℕ) × (new_number numbers state ≡ Some number)) 8
eight_onto = ((((((((tt, (0, refl)), (1, refl)), (2, refl)), (3, refl)), (4, refl)), (5, refl)), (6, refl)), (8, refl))

-- all eight can be reached
eight_one : IsReachable eight 1
eight_one = Next 0 1 Start (0, omega arith, refl)

eight_five : IsReachable eight 5
eight_five = Next 0 5 Start (1, omega arith, refl)

eight_two : IsReachable eight 2
eight_two = Next 5 2 eight_five (0, omega arith, refl)

eight_four : IsReachable eight 4
eight_four = Next 2 4 eight_two (1, omega arith, refl)

eight_reached : Each (IsReachable eight) 8
eight_reached =
    ((((((((tt, Start), eight_one), eight_two), Next 1 3 eight_one (0, omega arith, refl)), eight_four), eight_five), Next 4 6 eight_four (0, omega arith, refl)), Next 4 7 eight_four (1, omega arith, refl))

-- a state's number isn't above it, and below 7 each number is that of its own state
not_above : Each (OfNumbered (λ state number. (number < 8) × (number ≤ state))) 10
not_above =
    let P : ℕ → ℕ → Type 0 = λ state number. (number < 8) × (number ≤ state) in
    ((((((((((tt, it P 0 0 (omega arith, omega arith)), it P 1 1 (omega arith, omega arith)), it P 2 2 (omega arith, omega arith)), it P 3 3 (omega arith, omega arith)), it P 4 4 (omega arith, omega arith)), it P 5 5 (omega arith, omega arith)), it P 6 6 (omega arith, omega arith)), it P 7 3 (omega arith, omega arith)), it P 8 7 (omega arith, omega arith)), λ number has. absurd (none-some number has))

own : Each (λ number. new_number numbers number ≡ Some number) 7
own = (((((((tt, refl), refl), refl), refl), refl), refl), refl)

-- the ten states become these eight
pub ten_minimised : IsMinimised ten eight numbers
ten_minimised = record {
  each = refl;
  kept = ten_kept;
  dropped = λ state number has. numbered-at (λ s _. IsReachable ten s) ten_reached state number has;
  alike = λ a b first second equivalent. placed a first ∙ ap place (equivalent.bisimulation.shape a b equivalent.holds) ∙ sym (placed b second);
  merged = λ a b number has too.
      let P : ℕ → ℕ → Type 0 = λ state n. slice_index classes state ≡ slice_index lows n in
      class-equivalent ten classes is_brain stable a b (number-inside numbers a number has) (number-inside numbers b number too)
      (numbered-at P class_of a number has ∙ sym (numbered-at P class_of b number too));
  acts = λ state number has. numbered-at Acts ten_acts state number has;
  onto = λ number below. each-at (λ n. (state : ℕ) × (new_number numbers state ≡ Some n)) 8 number eight_onto below;
  reached = λ number below. each-at (IsReachable eight) 8 number eight_reached below;
  apart = λ a b equivalent.
      let within = equivalent.bisimulation.inside a b equivalent.holds in
      let P : ℕ → Type 0 = λ number. place (shape_of (instruction_at eight number)) ≡ Some number in
      same_Some a b (sym (each-at P 8 a eight_placed within.0) ∙ ap place (equivalent.bisimulation.shape a b equivalent.holds) ∙ each-at P 8 b eight_placed within.1);
  rising = λ lower upper a b less low high.
      let above = numbered-at (λ state number. (number < 8) × (number ≤ state)) not_above b upper high.has in
      let small : lower < 7 = omega (arith, above.0) in
      let at : a ≤ lower = low.least lower (each-at (λ number. new_number numbers number ≡ Some number) 7 lower own small) in
      omega (arith, above.1, at);
}
