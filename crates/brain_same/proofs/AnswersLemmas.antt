-- Lists of answers: their order by number, the states to which they lead, and the instructions on the way.
use Rattle.std.proofs.Common.{◌≡◌, inl, inr, ℕ, zero, suc, ◌+◌, ◌*◌, ◌<◌, ◌≤◌, Bool, true, false, List, [], ◌∷◌, ◌++◌, length, slice_get, Option, Some, None, unwrap_or, refl, sym, ap, ap₂, ◌∙◌, subst, arith}
use Rattle.std.specs.Prelude.{option_and_then, option_map}
use Rattle.std.specs.List.{AllByRecursion}
use Rattle.std.proofs.lemmas.Bool.{cases_order}
use Rattle.std.proofs.lemmas.Option.{none-some, option_and_then_some, same_Some}
use Rattle.brain_read.specs.declared.instr.Instr.{Instr}
use Rattle.brain_read.specs.declared.instr.Instr.TheVariants.{Sense, Mark, Unmark, PickUp, Drop, Turn, Move, Flip}
use Rattle.brain_read.specs.Grammar.{states_of}
use Rattle.brain_read.specs.Soundness.{IsBrain}
use Rattle.ant_turn.specs.Renumber.{redirected}
use Rattle.ant_turn.specs.Turn.{instruction_at}
use Rattle.brain_minimise.specs.Equivalence.{shape_of}
use Rattle.brain_minimise.proofs.RedirectedLemmas.{successors-below}
use Rattle.brain_same.specs.Answers.{IsMetFirst, IsNoLater, led_to, next_by}
use Rattle.brain_same.specs.Answers.IsNoLater.{IsShorter, IsAsLong}

-- the number of a list of answers, if the list before it has this number: they are numbered in their order
unfoldable pub branch : Bool → ℕ → ℕ
branch true n = 2 * n + 1
branch false n = 2 * n + 2

abbrev pub number_from : List Bool → ℕ → ℕ
number_from [] = λ n. n
number_from (met ∷ answers) = λ n. number_from answers (branch met n)

abbrev pub number : List Bool → ℕ
number answers = number_from answers 0

-- a further answer
branch-between : (met : Bool) (n : ℕ) → (2 * n < branch met n) × (branch met n < 2 * n + 3)
unfolding branch
branch-between true n = (omega arith, omega arith)
branch-between false n = (omega arith, omega arith)

-- one list after another
pub number_from-append : (answers others : List Bool) (n : ℕ) → number_from (answers ++ others) n ≡ number_from others (number_from answers n)
number_from-append [] others n = refl
number_from-append (met ∷ answers) others n = number_from-append answers others (branch met n)

-- one answer after a list
pub number-next : (answers : List Bool) (met : Bool) → (2 * number answers < number (answers ++ met ∷ [])) × (number (answers ++ met ∷ []) < 2 * number answers + 3)
number-next answers met =
    subst (λ k. (2 * number answers < k) × (k < 2 * number answers + 3)) (sym (number_from-append answers (met ∷ []) 0)) (branch-between met (number answers))

-- the met answer is first
pub number-met : (answers : List Bool) → number (answers ++ true ∷ []) ≡ 2 * number answers + 1
unfolding branch
number-met answers = number_from-append answers (true ∷ []) 0

pub number-unmet : (answers : List Bool) → number (answers ++ false ∷ []) ≡ 2 * number answers + 2
unfolding branch
number-unmet answers = number_from-append answers (false ∷ []) 0

-- no further answer has a lower number
pub number_from-least : (answers : List Bool) (n : ℕ) → n ≤ number_from answers n
number_from-least [] n = omega arith
number_from-least (met ∷ answers) n =
    let rest = number_from-least answers (branch met n) in
    let more = branch-between met n in
    omega arith

-- what is no longer and begins lower has a lower number
pub number_from-lower : (answers others : List Bool) (n m : ℕ) → length answers ≤ length others → n < m → number_from answers n < number_from others m
number_from-lower [] others n m short less = let least = number_from-least others m in omega arith
number_from-lower (met ∷ answers) [] n m short less = absurd (omega arith)
number_from-lower (met ∷ answers) (too ∷ others) n m short less =
    let one = branch-between met n in
    let other = branch-between too m in
    number_from-lower answers others (branch met n) (branch too m) (omega arith) (omega arith)

-- a shorter list has a lower number
number_from-shorter : (answers others : List Bool) (n : ℕ) → length answers < length others → number_from answers n < number_from others n
number_from-shorter answers [] n short = absurd (omega arith)
number_from-shorter answers (met ∷ others) n short =
    let more = branch-between met n in
    number_from-lower answers others n (branch met n) (omega arith) (omega arith)

-- of two of one length, the one of the lower number has met where they part
IsMetFirst-number : (answers others : List Bool) (n : ℕ) → length answers ≡ length others → number_from answers n ≤ number_from others n → IsMetFirst answers others
unfolding branch
IsMetFirst-number (met ∷ answers) [] n long low = absurd (omega arith)
IsMetFirst-number (true ∷ answers) (true ∷ others) n long low = IsMetFirst-number answers others (branch true n) (omega arith) low
IsMetFirst-number (false ∷ answers) (true ∷ others) n long low =
    let more = number_from-lower others answers (branch true n) (branch false n) (omega arith) (omega arith) in
    let is : number_from answers (branch false n) ≤ number_from others (branch true n) = low in
    absurd (omega arith)
IsMetFirst-number (false ∷ answers) (false ∷ others) n long low = IsMetFirst-number answers others (branch false n) (omega arith) low
IsMetFirst-number it others n long low = tt

-- so the order is that of the numbers
pub IsNoLater-number : (answers others : List Bool) → number answers ≤ number others → IsNoLater answers others
IsNoLater-number answers others low =
    elim (cases_order (length answers) (length others)) [
      | inl same ↦ IsAsLong same (IsMetFirst-number answers others 0 same low)
      | inr differ ↦ elim differ [
        | inl less ↦ IsShorter less
        | inr more ↦ let lower = number_from-shorter others answers 0 more in absurd (omega arith)
      ]
    ]

-- the answers of an instruction whose states are mapped
pub next_by-redirected : (f : ℕ → ℕ) (x : Instr) (met : Bool) → next_by (redirected f x) met ≡ option_map f (next_by x met)
next_by-redirected f (Sense sight taken unmet condition) true = refl
next_by-redirected f (Sense sight taken unmet condition) false = refl
next_by-redirected f x true = refl
next_by-redirected f x false = refl

-- two options that are both there, or both not
pub data AreBoth (o p : Option ℕ) : Type 0 where
  Neither : o ≡ None → p ≡ None → AreBoth o p
  Both : (a b : ℕ) → o ≡ Some a → p ≡ Some b → AreBoth o p

AreBoth-mapped : (f : ℕ → ℕ) (o p : Option ℕ) → option_map f o ≡ option_map f p → AreBoth o p
AreBoth-mapped f None None same = Neither refl refl
AreBoth-mapped f (Some a) (Some b) same = Both a b refl refl
AreBoth-mapped f it that same = absurd (cc)

-- every state as state 0
abbrev to_zero : ℕ → ℕ
to_zero _ = 0

-- instructions of one shape have the same answers
next_by-shape : (x y : Instr) (met : Bool) → shape_of x ≡ shape_of y → option_map to_zero (next_by x met) ≡ option_map to_zero (next_by y met)
next_by-shape x y met same = sym (next_by-redirected to_zero x met) ∙ ap (λ z. next_by z met) same ∙ next_by-redirected to_zero y met

pub AreBoth-shape : (x y : Instr) (met : Bool) → shape_of x ≡ shape_of y → AreBoth (next_by x met) (next_by y met)
AreBoth-shape x y met same = AreBoth-mapped to_zero (next_by x met) (next_by y met) (next_by-shape x y met same)

-- what is alike of both successors is alike of what may be there
pub alike-next : {A : Type 0} (f g : ℕ → A) (x y : Instr) (met : Bool) → shape_of x ≡ shape_of y → ((a b : ℕ) → next_by x met ≡ Some a → next_by y met ≡ Some b → f a ≡ g b) →
    option_map f (next_by x met) ≡ option_map g (next_by y met)
alike-next f g x y met same each =
    elim (AreBoth-shape x y met same) [
      | Neither one other ↦ ap (option_map f) one ∙ sym (ap (option_map g) other)
      | Both a b one other ↦ ap (option_map f) one ∙ ap Some (each a b one other) ∙ sym (ap (option_map g) other)
    ]

-- an instruction of this shape with these successors
abbrev pub filled_by : Instr → Option ℕ → Option ℕ → Instr
filled_by (Sense sight taken unmet condition) o p = Sense sight (unwrap_or o 0) (unwrap_or p 0) condition
filled_by (Mark i next) o p = Mark i (unwrap_or o 0)
filled_by (Unmark i next) o p = Unmark i (unwrap_or o 0)
filled_by (PickUp taken unmet) o p = PickUp (unwrap_or o 0) (unwrap_or p 0)
filled_by (Drop next) o p = Drop (unwrap_or o 0)
filled_by (Turn side next) o p = Turn side (unwrap_or o 0)
filled_by (Move taken unmet) o p = Move (unwrap_or o 0) (unwrap_or p 0)
filled_by (Flip bound taken unmet) o p = Flip bound (unwrap_or o 0) (unwrap_or p 0)

redirected-filled_by : (f : ℕ → ℕ) (x : Instr) → redirected f x ≡ filled_by (shape_of x) (option_map f (next_by x true)) (option_map f (next_by x false))
redirected-filled_by f (Sense sight taken unmet condition) = refl
redirected-filled_by f it = refl

-- two of one shape whose successors have the same names are one with these names
pub redirected-alike : (f g : ℕ → ℕ) (x y : Instr) → shape_of x ≡ shape_of y → ((met : Bool) (a b : ℕ) → next_by x met ≡ Some a → next_by y met ≡ Some b → f a ≡ g b) →
    redirected f x ≡ redirected g y
redirected-alike f g x y same each =
    redirected-filled_by f x
    ∙ ap (λ z. filled_by z (option_map f (next_by x true)) (option_map f (next_by x false))) same
    ∙ ap₂ (filled_by (shape_of y)) (alike-next f g x y true same (each true)) (alike-next f g x y false same (each false))
    ∙ sym (redirected-filled_by g y)

-- a successor is a state of the brain
next_by-below : (P : ℕ → Type 0) (list : List ℕ) (k a : ℕ) → AllByRecursion P list → slice_get list k ≡ Some a → P a
next_by-below P [] k a all is = absurd (none-some a is)
next_by-below P (b ∷ list) zero a all is = subst P (same_Some b a is) all.0
next_by-below P (b ∷ list) (suc k) a all is = next_by-below P list k a all.1 is

pub next-inside : (brain : List Instr) (state : ℕ) (met : Bool) (a : ℕ) → IsBrain brain → state < length brain → next_by (instruction_at brain state) met ≡ Some a → a < length brain
next-inside brain state true a is_brain inside is = next_by-below (λ s. s < length brain) (states_of (instruction_at brain state)) 0 a (successors-below brain state is_brain inside) is
next-inside brain state false a is_brain inside is = next_by-below (λ s. s < length brain) (states_of (instruction_at brain state)) 1 a (successors-below brain state is_brain inside) is

-- a state to which answers lead is a state of the brain
pub led-inside : (brain : List Instr) (answers : List Bool) (state a : ℕ) → IsBrain brain → state < length brain → led_to brain answers state ≡ Some a → a < length brain
led-inside brain [] state a is_brain inside is = subst (λ s. s < length brain) (same_Some state a is) inside
led-inside brain (met ∷ answers) state a is_brain inside is =
    option_and_then_some (led_to brain answers) (next_by (instruction_at brain state) met) a is
    (λ next leads on. led-inside brain answers next a is_brain (next-inside brain state met next is_brain inside leads) on)

-- one more answer
pub led-more : (brain : List Instr) (answers : List Bool) (met : Bool) (state a b : ℕ) → led_to brain answers state ≡ Some a → next_by (instruction_at brain a) met ≡ Some b → led_to brain (answers ++ met ∷ []) state ≡ Some b
led-more brain [] met state a b is next =
    ap (option_and_then (λ s. Some s)) (ap (λ s. next_by (instruction_at brain s) met) (same_Some state a is) ∙ next)
led-more brain (answer ∷ answers) met state a b is next =
    option_and_then_some (led_to brain answers) (next_by (instruction_at brain state) answer) a is
    (λ s leads on. ap (option_and_then (led_to brain (answers ++ met ∷ []))) leads ∙ led-more brain answers met s a b on next)

-- the shapes of the instructions on the way, the last one too
abbrev pub shapes_along : List Instr → List Bool → ℕ → List Instr
shapes_along brain [] = λ state. shape_of (instruction_at brain state) ∷ []
shapes_along brain (met ∷ answers) = λ state.
    shape_of (instruction_at brain state) ∷ unwrap_or (option_map (shapes_along brain answers) (next_by (instruction_at brain state) met)) []

same_first : {A : Type 0} (a b : A) (left right : List A) → a ∷ left ≡ b ∷ right → a ≡ b
same_first a b left right same = cc

same_rest : {A : Type 0} (a b : A) (left right : List A) → a ∷ left ≡ b ∷ right → left ≡ right
same_rest a b left right same = cc

-- if all shapes are the same, so is the last one
pub last-shape : (first second : List Instr) (answers : List Bool) (x y a b : ℕ) → shapes_along first answers x ≡ shapes_along second answers y → led_to first answers x ≡ Some a → led_to second answers y ≡ Some b →
    shape_of (instruction_at first a) ≡ shape_of (instruction_at second b)
last-shape first second [] x y a b same one other =
    ap (λ s. shape_of (instruction_at first s)) (sym (same_Some x a one))
    ∙ same_first (shape_of (instruction_at first x)) (shape_of (instruction_at second y)) [] [] same
    ∙ ap (λ s. shape_of (instruction_at second s)) (same_Some y b other)
last-shape first second (met ∷ answers) x y a b same one other =
    option_and_then_some (led_to first answers) (next_by (instruction_at first x) met) a one (λ s leads on.
    option_and_then_some (led_to second answers) (next_by (instruction_at second y) met) b other (λ t leads_too on_too.
    last-shape first second answers s t a b
    (sym (ap (λ o. unwrap_or (option_map (shapes_along first answers) o) []) leads)
    ∙ same_rest _ _ (unwrap_or (option_map (shapes_along first answers) (next_by (instruction_at first x) met)) []) (unwrap_or (option_map (shapes_along second answers) (next_by (instruction_at second y) met)) []) same
    ∙ ap (λ o. unwrap_or (option_map (shapes_along second answers) o) []) leads_too)
    on on_too))
