-- Two instructions are one, or not: an instruction is made again from its numbers, and two lists of numbers are one or
-- not.
use Rattle.std.proofs.Common.{◌≡◌, ◌⊎◌, inl, inr, ℕ, List, [], ◌∷◌, slice_index, refl, sym, ◌∙◌, ap, ap₂}
use Rattle.std.proofs.lemmas.Bool.{both_ways, cases_Bool}
use Rattle.std.proofs.lemmas.Slice.Eq.{bytes_eq-Decides}
use Rattle.std.specs.Str.{bytes_eq}
use Rattle.hex_geometry.specs.declared.direction.Side.{Side}
use Rattle.hex_geometry.specs.declared.neighbourhood.Sight.{Sight}
use Rattle.brain_read.specs.Inner.Places.{place_of_side, place_of_sight}
use Rattle.brain_read.specs.Places.{condition_word_at, form_at, side_at, sight_at}
use Rattle.brain_read.specs.declared.form.ConditionWord.{ConditionWord}
use Rattle.brain_read.specs.declared.form.Form.{Form}
use Rattle.brain_read.specs.declared.instr.Cond.{Cond}
use Rattle.brain_read.specs.declared.instr.Cond.TheVariants.{Friend, Foe, FriendWithFood, FoeWithFood, Food, Rock, Marker, FoeMarker, Home, FoeHome}
use Rattle.brain_read.specs.declared.instr.Instr.{Instr}
use Rattle.brain_read.specs.declared.instr.Instr.TheVariants.{Sense, Mark, Unmark, PickUp, Drop, Turn, Move, Flip}
use Rattle.brain_read.proofs.FormsLemmas.{side_at-place_of_side, sight_at-place_of_sight}

-- a condition is its word, by the place of the word in its table, and its marker
abbrev numbers_of_condition : Cond → ℕ × ℕ
numbers_of_condition Friend = (0, 0)
numbers_of_condition Foe = (1, 0)
numbers_of_condition FriendWithFood = (2, 0)
numbers_of_condition FoeWithFood = (3, 0)
numbers_of_condition Food = (4, 0)
numbers_of_condition Rock = (5, 0)
numbers_of_condition (Marker i) = (6, i)
numbers_of_condition FoeMarker = (7, 0)
numbers_of_condition Home = (8, 0)
numbers_of_condition FoeHome = (9, 0)

abbrev condition_of : ConditionWord → ℕ → Cond
condition_of ConditionWord.Friend i = Friend
condition_of ConditionWord.Foe i = Foe
condition_of ConditionWord.FriendWithFood i = FriendWithFood
condition_of ConditionWord.FoeWithFood i = FoeWithFood
condition_of ConditionWord.Food i = Food
condition_of ConditionWord.Rock i = Rock
condition_of ConditionWord.Marker i = Marker i
condition_of ConditionWord.FoeMarker i = FoeMarker
condition_of ConditionWord.Home i = Home
condition_of ConditionWord.FoeHome i = FoeHome

condition_of-numbers : (c : Cond) → condition_of (condition_word_at (numbers_of_condition c).0) (numbers_of_condition c).1 ≡ c
condition_of-numbers Friend = refl
condition_of-numbers it = refl

-- the numbers of an instruction: the place of its word, its parameters and its states
abbrev numbers_of : Instr → List ℕ
numbers_of (Sense sight met unmet c) = 0 ∷ place_of_sight sight ∷ met ∷ unmet ∷ (numbers_of_condition c).0 ∷ (numbers_of_condition c).1 ∷ []
numbers_of (Mark i next) = 1 ∷ i ∷ next ∷ []
numbers_of (Unmark i next) = 2 ∷ i ∷ next ∷ []
numbers_of (PickUp met unmet) = 3 ∷ met ∷ unmet ∷ []
numbers_of (Drop next) = 4 ∷ next ∷ []
numbers_of (Turn side next) = 5 ∷ place_of_side side ∷ next ∷ []
numbers_of (Move met unmet) = 6 ∷ met ∷ unmet ∷ []
numbers_of (Flip bound met unmet) = 7 ∷ bound ∷ met ∷ unmet ∷ []

-- and the instruction of these numbers
abbrev instruction_as : Form → List ℕ → Instr
instruction_as Form.Sense ns = Sense (sight_at (slice_index ns 1)) (slice_index ns 2) (slice_index ns 3) (condition_of (condition_word_at (slice_index ns 4)) (slice_index ns 5))
instruction_as Form.Mark ns = Mark (slice_index ns 1) (slice_index ns 2)
instruction_as Form.Unmark ns = Unmark (slice_index ns 1) (slice_index ns 2)
instruction_as Form.PickUp ns = PickUp (slice_index ns 1) (slice_index ns 2)
instruction_as Form.Drop ns = Drop (slice_index ns 1)
instruction_as Form.Turn ns = Turn (side_at (slice_index ns 1)) (slice_index ns 2)
instruction_as Form.Move ns = Move (slice_index ns 1) (slice_index ns 2)
instruction_as Form.Flip ns = Flip (slice_index ns 1) (slice_index ns 2) (slice_index ns 3)

abbrev instruction_of : List ℕ → Instr
instruction_of ns = instruction_as (form_at (slice_index ns 0)) ns

instruction_of-numbers : (x : Instr) → instruction_of (numbers_of x) ≡ x
instruction_of-numbers (Sense sight met unmet c) = ap₂ (λ (s : Sight) (k : Cond). Sense s met unmet k) (sight_at-place_of_sight sight) (condition_of-numbers c)
instruction_of-numbers (Turn side next) = ap (λ (s : Side). Turn s next) (side_at-place_of_side side)
instruction_of-numbers it = refl

-- two instructions are one, or not
pub cases_instruction : (a b : Instr) → (a ≡ b) ⊎ (a ≡ b → ⊥)
cases_instruction a b =
    let told = bytes_eq-Decides (numbers_of a) (numbers_of b) in
    elim (cases_Bool (bytes_eq (numbers_of a) (numbers_of b))) [
      | inl same ↦ inl (sym (instruction_of-numbers a) ∙ ap instruction_of (told.0 same) ∙ instruction_of-numbers b)
      | inr differ ↦ inr (λ one. both_ways (bytes_eq (numbers_of a) (numbers_of b)) differ (told.1 (ap numbers_of one)))
    ]
