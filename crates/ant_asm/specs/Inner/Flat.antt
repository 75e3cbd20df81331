-- Programs as lists of bodies, in which a use names a body by its number.
use Rattle.std.specs.Prelude.{◌≡◌, ℕ, suc, ◌+◌, ◌<◌, ◌≤◌, List, [], ◌∷◌, ◌++◌, length, slice_index_or, slice_get, Some}
use Rattle.std.specs.List.{AllByRecursion}
use Rattle.ant_asm.specs.declared.action.Action.{Action}
use Rattle.ant_asm.specs.declared.action.Action.TheVariants.{Sense, Mark, Unmark, PickUp, Drop, Turn, Move, Flip}
use Rattle.ant_asm.specs.declared.action.Label.{Label}
use Rattle.ant_asm.specs.declared.action.Label.TheVariants.{Next, Place, Parameter}
use Rattle.ant_asm.specs.declared.body.Body.{Body}
use Rattle.ant_asm.specs.declared.body.Item.{Item}
use Rattle.ant_asm.specs.declared.expand.Frame.{Frame}
use Rattle.ant_asm.specs.declared.expand.Spot.{Spot}
use Rattle.ant_asm.specs.Program.{Items, size_of}
use Rattle.ant_asm.specs.Program.Items.{End, Do, Use}
use Rattle.ant_asm.specs.Inner.Emission.{Numbers, number_target, offset}

-- the most instructions
abbrev pub most : ℕ
most = 10000

-- the items of a body, if the blocks have these items
abbrev pub tree_of : List Items → List Item → Items
tree_of trees [] = End
tree_of trees (Item.Do action ∷ items) = Do action (tree_of trees items)
tree_of trees (Item.Use block handed ∷ items) = Use handed.items (slice_index_or trees block End) (tree_of trees items)

-- the items of all bodies: of the earlier ones, which are given, and then of these
abbrev pub trees_from : List Items → List Body → List Items
trees_from trees [] = trees
trees_from trees (body ∷ bodies) = trees_from (trees ++ tree_of trees body.items.items ∷ []) bodies

-- the items of each body
abbrev pub trees_of : List Body → List Items
trees_of bodies = trees_from [] bodies

-- the items of the body with this number
abbrev pub tree_at : List Body → ℕ → Items
tree_at bodies number = slice_index_or (trees_of bodies) number End

-- a label of a body with this many parameters and items leads somewhere
abbrev pub IsGoodLabel : ℕ → ℕ → Label → Type 0
IsGoodLabel parameters items Next = Unit {0}
IsGoodLabel parameters items (Place j) = j ≤ items
IsGoodLabel parameters items (Parameter i) = i < parameters

-- all labels of an instruction lead somewhere
abbrev pub IsGoodAction : ℕ → ℕ → Action Label → Type 0
IsGoodAction parameters items (Sense sight met unmet condition) =
    IsGoodLabel parameters items met × IsGoodLabel parameters items unmet
IsGoodAction parameters items (Mark i on) = IsGoodLabel parameters items on
IsGoodAction parameters items (Unmark i on) = IsGoodLabel parameters items on
IsGoodAction parameters items (PickUp met unmet) = IsGoodLabel parameters items met × IsGoodLabel parameters items unmet
IsGoodAction parameters items (Drop on) = IsGoodLabel parameters items on
IsGoodAction parameters items (Turn side on) = IsGoodLabel parameters items on
IsGoodAction parameters items (Move met unmet) = IsGoodLabel parameters items met × IsGoodLabel parameters items unmet
IsGoodAction parameters items (Flip bound met unmet) =
    IsGoodLabel parameters items met × IsGoodLabel parameters items unmet

-- An item of the body with this number is good. All its labels lead somewhere. If it is a use, it uses an earlier body,
-- and it has a label for each parameter of that body.
abbrev pub IsGoodItem : List Body → ℕ → ℕ → ℕ → Item → Type 0
IsGoodItem bodies number parameters items (Item.Do action) = IsGoodAction parameters items action
IsGoodItem bodies number parameters items (Item.Use block handed) =
    (block < number) × AllByRecursion (IsGoodLabel parameters items) handed.items
    × ((body : Body) → slice_get bodies block ≡ Some body → length handed.items ≡ body.parameters)

-- the items of the body with this number are good, and the body knows where each of them starts
pub record IsGood (bodies : List Body) (number : ℕ) (body : Body) : Type 0 where
  pub items : AllByRecursion (IsGoodItem bodies number body.parameters (length body.items.items)) body.items.items
  pub starts : (k : ℕ) → k ≤ length body.items.items
      → slice_get body.starts.items k ≡ Some (offset k (tree_at bodies number))
  pub counted : length body.starts.items ≡ suc (length body.items.items)
  pub short : length body.items.items ≤ most
  pub few : size_of (tree_at bodies number) ≤ most

-- all bodies are good
pub record AreGood (bodies : List Body) : Type 0 where
  pub each : (number : ℕ) (body : Body) → slice_get bodies number ≡ Some body → IsGood bodies number body

-- a number is a place of the body with this number
abbrev pub IsPlace : List Body → ℕ → ℕ → Type 0
IsPlace bodies number place = (body : Body) → slice_get bodies number ≡ Some body → place ≤ length body.items.items

-- a number is the place of an item of the body with this number
abbrev pub IsPlaceOfItem : List Body → ℕ → ℕ → Type 0
IsPlaceOfItem bodies number place =
    (body : Body) → slice_get bodies number ≡ Some body → place < length body.items.items

-- a label is one of the body with this number
abbrev pub IsLabelOf : List Body → ℕ → Label → Type 0
IsLabelOf bodies number label =
    (body : Body) → slice_get bodies number ≡ Some body → IsGoodLabel body.parameters (length body.items.items) label

-- all labels of an instruction are labels of the body with this number
abbrev pub IsActionOf : List Body → ℕ → Action Label → Type 0
IsActionOf bodies number action =
    (body : Body) → slice_get bodies number ≡ Some body → IsGoodAction body.parameters (length body.items.items) action

-- these labels are labels of the body with this number
abbrev pub AreLabelsOf : List Body → ℕ → List Label → Type 0
AreLabelsOf bodies number labels =
    (body : Body) → slice_get bodies number ≡ Some body
    → AllByRecursion (IsGoodLabel body.parameters (length body.items.items)) labels

-- a frame has a number for each parameter of the body
abbrev pub HasGiven : List Body → ℕ → Frame → Type 0
HasGiven bodies number frame =
    (body : Body) → slice_get bodies number ≡ Some body → length frame.given.now ≡ body.parameters

-- the numbers of a frame
abbrev pub numbers_of : Frame → Numbers
numbers_of frame = record { base = frame.base; after = frame.after; given = frame.given.now }

-- a spot is at an item of a body in use, and all instructions of that body have numbers
pub record IsSpot (spot : Spot) : Type 0 where
  pub good : AreGood spot.bodies.now
  pub known : spot.number < length spot.bodies.now
  pub inside : IsPlaceOfItem spot.bodies.now spot.number spot.place
  pub small : spot.place < most
  pub given : HasGiven spot.bodies.now spot.number spot.frame
  pub fits : spot.frame.base + size_of (tree_at spot.bodies.now spot.number) ≤ most

-- the number to which a label of the item leads
abbrev pub number_led : Spot → Label → ℕ
number_led spot label = number_target (tree_at spot.bodies.now spot.number) (numbers_of spot.frame) spot.place label
