-- The addresses of a labelled program's instructions, and the addresses to which their labels lead (this project's
-- own).
use Rattle.std.specs.Prelude.{ℕ, suc, List, [], ◌∷◌, ◌++◌, map, Option, Some, None, slice_index_or}
use Rattle.ant_asm.specs.declared.action.Action.{Action}
use Rattle.ant_asm.specs.declared.action.Action.TheVariants.{Drop}
use Rattle.ant_asm.specs.declared.action.Label.{Label}
use Rattle.ant_asm.specs.declared.action.Label.TheVariants.{Next, Place, Parameter}
use Rattle.ant_asm.specs.Program.{Items, from_place}
use Rattle.ant_asm.specs.Program.Items.{End, Do, Use}

-- an address: a place in main, then a place in the block that is used there, and so on, down to an instruction
abbrev pub Address : Type 0
Address = List ℕ

-- The addresses of the instructions of these items, in order. The first item is the k-th of its body, and `path` leads
-- to that body.
abbrev pub places_of : Items → Address → ℕ → List Address
places_of End path k = []
places_of (Do action others) path k = (path ++ k ∷ []) ∷ places_of others path (suc k)
places_of (Use handed block others) path k = places_of block (path ++ k ∷ []) 0 ++ places_of others path (suc k)

-- The address of the first instruction of these items. If they have no instruction, it is `after`, the address of what
-- follows their body. The first item is the k-th of its body, and `path` leads to that body.
abbrev pub first_of : Items → Address → ℕ → Address → Address
first_of End path k after = after
first_of (Do action others) path k after = path ++ k ∷ []
first_of (Use handed block others) path k after = first_of block (path ++ k ∷ []) 0 (first_of others path (suc k) after)

-- A use of a body: the path of the use, the address of what follows it, and the addresses to which the labels lead that
-- are given for the body's parameters.
pub record Frame : Type 0 where
  pub path : Address
  pub after : Address
  pub given : List Address

-- The address of the first instruction from the k-th item of a body on. It is in the item itself, or in the block that
-- the item uses. At the body's end it is the address of what follows the body's use.
abbrev pub first_at : Items → Frame → ℕ → Address
first_at items frame k = first_of (from_place k items) frame.path k frame.after

-- Where a label of the k-th item of a body leads: to the next item, or to a place of the body. A parameter leads to
-- where the label leads that is given for it.
abbrev pub target : Items → Frame → ℕ → Label → Address
target items frame k Next = first_at items frame (suc k)
target items frame k (Place j) = first_at items frame j
target items frame k (Parameter i) = slice_index_or frame.given i frame.after

-- the frame of a block that the k-th item of a body uses
abbrev pub inner : Items → Frame → ℕ → List Label → Frame
inner items frame k handed = record {
  path = frame.path ++ k ∷ [];
  after = first_at items frame (suc k);
  given = map (target items frame k) handed;
}

-- an instruction at an address, and where its labels lead
pub record Placed : Type 0 where
  pub action : Action Label
  pub target : Label → Address

-- The instruction to which an address leads. The address has led to the k-th item of a body so far, and only the rest
-- of it is given. `items` has all items of the body, and the last argument has those from the k-th on.
abbrev pub placed_from : Address → Items → Frame → ℕ → Items → Option Placed
placed_from [] items frame k End = None
placed_from [] items frame k (Do action others) = Some (record { action = action; target = target items frame k })
placed_from [] items frame k (Use handed block others) = None
placed_from (j ∷ address) items frame k End = None
placed_from (j ∷ address) items frame k (Do action others) = None
placed_from (j ∷ address) items frame k (Use handed block others) =
    placed_from address block (inner items frame k handed) j (from_place j block)

-- main's first instruction
unfoldable pub beginning : Items → Address
beginning main = first_of main [] 0 []

-- main's frame: what follows main is its beginning
abbrev pub main_frame : Items → Frame
main_frame main = record { path = []; after = beginning main; given = [] }

-- the instruction at an address of a program
abbrev pub placed_at : Items → Address → Option Placed
placed_at main [] = None
placed_at main (k ∷ address) = placed_from address main (main_frame main) k (from_place k main)

-- the addresses of all instructions of a program, in order
abbrev pub places : Items → List Address
places main = places_of main [] 0

-- an instruction at an address; for an address that leads to none, one that drops food and goes to main's beginning
abbrev pub placed_or_first : Items → Option Placed → Placed
placed_or_first main (Some placed) = placed
placed_or_first main None = record { action = Drop Next; target = λ label. beginning main }

-- the instruction at an address, and where its labels lead
unfoldable pub placed : Items → Address → Placed
placed main address = placed_or_first main (placed_at main address)
