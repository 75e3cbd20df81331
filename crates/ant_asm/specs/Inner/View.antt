-- What the code has read so far, as the state above a line.
use Rattle.std.specs.Prelude.{◌≡◌, ◌⊎◌, ℕ, ◌+◌, ◌<◌, ◌≤◌, List, [], ◌∷◌, ◌++◌, length, map, Option, Some, None, slice_get, slice_index_or}
use Rattle.brain_read.specs.Forms.{IsInRange}
use Rattle.ant_asm.specs.declared.action.Action.{Action}
use Rattle.ant_asm.specs.declared.action.Label.{Label}
use Rattle.ant_asm.specs.declared.body.Body.{Body}
use Rattle.ant_asm.specs.declared.body.Item as code_item
use Rattle.ant_asm.specs.declared.fault.AsmFault.{AsmFault}
use Rattle.ant_asm.specs.declared.fault.AsmFault.TheVariants.{OutOfMemory}
use Rattle.ant_asm.specs.declared.open.OpenBody.{OpenBody}
use Rattle.ant_asm.specs.declared.open.OpenItem.{OpenItem}
use Rattle.ant_asm.specs.declared.open.OpenKind.{OpenKind}
use Rattle.ant_asm.specs.Program.{Items, size_of}
use Rattle.ant_asm.specs.Program.Items.{End}
use Rattle.ant_asm.specs.LabelGame.{instruction_by}
use Rattle.ant_asm.specs.Names.{Named}
use Rattle.ant_asm.specs.Standing.{Draft, Item, ItemLine, mapped, parameter_names, way_or_next}
use Rattle.ant_asm.specs.Standing.Item.{Instruction, Call}
use Rattle.ant_asm.specs.Inner.Flat.{IsGoodLabel, most, tree_at}
use Rattle.ant_asm.specs.Inner.Reading.{seen}
use Rattle.ant_asm.specs.Inner.ReadLine.{labels_seen}
use Rattle.ant_asm.specs.Inner.Scopes.{known_as}

-- a result's fault is this one, or out of memory
abbrev pub FailsWith : AsmFault → Option AsmFault → Type 0
FailsWith fault is = (is ≡ Some fault) ⊎ (fault ≡ OutOfMemory)

-- an item with names, if the blocks have these items
abbrev pub kind_seen : List Items → OpenKind → Item
kind_seen trees (OpenKind.Do action) = Instruction (mapped seen action)
kind_seen trees (OpenKind.Use block handed) = Call (labels_seen handed.items) (slice_index_or trees block End)

abbrev pub open_item : List Items → OpenItem → ItemLine
open_item trees item = record { line = item.line; item = kind_seen trees item.kind }

abbrev pub open_items : List Items → List OpenItem → List ItemLine
open_items trees items = map (open_item trees) items

-- a body that is being read
abbrev pub open_seen : List Items → OpenBody → Draft
open_seen trees draft = record {
  parameters = draft.parameters;
  meaning = known_as draft.names.entries;
  items = open_items trees draft.items.items;
  size = draft.size;
}

-- an item; if it is a use, it names its block by the block's number
pub data Flat : Type 0 where
  Acts : Action Label → Flat
  Puts : (block : ℕ) → (handed : List Label) → Flat

abbrev pub flat_of : code_item.Item → Flat
flat_of (code_item.Item.Do action) = Acts action
flat_of (code_item.Item.Use block handed) = Puts block handed.items

-- an item with the meanings of its labels
abbrev pub flat_kind : (Named → Label) → OpenKind → Flat
flat_kind way (OpenKind.Do action) = Acts (mapped (λ label. way (seen label)) action)
flat_kind way (OpenKind.Use block handed) = Puts block (map (λ label. way (seen label)) handed.items)

abbrev pub flat_resolved : (Named → Label) → OpenItem → Flat
flat_resolved way item = flat_kind way item.kind

abbrev pub start_of : OpenItem → ℕ
start_of item = item.start

-- how many parameters the block with a number has
abbrev pub parameters_in : Option Body → ℕ
parameters_in None = 0
parameters_in (Some body) = body.parameters

-- An item is an instruction whose numbers are in their ranges, or a use of an existing block with a label for each of
-- its parameters. It expands to this many instructions.
abbrev pub IsGoodKind : List Body → ℕ → OpenKind → Type 0
IsGoodKind bodies size (OpenKind.Do action) = IsInRange (instruction_by (λ label. 0) (mapped seen action)) × (size ≡ 1)
IsGoodKind bodies size (OpenKind.Use block handed) =
    (block < length bodies) × (length handed.items ≡ parameters_in (slice_get bodies block))
    × (size ≡ size_of (tree_at bodies block)) × (1 ≤ size)

-- Items are good, and each starts where the one before it ends. `before` instructions precede them, and at their end
-- `all` instructions have been counted.
abbrev pub AreGoodItems : List Body → ℕ → List OpenItem → ℕ → Type 0
AreGoodItems bodies before [] all = before ≡ all
AreGoodItems bodies before (item ∷ items) all =
    (size : ℕ) × IsGoodKind bodies size item.kind × (item.start ≡ before)
    × AreGoodItems bodies (before + size) items all

-- a body that is being read is good
pub record IsGoodOpen (bodies : List Body) (draft : OpenBody) : Type 0 where
  pub items : AreGoodItems bodies 0 draft.items.items draft.size
  pub names : (name : List ℕ) (label : Label) → known_as draft.names.entries name ≡ Some label
      → IsGoodLabel draft.parameters (length draft.items.items) label
  pub few : draft.size ≤ most

-- a body has these parameters and nothing else
pub record IsNew (named : List (List ℕ)) (draft : OpenBody) : Type 0 where
  pub parameters : draft.parameters ≡ length named
  pub names : known_as draft.names.entries ≡ parameter_names 0 named
  pub items : draft.items.items ≡ []
  pub size : draft.size ≡ 0

-- A body that was read is closed. Each label has the meaning that it has in the body. The body knows where each of its
-- items starts.
pub record IsClosedAs (draft : OpenBody) (body : Body) : Type 0 where
  pub parameters : body.parameters ≡ draft.parameters
  pub items : map flat_of body.items.items
      ≡ map (flat_resolved (way_or_next (known_as draft.names.entries))) draft.items.items
  pub starts : body.starts.items ≡ map start_of draft.items.items ++ draft.size ∷ []
