-- Labelled programs: bodies of items, labels, and the blocks that are used (this project's own).
use Rattle.std.specs.Prelude.{ℕ, zero, suc, ◌+◌, List}
use Rattle.ant_asm.specs.declared.action.Action.{Action}
use Rattle.ant_asm.specs.declared.action.Label.{Label}

-- The items of a body, in order: main's, or a block's. A use has the labels that are given for the block's parameters,
-- and the items of the block.
pub data Items : Type 0 where
  End : Items
  Do : Action Label → Items → Items
  Use : (handed : List Label) → (block : Items) → (others : Items) → Items

-- the items from the k-th on
abbrev pub from_place : ℕ → Items → Items
from_place zero items = items
from_place (suc k) End = End
from_place (suc k) (Do action others) = from_place k others
from_place (suc k) (Use handed block others) = from_place k others

-- how many instructions the items expand to
abbrev pub size_of : Items → ℕ
size_of End = 0
size_of (Do action others) = suc (size_of others)
size_of (Use handed block others) = size_of block + size_of others
