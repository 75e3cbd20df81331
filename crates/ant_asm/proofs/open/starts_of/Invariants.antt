use Rattle.std.proofs.Common.{◌≡◌, ◌++◌, map, drop}
use Rattle.ant_asm.specs.Inner.View.{start_of}
use Rattle.ant_asm.proofs.open.starts_of.Given as goal

-- the starts so far, before those of the items that are left
abbrev pub invariant-loop-item : goal.invariant-loop-item
invariant-loop-item l = l.starts.items ++ map start_of (drop l.item-index l.items) ≡ map start_of l.items
