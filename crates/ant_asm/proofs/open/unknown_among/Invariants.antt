use Rattle.std.proofs.Common.{◌≡◌, List, drop}
use Rattle.ant_asm.specs.Program.{Items}
use Rattle.ant_asm.specs.Standing.{unknown_in}
use Rattle.ant_asm.specs.Inner.Scopes.{known_as}
use Rattle.ant_asm.specs.Inner.View.{open_items}
use Rattle.ant_asm.proofs.open.unknown_among.Given as goal

-- the first is among the items that are left
abbrev pub invariant-loop-item : goal.invariant-loop-item
invariant-loop-item l = (trees : List Items) → unknown_in (known_as l.names.entries) (open_items trees (drop l.item-index l.items)) ≡ unknown_in (known_as l.names.entries) (open_items trees l.items)
