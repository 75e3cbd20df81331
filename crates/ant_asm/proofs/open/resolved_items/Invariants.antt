use Rattle.std.proofs.Common.{◌≡◌, ◌++◌, map, drop}
use Rattle.ant_asm.specs.Standing.{way_or_next}
use Rattle.ant_asm.specs.Inner.Scopes.{known_as}
use Rattle.ant_asm.specs.Inner.View.{flat_of, flat_resolved}
use Rattle.ant_asm.proofs.open.resolved_items.Given as goal

-- the items so far, followed by what the items that are left become, are all
abbrev pub invariant-loop-item : goal.invariant-loop-item
invariant-loop-item l =
    map flat_of l.made.items ++ map (flat_resolved (way_or_next (known_as l.names.entries))) (drop l.item-index l.items)
    ≡ map (flat_resolved (way_or_next (known_as l.names.entries))) l.items
