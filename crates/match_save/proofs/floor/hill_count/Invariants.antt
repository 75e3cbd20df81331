use Rattle.std.proofs.Common.{◌≡◌, ◌+◌, ◌≤◌, drop}
use Rattle.match_save.specs.State.{hill_count}
use Rattle.match_save.proofs.floor.hill_count.Given as goal

-- those that were counted, and those that are left
abbrev pub invariant-loop-soil : goal.invariant-loop-soil
invariant-loop-soil l = (l.count + hill_count (drop l.soil-index l.soils) ≡ hill_count l.soils) × (l.count ≤ l.soil-index)
