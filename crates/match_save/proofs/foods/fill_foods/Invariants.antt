use Rattle.std.proofs.Common.{◌≡◌, drop}
use Rattle.match_save.specs.Inner.Answered.{behind}
use Rattle.match_save.specs.Inner.Reading.{read_foods}
use Rattle.match_save.proofs.foods.fill_foods.Given as goal

-- the foods that are left, after those that were read, are all foods
abbrev pub invariant-loop-cell : goal.invariant-loop-cell
invariant-loop-cell l =
    behind l.fn.foods.items (read_foods l.width 0 l.values l.fn.lines) ≡ behind l.foods.items (read_foods l.width l.cell (drop l.cell l.values) l.lines)
