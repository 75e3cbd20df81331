use Rattle.std.proofs.Common.{◌≡◌, Some, None, refl, sym, ◌∙◌}
use Rattle.ant_turn.proofs.Checks.{is_surrounded-none, is_surrounded-some}
use Rattle.ant_turn.specs.Sheet.{sheet_of}
use Rattle.ant_turn.proofs.kills.surrounded.Goals as goal

pub returns-in_default-clause-surrounded : goal.returns-in_default-clause-surrounded
returns-in_default-clause-surrounded g c =
    let w = g.G.Ground.world c.args.ground.now in
    let nobody : (w.cells c.args.p).ant ≡ None = rw (← c.cell_at-cell.ensures.content) c.in_default.is in
    sym (is_surrounded-none (sheet_of c.args.sheet) w.cells c.args.p nobody)

pub has_foes-requires-clause-here : goal.has_foes-requires-clause-here
has_foes-requires-clause-here g c = rw (c.cell_at-cell.ensures.world, ← c.cell_at-cell.ensures.content) c.in-Some.is

pub returns-clause-surrounded : goal.returns-clause-surrounded
returns-clause-surrounded g c =
    let w = g.G.Ground.world c.args.ground.now in
    let is : (w.cells c.args.p).ant ≡ Some c.in-Some.ant = rw (← c.cell_at-cell.ensures.content) c.in-Some.is in
    sym (is_surrounded-some (sheet_of c.args.sheet) w.cells c.args.p c.in-Some.ant is ∙ rw (← c.cell_at-cell.ensures.world, ← c.surround.ensures, ← c.has_foes.ensures.foes) refl)
