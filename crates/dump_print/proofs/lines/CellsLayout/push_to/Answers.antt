-- the lines are the same text, cut elsewhere
use Rattle.std.proofs.Common.{sym, subst, arith}
use Rattle.cell_world.specs.Grid.{world_of}
use Rattle.ant_base.specs.Sink.{Pushed}
use Rattle.dump_print.proofs.Breaks.{cells_text-broken}
use Rattle.dump_print.proofs.lines.CellsLayout.push_to.Goals as goal

pub returns : goal.returns
returns g c = subst (λ t. Pushed (g.K.Sink.state c.args.sink.now) (g.K.Sink.state c.push_to.new.sink) t c.push_to.result) (sym (cells_text-broken (world_of c.args.self.now.0.now) (omega (arith, c.width.ensures.world.valid.wide)) (omega (arith, c.width.ensures.world.valid.tall)))) c.push_to.ensures
