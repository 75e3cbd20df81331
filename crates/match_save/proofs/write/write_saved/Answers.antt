use Rattle.std.proofs.Common.{subst}
use Rattle.ant_base.specs.Sink.{Pushed}
use Rattle.cell_world.specs.Grid.{IsWorld}
use Rattle.match_save.proofs.WrittenTexts.{saved-written}
use Rattle.match_save.proofs.write.write_saved.Goals as goal

pub returns : goal.returns
returns g c = record { pushed = subst (λ t. Pushed (g.K.Sink.state c.args.sink.now) (g.K.Sink.state c.push_written.new.sink) t c.push_written.result) (saved-written c.args.saved.now (subst IsWorld c.world-world.ensures.world c.width.ensures.world)) c.push_written.ensures }
