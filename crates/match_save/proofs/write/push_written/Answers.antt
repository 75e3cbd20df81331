use Rattle.std.proofs.Common.{List, ℕ, subst}
use Rattle.ant_base.specs.Sink.{Pushed}
use Rattle.ant_turn.specs.Minds.{minds_of}
use Rattle.match_save.proofs.WrittenTexts.{written-parts}
use Rattle.match_save.proofs.write.push_written.Goals as goal

pub returns : goal.returns
returns g c = subst (λ (t : List ℕ). Pushed (g.K.Sink.state c.args.sink.now) (g.K.Sink.state c.push_to.new.sink) t c.push_to.result)
    (written-parts c.args.saved.now c.head.result (minds_of c.brains-brains.result) c.world-world.result.now c.head.ensures c.brains-brains.ensures c.world-world.ensures.world) c.push_to.ensures
