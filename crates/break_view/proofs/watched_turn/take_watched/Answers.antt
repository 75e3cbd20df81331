use Rattle.std.proofs.Common.{◌∙◌, sym, ap, subst, arith}
use Rattle.cell_world.specs.Grid.{world_of}
use Rattle.cell_world.specs.Score.{score_of}
use Rattle.cell_world.specs.World.{World}
use Rattle.ant_turn.specs.Minds.{Fits, minds_of}
use Rattle.break_view.specs.Inner.Watched.{TurnWatched}
use Rattle.break_view.proofs.IdleTurns.{idle-watched}
use Rattle.break_view.proofs.watched_turn.take_watched.Goals as goal

pub returns-then-is_idle : goal.returns-then-is_idle
returns-then-is_idle c =
    idle-watched (world_of c.args.world.now) c.args.score.now c.is_idle.ensures.world (c.is_idle.ensures.idle c.if-is_idle.true) c.take_turn-deed.ensures c.requires.score

pub returns : goal.returns
returns c =
    subst (λ (w : World). TurnWatched (minds_of c.args.brains) c.args.id w (world_of c.take_acting.new.world) c.args.stream.now c.take_acting.new.stream c.take_acting.new.score c.take_acting.result)
    c.is_idle.ensures.world c.take_acting.ensures

pub take_turn-deed-requires-clause-fit : goal.take_turn-deed-requires-clause-fit
take_turn-deed-requires-clause-fit c = subst (λ (w : World). Fits w (minds_of c.args.brains)) (sym c.is_idle.ensures.world) c.requires.fit

pub take_turn-deed-requires-clause-id : goal.take_turn-deed-requires-clause-id
take_turn-deed-requires-clause-id c = omega (arith, c.requires.id, ap (λ (w : World). w.ids) c.is_idle.ensures.world)

pub take_acting-requires-clause-fit : goal.take_acting-requires-clause-fit
take_acting-requires-clause-fit c = subst (λ (w : World). Fits w (minds_of c.args.brains)) (sym c.is_idle.ensures.world) c.requires.fit

pub take_acting-requires-clause-id : goal.take_acting-requires-clause-id
take_acting-requires-clause-id c = omega (arith, c.requires.id, ap (λ (w : World). w.ids) c.is_idle.ensures.world)

pub take_acting-requires-clause-score : goal.take_acting-requires-clause-score
take_acting-requires-clause-score c = c.requires.score ∙ ap score_of (sym c.is_idle.ensures.world)
