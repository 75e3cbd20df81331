use Rattle.std.proofs.Common.{◌≡◌, ◌+◌, List, sym, ◌∙◌, subst, arith}
use Rattle.ant_turn.specs.Minds.{minds_of}
use Rattle.cell_world.specs.Grid.{world_of}
use Rattle.match_run.specs.Inner.Alone.{moment_from}
use Rattle.break_view.specs.declared.breaks.Break.{Break}
use Rattle.break_view.specs.Inner.Rounds.{RoundEnds}
use Rattle.break_view.proofs.AfterRounds.{IsAfter-passed}
use Rattle.break_view.proofs.WatchedRounds.{watched-passed, watched-more, ends_stopped, ends_passed, ends_without}
use Rattle.break_view.proofs.stop.find_stop_from.Goals as goal
use Rattle.break_view.proofs.stop.find_stop_from.Goals.{After-is_some}

-- how the round ended, in terms of the list of breaks
ended : (c : After-is_some) → RoundEnds (minds_of c.args.brains) c.loop-round.stream.seed (moment_from c.loop-round.world c.loop-round.stream) c.args.breaks.now (c.loop-round.round + 1) c.stop_in_round-stop.result (moment_from c.stop_in_round-stop.new.world c.stop_in_round-stop.new.stream)
ended c =
    subst (λ (items : List Break). RoundEnds (minds_of c.args.brains) c.loop-round.stream.seed (moment_from c.loop-round.world c.loop-round.stream) items (c.loop-round.round + 1) c.stop_in_round-stop.result (moment_from c.stop_in_round-stop.new.world c.stop_in_round-stop.new.stream))
    c.items-items.ensures.list c.stop_in_round-stop.ensures.end

pub loop-round-init : goal.loop-round-init
loop-round-init c =
    watched-passed (minds_of c.args.brains) c.args.seed c.args.from (world_of c.args.world.now) c.args.breaks.now c.min-passed.result c.pass_rounds.new.world c.pass_rounds.new.stream c.score-score.result
    (omega (arith, c.min-passed.ensures, c.saturating_sub.ensures))
    (IsAfter-passed (minds_of c.args.brains) c.args.seed c.args.world.now c.from_seed-stream.result c.min-passed.result c.pass_rounds.new.world c.pass_rounds.new.stream c.from_seed-stream.ensures.seed c.from_seed-stream.ensures.place
    c.pass_rounds.ensures.moment c.pass_rounds.ensures.seed c.pass_rounds.ensures.place c.pass_rounds.ensures.fit)
    c.score-score.ensures.score

pub returns-then-is_some : goal.returns-then-is_some
returns-then-is_some c =
    ends_stopped c.loop-round.invariant c.args.rounds c.stop_in_round-stop.result _ (omega (arith, c.loop-round-test.true, c.min-passed.ensures, c.saturating_sub.ensures)) (omega (arith, c.loop-round-test.true)) (sym c.is_some.ensures ∙ c.if-is_some.true)
    (ended (goal.at.returns-then-is_some c).After-is_some)

pub loop-round-preserved : goal.loop-round-preserved
loop-round-preserved c =
    watched-more c.loop-round.invariant c.stop_in_round-stop.new.world c.stop_in_round-stop.new.stream c.stop_in_round-stop.new.score
    (ends_passed c.loop-round.invariant c.stop_in_round-stop.result _ (sym c.is_some.ensures ∙ c.if-is_some.false) (ended (goal.at.loop-round-preserved c).After-is_some))
    c.stop_in_round-stop.ensures.seed c.stop_in_round-stop.ensures.place c.stop_in_round-stop.ensures.fit c.stop_in_round-stop.ensures.score

pub returns : goal.returns
returns c =
    let all : c.loop-round.round ≡ c.args.rounds = omega (arith, c.loop-round-test.false, c.loop-round.auto.round-end) in
    ends_without c.loop-round.invariant c.args.rounds all
