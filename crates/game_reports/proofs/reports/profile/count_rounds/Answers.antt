use Rattle.std.proofs.Common.{◌≡◌, ℕ, List, [], ap, ap₂, subst}
use Rattle.ant_turn.specs.Minds.{minds_of}
use Rattle.ant_turn.specs.Rounds.{Moment, start_of}
use Rattle.cell_world.specs.Grid.{world_of}
use Rattle.match_run.specs.Told.{from_round, told_in_rounds}
use Rattle.match_run.specs.Watch.{moment_of}
use Rattle.game_reports.specs.declared.executed.Executed.{Executed}
use Rattle.game_reports.specs.Inner.Tallies.{AreTallied}
use Rattle.game_reports.specs.Profile.{executed_in, executed_in_rounds}
use Rattle.game_reports.proofs.CountFair.{counts-fair}
use Rattle.game_reports.proofs.reports.profile.count_rounds.Goals as goal

pub watch_rounds-watched-requires-clause-fair : goal.watch_rounds-watched-requires-clause-fair
watch_rounds-watched-requires-clause-fair c = counts-fair c.args.plan.from (minds_of c.args.brains)

pub returns : goal.returns
unfolding executed_in_rounds
returns c =
    let minds = minds_of c.args.brains in
    let s = c.from_seed-stream.result in
    let w = world_of c.args.world in
    let start : moment_of w s ≡ start_of w = ap (λ (place : ℕ). let m : Moment = record { world = w; place = place } in m) c.from_seed-stream.ensures.place in
    let told : told_in_rounds (from_round c.args.plan.from (λ _. executed_in minds s.seed)) minds s.seed (moment_of w s) c.args.plan.rounds ≡ executed_in_rounds minds c.args.plan.seed w c.args.plan.rounds c.args.plan.from =
    ap₂ (λ (seed : ℕ) (m : Moment). told_in_rounds (from_round c.args.plan.from (λ _. executed_in minds seed)) minds seed m c.args.plan.rounds) c.from_seed-stream.ensures.seed start in
    subst (λ (list : List Executed). AreTallied minds list c.watch_rounds-watched.new.log.tallies) told (c.watch_rounds-watched.ensures.logged.1 minds [] c.requires.none)
