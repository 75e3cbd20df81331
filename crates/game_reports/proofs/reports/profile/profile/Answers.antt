use Rattle.std.proofs.Common.{arith}
use Rattle.std.proofs.lemmas.Result.{err_from_is_err_and}
use Rattle.ant_turn.specs.Minds.{minds_of}
use Rattle.cell_world.specs.Grid.{world_of}
use Rattle.game_reports.proofs.TallyText.{none-few, profile_text-parts}
use Rattle.game_reports.proofs.reports.profile.profile.Goals as goal

pub count_rounds-tallies-requires-clause-few : goal.count_rounds-tallies-requires-clause-few
count_rounds-tallies-requires-clause-few g c = none-few (minds_of c.args.brains) c.in_ok-none.none _ c.in_ok-none.ensures (omega (arith, c.requires.few_rounds))

pub returns-in_err-push_profile : goal.returns-in_err-push_profile
returns-in_err-push_profile g c =
    let p = err_from_is_err_and c.from_residual-in_err-push_profile.result c.from_residual-in_err-push_profile.ensures.1 in
    rw (p.1, p.2, profile_text-parts (minds_of c.args.brains) c.args.plan.seed (world_of c.args.world) c.args.plan.rounds c.args.plan.from c.count_rounds-tallies.result c.count_rounds-tallies.ensures) c.in_err-push_profile.ensures

pub returns : goal.returns
returns g c =
    rw (profile_text-parts (minds_of c.args.brains) c.args.plan.seed (world_of c.args.world) c.args.plan.rounds c.args.plan.from c.count_rounds-tallies.result c.count_rounds-tallies.ensures) c.in_ok-push_profile.ensures
