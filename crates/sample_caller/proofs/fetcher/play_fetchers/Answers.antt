-- a minimised brain has the scores of the brain
use Rattle.std.proofs.Common.{◌∙◌, ap}
use Rattle.ant_turn.specs.Minds.{Minds}
use Rattle.ant_turn.specs.Sheet.{Sheet}
use Rattle.cell_world.specs.Grid.{world_of}
use Rattle.cell_world.specs.Score.{score_of}
use Rattle.match_run.specs.Run.{world_after}
use Rattle.sample_caller.specs.Fetcher.{fetcher}
use Rattle.sample_caller.specs.Played.{sample_seed}
use Rattle.sample_caller.proofs.Openings.{Fits-opened, score-of-both, some-minimised}
use Rattle.sample_caller.proofs.fetcher.play_fetchers.Goals as goal

pub play_score-requires-clause-fit : goal.play_score-requires-clause-fit
play_score-requires-clause-fit c =
    let small = c.args.small.now in
    let some = some-minimised fetcher small.brain small.map c.requires.minimised in
    Fits-opened c.args.world _ c.requires.opening some some

pub returns : goal.returns
returns c =
    let small = c.args.small.now in
    let minds : Sheet → Minds = λ sheet. record { red = small.brain; black = small.brain; sheet = sheet } in
    c.play_score.ensures
    ∙ ap (λ (sheet : Sheet). score_of (world_after (minds sheet) sample_seed (world_of c.args.world) c.args.rounds)) c.contest.ensures
    ∙ score-of-both c.args.world fetcher small.brain small.map sample_seed c.args.rounds c.requires.opening c.requires.minimised
