-- the first file that is refused ends it; otherwise the game of the three is played
use Rattle.std.proofs.Common.{◌∙◌, ap}
use Rattle.std.proofs.lemmas.Result.{err_from_is_err_and}
use Rattle.ant_turn.specs.Minds.{Minds}
use Rattle.ant_turn.specs.Sheet.{Sheet}
use Rattle.cell_world.specs.Grid.{world_of}
use Rattle.cell_world.specs.Score.{score_of}
use Rattle.match_run.specs.Run.{world_after}
use Rattle.sample_caller.specs.Played.{sample_seed}
use Rattle.sample_caller.specs.Played.PlaysFiles.{BlackRefused, Played, RedRefused, WorldRefused}
use Rattle.sample_caller.proofs.Openings.{Fits-opened, opening-read, some-read}
use Rattle.sample_caller.proofs.played.play.Goals as goal

pub returns-in_err-world : goal.returns-in_err-world
returns-in_err-world g c =
    let p = err_from_is_err_and c.from_residual.result c.from_residual.ensures.1 in
    rw (p.1, p.2) (WorldRefused _ c.in_err-world.ensures)

pub returns-in_err-red : goal.returns-in_err-red
returns-in_err-red g c =
    let p = err_from_is_err_and c.from_residual-in_err-red.result c.from_residual-in_err-red.ensures.1 in
    rw (p.1, p.2) (RedRefused _ _ _ c.in_ok-world.ensures c.in_err-red.ensures)

pub returns-in_err-black : goal.returns-in_err-black
returns-in_err-black g c =
    let p = err_from_is_err_and c.from_residual-in_err-black.result c.from_residual-in_err-black.ensures.1 in
    rw (p.1, p.2) (BlackRefused _ _ _ _ _ c.in_ok-world.ensures c.in_ok-red.ensures c.in_err-black.ensures)

pub play_score-requires-clause-fit : goal.play_score-requires-clause-fit
play_score-requires-clause-fit g c =
    Fits-opened c.in_ok-world.world _ (opening-read c.in_ok-world.ensures) (some-read c.in_ok-red.ensures) (some-read c.in_ok-black.ensures)

pub returns : goal.returns
returns g c =
    let minds : Sheet → Minds = λ sheet. record { red = c.in_ok-red.red; black = c.in_ok-black.black; sheet = sheet } in
    Played _ _ _ _ _ _ c.in_ok-world.ensures c.in_ok-red.ensures c.in_ok-black.ensures
    (c.play_score.ensures ∙ ap (λ (sheet : Sheet). score_of (world_after (minds sheet) sample_seed (world_of c.in_ok-world.world) c.args.rounds)) c.contest.ensures)
