-- the rounds lead where those of the rules do, and each world was looked at
use Rattle.std.proofs.Common.{◌≡◌, ℕ, ◌+◌, ◌∙◌, ap, arith}
use Rattle.ant_turn.specs.Minds.{minds_of}
use Rattle.ant_turn.specs.Rounds.{after_rounds}
use Rattle.match_run.specs.Game.{GoesOnFor, now_of}
use Rattle.match_run.proofs.PlayLemmas.{GoesOnFor-more}
use Rattle.sample_caller.specs.Played.{sample_seed}
use Rattle.sample_caller.specs.Watched.{is_laden}
use Rattle.sample_caller.proofs.Openings.{Fits-opened}
use Rattle.sample_caller.proofs.Seen.{MeetsNone-more, begun-world, laden-shown}
use Rattle.sample_caller.proofs.watched.first_laden.Goals as goal

pub new-requires-clause-fit : goal.new-requires-clause-fit
new-requires-clause-fit c =
    Fits-opened c.args.world (minds_of c.args.brains) c.requires.opening c.lemma_valid.ensures.sound.red.some c.lemma_valid.ensures.sound.black.some

pub returns-then-is_laden : goal.returns-then-is_laden
returns-then-is_laden c =
    let minds = minds_of c.args.brains in
    let game = c.begin-game.result in
    let done = c.loop-done.done in
    let on : GoesOnFor game c.round.new.self (done + 1) = GoesOnFor-more c.loop-done.invariant.at c.round.new.self c.in_ok-round.ensures.played in
    let seen = laden-shown on c.args.id c.world.result.now c.is_laden.result c.world.ensures c.is_laden.ensures in
    let begun : (round : ℕ) → is_laden c.args.id _ ≡ is_laden c.args.id _ = λ round.
    ap (is_laden c.args.id) (begun-world game c.in_ok-field.field _ c.args.world minds sample_seed round c.begin-game.ensures c.in_ok-field.ensures) in (
      omega arith,
      omega (arith, c.loop-done-test.true),
      begun (done + 1) ∙ seen ∙ c.if-is_laden.true,
      λ round low high. begun round ∙ c.loop-done.invariant.none round low (omega (arith, high)),
    )

pub loop-done-preserved : goal.loop-done-preserved
loop-done-preserved c =
    let game = c.begin-game.result in
    let on : GoesOnFor game c.round.new.self (c.loop-done.done + 1) = GoesOnFor-more c.loop-done.invariant.at c.round.new.self c.in_ok-round.ensures.played in
    record {
      at = on;
      none = MeetsNone-more (λ round. is_laden c.args.id (after_rounds game.field.minds game.field.seed (now_of game) round).world) c.loop-done.done c.loop-done.invariant.none
          (laden-shown on c.args.id c.world.result.now c.is_laden.result c.world.ensures c.is_laden.ensures ∙ c.if-is_laden.false);
    }

pub returns : goal.returns
returns c =
    let minds = minds_of c.args.brains in
    let game = c.begin-game.result in
    λ round low high.
    ap (is_laden c.args.id) (begun-world game c.in_ok-field.field _ c.args.world minds sample_seed round c.begin-game.ensures c.in_ok-field.ensures)
    ∙ c.loop-done.invariant.none round low (omega (arith, high, c.loop-done-test.false))
