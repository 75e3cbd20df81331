-- What is known of a game that is just played, when its sink failed: used, so that definitions that say less are
-- refused here.
use Rattle.std.proofs.Common.{◌≡◌, ◌+◌, ◌<◌, ◌≤◌, true, inl, inr, arith}
use Rattle.ant_base.specs.Sink.{PushedAll, PushedFront, SinkState}
use Rattle.ant_turn.specs.Rounds.{after_rounds}
use Rattle.cell_world.specs.Grid.{world_of}
use Rattle.cell_world.specs.Score.{score_of}
use Rattle.dump_print.specs.Texts.{dump_text, score_text}
use Rattle.match_run.specs.Later.{later_dumps}
use Rattle.match_run.specs.Alone.{GameAloneValue, standing}
use Rattle.match_run.specs.Stopped.{LosesDump, LosesScore, LosesText}

module _ (old new : GameAloneValue) (sink new_sink : SinkState) where
  -- of three rounds that are all dumped the sink failed at one: the game is after that round, where the rules lead, and
  -- the dumps before it were pushed
  loses_dump_used : (lost : LosesDump old new 3 (λ _. true) sink new_sink) →
      (lost.shown < 3) × (new.done ≡ old.done + (lost.shown + 1)) × (standing new ≡ after_rounds old.minds old.seed (standing old) (lost.shown + 1))
      × PushedAll sink lost.mid (later_dumps old.minds old.seed (λ _. true) (standing old) old.done lost.shown)
      × PushedFront lost.mid new_sink (dump_text (world_of new.world) new.done)
  loses_dump_used lost = (lost.left, lost.played.done, lost.played.now, lost.before, lost.failed)

  -- at the score it is after all three rounds, all of whose dumps were pushed
  loses_score_used : (lost : LosesScore old new 3 (λ _. true) sink new_sink) →
      (new.done ≡ old.done + 3) × (standing new ≡ after_rounds old.minds old.seed (standing old) 3)
      × PushedAll sink lost.mid (later_dumps old.minds old.seed (λ _. true) (standing old) old.done 3)
      × PushedFront lost.mid new_sink (score_text (score_of (world_of new.world)))
  loses_score_used lost = (lost.played.done, lost.played.now, lost.before, lost.failed)

  -- and either of both happened: a game whose sink failed was played on by one to three rounds, with the brains and the
  -- seed that it had
  loses_text_used : LosesText old new 3 (λ _. true) sink new_sink → (old.done + 1 ≤ new.done) × (new.done ≤ old.done + 3) × (new.minds ≡ old.minds) × (new.seed ≡ old.seed)
  loses_text_used (inl lost) =
      let done : new.done ≡ old.done + (lost.shown + 1) = lost.played.done in
      let left : lost.shown < 3 = lost.left in
      (omega (arith, done), omega (arith, done, left), lost.played.minds, lost.played.seed)
  loses_text_used (inr lost) =
      let done : new.done ≡ old.done + 3 = lost.played.done in
      (omega (arith, done), omega (arith, done), lost.played.minds, lost.played.seed)
