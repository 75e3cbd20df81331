-- the brains fit the world; and each look is after those before it
use Rattle.std.proofs.Common.{◌<◌, ◌-◌, ◌∙◌, ℕ, length, ap, subst, sym, arith, slice_index_or}
use Rattle.ant_turn.proofs.FitLemmas.{Fits-opening}
use Rattle.cell_world.specs.Grid.{world_of}
use Rattle.cell_world.specs.Score.{score_of}
use Rattle.match_run.specs.Alone.{IsPlayedOn}
use Rattle.ants_c.specs.Looked.{seen_ants}
use Rattle.ants_c.specs.Played.{game_score, seen_score}
use Rattle.ants_c.proofs.Looks.{ids_kept, look_more, looked_on, room_for, score_more}
use Rattle.ants_c.proofs.look.put_looks.Goals as goal

pub begin-game-requires : goal.begin-game-requires
begin-game-requires c =
    let start = c.requires.opening in
    record { fit = rw start.is (Fits-opening _ _ start.kinds _ c.requires.red c.requires.black) }

pub put_ants-requires : goal.put_ants-requires
put_ants-requires c =
    let setting = c.args.setting in
    let index = c.loop-index.index in
    let below : index < length c.args.rounds.now = c.loop-index-test.true in
    let played = subst (λ (n : ℕ). IsPlayedOn c.loop-index.game c.play_on.new.self (slice_index_or c.args.rounds.now index 0 - n)) c.done.ensures.done c.play_on.ensures in
    let on = looked_on setting.world setting.red setting.black c.args.seed c.args.rounds.now index c.loop-index.game c.play_on.new.self c.loop-index.invariant.0 below played in
    let kept = ids_kept setting.world setting.red setting.black c.args.seed c.play_on.new.self.world (slice_index_or c.args.rounds.now index 0) on.1 in
    let same = c.loop-index.auto.ants in
    let fits = c.requires.ants in
    record {
      fits = room_for setting.world index (length c.args.rounds.now) c.ant_count-ids.result c.loop-index.ants c.ant_count-ids.ensures.ids below (omega (arith, same, fits))
          ∙ sym kept ∙ ap (λ it. it.ids) (sym c.world-in-loop-index.ensures);
    }

pub loop-index-preserved : goal.loop-index-preserved
loop-index-preserved c =
    let setting = c.args.setting in
    let index = c.loop-index.index in
    let rounds = c.args.rounds.now in
    let below : index < length rounds = c.loop-index-test.true in
    let played = subst (λ (n : ℕ). IsPlayedOn c.loop-index.game c.play_on.new.self (slice_index_or rounds index 0 - n)) c.done.ensures.done c.play_on.ensures in
    let on = looked_on setting.world setting.red setting.black c.args.seed rounds index c.loop-index.game c.play_on.new.self c.loop-index.invariant.0 below played in
    let laid = c.loop-index.invariant.1 in
    let score = c.score-score.ensures.score ∙ ap (λ it. score_of (world_of it)) c.world.ensures ∙ ap score_of on.1 in
    let piece = c.put_ants.ensures ∙ ap (λ it. seen_ants (world_of it)) c.world-in-loop-index.ensures ∙ ap seen_ants on.1 in (
      on.0,
      record {
        scored = rw (laid.scored, ap seen_score score)
            (score_more (λ (round : ℕ). game_score setting.world setting.red setting.black round c.args.seed) rounds c.args.scores.now index below c.requires.scores);
        seen = rw (laid.seen, c.ant_count-ids.ensures.ids)
            (look_more setting.world setting.red setting.black c.args.seed rounds index c.args.ants.now c.put_ants.new.room below c.requires.ants piece);
      },
    )
