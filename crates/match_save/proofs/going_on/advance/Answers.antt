use Rattle.std.proofs.Common.{◌≡◌, ◌-◌, IfOk, subst, arith}
use Rattle.cell_world.specs.Grid.{IsWorld}
use Rattle.match_save.specs.Saved.{SavedValue}
use Rattle.match_save.proofs.PlayedSaves.{can_be_saved_later, saved_later}
use Rattle.match_save.proofs.going_on.advance.Goals as goal

pub save_of-requires : goal.save_of-requires
save_of-requires g c =
    can_be_saved_later c.args.saved.now c.round.ensures.saved c.args.rounds (c.args.rounds - c.round.result) (omega (arith, c.round.ensures.round, c.requires.left)) c.in_ok-game.game c.play_rounds.new.game c.in_ok-game.ensures c.in_ok-play_rounds.ensures.played
    (subst IsWorld c.world.ensures c.lemma_valid.ensures.world) c.requires.few_rounds

pub returns-clause-saved : goal.returns-clause-saved
returns-clause-saved g c =
    subst (λ (value : SavedValue). IfOk c.save_of.result (λ later. later ≡ value))
    (saved_later c.args.saved.now c.round.ensures.saved c.args.rounds (c.args.rounds - c.round.result) (omega (arith, c.round.ensures.round, c.requires.left)) c.in_ok-game.game c.play_rounds.new.game c.in_ok-game.ensures c.in_ok-play_rounds.ensures.played
    (subst IsWorld c.world.ensures c.lemma_valid.ensures.world))
    c.save_of.ensures
