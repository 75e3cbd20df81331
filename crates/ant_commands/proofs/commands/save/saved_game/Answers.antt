-- the game that was played is saved
use Rattle.std.proofs.Common.{◌≡◌, subst, refl, true, None, IfOk}
use Rattle.ant_turn.specs.Minds.{AreSound, minds_of}
use Rattle.cell_world.specs.Grid.{IsWorld}
use Rattle.match_run.specs.GameLaws.{IsAtRound}
use Rattle.match_save.specs.Saved.{SavedValue}
use Rattle.match_save.proofs.PlayedSaves.{can_be_saved, saved_at}
use Rattle.round_book.specs.Book.{FieldValue}
use Rattle.ant_commands.proofs.commands.save.saved_game.Goals as goal

pub save_of-requires : goal.save_of-requires
save_of-requires g c =
    let field : FieldValue = record { world = c.args.world; minds = minds_of c.args.brains; seed = c.args.plan.now.seed; place = 0; whole = true; lent = None } in
    let at = subst (λ (f : FieldValue). IsAtRound f c.args.plan.now.window c.args.plan.now.rounds c.in_ok-game.game) c.in_ok-field.ensures c.in_ok-game.ensures in
    can_be_saved field c.args.plan.now.window c.args.plan.now.rounds c.in_ok-game.game at (subst IsWorld c.world.ensures c.lemma_valid.ensures.world) refl c.requires.narrow c.requires.opened.kinds c.requires.opened.plan c.requires.opened.is
    (subst (λ (f : FieldValue). AreSound f.minds) c.field.ensures.field c.brains.ensures.sound)

pub returns : goal.returns
returns g c =
    let field : FieldValue = record { world = c.args.world; minds = minds_of c.args.brains; seed = c.args.plan.now.seed; place = 0; whole = true; lent = None } in
    let at = subst (λ (f : FieldValue). IsAtRound f c.args.plan.now.window c.args.plan.now.rounds c.in_ok-game.game) c.in_ok-field.ensures c.in_ok-game.ensures in
    subst (λ (value : SavedValue). IfOk c.save_of.result (λ saved. saved ≡ value)) (saved_at field c.args.plan.now.window c.args.plan.now.rounds c.in_ok-game.game at (subst IsWorld c.world.ensures c.lemma_valid.ensures.world)) c.save_of.ensures
