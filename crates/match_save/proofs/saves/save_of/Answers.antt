use Rattle.std.proofs.Common.{◌≡◌, ◌≤◌, sym, ◌∙◌, ap, subst}
use Rattle.std.specs.List.{AllByRecursion}
use Rattle.ant_turn.specs.Minds.{AreSound, Fits, Minds, minds_of}
use Rattle.brain_read.specs.Forms.{HasBound}
use Rattle.cell_world.specs.declared.ant.PlacedAnt.{PlacedAnt}
use Rattle.cell_world.specs.Grid.{Grid, IsWorld, world_of}
use Rattle.match_save.specs.Draft.{IsHead}
use Rattle.match_save.specs.Saved.{IsSaved, living}
use Rattle.match_save.specs.Saves.{save_of}
use Rattle.match_save.specs.Inner.Made.{made_saved}
use Rattle.match_save.proofs.GameSaves.{IsKnownGame, IsSaved-game, made-game}
use Rattle.match_save.proofs.saves.save_of.Goals as goal
use Rattle.match_save.proofs.saves.save_of.Goals.{In_ok-world}
use Rattle.round_book.specs.Book.{FieldValue}

-- the brains and the world that were copied are the game's
minds-are : (c : In_ok-world) → minds_of c.brains-brains.result ≡ c.args.game.now.field.minds
minds-are c = c.brains-brains.ensures.brains ∙ ap (λ (f : FieldValue). f.minds) c.field-field.ensures.field

world-is : (c : In_ok-world) → c.world.result.now ≡ c.args.game.now.field.world
world-is c = c.world.ensures.world ∙ ap (λ (f : FieldValue). f.world) c.field-field.ensures.field

known : (c : In_ok-world) → IsKnownGame c.args.game.now
known c = record {
  kept = c.head_of-head.ensures.game;
  head = subst IsHead c.head_of-head.ensures.head c.head_of-head.ensures.form;
  world = subst IsWorld (world-is c) c.rests_are_short.ensures.world;
  sound = subst (λ (f : FieldValue). AreSound f.minds) c.field-field.ensures.field c.brains-brains.ensures.sound;
  fit = subst (λ (f : FieldValue). Fits (world_of f.world) f.minds) c.field-field.ensures.field c.world.ensures.fit;
  red_bounds = subst (λ (m : Minds). AllByRecursion HasBound m.red) (minds-are c) c.bounds_are_short.ensures;
  black_bounds = subst (λ (m : Minds). AllByRecursion HasBound m.black) (minds-are c) c.bounds_are_short-2.ensures;
  rests = subst (λ (g : Grid). AllByRecursion (λ (it : PlacedAnt). it.ant.resting ≤ 255) (living g g.ids)) (world-is c) c.rests_are_short.ensures.rests;
}

made : (c : In_ok-world) → made_saved c.head_of-head.result c.in_ok-red.red c.in_ok-black.black c.in_ok-world.world ≡ save_of c.args.game.now
made c =
    made-game c.args.game.now c.head_of-head.result c.in_ok-red.red c.in_ok-black.black c.in_ok-world.world c.requires c.head_of-head.ensures.game c.head_of-head.ensures.head
    (c.in_ok-red.ensures ∙ ap (λ (m : Minds). m.red) (minds-are c)) (c.in_ok-black.ensures ∙ ap (λ (m : Minds). m.black) (minds-are c))
    (c.in_ok-world.ensures ∙ c.world-2.ensures.world ∙ ap (λ (f : FieldValue). f.world) c.field-field.ensures.field)

pub of-requires-clause-saved : goal.of-requires-clause-saved
of-requires-clause-saved c = subst IsSaved (sym (made (goal.at.of-requires-clause-saved c).In_ok-world)) (IsSaved-game c.args.game.now c.requires (known (goal.at.of-requires-clause-saved c).In_ok-world))

pub returns : goal.returns
returns c = c.of.ensures ∙ made (goal.at.returns c).In_ok-world
