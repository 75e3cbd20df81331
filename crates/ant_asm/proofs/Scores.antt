-- The score of an assembled brain's game is the labelled game's.
use Rattle.std.proofs.Common.{◌≡◌, List, refl, ap, ◌∙◌}
use Rattle.cell_world.specs.declared.ant.Colour.{Colour}
use Rattle.cell_world.specs.Score.{hill_food_of, score_of}
use Rattle.ant_turn.specs.Rounds.{Moment}
use Rattle.ant_asm.specs.Places.{Address}
use Rattle.ant_asm.specs.LabelGame.{LabelMoment}
use Rattle.ant_asm.specs.Match.{ScoresLabelled, label_game, numbered_moment}
use Rattle.ant_asm.proofs.LabelGames.{game_labelled}

-- numbers for addresses change no score
score_of-numbered : (list : List Address) (side : Colour) (m : LabelMoment) → score_of (numbered_moment list side m).world ≡ score_of m.world
unfolding score_of hill_food_of
score_of-numbered list side m = refl

pub scores_labelled : ScoresLabelled
scores_labelled main brain list assembled side minds seed width height kinds r sound valid =
    ap (λ (m : Moment). score_of m.world) (game_labelled main brain list assembled side minds seed width height kinds r sound valid)
    ∙ score_of-numbered list side (label_game main side minds seed width height kinds r)
