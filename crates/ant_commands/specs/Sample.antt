-- The task's sample brain (the task's neurology).
use Rattle.std.specs.Prelude.{List, [], ◌∷◌}
use Rattle.hex_geometry.specs.declared.direction.Side.TheVariants.{Left, Right}
use Rattle.hex_geometry.specs.declared.neighbourhood.Sight.TheVariants.{Ahead}
use Rattle.brain_read.specs.declared.instr.Cond.TheVariants.{Food, Home}
use Rattle.brain_read.specs.declared.instr.Instr.{Instr}
use Rattle.brain_read.specs.declared.instr.Instr.TheVariants.{Sense, PickUp, Drop, Turn, Move, Flip}

-- the task's sample brain: states 0 to 7 look for food and take it, states 8 to 15 bring it home
unfoldable pub sample_brain : List Instr
sample_brain =
    Sense Ahead 1 3 Food ∷
    Move 2 0 ∷
    PickUp 8 0 ∷
    Flip 3 4 5 ∷
    Turn Left 0 ∷
    Flip 2 6 7 ∷
    Turn Right 0 ∷
    Move 0 3 ∷
    Sense Ahead 9 11 Home ∷
    Move 10 8 ∷
    Drop 0 ∷
    Flip 3 12 13 ∷
    Turn Left 8 ∷
    Flip 2 14 15 ∷
    Turn Right 8 ∷
    Move 8 11 ∷ []
