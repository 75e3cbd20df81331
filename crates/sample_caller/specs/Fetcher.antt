-- A brain that is built from instructions (this project's own; a small one of the task's neurology).
use Rattle.std.specs.Prelude.{List, [], ◌∷◌}
use Rattle.hex_geometry.specs.declared.direction.Side.TheVariants.{Left}
use Rattle.hex_geometry.specs.declared.neighbourhood.Sight.TheVariants.{Here}
use Rattle.brain_read.specs.declared.instr.Cond.TheVariants.{Home}
use Rattle.brain_read.specs.declared.instr.Instr.{Instr}
use Rattle.brain_read.specs.declared.instr.Instr.TheVariants.{Sense, PickUp, Drop, Turn, Move}

-- it leaves food at home, takes it elsewhere, and turns at the end of the way; states 3 and 5 do the same
unfoldable pub fetcher : List Instr
fetcher =
    Sense Here 1 2 Home ∷
    Drop 3 ∷
    PickUp 5 3 ∷
    Move 0 4 ∷
    Turn Left 3 ∷
    Move 0 4 ∷ []
