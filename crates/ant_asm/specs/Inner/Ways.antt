-- The uses on the way to a body, as the code has them.
use Rattle.std.specs.Prelude.{List, map}
use Rattle.ant_asm.specs.declared.level.Level.{Level}
use Rattle.ant_asm.specs.Labels.{WayStep}

-- the use at which a body was left
abbrev pub step_of : Level → WayStep
step_of level = record { name = level.step.name.now; line = level.step.line }

-- the uses, in order
abbrev pub steps_of : List Level → List WayStep
steps_of levels = map step_of levels
