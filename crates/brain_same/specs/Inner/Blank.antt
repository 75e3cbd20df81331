-- A default step after the end of a list.
use Rattle.std.specs.Prelude.{[], true}
use Rattle.brain_same.specs.declared.way.Step.{Step}
use Rattle.brain_same.specs.Way.{step_of}

abbrev pub blank : Step
blank = step_of [] [] 0 0 true
