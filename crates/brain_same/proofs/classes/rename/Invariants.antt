use Rattle.std.proofs.Common.{◌≡◌, ◌++◌, map}
use Rattle.std.specs.Prelude.{take, drop}
use Rattle.brain_same.specs.Inner.Classes.{renamed}
use Rattle.brain_same.proofs.classes.rename.Given as goal

abbrev pub invariant-loop-state : goal.invariant-loop-state
invariant-loop-state l = l.classes ≡ map (renamed l.from l.to) (take l.state l.initial.classes) ++ drop l.state l.initial.classes
