use Rattle.std.proofs.Common.{◌≡◌, drop}
use Rattle.ant_asm.specs.Standing.{parameter_names}
use Rattle.ant_asm.specs.Inner.ReadLine.{names_seen}
use Rattle.ant_asm.specs.Inner.Scopes.{known_as}
use Rattle.ant_asm.proofs.scope.add_parameters.Given as goal

-- the names of the parameters from here on
abbrev pub invariant-loop-i : goal.invariant-loop-i
invariant-loop-i l = known_as l.names.entries ≡ parameter_names l.i (drop l.i (names_seen l.parameters))
