use Rattle.std.proofs.Common.{◌≡◌, ◌++◌, map, drop}
use Rattle.ant_asm.specs.Inner.Flat.{number_led}
use Rattle.ant_asm.proofs.expand.handed_numbers.Given as goal

-- the numbers so far, before those of the labels that are left
abbrev pub invariant-loop-label : goal.invariant-loop-label
invariant-loop-label l =
    l.numbers.items ++ map (number_led l.spot) (drop l.label-index l.handed) ≡ map (number_led l.spot) l.handed
