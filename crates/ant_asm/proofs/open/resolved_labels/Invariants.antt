use Rattle.std.proofs.Common.{◌≡◌, ◌++◌, map, drop}
use Rattle.ant_asm.specs.declared.spelling.Source.{Source}
use Rattle.ant_asm.specs.Standing.{way_or_next}
use Rattle.ant_asm.specs.Inner.Reading.{seen}
use Rattle.ant_asm.specs.Inner.Scopes.{known_as}
use Rattle.ant_asm.proofs.open.resolved_labels.Given as goal

-- the labels so far, followed by what the labels that are left become, are all
abbrev pub invariant-loop-label : goal.invariant-loop-label
invariant-loop-label l =
    l.made.items ++ map (λ (label : Source). way_or_next (known_as l.names.entries) (seen label)) (drop l.label-index l.labels)
    ≡ map (λ (label : Source). way_or_next (known_as l.names.entries) (seen label)) l.labels
