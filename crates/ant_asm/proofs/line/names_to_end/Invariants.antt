use Rattle.std.proofs.Common.{◌≡◌, ◌-◌}
use Rattle.ant_asm.specs.Lines.{most_parameters}
use Rattle.ant_asm.specs.Inner.Reading.{read_name, take_all}
use Rattle.ant_asm.specs.Inner.ReadLine.{all_before, names_seen}
use Rattle.ant_asm.proofs.line.names_to_end.Given as goal

-- the names so far, before those that are left
abbrev pub invariant-loop-k : goal.invariant-loop-k
invariant-loop-k l = all_before (names_seen l.names.items) (take_all read_name (most_parameters - l._k) l.tokens) ≡ take_all read_name most_parameters l.initial.tokens
