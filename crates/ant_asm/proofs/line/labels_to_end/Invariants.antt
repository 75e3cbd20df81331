use Rattle.std.proofs.Common.{◌≡◌, ◌-◌}
use Rattle.ant_asm.specs.Lines.{most_parameters}
use Rattle.ant_asm.specs.Inner.Reading.{read_label, take_all}
use Rattle.ant_asm.specs.Inner.ReadLine.{all_before, labels_seen}
use Rattle.ant_asm.proofs.line.labels_to_end.Given as goal

-- the labels so far, before those that are left
abbrev pub invariant-loop-k : goal.invariant-loop-k
invariant-loop-k l = all_before (labels_seen l.labels.items) (take_all read_label (most_parameters - l._k) l.tokens) ≡ take_all read_label most_parameters l.initial.tokens
