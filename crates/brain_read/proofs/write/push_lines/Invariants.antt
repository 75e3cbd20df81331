use Rattle.std.proofs.Common.{take, flat_map}
use Rattle.std.specs.List.{AllByRecursion}
use Rattle.ant_base.specs.Sink.{PushedAll}
use Rattle.brain_read.specs.Forms.{HasBound}
use Rattle.brain_read.specs.Canonical.{instruction_text}
use Rattle.brain_read.proofs.write.push_lines.Given as goal

-- the lines so far were pushed, and their bounds are those of a u32
abbrev pub invariant-loop-instruction : goal.invariant-loop-instruction
invariant-loop-instruction g l =
    PushedAll (g.K.Sink.state l.initial.sink) (g.K.Sink.state l.sink) (flat_map instruction_text (take l.instruction-index l.list)) × AllByRecursion HasBound (take l.instruction-index l.list)
