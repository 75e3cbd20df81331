use Rattle.std.proofs.Common.{[]}
use Rattle.ant_asm.specs.StateLines.{state_lines_text}
use Rattle.ant_asm.specs.Inner.Outlines.{main_of, outline_at, told_lines}
use Rattle.ant_asm.specs.Inner.Walks.{IsWalk, lines_left, steps_left}
use Rattle.ant_asm.proofs.LabelWalk.{IsToldTo}
use Rattle.ant_asm.proofs.state_lines.push_lines.Given as goal

-- each step leaves less
abbrev pub decreases-loop-met : goal.decreases-loop-met
decreases-loop-met g l = steps_left l.walk

-- what is left to report
abbrev pub invariant-loop-met : goal.invariant-loop-met
invariant-loop-met g l = record {
  walk : IsWalk l.walk;
  told : IsToldTo (state_lines_text (told_lines (outline_at l.bodies (main_of l.bodies)) 0 [])) (state_lines_text (lines_left l.walk)) (g.K.Sink.state l.initial.sink) (g.K.Sink.state l.sink);
}
