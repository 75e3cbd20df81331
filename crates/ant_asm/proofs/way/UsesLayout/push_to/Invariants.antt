use Rattle.std.proofs.Common.{codes, drop}
use denote.Text.{Utf8}
use denote.Shadow.{shadow}
use Rattle.ant_asm.specs.StateLines.{uses_text}
use Rattle.ant_asm.specs.Inner.Ways.{steps_of}
use Rattle.ant_asm.proofs.LabelWalk.{IsToldTo}
use Rattle.ant_asm.proofs.way.UsesLayout.push_to.Given as goal

-- the uses so far were reported, and this is before the next
abbrev pub invariant-loop-level : goal.invariant-loop-level
invariant-loop-level g l = record {
  text : shadow (Utf8 l.before);
  told : IsToldTo (uses_text (codes " ") (steps_of l.level-items)) (uses_text l.before (steps_of (drop l.level-index l.level-items))) (g.K.Sink.state l.initial.sink) (g.K.Sink.state l.sink);
}
