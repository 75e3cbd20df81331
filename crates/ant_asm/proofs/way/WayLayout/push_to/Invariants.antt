use Rattle.std.proofs.Common.{drop}
use Rattle.ant_asm.specs.Labels.{way_text}
use Rattle.ant_asm.specs.Inner.Ways.{steps_of}
use Rattle.ant_asm.proofs.LabelWalk.{IsToldTo}
use Rattle.ant_asm.proofs.way.WayLayout.push_to.Given as goal

-- the uses so far were reported
abbrev pub invariant-loop-level : goal.invariant-loop-level
invariant-loop-level g l = IsToldTo (way_text (steps_of l.level-items)) (way_text (steps_of (drop l.level-index l.level-items))) (g.K.Sink.state l.initial.sink) (g.K.Sink.state l.sink)
