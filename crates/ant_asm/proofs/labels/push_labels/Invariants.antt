use Rattle.std.proofs.Common.{◌≡◌, []}
use Rattle.ant_asm.specs.Labels.{labels_text}
use Rattle.ant_asm.specs.Inner.Outlines.{all_states, main_of, outline_at}
use Rattle.ant_asm.specs.Inner.Walks.{IsWalk, labels_left, steps_left}
use Rattle.ant_asm.proofs.LabelWalk.{IsToldTo}
use Rattle.ant_asm.proofs.labels.push_labels.Given as goal

-- each step leaves less
abbrev pub decreases-loop-met : goal.decreases-loop-met
decreases-loop-met g l = steps_left l.walk

-- what is left to report
abbrev pub invariant-loop-met : goal.invariant-loop-met
invariant-loop-met g l = record {
  walk : IsWalk l.walk;
  bodies : l.walk.bodies.now ≡ l.bodies;
  told : IsToldTo (labels_text (all_states (outline_at l.bodies (main_of l.bodies)) 0 0 [])) (labels_text (labels_left l.walk)) (g.K.Sink.state l.fn.sink) (g.K.Sink.state l.sink);
}
