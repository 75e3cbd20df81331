use Rattle.std.proofs.Common.{◌+◌, drop}
use Rattle.ant_asm.specs.Labels.{labels_text}
use Rattle.ant_asm.specs.Labels.Outline.{Closed}
use Rattle.ant_asm.specs.Inner.Outlines.{lines_before, outline_at, outline_size, outlines_of, own_states}
use Rattle.ant_asm.specs.Inner.Ways.{steps_of}
use Rattle.ant_asm.proofs.LabelWalk.{AreTold}
use Rattle.ant_asm.proofs.labels.push_own.Given as goal

-- the labels so far were reported
abbrev pub invariant-loop-line : goal.invariant-loop-line
invariant-loop-line g l =
    AreTold (λ outline at. labels_text (own_states outline at l.after (steps_of l.way))) (labels_text (own_states (outline_at l.bodies l.number) l.base l.after (steps_of l.way))) (l.base + outline_size (outline_at l.bodies l.number))
    (lines_before (outlines_of l.bodies) (drop l.line-index l.line-items) Closed) l.at (g.K.Sink.state l.initial.sink) (g.K.Sink.state l.sink)
