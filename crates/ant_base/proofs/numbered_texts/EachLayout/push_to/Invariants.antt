use Rattle.ant_base.specs.Sink.{PushedAll}
use Rattle.ant_base.specs.Layout.{numbered}
use Rattle.ant_base.proofs.numbered_texts.EachLayout.push_to.Given as goal

abbrev pub invariant-loop-at : goal.invariant-loop-at
invariant-loop-at g l = PushedAll (g.K.Sink.state l.initial.sink) (g.K.Sink.state l.sink) (numbered (g.P.NumberedTexts.part l.self.0) l.at)
