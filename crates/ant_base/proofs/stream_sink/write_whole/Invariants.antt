-- a prefix of the piece was taken, and the rest is left; a stream that never fails took a byte each turn
use Rattle.std.proofs.Common.{◌≡◌, ◌≤◌, ◌+◌, true, length}
use Rattle.ant_base.specs.Streams.{TookUpTo}
use Rattle.ant_base.proofs.stream_sink.write_whole.Given as goal

abbrev pub invariant-loop-turn : goal.invariant-loop-turn
invariant-loop-turn g l = TookUpTo l.initial.system_log.bytes l.system_log.bytes (g.W.Write.contents l.initial.stream) (g.W.Write.contents l.stream) l.piece l.rest
    × (g.W.Writer.sure l.initial.stream ≡ true → (g.W.Writer.sure l.stream ≡ true) × (l._turn + length l.rest ≤ length l.piece))
