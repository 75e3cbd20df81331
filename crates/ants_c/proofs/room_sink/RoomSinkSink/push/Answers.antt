use Rattle.std.proofs.Common.{arith}
use Rattle.ants_c.proofs.Overlaid.{laid_more}
use Rattle.ants_c.proofs.room_sink.RoomSinkSink.push.Goals as goal

-- the piece is laid after what was laid before
pub invariant_of-self : goal.invariant_of-self
invariant_of-self c = record {
  laid = rw (c.cover_from.ensures.laid, c.saturating_add-self.ensures, c.note.ensures) (laid_more _ _ _ _ c.args.self.now.laid (omega (c.cover_from.ensures.short, arith)));
}
