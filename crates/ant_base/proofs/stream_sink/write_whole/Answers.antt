use Rattle.std.proofs.Common.{◌≡◌, ◌≤◌, ◌+◌, List, ℕ, length, true, sym, subst, ◌∙◌}
use Rattle.ant_base.specs.Streams.{TookUpTo}
use Rattle.ant_base.proofs.Streams.{rest_left, some_left, took_more, took_none, write_first, write_next, write_some, write_took}
use Rattle.ant_base.proofs.stream_sink.write_whole.Goals as goal

pub loop-turn-init : goal.loop-turn-init
loop-turn-init g c = (took_none _ _ _, λ sure. (sure, write_first _))

pub loop-turn-preserved : goal.loop-turn-preserved
loop-turn-preserved g c =
    let n = c.in_ok-taken.taken in
    let rest = c.loop-turn.rest.now in
    let old = c.loop-turn.invariant in
    let told = sym c.taken_by.ensures ∙ c.in_ok-taken.was in
    let some = some_left rest c.is_empty.result c.is_empty.ensures c.if-is_empty.false in
    let took = took_more _ _ _ _ _ _ c.args.piece.now rest n old.0 c.note_bytes.ensures (write_took _ _ c.write_some.result rest n c.write_some.ensures.taken told) in
    subst
    (λ (left : List ℕ). TookUpTo c.args.system_log.now.bytes c.note_bytes.new.self.bytes (g.W.Write.contents c.args.stream.now) (g.W.Write.contents c.write_some.new.self) c.args.piece.now left
    × (g.W.Writer.sure c.args.stream.now ≡ true → (g.W.Writer.sure c.write_some.new.self ≡ true) × (c.loop-turn._turn + 1 + length left ≤ length c.args.piece.now)))
    (sym (rest_left n rest)) (
      took,
      λ sure.
          let before = old.1 sure in
          let on = c.write_some.ensures.sure before.0 some in
          (on.1, write_next c.loop-turn._turn n rest _ some (write_some c.write_some.result n on.0 told) before.1),
    )
