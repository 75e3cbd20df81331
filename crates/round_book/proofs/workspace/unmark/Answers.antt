use Rattle.std.proofs.Common.{◌≡◌, ℕ, ◌+◌, false, drop, slice_index_or, slice_set, sym, subst, ap, ◌∙◌, arith}
use Rattle.hex_geometry.specs.RowOrder.{index_of}
use Rattle.hex_geometry.specs.declared.position.Pos.{Pos}
use Rattle.round_book.proofs.MarkLemmas.{Unmarking, Unmarking-end, Unmarking-step}
use Rattle.round_book.proofs.workspace.unmark.Goals as goal

pub loop-p-preserved : goal.loop-p-preserved
loop-p-preserved c =
    let here : Pos = slice_index_or c.args.places.now c.loop-p.p-index (record { x = 0; y = 0 }) in
    let at : c.index_of.result ≡ index_of c.args.world.now.width here = c.index_of.ensures ∙ ap (λ width. index_of width here) c.width.ensures.width in
    let Next : ℕ → Type 0 = λ i. Unmarking c.args.world.now (slice_set c.loop-p.marked i false) (drop (c.loop-p.p-index + 1) c.args.places.now) in
    subst Next (sym at) (Unmarking-step c.args.world.now c.loop-p.marked c.args.places.now c.loop-p.p-index (record { x = 0; y = 0 }) c.loop-p-test.true c.loop-p.invariant)

pub returns : goal.returns
returns c = Unmarking-end c.args.world.now c.loop-p.marked c.args.places.now c.loop-p.p-index (omega (arith, c.loop-p-test.false)) c.loop-p.invariant
