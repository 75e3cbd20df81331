-- one cell after another
use Rattle.hex_geometry.proofs.Places.{inner_inside}
use Rattle.hex_geometry.specs.Position.{IsInner}
use Rattle.hex_geometry.specs.declared.position.Pos.{Pos}
use Rattle.std.proofs.Common.{get_or, length, ap, arith}
use Rattle.std.proofs.lemmas.List.Elements.{Contains-get_or}
use Rattle.hex_geometry.proofs.RowLemmas.{index_of-inside}
use Rattle.world_gen.proofs.Stamps.{stamped_on}
use Rattle.world_gen.proofs.draft.Draft.stamp_all.Goals as goal

pub block_round-requires-clause-inner : goal.block_round-requires-clause-inner
block_round-requires-clause-inner c = c.requires.inner _ (Contains-get_or c.args.cells.now c.loop-cell.cell-index (record { x = 0; y = 0 }) c.loop-cell-test.true)

pub paint-requires : goal.paint-requires
paint-requires c =
    let cell : Pos = get_or c.args.cells.now c.loop-cell.cell-index (record { x = 0; y = 0 }) in
    let inner : IsInner c.args.self.now.width c.args.self.now.height cell = c.requires.inner cell (Contains-get_or c.args.cells.now c.loop-cell.cell-index (record { x = 0; y = 0 }) c.loop-cell-test.true) in
    let low = index_of-inside c.args.self.now.width c.args.self.now.height cell (inner_inside inner) in
    let same = ap length c.deref_mut-in-loop-cell.ensures.value in
    let kept = c.loop-cell.invariant.stamped.paints.same_length in
    let full = c.requires.kinds in
    omega arith

pub loop-cell-preserved : goal.loop-cell-preserved
loop-cell-preserved c =
    let cell : Pos = get_or c.args.cells.now c.loop-cell.cell-index (record { x = 0; y = 0 }) in
    let inner : IsInner c.args.self.now.width c.args.self.now.height cell = c.requires.inner cell (Contains-get_or c.args.cells.now c.loop-cell.cell-index (record { x = 0; y = 0 }) c.loop-cell-test.true) in
    record {
      wide = c.loop-cell.invariant.wide;
      high = c.loop-cell.invariant.high;
      stamped = stamped_on c.args.self.now.width c.args.self.now.height c.args.cells.now c.loop-cell.cell-index c.args.kind c.args.self.now.blocked.items c.loop-cell.self.blocked.items c.deref_mut.result.now c.block_round.new.blocked _ _ c.args.self.now.kinds.items c.loop-cell.self.kinds.items c.deref_mut-in-loop-cell.result.now c.paint.new.kinds _ _
          c.loop-cell.invariant.stamped c.loop-cell-test.true (inner_inside inner) c.requires.kinds c.deref_mut.ensures.value c.block_round.ensures c.loop-cell.self.blocked.ok.0 c.deref_mut-in-loop-cell.ensures.value c.paint.ensures c.loop-cell.self.kinds.ok.0;
    }
