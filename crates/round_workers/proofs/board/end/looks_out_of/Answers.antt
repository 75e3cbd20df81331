use Rattle.std.proofs.Common.{length, ap, arith}
use Rattle.std.specs.Vec.Iter.{into_iter_items}
use Rattle.round_workers.proofs.BoardEnd.{looks-on}
use Rattle.round_workers.proofs.board.end.looks_out_of.Goals as goal

pub loop-place-preserved : goal.loop-place-preserved
loop-place-preserved c = record {
  all = looks-on c.loop-place.room.items _ _ c.look_out_of.result c.in-Some.place (into_iter_items c.loop-place.rest) _ c.push_reserved.ensures.items c.look_out_of.ensures c.in-Some.ensures.items c.loop-place.invariant.all;
  long = (let a = ap length c.in-Some.ensures.items in let b = c.in-Some.ensures.len in let d = c.loop-place.invariant.long in omega arith);
  fits = (let a = c.push_reserved.ensures.len in let b = c.in-Some.ensures.len in let d = c.push_reserved.ensures.capacity in let e = c.loop-place.invariant.fits in omega arith);
}
