use Rattle.std.proofs.Common.{[], ◌∷◌, arith}
use Rattle.round_workers.specs.declared.board.worker.Worker.{Worker}
use Rattle.round_workers.specs.BoardSeats.{IsSeatOf}
use Rattle.round_workers.proofs.BoardSeatLists.{all-front, manned-joined}
use Rattle.round_workers.proofs.board.crew.gather.Goals as goal

pub loop-worker-preserved : goal.loop-worker-preserved
loop-worker-preserved c = let w = c.in-Some.worker in record {
  manned = manned-joined c.args.board.now c.loop-worker.first c.join-made.new.first c.pop.new.self.items c.loop-worker.workers.items w c.in-Some.ensures.items c.loop-worker.invariant.manned
      c.join-made.ensures.board c.join-made.ensures.number c.join-made.ensures.made c.join-made.ensures.opened c.join-made.ensures.holds c.join-made.ensures.parts;
  seats = all-front (λ (u : Worker). IsSeatOf c.args.board.now u.seat) c.loop-worker.workers.items c.pop.new.self.items (w ∷ []) c.in-Some.ensures.items c.loop-worker.invariant.seats;
  room = (let a = c.push_reserved.ensures.len in let b = c.push_reserved.ensures.capacity in let d = c.in-Some.ensures.len in let e = c.loop-worker.invariant.room in omega arith);
}
