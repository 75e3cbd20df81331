use Rattle.std.proofs.Common.{ℕ, ◌<◌, ◌≤◌, [], ◌∷◌, sym, ap, ◌∙◌, subst, arith}
use Rattle.std.specs.List.{AllByRecursion}
use Rattle.std.specs.Vec.{vec_capacity}
use Rattle.round_workers.specs.declared.board.view.View.{View}
use Rattle.round_workers.specs.Inner.BoardCrew.{IsRoom}
use Rattle.round_workers.specs.BoardSeats.{board_window}
use Rattle.round_workers.specs.BoardWorker.{turns_in}
use Rattle.round_workers.proofs.BoardSeatLists.{all-front, all-last, hired-more, manned-more}
use Rattle.round_workers.proofs.board.crew.hire.Goals as goal

pub loop-made-preserved : goal.loop-made-preserved
loop-made-preserved c =
    let board = c.args.board.now in let n : ℕ = turns_in (board_window board) in let old = c.loop-made.invariant in let w = c.worker.result in
    let new = c.worker.ensures.seat ∙ c.split-seat.ensures.newcomer in
    let room = all-last (IsRoom n) c.loop-made.lists.items c.pop.new.self.items c.in-Some.made c.in-Some.ensures.items old.lists in
    record {
      manned = manned-more board c.loop-made.first c.split-seat.new.seat c.loop-made.workers.items c.push_reserved.new.self.items w old.manned c.split-seat.ensures.board c.split-seat.ensures.made (ap (λ (v : View). v.number) new) c.push_reserved.ensures.items;
      hired = hired-more board c.loop-made.workers.items c.push_reserved.new.self.items w old.hired (record {
        seat = record { table = c.worker.ensures.board ∙ c.split-seat.ensures.new_board.table; knows = ap (λ (v : View). v.about) c.worker.ensures.seat ∙ c.split-seat.ensures.new_board.knows };
        opened = ap (λ (v : View). v.opened) new ∙ old.manned.opened;
        early = subst (λ (v : View). AllByRecursion (λ k. k < n) v.drawn) (sym new) tt;
        room = subst (λ made. n ≤ vec_capacity made) (sym c.worker.ensures.made) room.wide;
      }) c.push_reserved.ensures.items;
      lists = all-front (IsRoom n) c.loop-made.lists.items c.pop.new.self.items (c.in-Some.made ∷ []) c.in-Some.ensures.items old.lists;
      count = (let a = ap (λ (v : View). v.made) c.split-seat.ensures.made in let b = c.push_reserved.ensures.len in let f = old.count in omega arith);
      few = (let a = ap (λ (v : View). v.made) c.split-seat.ensures.made in let b = c.in-Some.ensures.len in let f = old.few in omega arith);
      wide = (let a = c.push_reserved.ensures.len in let b = c.in-Some.ensures.len in let e = c.push_reserved.ensures.capacity in let f = old.wide in omega arith);
    }

pub worker-requires-clause-bare : goal.worker-requires-clause-bare
worker-requires-clause-bare c = (all-last (IsRoom (turns_in (board_window c.args.board.now))) c.loop-made.lists.items c.pop.new.self.items c.in-Some.made c.in-Some.ensures.items c.loop-made.invariant.lists).bare
