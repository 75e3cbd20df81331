use Rattle.std.proofs.Common.{◌≡◌, ℕ, ◌+◌, ◌-◌, ◌<◌, ◌≤◌, List, length, slice_index_or, arith, sym, ap, ◌∙◌, subst}
use Rattle.round_book.specs.Machine.{times}
use Rattle.round_book.specs.Window.{guess_for}
use Rattle.round_book.proofs.SoloLemmas.{guess_for-le}
use Rattle.round_workers.specs.BoardSeats.{basis_of, known, board_window}
use Rattle.round_workers.specs.BoardView.{window_about}
use Rattle.round_workers.specs.BoardWorker.{turns_in}
use Rattle.round_workers.specs.declared.board.view.View.{View}
use Rattle.round_book.proofs.GuessLemmas.{guesses_for-at, guesses_for-length}
use Rattle.round_workers.proofs.BoardWorkers.{late-is, late-served, made-few, more-is, more-served, new-drawn, unput}
use Rattle.round_workers.proofs.board.worker.serve.Goals as goal

pub returns-then-ticket-turns-clause-worker : goal.returns-then-ticket-turns-clause-worker
returns-then-ticket-turns-clause-worker g c =
    let key = basis_of c.args.task.now.board.now in let v = known c.args.seat.now in let t : ℕ = c.draw-ticket.result in
    let n = ap (λ z. turns_in (window_about z)) (sym c.requires.board.knows) in
    late-is v _ _ t _ n c.requires.worker c.draw-ticket.ensures.drew c.draw-ticket.ensures.greater (let l = c.if-ticket-turns.true in let b = c.turns.ensures in omega arith)

pub returns-then-ticket-turns-clause-served : goal.returns-then-ticket-turns-clause-served
returns-then-ticket-turns-clause-served g c =
    let key = basis_of c.args.task.now.board.now in let v = known c.args.seat.now in let t : ℕ = c.draw-ticket.result in
    let n = ap (λ z. turns_in (window_about z)) (sym c.requires.board.knows) in
    late-served v _ _ t _ n c.requires.worker c.draw-ticket.ensures.drew c.draw-ticket.ensures.greater (let l = c.if-ticket-turns.true in let b = c.turns.ensures in omega arith)

pub push_reserved-requires : goal.push_reserved-requires
push_reserved-requires g c =
    let key = basis_of c.args.task.now.board.now in let v = known c.args.seat.now in let t : ℕ = c.draw-ticket.result in
    let n = ap (λ z. turns_in (window_about z)) (sym c.requires.board.knows) in
    let few = made-few v _ c.requires.worker t c.draw-ticket.ensures.greater in let l = c.if-ticket-turns.false in let b = c.turns.ensures in let room = c.requires.room in omega arith

pub bounds-task-ticket : goal.bounds-task-ticket
bounds-task-ticket g c =
    let long : length c.args.task.now.guesses.now ≡ turns_in (board_window c.args.task.now.board.now) = ap length c.requires.guesses ∙ guesses_for-length (board_window c.args.task.now.board.now) in
    let l = c.if-ticket-turns.false in let b = c.turns.ensures in omega arith

pub reach-requires : goal.reach-requires
reach-requires g c =
    let board = c.args.task.now.board.now in let w = board_window board in let t : ℕ = c.draw-ticket.result in let inside : t < turns_in w = (let l = c.if-ticket-turns.false in let b = c.turns.ensures in omega arith) in
    let is : slice_index_or c.args.task.now.guesses.now t 0 ≡ guess_for w (w.from + t) = ap (λ (l : List ℕ). slice_index_or l t 0) c.requires.guesses ∙ guesses_for-at w t 0 inside in
    let few = guess_for-le w (w.from + t) in let lasting = board.lasting in let a = board.first in let b = board.last in omega arith

pub look_and_put-requires-clause-drew : goal.look_and_put-requires-clause-drew
look_and_put-requires-clause-drew g c =
    let t : ℕ = c.draw-ticket.result in subst (λ (u : View). 1 ≤ times t u.drawn) (sym c.draw-ticket.ensures.drew) (new-drawn (known c.args.seat.now) _ c.requires.worker t c.draw-ticket.ensures.greater)

pub look_and_put-requires-clause-unput : goal.look_and_put-requires-clause-unput
look_and_put-requires-clause-unput g c =
    let t : ℕ = c.draw-ticket.result in subst (λ (u : View). times t u.put ≡ 0) (sym c.draw-ticket.ensures.drew) (unput (known c.args.seat.now) _ c.requires.worker t c.draw-ticket.ensures.greater)

pub look_and_put-requires-clause-guess : goal.look_and_put-requires-clause-guess
look_and_put-requires-clause-guess g c =
    let w = board_window c.args.task.now.board.now in let t : ℕ = c.draw-ticket.result in let inside : t < turns_in w = (let l = c.if-ticket-turns.false in let b = c.turns.ensures in omega arith) in
    c.reach.ensures.place ∙ (ap (λ (l : List ℕ). slice_index_or l t 0) c.requires.guesses ∙ guesses_for-at w t 0 inside)

pub returns-clause-worker : goal.returns-clause-worker
returns-clause-worker g c =
    let key = basis_of c.args.task.now.board.now in let v = known c.args.seat.now in let t : ℕ = c.draw-ticket.result in
    let n = ap (λ z. turns_in (window_about z)) (sym c.requires.board.knows) in
    let inside : t < key.to - key.from = (let l = c.if-ticket-turns.false in let b = c.turns.ensures in omega arith) in
    more-is v _ _ _ _ t _ n c.requires.worker c.draw-ticket.ensures.drew c.draw-ticket.ensures.greater inside c.look_and_put.ensures.put c.settle_with_book.ensures.same c.settle_with_book.ensures.tried
    _ c.turn_of-turn.result key.from (ap (λ z. (window_about z).from) (sym c.requires.board.knows)) c.turn_of-turn.ensures c.push_reserved.ensures.items

pub returns-clause-served : goal.returns-clause-served
returns-clause-served g c =
    let key = basis_of c.args.task.now.board.now in let v = known c.args.seat.now in let t : ℕ = c.draw-ticket.result in
    let n = ap (λ z. turns_in (window_about z)) (sym c.requires.board.knows) in
    let inside : t < key.to - key.from = (let l = c.if-ticket-turns.false in let b = c.turns.ensures in omega arith) in
    more-served v _ _ _ _ t _ n c.requires.worker c.draw-ticket.ensures.drew c.draw-ticket.ensures.greater inside c.look_and_put.ensures.put c.settle_with_book.ensures.same c.settle_with_book.ensures.tried
