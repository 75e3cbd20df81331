use Rattle.std.proofs.Common.{◌+◌, All, List, length, sym, ap, ◌∙◌, subst, arith}
use Rattle.cell_world.proofs.InsideLemmas.{refilled}
use Rattle.round_book.specs.Window.{Window}
use Rattle.round_workers.specs.declared.board.worker.Worker.{Worker}
use Rattle.round_workers.specs.Inner.BoardCrew.{AreLooks, IsManned}
use Rattle.round_workers.specs.BoardPlays.{has_seen}
use Rattle.round_workers.specs.BoardSeats.{IsSeatOf, basis_of, known, board_window}
use Rattle.round_workers.proofs.BoardSeatLists.{book-for, lent-for, looks-left, manned-first, manned-worked, seats-worked, worked-so}
use Rattle.round_workers.proofs.BoardTotalLemmas.{below-one}
use Rattle.round_workers.proofs.BoardWorkers.{on-for}
use Rattle.round_workers.proofs.board.crew.settle.Goals as goal

pub open_book-requires-clause-stands : goal.open_book-requires-clause-stands
open_book-requires-clause-stands g c = book-for c.args.field.now c.args.turns.from c.args.turns.to (board_window c.args.laid.board) c.requires.laid.window c.args.book c.requires.book.stands c.requires.book.from c.requires.book.to

pub hire-requires-clause-manned : goal.hire-requires-clause-manned
hire-requires-clause-manned g c =
    let board = c.args.laid.board in let field = c.args.field.now in let laid = c.requires.laid in
    let lent = lent-for field c.args.turns.from c.args.turns.to (board_window board) laid.window c.args.book c.requires.book.stands c.requires.book.from c.requires.book.to in
    subst (IsManned board c.open_book.new.seat) (sym c.requires.stocked.bare) (manned-first board c.open_book.new.seat (basis_of board) c.open_book.ensures.board (c.open_book.ensures.opened ∙ ap has_seen laid.first))

pub work_all-requires-clause-field : goal.work_all-requires-clause-field
work_all-requires-clause-field g c κs within =
    let board = c.args.laid.board in let field = c.args.field.now in let laid = c.requires.laid in
    let lent = lent-for field c.args.turns.from c.args.turns.to (board_window board) laid.window c.args.book c.requires.book.stands c.requires.book.from c.requires.book.to in
    lent

pub settle_left-requires-clause-book : goal.settle_left-requires-clause-book
settle_left-requires-clause-book g c =
    let board = c.args.laid.board in let field = c.args.field.now in let laid = c.requires.laid in
    let lent = lent-for field c.args.turns.from c.args.turns.to (board_window board) laid.window c.args.book c.requires.book.stands c.requires.book.from c.requires.book.to in record {
      stands = on-for field (board_window board) lent c.take_apart-ended.result.book c.take_apart-ended.ensures.book;
      from = c.take_apart-ended.ensures.book.stands.from ∙ ap (λ (w : Window). w.from) laid.window;
      to = c.take_apart-ended.ensures.book.stands.to ∙ ap (λ (w : Window). w.to) laid.window;
    }

pub settle_left-requires-clause-looks : goal.settle_left-requires-clause-looks
settle_left-requires-clause-looks g c =
    let board = c.args.laid.board in let field = c.args.field.now in let laid = c.requires.laid in
    let lent = lent-for field c.args.turns.from c.args.turns.to (board_window board) laid.window c.args.book c.requires.book.stands c.requires.book.from c.requires.book.to in
    subst (λ (w : Window). AreLooks w c.take_apart-ended.result.places.items) laid.window (looks-left (board_window board) (known c.gather.new.first) c.take_apart-ended.result.places.items c.take_apart-ended.ensures.looks)

pub gather-requires-clause-manned : goal.gather-requires-clause-manned
gather-requires-clause-manned g c =
    let board = c.args.laid.board in let old = c.hire.new.workers in let new = c.work_all.new.workers in let long = c.work_all.ensures.len ∙ ap length c.deref_mut.ensures.value in
    let worked = worked-so board c.deref_mut.result.now old.items new c.deref_mut.ensures.value c.work_all.ensures.worked in
    subst (IsManned board c.hire.new.first) (sym (refilled old.len old.items new old.ok.0 long)) (manned-worked board c.hire.new.first old.items new long worked c.hire.ensures.manned)

pub gather-requires-clause-seats : goal.gather-requires-clause-seats
gather-requires-clause-seats g c =
    let board = c.args.laid.board in let old = c.hire.new.workers in let new = c.work_all.new.workers in let long = c.work_all.ensures.len ∙ ap length c.deref_mut.ensures.value in
    let worked = worked-so board c.deref_mut.result.now old.items new c.deref_mut.ensures.value c.work_all.ensures.worked in
    subst (λ (l : List Worker). All (λ (w : Worker). IsSeatOf board w.seat) l) (sym (refilled old.len old.items new old.ok.0 long)) (seats-worked board old.items new long worked)

pub take_apart-ended-requires-clause-whole : goal.take_apart-ended-requires-clause-whole
take_apart-ended-requires-clause-whole g c k le = let here = c.gather.ensures.numbered k in let one = below-one k ((known c.gather.new.first).made + 1) (omega arith) in omega arith
