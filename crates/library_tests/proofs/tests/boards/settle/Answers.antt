-- the look that was taken is the one at the book's next turn, so it may be settled
use Rattle.std.proofs.Common.{◌≡◌, ℕ, ◌-◌, ◌<◌, None, sym, ap, ◌∙◌, subst, arith}
use Rattle.spec_record.specs.Look.{LookValue}
use Rattle.round_book.specs.Book.{BookValue, IsSameWindow, IsTaken, StandsFor}
use Rattle.round_book.specs.BookLaws.{MaySettle, StandingBooksSettle}
use Rattle.round_book.specs.Window.{Window, look_for}
use Rattle.round_book.proofs.FieldLemmas.{settles-none}
use Rattle.round_workers.specs.BoardPlays.{took_look}
use Rattle.round_workers.specs.BoardSeats.{basis_of, board_window, known}
use Rattle.library_tests.proofs.tests.boards.settle.Goals as goal

module _ (law : StandingBooksSettle) (window : Window) (book : BookValue) (look : LookValue) (turn : ℕ) (stands : StandsFor window book) (is : look ≡ look_for window turn) (here : turn ≡ book.next) (left : book.next < book.to) where
  next-look : look ≡ look_for window book.next
  next-look = is ∙ ap (look_for window) here

  may : MaySettle window.minds book look
  may = subst (MaySettle window.minds book) (sym next-look) (law.may window book stands left)

  after : (new : BookValue) → IsTaken look book new → IsSameWindow book new → StandsFor window new
  after new taken same = law.stands window None book new stands left (subst (λ (l : LookValue). IsTaken l book new) next-look taken) same

pub settle-requires-clause-in_window : goal.settle-requires-clause-in_window
settle-requires-clause-in_window g c = let to = c.requires.stands.stands.to in let seven = c.requires.to in omega arith

pub settle-requires-clause-turn : goal.settle-requires-clause-turn
settle-requires-clause-turn g c =
    (may c.standing_books_settle.ensures (board_window c.args.board.now) c.args.book.now c.in-Some.look c.args.turn c.requires.stands c.in-Some.ensures.look (omega arith)
    (let to = c.requires.stands.stands.to in let seven = c.requires.to in omega arith)).turn

pub settle-requires-clause-unwritten : goal.settle-requires-clause-unwritten
settle-requires-clause-unwritten g c =
    (may c.standing_books_settle.ensures (board_window c.args.board.now) c.args.book.now c.in-Some.look c.args.turn c.requires.stands c.in-Some.ensures.look (omega arith)
    (let to = c.requires.stands.stands.to in let seven = c.requires.to in omega arith)).unwritten

pub settle-requires-clause-writes : goal.settle-requires-clause-writes
settle-requires-clause-writes g c =
    (may c.standing_books_settle.ensures (board_window c.args.board.now) c.args.book.now c.in-Some.look c.args.turn c.requires.stands c.in-Some.ensures.look (omega arith)
    (let to = c.requires.stands.stands.to in let seven = c.requires.to in omega arith)).writes

pub returns-clause-took : goal.returns-clause-took
returns-clause-took g c =
    let ticket : c.args.turn - (basis_of c.args.board.now).from ≡ c.args.turn = (let from = c.requires.from in omega arith) in
    c.in-Some.ensures.taken ∙ ap (took_look (known c.args.seat.now)) ticket

pub returns-clause-stands : goal.returns-clause-stands
returns-clause-stands g c =
    after c.standing_books_settle.ensures (board_window c.args.board.now) c.args.book.now c.in-Some.look c.args.turn c.requires.stands c.in-Some.ensures.look (omega arith)
    (let to = c.requires.stands.stands.to in let seven = c.requires.to in omega arith) c.settle.new.self (settles-none c.in-Some.look c.args.book.now c.settle.new.self c.settle.result c.in-None.is c.settle.ensures.settled) c.settle.ensures.same
