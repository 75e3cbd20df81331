-- the look of a turn of the field is that of the board's window, and its ticket is the turn
use Rattle.std.proofs.Common.{◌≡◌, ℕ, ◌-◌, ◌≤◌, sym, ap, ◌∙◌, subst, arith}
use Rattle.spec_record.specs.Look.{LookValue, look_of}
use Rattle.round_book.specs.Book.{FieldValue, IsLentFor}
use Rattle.round_book.specs.Book as books
use Rattle.round_book.specs.Machine.{times}
use Rattle.round_book.specs.Window.{Window, look_for}
use Rattle.round_workers.specs.declared.board.seat.Board.{Board}
use Rattle.round_workers.specs.BoardPlays.{has_put}
use Rattle.round_workers.specs.BoardSeats.{basis_of, known, board_window}
use Rattle.round_workers.proofs.BoardWorkers.{window_at}
use Rattle.library_tests.proofs.tests.boards.put.Goals as goal

look-turn : (window : Window) (look : LookValue) (t : ℕ) → look ≡ look_for window t → look.turn ≡ t
unfolding look_for look_of
look-turn window look t is = ap (λ (l : LookValue). l.turn) is

look-again : (window : Window) (look : LookValue) (t : ℕ) → look ≡ look_for window t → look ≡ look_for window look.turn
look-again window look t is = is ∙ ap (look_for window) (sym (look-turn window look t is))

module _ (field : FieldValue) (board : Board) (lent : IsLentFor field (board_window board)) (from : (basis_of board).from ≡ 0) (to : (basis_of board).to ≡ 7) (look : LookValue) (t : ℕ) (at : look ≡ look_for (books.window_of field 0 7) t) where
  look-is : look ≡ look_for (board_window board) t
  look-is = at ∙ ap (λ (w : Window). look_for w t) (window_at field (board_window board) lent 0 7 (sym from) (sym to))

  turn-is : look.turn ≡ t
  turn-is = look-turn (board_window board) look t look-is

  ticket-is : look.turn - (basis_of board).from ≡ t
  ticket-is = let a : look.turn ≡ t = turn-is in omega arith

pub put-requires-clause-before_to : goal.put-requires-clause-before_to
put-requires-clause-before_to c =
    let turn = turn-is c.args.field.now c.args.board.now c.requires.field c.requires.from c.requires.to c.look_at-look.result c.args.turn c.look_at-look.ensures in
    let to = c.requires.to in let few = c.requires.turn in omega arith

pub put-requires-clause-drew : goal.put-requires-clause-drew
put-requires-clause-drew c =
    subst (λ (m : ℕ). 1 ≤ times m (known c.args.seat.now).drawn)
    (sym (ticket-is c.args.field.now c.args.board.now c.requires.field c.requires.from c.requires.to c.look_at-look.result c.args.turn c.look_at-look.ensures)) c.requires.drew

pub put-requires-clause-unput : goal.put-requires-clause-unput
put-requires-clause-unput c =
    ap (λ (m : ℕ). times m (known c.args.seat.now).put)
    (ticket-is c.args.field.now c.args.board.now c.requires.field c.requires.from c.requires.to c.look_at-look.result c.args.turn c.look_at-look.ensures) ∙ c.requires.unput

pub put-requires-clause-look : goal.put-requires-clause-look
put-requires-clause-look c =
    look-again (board_window c.args.board.now) c.look_at-look.result c.args.turn
    (look-is c.args.field.now c.args.board.now c.requires.field c.requires.from c.requires.to c.look_at-look.result c.args.turn c.look_at-look.ensures)

pub returns-clause-put : goal.returns-clause-put
returns-clause-put c =
    c.put.ensures.put
    ∙ ap (has_put (known c.args.seat.now)) (ticket-is c.args.field.now c.args.board.now c.requires.field c.requires.from c.requires.to c.look_at-look.result c.args.turn c.look_at-look.ensures)
