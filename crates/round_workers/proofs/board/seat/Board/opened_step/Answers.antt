use Rattle.std.proofs.Common.{ℕ, List, arith, sym, subst}
use mathlib.Core.Option as maybe
use Rattle.atomic_table.specs.Table.{Allows, rest, step}
use Rattle.round_workers.specs.declared.board.view.BoardSlot.{BoardSlot}
use Rattle.round_workers.specs.BoardPlays.{tells_opened}
use Rattle.round_workers.specs.BoardRule.{IsKept}
use Rattle.round_workers.specs.BoardSeats.{basis_of}
use Rattle.round_workers.proofs.BoardBook.{opened-room}
use Rattle.round_workers.proofs.board.seat.Board.opened_step.Goals as goal

pub swap-requires : goal.swap-requires
swap-requires c =
    let wide = c.args.self.now.words in let me = c.args.hand.now.me in let key = basis_of c.args.self.now in let slots = c.args.self.now.table.shared.table_id.slots in (
      c.requires.hand.table,
      omega arith,
      subst (λ (out : List (ℕ × BoardSlot)). Allows (IsKept key) slots c.args.hand.now.id (me.0, out) 1 (λ _. 0) (tells_opened (step slots 1 0 0 maybe.none) (me.0, out))) (sym c.requires.book.1)
          (opened-room key slots c.args.hand.now.id me.0 c.requires.hand.knows (rest me.1) c.requires.book.0 c.requires.book.2 c.requires.first c.requires.opening),
    )
