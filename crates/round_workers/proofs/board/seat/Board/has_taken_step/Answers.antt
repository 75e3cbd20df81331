use Rattle.std.proofs.Common.{ℕ, List, ◌+◌, arith, sym, subst}
use mathlib.Core.Option as maybe
use Rattle.atomic_table.specs.Table.{Allows, rest, step}
use Rattle.round_workers.specs.declared.board.view.BoardSlot.{BoardSlot}
use Rattle.round_workers.specs.BoardPlays.{tells_has_taken}
use Rattle.round_workers.specs.BoardRule.{IsKept}
use Rattle.round_workers.specs.BoardSeats.{basis_of}
use Rattle.round_workers.proofs.BoardLooks.{has-taken}
use Rattle.round_workers.proofs.board.seat.Board.has_taken_step.Goals as goal

pub swap-requires : goal.swap-requires
swap-requires c =
    let wide = c.args.self.now.words in let me = c.args.hand.now.me in let key = basis_of c.args.self.now in let slots = c.args.self.now.table.shared.table_id.slots in
    let a = c.args.self.now.first in let b = c.args.self.now.last in let inside = c.requires.ticket in let j : ℕ = c.args.ticket in (
      c.requires.hand.table,
      omega arith,
      subst (λ (out : List (ℕ × BoardSlot)). Allows (IsKept key) slots c.args.hand.now.id (me.0, out) (j + 2) (λ _. 3) (tells_has_taken (step slots (j + 2) 3 0 maybe.none) (me.0, out))) (sym c.requires.spare.1)
          (has-taken key slots c.args.hand.now.id me.0 c.requires.hand.knows j inside (rest me.1) c.requires.spare.0 c.requires.taking),
    )
