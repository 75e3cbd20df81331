use Rattle.std.proofs.Common.{ℕ, List, ◌+◌, arith, refl, sym, subst}
use mathlib.Core.Option as maybe
use Rattle.atomic_table.specs.Table.{Allows, rest, step}
use Rattle.round_workers.specs.declared.board.view.BoardSlot.{BoardSlot}
use Rattle.round_workers.specs.BoardPlays.{tells_has_put}
use Rattle.round_workers.specs.BoardRule.{IsKept}
use Rattle.round_workers.specs.BoardSeats.{basis_of}
use Rattle.round_workers.proofs.BoardLooks.{has-put}
use Rattle.round_workers.proofs.board.seat.Board.has_put_step.Goals as goal

pub swap-requires : goal.swap-requires
swap-requires c =
    let wide = c.args.self.now.words in let me = c.args.hand.now.me in let key = basis_of c.args.self.now in let slots = c.args.self.now.table.shared.table_id.slots in
    let a = c.args.self.now.first in let b = c.args.self.now.last in let inside = c.requires.ticket in let j : ℕ = c.args.ticket in (
      c.requires.hand.table,
      omega arith,
      subst (λ (out : List (ℕ × BoardSlot)). Allows (IsKept key) slots c.args.hand.now.id (me.0, out) (j + 2) (λ _. 2) (tells_has_put (step slots (j + 2) 2 0 maybe.none) (me.0, out))) (sym c.requires.look)
          (has-put key slots c.args.hand.now.id me.0 c.requires.hand.knows j inside (rest me.1) _ refl c.requires.putting),
    )
