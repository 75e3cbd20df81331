use Rattle.std.proofs.Common.{◌++◌, ◌∷◌, [], ◌∙◌, ap, arith}
use Rattle.round_workers.specs.declared.board.view.BoardSlot.TheVariants.{TheBook}
use Rattle.round_workers.proofs.BoardStart.{bare-first, bare-more}
use Rattle.round_workers.proofs.board.seat.steps.bare.Goals as goal

pub loop-init : goal.loop-init
loop-init c = record { bare = bare-first _ c.in_ok-book.book c.in_ok-book.ensures (c.push_reserved.ensures.items ∙ ap (λ slots. slots ++ TheBook c.in_ok-book.book ∷ []) c.in_ok-slots.ensures.items); wide = (let a = c.push_reserved.ensures.capacity in let b = c.in_ok-slots.ensures.exact in omega arith); room = c.requires.room; few = (let a = c.push_reserved.ensures.len in let b = c.in_ok-slots.ensures.len in omega arith) }

pub loop-preserved : goal.loop-preserved
loop-preserved c = record {
  bare = bare-more c.loop.counter c.loop.slots.items _ c.in-Ok.room c.loop.invariant.bare c.push_reserved-in-loop.ensures.items;
  wide = (let a = c.push_reserved-in-loop.ensures.capacity in let b = c.loop.invariant.wide in omega arith);
  room = (let a = c.spare.ensures.fewer in let b = c.spare.ensures.capacity in let d = c.loop.invariant.room in omega arith);
  few = (let a = c.push_reserved-in-loop.ensures.len in let b = c.loop.invariant.few in omega arith);
}
