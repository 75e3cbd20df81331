use Rattle.std.proofs.Common.{◌≡◌, ◌++◌, ◌∷◌, [], length, slice_index, refl, sym, ◌∙◌, subst, arith}
use Rattle.std.specs.Prelude.{nat_eq}
use Rattle.std.specs.List.{list_any}
use Rattle.std.proofs.lemmas.Bool.{cases_cond, eqb-true}
use Rattle.std.proofs.lemmas.Option.{get_or_from_slice_get}
use Rattle.brain_minimise.proofs.Numbers.{IsNumbering, IsNumbering-all, IsNumbering-more, IsNumbering-skip}
use Rattle.brain_minimise.proofs.numbering.number_states.Goals.{then-seen-state+in_ok-number, else-seen-state}
use Rattle.brain_minimise.proofs.numbering.number_states.Goals as goal

pub loop-state-preserved : goal.loop-state-preserved
loop-state-preserved c =
    elim c.if-seen-state.branch [
      | then-seen-state+in_ok-number w ↦
          let class = slice_index c.args.classes.now c.loop-state.state in
          let keys = c.loop-state.order.keys in
          let after = w.insert_full.new.self.keys in
          let number = w.in_ok-number.number in
          let stored = w.in_ok-number.ensures.stored in
          let at : slice_index after number ≡ class = get_or_from_slice_get after number stored.0 0 stored.1 ∙ sym (eqb-true class stored.0 stored.2) in
          rw (c.in_ok-push.ensures.items, w.order-is, w.number-is)
          (IsNumbering-more c.args.classes.now c.args.seen.now keys after _ _ number class c.loop-state.invariant w.if-seen-state.true refl
          (cases_cond (list_any (nat_eq class) keys) keys (keys ++ class ∷ []) after w.in_ok-number.ensures.keys)
          w.in_ok-number.ensures.unique w.in_ok-number.ensures.within at)
      | else-seen-state w ↦ rw (c.in_ok-push.ensures.items, w.order-is, w.number-is) (IsNumbering-skip c.args.classes.now c.args.seen.now _ _ _ c.loop-state.invariant w.if-seen-state.false)
    ]

pub returns : goal.returns
returns c =
    let all : c.loop-state.state ≡ length c.args.seen.now = omega (arith, c.loop-state-test.false, c.loop-state.auto.state-end) in
    IsNumbering-all c.args.classes.now c.args.seen.now c.loop-state.order.keys c.loop-state.numbers.items
    (subst (IsNumbering c.args.classes.now c.args.seen.now c.loop-state.order.keys c.loop-state.numbers.items) all c.loop-state.invariant)
