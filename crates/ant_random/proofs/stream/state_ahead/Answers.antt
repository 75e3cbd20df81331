use Rattle.std.proofs.Common.{◌≡◌, ℕ, ◌+◌, ◌%◌, ◌^◌, ap, ◌∙◌, arith}
use Rattle.std.specs.Fn.{iterate}
use Rattle.ant_random.specs.Stream.{state_at}
use Rattle.ant_random.specs.Inner.Jump.{next_state, landed}
use Rattle.ant_random.proofs.JumpLemmas.{iterate-next_state, iterate_same, iterate_even, iterate_odd}
use Rattle.ant_random.proofs.StepLemmas.{walked_none, walked_more}
use Rattle.ant_random.proofs.stream.state_ahead.Goals as goal
use Rattle.ant_random.proofs.stream.state_ahead.Goals.{then-left-eq1, else-left-eq1}

pub digits-init : goal.digits-init
digits-init g c =
    let seed = c.args.seed in
    let place = c.args.place in
    let e : 4 + place ≡ place + 4 = omega arith in (
      iterate_same (landed c.of_one-jump.result) next_state c.of_one-jump.ensures.one place c.fourth_state-state.result
          ∙ ap (iterate next_state place) c.fourth_state-state.ensures ∙ iterate-next_state seed 4 place ∙ ap (λ (i : ℕ). state_at seed i % 2 ^ 32) e,
      walked_none place c.args.steps.now c.of_one-jump.new.steps c.of_one-jump.ensures.counted,
    )

pub digits-preserved : goal.digits-preserved
digits-preserved g c =
    let l = c.digits in
    let later = c.twice-jump.new.steps in
    elim c.if-left-eq1.branch [
      | then-left-eq1 w ↦ (
        iterate_odd (landed l.jump) (landed c.twice-jump.result) c.twice-jump.ensures.twice l.left l.state c.if-left-eq1.state _ w.if-left-eq1.true (w.state-is ∙ w.land-state.ensures.state) l.invariant.0,
        walked_more c.args.place l.left c.args.steps.now l.steps later l.invariant.1 (omega arith) (omega arith),
      )
      | else-left-eq1 w ↦ (
        iterate_even (landed l.jump) (landed c.twice-jump.result) c.twice-jump.ensures.twice l.left l.state c.if-left-eq1.state _ w.if-left-eq1.false w.state-is l.invariant.0,
        walked_more c.args.place l.left c.args.steps.now l.steps later l.invariant.1 (omega arith) (omega arith),
      )
    ]
