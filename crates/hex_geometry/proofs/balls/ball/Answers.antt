-- one row more, and all rows are the ball
use Rattle.hex_geometry.proofs.BallRows.{rows_list, rows_more}
use Rattle.hex_geometry.proofs.BallSizes.{rows_size}
use Rattle.hex_geometry.proofs.balls.ball.Goals as goal
use Rattle.hex_geometry.specs.Distance.{ListsBall}
use Rattle.hex_geometry.specs.Inner.BallRows.{rows}
use Rattle.hex_geometry.specs.declared.position.Pos.{Pos}
use Rattle.std.proofs.Common.{List, ◌∙◌, length, vec_len, ◌≡◌, ◌+◌, ◌*◌, ap, arith, subst, sym, add-one}

pub loop-row-init : goal.loop-row-init
unfolding rows
loop-row-init c = c.in_ok-found.ensures.items

pub loop-row-preserved : goal.loop-row-preserved
loop-row-preserved c = rw (add-one c.loop-row.row) (c.in_ok-push_row.ensures ∙ rows_more _ _ _ _ c.loop-row.invariant)

pub returns-clause-ball : goal.returns-clause-ball
returns-clause-ball c =
    let all : c.loop-row.row ≡ 2 * c.args.radius + 1 = omega arith in
    subst (ListsBall c.args.centre c.args.radius) (sym (subst (λ n. c.loop-row.found.items ≡ rows c.args.centre c.args.radius n) all c.loop-row.invariant)) (rows_list c.args.centre c.args.radius c.requires)

pub returns-clause-size : goal.returns-clause-size
returns-clause-size c =
    let all : c.loop-row.row ≡ 2 * c.args.radius + 1 = omega arith in
    let items = subst (λ n. c.loop-row.found.items ≡ rows c.args.centre c.args.radius n) all c.loop-row.invariant in
    let long : vec_len c.loop-row.found ≡ length c.loop-row.found.items = c.loop-row.found.ok.0 in
    long ∙ ap (λ (l : List Pos). length l) items ∙ rows_size c.args.centre c.args.radius c.requires.from_top
