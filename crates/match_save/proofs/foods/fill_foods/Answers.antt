use Rattle.std.proofs.Common.{ℕ, ◌+◌, List, drop, get_or, sym, ap, ◌∙◌}
use Rattle.std.proofs.lemmas.List.{drop_all}
use Rattle.std.proofs.lemmas.Result.{err_from_is_err_and}
use Rattle.match_save.specs.Inner.Answered.{behind}
use Rattle.match_save.specs.Inner.Reading.{read_foods}
use Rattle.match_save.proofs.FilledLists.{foods-more, foods-none, foods-refused}
use Rattle.match_save.proofs.PutLemmas.{drop-from}
use Rattle.match_save.proofs.foods.fill_foods.Goals as goal

pub loop-cell-preserved : goal.loop-cell-preserved
loop-cell-preserved c =
    let cell = c.loop-cell.cell in let values = c.args.values.now in let width = c.args.width in let front = c.loop-cell.foods.items in let lines = c.loop-cell.lines in
    c.loop-cell.invariant ∙ ap (λ (l : List ℕ). behind front (read_foods width cell l lines)) (drop-from values cell 0 c.loop-cell-test.true)
    ∙ foods-more width cell (get_or values cell 0) (drop (cell + 1) values) front c.in_ok-food.food lines c.food_at.new.lines c.in_ok-food.ensures
    ∙ ap (λ (l : List ℕ). behind l (read_foods width (cell + 1) (drop (cell + 1) values) c.food_at.new.lines)) (sym c.in_ok-push.ensures.items)

pub returns-in_err-food : goal.returns-in_err-food
returns-in_err-food c =
    let cell = c.loop-cell.cell in let values = c.args.values.now in let width = c.args.width in let front = c.loop-cell.foods.items in let lines = c.loop-cell.lines in
    let p = err_from_is_err_and c.from_residual.result c.from_residual.ensures.1 in
    rw (p.1, p.2) (c.loop-cell.invariant ∙ ap (λ (l : List ℕ). behind front (read_foods width cell l lines)) (drop-from values cell 0 c.loop-cell-test.true)
    ∙ foods-refused width cell (get_or values cell 0) (drop (cell + 1) values) front c.in_err-food.field-0.0.0 lines c.in_err-food.ensures)

pub returns : goal.returns
returns c =
    let cell = c.loop-cell.cell in let front = c.loop-cell.foods.items in let lines = c.loop-cell.lines in
    c.loop-cell.invariant ∙ ap (λ (l : List ℕ). behind front (read_foods c.args.width cell l lines)) (drop_all cell c.args.values.now c.loop-cell-test.false) ∙ foods-none c.args.width cell front lines
