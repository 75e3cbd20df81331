use Rattle.std.proofs.Common.{◌≡◌, ◌+◌, ◌-◌, ℕ, suc, ◌∙◌, ap, arith}
use Rattle.std.proofs.lemmas.Result.{err_from_is_err_and}
use Rattle.match_save.specs.Inner.Answered.{behind}
use Rattle.match_save.specs.Inner.Reading.{read_rows}
use Rattle.match_save.proofs.FilledLists.{fault-passed, rows-more, rows-refused}
use Rattle.match_save.proofs.rows.fill_rows.Goals as goal

pub returns-in_err-next_row : goal.returns-in_err-next_row
returns-in_err-next_row g c =
    let n : ℕ = c.args.height - (c.loop-row._row + 1) in
    let left : c.args.height - c.loop-row._row ≡ suc n = omega (arith, c.loop-row-test.true) in
    let p = err_from_is_err_and c.from_residual.result c.from_residual.ensures.1 in
    rw (p.1, p.2) (fault-passed _ _ c.in_err-next_row.field-0.0
    (λ k e. c.loop-row.invariant ∙ ap (λ m. behind c.loop-row.cells.items (read_rows g.T.RowCell.of_byte c.args.width m c.loop-row.lines)) left
    ∙ rows-refused g.T.RowCell.of_byte c.args.width c.loop-row.cells.items n k c.loop-row.lines e)
    c.in_err-next_row.ensures)

pub loop-row-preserved : goal.loop-row-preserved
loop-row-preserved g c =
    let n : ℕ = c.args.height - (c.loop-row._row + 1) in
    let left : c.args.height - c.loop-row._row ≡ suc n = omega (arith, c.loop-row-test.true) in
    c.loop-row.invariant ∙ ap (λ k. behind c.loop-row.cells.items (read_rows g.T.RowCell.of_byte c.args.width k c.loop-row.lines)) left
    ∙ rows-more g.T.RowCell.of_byte c.args.width c.loop-row.cells.items c.next_row.new.cells.items n c.loop-row.lines c.next_row.new.lines c.in_ok-next_row.ensures
