use Rattle.std.proofs.Common.{◌+◌, ◌-◌, Ok, ◌∙◌, ap, arith}
use Rattle.std.proofs.lemmas.Result.{err_from_is_err_and}
use Rattle.world_read.specs.Inner.Reading.{rows_from, with_row}
use Rattle.world_read.proofs.ReadsAsLemmas.{ReadsAs-part}
use Rattle.world_read.proofs.RowReads.{rows_from-more, rows_from-missing}
use Rattle.world_read.proofs.rows.read_rows.Goals as goal

pub returns-in_default : goal.returns-in_default
returns-in_default c =
    let w = c.args.width in
    let h = c.args.height in
    let y = c.loop-row.row in
    let kinds = c.loop-row.kinds.items in
    c.loop-row.invariant ∙ ap (λ lines. with_row (Ok kinds) (rows_from w y (h - y) lines)) c.in_default.ensures.steps.0 ∙ rows_from-missing w h y kinds (omega arith)

pub returns-in_err-read_row : goal.returns-in_err-read_row
returns-in_err-read_row c =
    let w = c.args.width in
    let h = c.args.height in
    let y = c.loop-row.row in
    let kinds = c.loop-row.kinds.items in
    let p = err_from_is_err_and c.from_residual.result c.from_residual.ensures.1 in
    rw (p.1, p.2)
    (ReadsAs-part _ _ _
    (λ fault is. c.loop-row.invariant
    ∙ ap (λ lines. with_row (Ok kinds) (rows_from w y (h - y) lines)) c.in-Some.ensures.steps
    ∙ rows_from-more w h y kinds c.in-Some.line.now c.next.new.self (omega arith)
    ∙ ap (λ row. with_row row (rows_from w (y + 1) (h - (y + 1)) c.next.new.self)) is)
    c.in_err-read_row.ensures)

pub loop-row-preserved : goal.loop-row-preserved
loop-row-preserved c =
    let w = c.args.width in
    let h = c.args.height in
    let y = c.loop-row.row in
    let kinds = c.loop-row.kinds.items in
    c.loop-row.invariant
    ∙ ap (λ lines. with_row (Ok kinds) (rows_from w y (h - y) lines)) c.in-Some.ensures.steps
    ∙ rows_from-more w h y kinds c.in-Some.line.now c.next.new.self (omega arith)
    ∙ ap (λ row. with_row row (rows_from w (y + 1) (h - (y + 1)) c.next.new.self)) c.in_ok-read_row.ensures
