use Rattle.std.proofs.Common.{◌+◌, get_or, drop, arith, sym, ap, ◌∙◌}
use Rattle.std.proofs.lemmas.Result.{err_from_is_err_and}
use Rattle.world_read.specs.Bytes.{spelled}
use Rattle.world_read.specs.Inner.Reading.{onto_row, row_from, with_cell}
use Rattle.world_read.proofs.ReadsAsLemmas.{ReadsAs-told}
use Rattle.world_read.proofs.RowReads.{cell_of-known, onto_row-more, row_from-apart, row_from-next}
use Rattle.world_read.proofs.row.read_row.Goals as goal

pub loop-byte-preserved-then-is_separator : goal.loop-byte-preserved-then-is_separator
loop-byte-preserved-then-is_separator c =
    let at = c.loop-byte in
    (at.invariant.0, at.invariant.1 ∙ ap (onto_row at.kinds.items) (row_from-apart c.args.width c.args.row at.column at.byte-index c.args.line.now c.loop-byte-test.true (sym c.is_separator.ensures ∙ c.if-is_separator.true)))

pub returns-in_err-kind : goal.returns-in_err-kind
returns-in_err-kind c =
    let at = c.loop-byte in
    let p = err_from_is_err_and c.from_residual.result c.from_residual.ensures.1 in
    let next = row_from-next c.args.width c.args.row at.column at.byte-index c.args.line.now c.loop-byte-test.true (sym c.is_separator.ensures ∙ c.if-is_separator.false) in
    rw (p.1, p.2)
    (ReadsAs-told _ c.in_err-kind.field-0.0
    (at.invariant.1
    ∙ ap (onto_row at.kinds.items) next
    ∙ ap (λ cell. onto_row at.kinds.items (with_cell cell (row_from c.args.width c.args.row (at.column + 1) (spelled (drop (at.byte-index + 1) c.args.line.now))))) (sym c.cell_of.ensures ∙ c.in_err-kind.was)))

pub overflow_add-column : goal.overflow_add-column
overflow_add-column c =
    let cell = cell_of-known c.args.width c.args.row c.loop-byte.column (get_or c.args.line.now c.loop-byte.byte-index 0) c.in_ok-kind.kind (sym c.cell_of.ensures ∙ c.in_ok-kind.was) in
    let wide = c.ranges.width in
    let within = cell.within in
    omega arith

pub loop-byte-preserved : goal.loop-byte-preserved
loop-byte-preserved c =
    let at = c.loop-byte in
    let told = sym c.cell_of.ensures ∙ c.in_ok-kind.was in
    let cell = cell_of-known c.args.width c.args.row at.column (get_or c.args.line.now at.byte-index 0) c.in_ok-kind.kind told in
    let next = row_from-next c.args.width c.args.row at.column at.byte-index c.args.line.now c.loop-byte-test.true (sym c.is_separator.ensures ∙ c.if-is_separator.false) in
    let rest = row_from c.args.width c.args.row (at.column + 1) (spelled (drop (at.byte-index + 1) c.args.line.now)) in
    let within = cell.within in (
      omega arith,
      at.invariant.1
          ∙ ap (onto_row at.kinds.items) next
          ∙ ap (λ cell. onto_row at.kinds.items (with_cell cell rest)) told
          ∙ onto_row-more at.kinds.items c.in_ok-kind.kind rest
          ∙ ap (λ kinds. onto_row kinds rest) (sym c.in_ok-push.ensures.items),
    )
