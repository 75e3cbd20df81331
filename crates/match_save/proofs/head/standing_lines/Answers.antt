use Rattle.std.proofs.lemmas.Result.{err_from_is_err_and}
use Rattle.match_save.proofs.Words.{standing-fifth, standing-first, standing-fourth, standing-read, standing-second, standing-third}
use Rattle.match_save.proofs.head.standing_lines.Goals as goal

pub returns-in_err-window-clause-value : goal.returns-in_err-window-clause-value
returns-in_err-window-clause-value c =
    let p = err_from_is_err_and c.from_residual.result c.from_residual.ensures.1 in
    rw (p.1, p.2) (standing-first c.args.lines.now c.in_err-window.field-0.0.0 c.in_err-window.ensures.value)

pub returns-in_err-round-clause-value : goal.returns-in_err-round-clause-value
returns-in_err-round-clause-value c =
    let p = err_from_is_err_and c.from_residual-in_err-round.result c.from_residual-in_err-round.ensures.1 in
    rw (p.1, p.2) (standing-second c.args.lines.now c.named_number.new.lines c.in_ok-window.window c.in_ok-window.ensures.value c.in_err-round.field-0.0.0 c.in_err-round.ensures.value)

pub returns-in_err-place-clause-value : goal.returns-in_err-place-clause-value
returns-in_err-place-clause-value c =
    let p = err_from_is_err_and c.from_residual-in_err-place.result c.from_residual-in_err-place.ensures.1 in
    rw (p.1, p.2) (standing-third c.args.lines.now c.named_number.new.lines c.in_ok-window.window c.in_ok-window.ensures.value c.named_number-2.new.lines c.in_ok-round.round c.in_ok-round.ensures.value c.in_err-place.field-0.0.0 c.in_err-place.ensures.value)

pub returns-in_err-counts-clause-value : goal.returns-in_err-counts-clause-value
returns-in_err-counts-clause-value c =
    let p = err_from_is_err_and c.from_residual-in_err-counts.result c.from_residual-in_err-counts.ensures.1 in
    rw (p.1, p.2) (standing-fourth c.args.lines.now c.named_number.new.lines c.in_ok-window.window c.in_ok-window.ensures.value c.named_number-2.new.lines c.in_ok-round.round c.in_ok-round.ensures.value c.named_number-3.new.lines c.in_ok-place.place c.in_ok-place.ensures.value c.in_err-counts.field-0.0.0 c.in_err-counts.ensures)

pub returns-in_err-sizes-clause-value : goal.returns-in_err-sizes-clause-value
returns-in_err-sizes-clause-value c =
    let p = err_from_is_err_and c.from_residual-in_err-sizes.result c.from_residual-in_err-sizes.ensures.1 in
    rw (p.1, p.2) (standing-fifth c.args.lines.now c.named_number.new.lines c.in_ok-window.window c.in_ok-window.ensures.value c.named_number-2.new.lines c.in_ok-round.round c.in_ok-round.ensures.value c.named_number-3.new.lines c.in_ok-place.place c.in_ok-place.ensures.value c.counts_line.new.lines c.in_ok-counts.counts c.in_ok-counts.ensures c.in_err-sizes.field-0.0.0 c.in_err-sizes.ensures.value)

pub returns-clause-value : goal.returns-clause-value
returns-clause-value c = standing-read c.args.lines.now c.named_number.new.lines c.in_ok-window.window c.in_ok-window.ensures.value c.named_number-2.new.lines c.in_ok-round.round c.in_ok-round.ensures.value c.named_number-3.new.lines c.in_ok-place.place c.in_ok-place.ensures.value c.counts_line.new.lines c.in_ok-counts.counts c.in_ok-counts.ensures c.size_line.new.lines c.in_ok-sizes.sizes c.in_ok-sizes.ensures.value
