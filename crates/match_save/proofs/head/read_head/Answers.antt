use Rattle.std.proofs.lemmas.Result.{err_from_is_err_and}
use Rattle.match_save.proofs.Words.{head-first, head-read, head-seed, head-sheet, head-standing}
use Rattle.match_save.proofs.head.read_head.Goals as goal

pub returns-clause-head : goal.returns-clause-head
returns-clause-head c = head-read c.args.lines.now c.first_line.new.lines c.named_number.new.lines c.sheet_line.new.lines c.standing_lines.new.lines c.in_ok-first_line.field-0
    c.in_ok-seed.seed (c.in_ok-surround.surround, (c.in_ok-surround.corpse, c.in_ok-surround.rest))
    (c.in_ok-window.window, (c.in_ok-window.round, (c.in_ok-window.place, ((c.in_ok-window.taken, c.in_ok-window.redone), (c.in_ok-window.width, c.in_ok-window.height)))))
    c.in_ok-first_line.ensures c.in_ok-seed.ensures.value c.in_ok-surround.ensures.value c.in_ok-window.ensures.value

pub returns-in_err-first_line-clause-head : goal.returns-in_err-first_line-clause-head
returns-in_err-first_line-clause-head c =
    let p = err_from_is_err_and c.from_residual.result c.from_residual.ensures.1 in
    rw (p.1, p.2) (head-first c.args.lines.now c.in_err-first_line.field-0.0.0 c.in_err-first_line.ensures)

pub returns-in_err-seed-clause-head : goal.returns-in_err-seed-clause-head
returns-in_err-seed-clause-head c =
    let p = err_from_is_err_and c.from_residual-in_err-seed.result c.from_residual-in_err-seed.ensures.1 in
    rw (p.1, p.2) (head-seed c.args.lines.now c.first_line.new.lines c.in_ok-first_line.field-0 c.in_ok-first_line.ensures c.in_err-seed.field-0.0.0 c.in_err-seed.ensures.value)

pub returns-in_err-surround-clause-head : goal.returns-in_err-surround-clause-head
returns-in_err-surround-clause-head c =
    let p = err_from_is_err_and c.from_residual-in_err-surround.result c.from_residual-in_err-surround.ensures.1 in
    rw (p.1, p.2) (head-sheet c.args.lines.now c.first_line.new.lines c.in_ok-first_line.field-0 c.in_ok-first_line.ensures c.named_number.new.lines c.in_ok-seed.seed c.in_ok-seed.ensures.value c.in_err-surround.field-0.0.0 c.in_err-surround.ensures.value)

pub returns-in_err-window-clause-head : goal.returns-in_err-window-clause-head
returns-in_err-window-clause-head c =
    let p = err_from_is_err_and c.from_residual-in_err-window.result c.from_residual-in_err-window.ensures.1 in
    rw (p.1, p.2) (head-standing c.args.lines.now c.first_line.new.lines c.in_ok-first_line.field-0 c.in_ok-first_line.ensures c.named_number.new.lines c.in_ok-seed.seed c.in_ok-seed.ensures.value c.sheet_line.new.lines (c.in_ok-surround.surround, (c.in_ok-surround.corpse, c.in_ok-surround.rest)) c.in_err-window.field-0.0.0 c.in_ok-surround.ensures.value c.in_err-window.ensures.value)
