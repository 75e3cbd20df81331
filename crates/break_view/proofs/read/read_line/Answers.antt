use Rattle.std.proofs.Common.{◌≡◌, length, sym, ap, ◌∙◌}
use Rattle.std.proofs.lemmas.Result.{err_from_is_err_and}
use Rattle.line_tokens.specs.Tokens.{tokens_of, has_token}
use Rattle.line_tokens.specs.Inner.LineByLine.{judged_line}
use Rattle.line_tokens.proofs.LineLemmas.{reading_from-skip, reading_from-more, reading_from-fault}
use Rattle.break_view.specs.Inner.Verdict.{break_reader}
use Rattle.break_view.proofs.VerdictLemmas.{fails}
use Rattle.break_view.proofs.read.read_line.Goals as goal
use Rattle.break_view.proofs.read.read_line.Goals.{After-has_next, After-item_of}

-- whether the line has a token
has : (c : After-has_next) → c.has_next.result ≡ has_token (tokens_of c.args.line.now)
has c = c.has_next.ensures ∙ ap has_token c.new-tokens.ensures

-- what was judged of the line
judged : (c : After-item_of) → judged_line break_reader c.len.result c.args.number c.new-tokens.result ≡ judged_line break_reader (length c.args.list.now.items) c.args.number (tokens_of c.args.line.now)
judged c =
    ap (λ n. judged_line break_reader n c.args.number c.new-tokens.result) (c.len.ensures ∙ c.args.list.now.ok.0)
    ∙ ap (judged_line break_reader (length c.args.list.now.items) c.args.number) c.new-tokens.ensures

pub returns-then-not-has_next-clause-on : goal.returns-then-not-has_next-clause-on
returns-then-not-has_next-clause-on c = λ lines.
    let none = sym (has (goal.at.returns-then-not-has_next-clause-on c).After-has_next) ∙ c.if-not-has_next.true in
    reading_from-skip break_reader c.args.list.now.items c.args.number c.args.line.now lines none

pub returns-in_err-item-clause-fault : goal.returns-in_err-item-clause-fault
returns-in_err-item-clause-fault c = λ lines.
    let k = goal.at.returns-in_err-item-clause-fault c in
    let p = err_from_is_err_and c.from_residual.result c.from_residual.ensures.1 in
    let some = sym (has k.After-has_next) ∙ c.if-not-has_next.false in
    let failed = sym (judged k.After-item_of) ∙ c.in_err-item.ensures.read in
    rw (p.1, p.2) (fails c.in_err-item.field-0.0 _ (reading_from-fault break_reader c.args.list.now.items c.args.number c.args.line.now c.in_err-item.field-0.0 lines some failed))

pub returns-clause-on : goal.returns-clause-on
returns-clause-on c = λ lines.
    let k = goal.at.returns-clause-on c in
    let some = sym (has k.After-has_next) ∙ c.if-not-has_next.false in
    let read = sym (judged k.After-item_of) ∙ c.in_ok-item.ensures.read in
    rw c.in_ok-push.ensures.items (reading_from-more break_reader c.args.list.now.items c.args.number c.args.line.now c.in_ok-item.item lines some read)
