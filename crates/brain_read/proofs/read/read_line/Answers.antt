use Rattle.std.proofs.Common.{◌≡◌, length, map, sym, ap, ◌∙◌}
use Rattle.std.proofs.lemmas.Result.{err_from_is_err_and}
use Rattle.line_tokens.specs.Tokens.{tokens_of, has_token}
use Rattle.line_tokens.specs.Inner.LineByLine.{judged_line}
use Rattle.brain_read.specs.Inner.Verdict.{brain_reader}
use Rattle.brain_read.specs.Inner.Answered.{placed_of}
use Rattle.line_tokens.proofs.LineLemmas.{reading_from-skip}
use Rattle.brain_read.proofs.VerdictLemmas.{reading_from-more, reading_from-fault, fails}
use Rattle.brain_read.proofs.read.read_line.Goals as goal
use Rattle.brain_read.proofs.read.read_line.Goals.{After-has_next, After-draft_of}

-- whether the line has a token
has : (c : After-has_next) → c.has_next.result ≡ has_token (tokens_of c.args.line.now)
has c = c.has_next.ensures ∙ ap has_token c.new-tokens.ensures

-- what was judged of the line
judged : (c : After-draft_of) → judged_line brain_reader c.len.result c.args.number c.new-tokens.result ≡ judged_line brain_reader (length c.args.drafts.now.items) c.args.number (tokens_of c.args.line.now)
judged c =
    ap (λ n. judged_line brain_reader n c.args.number c.new-tokens.result) (c.len.ensures ∙ c.args.drafts.now.ok.0)
    ∙ ap (judged_line brain_reader (length c.args.drafts.now.items) c.args.number) c.new-tokens.ensures

pub returns-then-not-has_next-clause-on : goal.returns-then-not-has_next-clause-on
returns-then-not-has_next-clause-on c = λ lines.
    let none = sym (has (goal.at.returns-then-not-has_next-clause-on c).After-has_next) ∙ c.if-not-has_next.true in
    reading_from-skip brain_reader (map placed_of c.args.drafts.now.items) c.args.number c.args.line.now lines none

pub returns-in_err-draft-clause-fault : goal.returns-in_err-draft-clause-fault
returns-in_err-draft-clause-fault c = λ lines.
    let k = goal.at.returns-in_err-draft-clause-fault c in
    let p = err_from_is_err_and c.from_residual.result c.from_residual.ensures.1 in
    let some = sym (has k.After-has_next) ∙ c.if-not-has_next.false in
    let failed = sym (judged k.After-draft_of) ∙ c.in_err-draft.ensures.read in
    rw (p.1, p.2) (fails c.in_err-draft.field-0.0 _ (reading_from-fault c.args.drafts.now.items c.args.number c.args.line.now c.in_err-draft.field-0.0 lines some failed))

pub returns-clause-on : goal.returns-clause-on
returns-clause-on c = λ lines.
    let k = goal.at.returns-clause-on c in
    let some = sym (has k.After-has_next) ∙ c.if-not-has_next.false in
    let read = sym (judged k.After-draft_of) ∙ c.in_ok-draft.ensures.read in
    rw c.in_ok-push.ensures.items (reading_from-more c.args.drafts.now.items c.args.number c.args.line.now c.in_ok-draft.draft lines some read)
