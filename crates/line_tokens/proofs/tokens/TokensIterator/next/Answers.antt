use Rattle.std.proofs.Common.{◌∙◌, sym, arith}
use Rattle.line_tokens.proofs.TokensLemmas.{IsNext, next_of}
use Rattle.line_tokens.proofs.tokens.TokensIterator.next.Goals as goal
use Rattle.line_tokens.proofs.tokens.TokensIterator.next.Goals.{After-split_at}

-- the token that was cut off is the next one
next : (c : After-split_at) → IsNext c.self.inside.rest.now c.split_at.result.0.now c.split_at.result.1.now
next c = next_of c.self.inside.rest.now c.after_separators-start.result.now c.split_at.result.0.now c.split_at.result.1.now c.token_length.result c.after_separators-start.ensures c.token_length.ensures.bytes c.split_at.ensures.front c.split_at.ensures.back

pub returns-then-is_empty-clause-steps : goal.returns-then-is_empty-clause-steps
returns-then-is_empty-clause-steps c =
    let n = next (goal.at.returns-then-is_empty-clause-steps c).After-split_at in
    let empty = sym c.is_empty.ensures ∙ c.if-is_empty.true in
    (sym c.self.view_is ∙ n.ended empty, n.left empty)

pub returns-clause-steps : goal.returns-clause-steps
returns-clause-steps c =
    let n = next (goal.at.returns-clause-steps c).After-split_at in
    sym c.self.view_is ∙ n.found (sym c.is_empty.ensures ∙ c.if-is_empty.false)

pub returns-clause-goes : goal.returns-clause-goes
returns-clause-goes c =
    let n = next (goal.at.returns-clause-goes c).After-split_at in
    let found = sym c.self.view_is ∙ n.found (sym c.is_empty.ensures ∙ c.if-is_empty.false) in
    record { on = λ finite. (tt, tt, rw found (omega arith)); keeps = tt; rests = λ finite. tt }
