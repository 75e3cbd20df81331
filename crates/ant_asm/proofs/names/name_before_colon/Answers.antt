use Rattle.std.proofs.Common.{◌≡◌, Some, None, Bool, cond, sym, ap, ◌∙◌}
use Rattle.std.specs.Prelude.{◌==◌}
use Rattle.std.proofs.lemmas.Bool.{eq-eqb, false_from_ne_true, eqb-true}
use Rattle.ant_asm.specs.Names.{before_colon, name_if}
use Rattle.ant_asm.proofs.LineTokens.{before_colon-last}
use Rattle.ant_asm.proofs.names.name_before_colon.Goals as goal
use Rattle.ant_asm.proofs.names.name_before_colon.Goals.{In-Some}

-- what precedes the colon, by the last byte
before : (c : In-Some) → before_colon c.args.token.now ≡ cond (c.in-Some.last.now == 58) (Some c.in-Some.front.now) None
before c = ap before_colon c.in-Some.ensures.cases.0 ∙ before_colon-last c.in-Some.front.now c.in-Some.last.now

pub returns-then-last-ne58 : goal.returns-then-last-ne58
returns-then-last-ne58 c =
    sym (ap name_if (before (goal.at.returns-then-last-ne58 c).In-Some
    ∙ ap (λ (b : Bool). cond b (Some c.in-Some.front.now) None) (false_from_ne_true (c.in-Some.last.now == 58) (λ is. c.if-last-ne58.true (eqb-true c.in-Some.last.now 58 is)))))

pub returns-then-not-is_name : goal.returns-then-not-is_name
returns-then-not-is_name c =
    sym (ap name_if (before (goal.at.returns-then-not-is_name c).In-Some ∙ ap (λ (b : Bool). cond b (Some c.in-Some.front.now) None) (eq-eqb c.in-Some.last.now 58 c.if-last-ne58.false))
    ∙ ap (λ (b : Bool). cond b (Some c.in-Some.front.now) None) (sym c.is_name.ensures ∙ c.if-not-is_name.true))

pub returns : goal.returns
returns c =
    sym (ap name_if (before (goal.at.returns c).In-Some ∙ ap (λ (b : Bool). cond b (Some c.in-Some.front.now) None) (eq-eqb c.in-Some.last.now 58 c.if-last-ne58.false))
    ∙ ap (λ (b : Bool). cond b (Some c.in-Some.front.now) None) (sym c.is_name.ensures ∙ c.if-not-is_name.false))
