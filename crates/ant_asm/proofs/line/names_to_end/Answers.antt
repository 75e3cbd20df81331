use Rattle.std.proofs.Common.{inl, List, ℕ, suc, ◌+◌, ◌-◌, ap, ◌∙◌}
use Rattle.std.specs.Borrow.{Bor}
use Rattle.std.proofs.lemmas.Result.{err_from_is_err_and}
use Rattle.ant_asm.specs.Inner.Reading.{read_name, take_all}
use Rattle.ant_asm.specs.Inner.ReadLine.{all_before, names_seen}
use Rattle.ant_asm.proofs.TakeAll.{all-ends, all-goes-on, all-stops, before-nothing, left-one, stops-same}
use Rattle.ant_asm.proofs.line.names_to_end.Goals as goal

pub returns-in_err-add_name : goal.returns-in_err-add_name
returns-in_err-add_name c =
    let p = err_from_is_err_and c.from_residual.result c.from_residual.ensures.1 in
    let k = c.loop-k._k in
    rw (p.1, p.2) (all-stops read_name 8 c.args.tokens.now c.in_err-add_name.field-0.0
    (stops-same (all_before (names_seen c.loop-k.names.items) (take_all read_name (suc (8 - (k + 1))) c.loop-k.tokens)) (take_all read_name 8 c.args.tokens.now) c.in_err-add_name.field-0.0
    (ap (λ (n : ℕ). all_before (names_seen c.loop-k.names.items) (take_all read_name n c.loop-k.tokens)) (left-one k c.loop-k-test.true) ∙ c.loop-k.invariant)
    (c.in_err-add_name.ensures.fault (8 - (k + 1)))))

pub loop-k-preserved : goal.loop-k-preserved
loop-k-preserved c =
    let k = c.loop-k._k in
    c.in_ok-add_name.ensures.on (8 - (k + 1))
    ∙ ap (λ (n : ℕ). all_before (names_seen c.loop-k.names.items) (take_all read_name n c.loop-k.tokens)) (left-one k c.loop-k-test.true) ∙ c.loop-k.invariant

pub loop-k-init : goal.loop-k-init
loop-k-init c =
    ap (λ (l : List (Bor (List ℕ))). all_before (names_seen l) (take_all read_name 8 c.args.tokens.now)) c.new-names.ensures.items
    ∙ before-nothing (take_all read_name 8 c.args.tokens.now)

pub returns-in_err-end : goal.returns-in_err-end
returns-in_err-end c =
    let p = err_from_is_err_and c.from_residual-in_err-end.result c.from_residual-in_err-end.ensures.1 in
    rw (p.1, p.2) (inl (all-goes-on read_name (names_seen c.loop-k.names.items) c.loop-k._k c.loop-k.tokens c.args.tokens.now c.loop-k-test.false c.loop-k.invariant c.in_err-end.field-0.0 c.in_err-end.ensures.step))

pub returns : goal.returns
returns c = all-ends read_name (names_seen c.loop-k.names.items) c.loop-k._k c.loop-k.tokens c.args.tokens.now c.loop-k-test.false c.loop-k.invariant _ c.in_ok-end.ensures.step
