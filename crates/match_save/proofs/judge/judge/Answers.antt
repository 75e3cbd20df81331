use Rattle.std.proofs.Common.{◌≡◌, ◌≤◌, ℕ, true, false, List, length, map, sym, ◌∙◌, ap, subst, arith}
use Rattle.std.proofs.lemmas.Result.{err_from_is_err_and}
use Rattle.brain_read.specs.declared.instr.Instr.{Instr}
use Rattle.brain_read.specs.Drafts.{drafted}
use Rattle.brain_read.specs.Grammar.{StatesBelow}
use Rattle.match_save.specs.Draft.{Draft}
use Rattle.match_save.specs.declared.soil.Soil.{Soil}
use Rattle.match_save.specs.Saved.{IsSaved}
use Rattle.match_save.specs.State.{IsState, hill_count}
use Rattle.match_save.specs.Inner.Fit.{are_fit, has_turns}
use Rattle.match_save.specs.Inner.Said.{said}
use Rattle.match_save.proofs.Judgement.{few-cells, has-state, made-is, refutes-sooner, state-world}
use Rattle.match_save.proofs.SavedLaws.{saved-is}
use Rattle.match_save.proofs.SavedBrains.{fit-holds, fit-true, turns-hold, turns-true}
use Rattle.match_save.proofs.judge.judge.Goals as goal
use Rattle.match_save.proofs.judge.judge.Goals.{In_ok-world}

pub returns-then-ids-gt-MOST_ANTS : goal.returns-then-ids-gt-MOST_ANTS
returns-then-ids-gt-MOST_ANTS c = λ state.
    let d : Draft = said c.args.draft.now in
    let i : c.hill_count-ids.result ≡ hill_count d.soils = c.hill_count-ids.ensures ∙ ap hill_count c.deref.ensures.value in
    let wrong : ⊥ = omega (arith, i, (state-world d c.requires state).few) in
    wrong

pub returns-then-not-has_turns : goal.returns-then-not-has_turns
returns-then-not-has_turns c = λ state.
    let d : Draft = said c.args.draft.now in
    let i : c.hill_count-ids.result ≡ hill_count d.soils = c.hill_count-ids.ensures ∙ ap hill_count c.deref.ensures.value in
    let wrong : false ≡ true = c.if-not-has_turns.ensures ∙ ap (has_turns d.head) i ∙ turns-hold d.head (hill_count d.soils) state.place state.turns in
    absurd (cc)

pub returns-then-not-are_fit : goal.returns-then-not-are_fit
returns-then-not-are_fit c = λ state.
    let d : Draft = said c.args.draft.now in
    let red : c.len.result ≡ length d.red = c.len.ensures.length ∙ ap length (c.in_ok-red.ensures.0 ∙ ap (map drafted) c.deref-2.ensures.value) in
    let black : c.len-2.result ≡ length d.black = c.len-2.ensures.length ∙ ap length (c.in_ok-black.ensures.0 ∙ ap (map drafted) c.deref-3.ensures.value) in
    let wrong : false ≡ true =
    c.if-not-are_fit.ensures ∙ ap (λ (n : ℕ). are_fit n c.len-2.result c.deref-4.result.now) red ∙ ap (λ (n : ℕ). are_fit (length d.red) n c.deref-4.result.now) black
    ∙ ap (are_fit (length d.red) (length d.black)) c.deref-4.ensures.value ∙ fit-holds d d.ants state.fits in
    absurd (cc)

-- the lines describe a state
state-of : (c : In_ok-world) → IsState (said c.args.draft.now)
state-of c =
    let d : Draft = said c.args.draft.now in
    let i : c.hill_count-ids.result ≡ hill_count d.soils = c.hill_count-ids.ensures ∙ ap hill_count c.deref.ensures.value in
    let is_red : map drafted c.deref-2.result.now ≡ d.red = ap (map drafted) c.deref-2.ensures.value in
    let is_black : map drafted c.deref-3.result.now ≡ d.black = ap (map drafted) c.deref-3.ensures.value in
    let red : c.len.result ≡ length d.red = c.len.ensures.length ∙ ap length (c.in_ok-red.ensures.0 ∙ is_red) in
    let black : c.len-2.result ≡ length d.black = c.len-2.ensures.length ∙ ap length (c.in_ok-black.ensures.0 ∙ is_black) in
    let fit : are_fit (length d.red) (length d.black) d.ants ≡ true =
    sym (c.if-not-are_fit.ensures ∙ ap (λ (n : ℕ). are_fit n c.len-2.result c.deref-4.result.now) red ∙ ap (λ (n : ℕ). are_fit (length d.red) n c.deref-4.result.now) black
    ∙ ap (are_fit (length d.red) (length d.black)) c.deref-4.ensures.value) in
    let turns = turns-true d.head (hill_count d.soils) (sym (c.if-not-has_turns.ensures ∙ ap (has_turns d.head) i)) in
    has-state d c.requires c.in_ok-world.ensures.0 (record {
      red = subst (λ (l : List Instr). StatesBelow (length l) l) is_red c.in_ok-red.ensures.1;
      black = subst (λ (l : List Instr). StatesBelow (length l) l) is_black c.in_ok-black.ensures.1;
      fits = fit-true d d.ants fit;
      place = turns.0;
      turns = turns.1;
    })

pub of-requires-clause-saved : goal.of-requires-clause-saved
of-requires-clause-saved c =
    let d : Draft = said c.args.draft.now in
    subst IsSaved (sym (made-is d c.in_ok-red.red c.in_ok-black.black c.in_ok-world.world (c.in_ok-red.ensures.0 ∙ ap (map drafted) c.deref-2.ensures.value) (c.in_ok-black.ensures.0 ∙ ap (map drafted) c.deref-3.ensures.value) c.in_ok-world.ensures.1))
    (saved-is d c.requires (state-of (goal.at.of-requires-clause-saved c).In_ok-world))

pub returns : goal.returns
returns c =
    let d : Draft = said c.args.draft.now in (
      state-of (goal.at.returns c).In_ok-world,
      c.of.ensures ∙ made-is d c.in_ok-red.red c.in_ok-black.black c.in_ok-world.world (c.in_ok-red.ensures.0 ∙ ap (map drafted) c.deref-2.ensures.value) (c.in_ok-black.ensures.0 ∙ ap (map drafted) c.deref-3.ensures.value) c.in_ok-world.ensures.1,
    )

pub returns-in_err-red : goal.returns-in_err-red
returns-in_err-red c =
    let is_red = ap (map drafted) c.deref-2.ensures.value in
    let p = err_from_is_err_and c.from_residual.result c.from_residual.ensures.1 in
    rw (p.1, p.2) (refutes-sooner (λ (state : IsState (said c.args.draft.now)). subst (λ (l : List Instr). StatesBelow (length l) l) (sym is_red) state.red) _ c.in_err-red.ensures)

pub returns-in_err-black : goal.returns-in_err-black
returns-in_err-black c =
    let is_black = ap (map drafted) c.deref-3.ensures.value in
    let p = err_from_is_err_and c.from_residual-in_err-black.result c.from_residual-in_err-black.ensures.1 in
    rw (p.1, p.2) (refutes-sooner (λ (state : IsState (said c.args.draft.now)). subst (λ (l : List Instr). StatesBelow (length l) l) (sym is_black) state.black) _ c.in_err-black.ensures)

pub hill_count-ids-requires : goal.hill_count-ids-requires
hill_count-ids-requires c =
    let d : Draft = said c.args.draft.now in
    subst (λ (soils : List Soil). length soils ≤ 262144) (sym c.deref.ensures.value)
    (subst (λ (n : ℕ). n ≤ 262144) (c.requires.foods ∙ sym c.requires.soils) (few-cells d c.requires))
