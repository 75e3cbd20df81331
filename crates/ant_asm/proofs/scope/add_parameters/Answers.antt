use Rattle.std.proofs.Common.{◌≡◌, ℕ, suc, ◌+◌, ◌-◌, ◌<◌, List, [], ◌∷◌, length, drop, get_or, sym, ap, ◌∙◌, subst, arith}
use Rattle.std.specs.Borrow.{Bor}
use Rattle.std.proofs.lemmas.List.{drop_more, get_or-map, length-map}
use Rattle.ant_asm.specs.declared.action.Label.TheVariants.{Parameter}
use Rattle.ant_asm.specs.Inner.ReadLine.{names_seen}
use Rattle.ant_asm.specs.Standing.{parameter_names, with_name}
use Rattle.ant_asm.proofs.scope.add_parameters.Goals as goal

-- the names from a place on
names-from : (names : List (Bor (List ℕ))) (i : ℕ) (other : Bor (List ℕ)) → i < length names →
    parameter_names i (drop i (names_seen names)) ≡ with_name (get_or names i other).now (Parameter i) (parameter_names (suc i) (drop (i + 1) (names_seen names)))
names-from names i other inside =
    ap (parameter_names i) (drop_more (names_seen names) i other.now (subst (λ (n : ℕ). i < n) (sym (length-map names (λ (name : Bor (List ℕ)). name.now))) inside))
    ∙ ap (λ (name : List ℕ). parameter_names i (name ∷ drop (i + 1) (names_seen names))) (get_or-map (λ (name : Bor (List ℕ)). name.now) names i other other.now inside)

pub loop-i-preserved : goal.loop-i-preserved
loop-i-preserved c =
    let names = c.args.parameters.now in
    let other : Bor (List ℕ) = record { ref_ptr = (0, 0); now = [] } in
    let i : ℕ = c.loop-i.i - 1 in
    let some = c.loop-i-test.true in
    let within = c.loop-i.auto.i in
    let here : c.loop-i.i ≡ suc i = omega (arith, some) in
    let next : suc i ≡ i + 1 = omega arith in
    c.in_ok-add_name.ensures
    ∙ ap (with_name (get_or names i other).now (Parameter i))
    (c.loop-i.invariant ∙ ap (λ (n : ℕ). parameter_names n (drop n (names_seen names))) here ∙ ap (λ (n : ℕ). parameter_names (suc i) (drop n (names_seen names))) next)
    ∙ sym (names-from names i other (omega (arith, some, within)))
