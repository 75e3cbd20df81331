use Rattle.std.proofs.Common.{◌≡◌, ℕ, ◌<◌, List, length, get_or, set, None, Option, Some, inl, inr, refl, sym, ◌∙◌, ap, subst}
use Rattle.std.proofs.lemmas.List.{get_or_default, get_or-set_other, get_or-set_same, length-set}
use Rattle.std.proofs.lemmas.Bool.{cases_eq, cond-true, cond-false, eq-eqb, ne_eqb}
use Rattle.hex_geometry.specs.declared.position.Pos.{Pos}
use Rattle.cell_world.specs.declared.ant.Ant.{Ant}
use Rattle.cell_world.specs.declared.body.Body.{Body}
use Rattle.cell_world.specs.Inner.Bodies.{IsKnown, IsMadeBody, Moved, came, gone}
use Rattle.cell_world.specs.Inner.Stored.{body_at}
use Rattle.cell_world.proofs.Bodies.{came-other, came-same}
use Rattle.cell_world.proofs.world.ground.note_change.Goals.{in-Some, in_default}
use Rattle.cell_world.proofs.world.ground.note_change.Goals as goal

-- the bodies when nobody goes
moved-none : (old mid : List Body) (p : Pos) (before : Option ℕ) → before ≡ None → mid ≡ old → Moved old mid p before None
moved-none old mid p before none is = subst (λ (z : Option ℕ × List Body). Moved old z.1 p z.0 None) (λ j. (sym none j, sym is j)) (record { all_ids = refl; each = λ t unnamed early. refl })

-- the bodies when the ant of this id is nowhere
moved-gone : (old mid : List Body) (p : Pos) (before : Option ℕ) (id : ℕ) (d : Body) → before ≡ Some id → IsMadeBody (length old) before → mid ≡ set old id (record (get_or old id d) { place = None }) → Moved old mid p before None
moved-gone old mid p before id d some known is =
    let made : id < length old = subst (IsMadeBody (length old)) some known in
    let body : Body = record (get_or old id d) { place = None } in
    subst (λ (z : Option ℕ × List Body). Moved old z.1 p z.0 None) (λ j. (sym some j, sym is j))
    (record {
      all_ids = length-set old id body;
      each = λ t none early. elim (cases_eq t id) [
        | inl same ↦
            ap (λ i. get_or (set old id body) i none) same
            ∙ get_or-set_same old id body none made
            ∙ ap (λ (b : Body). record b { place = None }) (get_or_default old id d none made)
            ∙ ap (λ i. record (get_or old i none) { place = None }) (sym same)
            ∙ sym (cond-true _ _ _ (eq-eqb id t (sym same)))
        | inr apart ↦ get_or-set_other old id t body none apart ∙ sym (cond-false _ _ _ (ne_eqb id t (λ e. apart (sym e))))
      ];
    })

-- and when another ant comes then
moved-came : (old mid : List Body) (p : Pos) (before : Option ℕ) (after : Option Ant) (ant : Ant) (body : Body) → after ≡ Some ant → IsKnown (length old) after → body ≡ body_at p ant → Moved old mid p before None → Moved old (set mid ant.id body) p before after
moved-came old mid p before after ant body some known own moved =
    let made : ant.id < length old = subst (IsKnown (length old)) some known in
    subst (Moved old (set mid ant.id body) p before) (sym some)
    (record {
      all_ids = length-set mid ant.id body ∙ moved.all_ids;
      each = λ t none early. elim (cases_eq t ant.id) [
        | inl same ↦
            ap (λ i. get_or (set mid ant.id body) i none) same
            ∙ get_or-set_same mid ant.id body none (subst (λ n. ant.id < n) (sym moved.all_ids) made)
            ∙ own
            ∙ sym (came-same p ant _)
            ∙ ap (λ i. came i p (Some ant) (gone i before (get_or old i none))) (sym same)
        | inr apart ↦ get_or-set_other mid ant.id t body none apart ∙ moved.each t none early ∙ sym (came-other t p (Some ant) _ (ne_eqb ant.id t (λ e. apart (sym e))))
      ];
    })

pub returns-in-Some-after : goal.returns-in-Some-after
returns-in-Some-after c =
    let old = c.args.bodies.now in
    let mid = c.match-before.bodies in
    let moved : Moved old mid c.args.p c.args.before None = elim c.match-before.branch [
      | in-Some w ↦ moved-gone old mid c.args.p c.args.before w.in-Some.id _ w.in-Some.is c.requires.before w.bodies-is
      | in_default w ↦ moved-none old mid c.args.p c.args.before w.in_default.is w.bodies-is
    ] in
    moved-came old mid c.args.p c.args.before c.args.after c.in-Some-after.ant c.at.result c.in-Some-after.is c.requires.after c.at.ensures moved

pub returns-in_default-after : goal.returns-in_default-after
returns-in_default-after c =
    let old = c.args.bodies.now in
    let mid = c.match-before.bodies in
    let moved : Moved old mid c.args.p c.args.before None = elim c.match-before.branch [
      | in-Some w ↦ moved-gone old mid c.args.p c.args.before w.in-Some.id _ w.in-Some.is c.requires.before w.bodies-is
      | in_default w ↦ moved-none old mid c.args.p c.args.before w.in_default.is w.bodies-is
    ] in
    subst (Moved old mid c.args.p c.args.before) (sym c.in_default-after.is) moved
