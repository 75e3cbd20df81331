use Rattle.std.proofs.Common.{◌≡◌, [], ◌∷◌, ◌++◌, Option, sym, ap, ◌∙◌, subst}
use Rattle.ant_asm.specs.declared.outline.Around.{Around}
use Rattle.ant_asm.specs.declared.outline.Outlines.{Outlines}
use Rattle.ant_asm.specs.Inner.Outlines.{AreOutlinesOf, IsGoodAround, IsGoodNamed, blocks_named, outline_in, outlines_of, rest_around, rest_of}
use Rattle.ant_asm.proofs.OutlineReading.{outlines-read}
use Rattle.ant_asm.proofs.outline.take_outlines.Goals.{in-Some, in-None}
use Rattle.ant_asm.proofs.outline.take_outlines.Goals as goal

pub returns : goal.returns
returns c = λ lines whole.
    let o = c.args.outlines.now in
    let os = outlines_of o.bodies.items in
    let main = c.match-take.main in
    let blocks = blocks_named o.bodies.items o.blocks.entries in
    let facts : (c.match-take.outlines.bodies ≡ o.bodies) × IsGoodNamed os main × (rest_of o [] ≡ outline_in os main) = elim c.match-take.branch [
      | in-Some w ↦ (
        ap (λ (n : Outlines). n.bodies) w.outlines-is,
        subst (IsGoodNamed os) (sym w.main-is) (subst (IsGoodAround os) (sym c.take.ensures.value ∙ w.in-Some.is) c.requires.good.around),
        ap (λ (a : Option Around). rest_around o.bodies.items a o.current blocks []) (sym c.take.ensures.value ∙ w.in-Some.is) ∙ ap (outline_in os) (sym w.main-is),
      )
      | in-None w ↦ (
        ap (λ (n : Outlines). n.bodies) w.outlines-is,
        subst (IsGoodNamed os) (sym (w.main-is ∙ w.replace-main.ensures.value)) c.requires.good.current,
        ap (λ (a : Option Around). rest_around o.bodies.items a o.current blocks []) (sym c.take.ensures.value ∙ w.in-None.is) ∙ ap (outline_in os) (sym (w.main-is ∙ w.replace-main.ensures.value)),
      )
    ] in
    subst (AreOutlinesOf lines)
    (sym (ap (λ (v : _). v.items) c.replace.ensures.value ∙ c.in_ok-push.ensures.items ∙ ap (λ (v : _). v.items ++ main ∷ []) facts.0))
    (outlines-read o main lines c.requires.good facts.1 whole facts.2)
