use Rattle.std.proofs.Common.{◌∙◌, ap, arith, refl, sym}
use Rattle.std.specs.Prelude.{slice_index_or}
use Rattle.ant_asm.specs.declared.named.NamedBody.{NamedBody}
use Rattle.ant_asm.specs.declared.walk.Walk.{Walk}
use Rattle.ant_asm.specs.Inner.Outlines.{main_of}
use Rattle.ant_asm.proofs.LabelSteps.{AtBody, body-size}
use Rattle.ant_asm.proofs.Walks.{begin-good, begin-labels, begin-lines}
use Rattle.ant_asm.proofs.walk.Walk.new.Goals as goal

pub returns-clause-good : goal.returns-clause-good
returns-clause-good c =
    let body = c.index-bodies-main.result in
    let some = c.requires.some in let few = c.requires.few in
    let a : AtBody c.args.bodies.now (main_of c.args.bodies.now) body = record { good = c.requires.good; known = omega (arith, some); is = c.index-bodies-main.is } in
    begin-good _ c.requires c.new.ensures refl refl refl (ap (λ (b : NamedBody). b.size) (sym c.index-bodies-main.is) ∙ body-size a 0 (omega (arith, few)))

pub returns-clause-lines : goal.returns-clause-lines
returns-clause-lines c =
    let walk : Walk = record {
      bodies = c.args.bodies;
      outer = c.new.result;
      spot = record { number = main_of c.args.bodies.now; place = 0; at = 0; end = (slice_index_or c.args.bodies.now (main_of c.args.bodies.now) c.index-bodies-main.result).size; after = 0 };
    } in
    begin-lines walk c.requires c.new.ensures refl refl refl

pub returns-clause-labels : goal.returns-clause-labels
returns-clause-labels c =
    let walk : Walk = record {
      bodies = c.args.bodies;
      outer = c.new.result;
      spot = record { number = main_of c.args.bodies.now; place = 0; at = 0; end = (slice_index_or c.args.bodies.now (main_of c.args.bodies.now) c.index-bodies-main.result).size; after = 0 };
    } in
    begin-labels walk c.requires c.new.ensures refl refl refl refl
