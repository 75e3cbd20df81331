use Rattle.std.proofs.Common.{◌∷◌, ◌++◌, [], get_or, ap, ◌∙◌, refl}
use Rattle.ant_asm.specs.declared.action.Label.{Label}
use Rattle.ant_asm.specs.declared.spelling.Source.{Source}
use Rattle.ant_asm.specs.Standing.{way_or_next}
use Rattle.ant_asm.specs.Inner.Reading.{seen}
use Rattle.ant_asm.specs.Inner.Scopes.{known_as}
use Rattle.ant_asm.proofs.MadeLists.{made-all, made-more, made-none}
use Rattle.ant_asm.proofs.open.resolved_labels.Goals as goal

pub loop-label-init : goal.loop-label-init
loop-label-init c = made-none (λ (label : Source). way_or_next (known_as c.args.names.now.entries) (seen label)) c.args.labels.now c.in_ok-made.made.items c.in_ok-made.ensures.items

pub loop-label-preserved : goal.loop-label-preserved
loop-label-preserved c =
    made-more (λ (label : Source). way_or_next (known_as c.args.names.now.entries) (seen label)) c.args.labels.now c.loop-label.made.items c.loop-label.label-index (get_or c.args.labels.now c.loop-label.label-index Source.Next) Source.Next c.push.new.self.items c.loop-label-test.true refl
    (c.in_ok-push.ensures.items ∙ ap (λ (label : Label). c.loop-label.made.items ++ label ∷ []) c.way_or_next.ensures)
    c.loop-label.invariant

pub returns : goal.returns
returns c = made-all (λ (label : Source). way_or_next (known_as c.args.names.now.entries) (seen label)) c.args.labels.now c.loop-label.made.items c.loop-label.label-index c.loop-label-test.false c.loop-label.invariant
