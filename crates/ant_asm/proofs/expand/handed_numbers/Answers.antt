use Rattle.std.proofs.Common.{ℕ, ◌∷◌, ◌++◌, [], get_or, ap, ◌∙◌, refl}
use Rattle.ant_asm.specs.declared.action.Label.{Label}
use Rattle.ant_asm.specs.Inner.Flat.{number_led}
use Rattle.ant_asm.proofs.MadeLists.{made-all, made-more, made-none}
use Rattle.ant_asm.proofs.expand.handed_numbers.Goals as goal

pub loop-label-init : goal.loop-label-init
loop-label-init c = made-none (number_led c.args.spot) c.args.handed.now c.in_ok-numbers.numbers.items c.in_ok-numbers.ensures.items

pub loop-label-preserved : goal.loop-label-preserved
loop-label-preserved c =
    made-more (number_led c.args.spot) c.args.handed.now c.loop-label.numbers.items c.loop-label.label-index (get_or c.args.handed.now c.loop-label.label-index Label.Next) Label.Next c.push.new.self.items c.loop-label-test.true refl
    (c.in_ok-push.ensures.items ∙ ap (λ (n : ℕ). c.loop-label.numbers.items ++ n ∷ []) c.number_target.ensures)
    c.loop-label.invariant

pub returns : goal.returns
returns c = made-all (number_led c.args.spot) c.args.handed.now c.loop-label.numbers.items c.loop-label.label-index c.loop-label-test.false c.loop-label.invariant
