use Rattle.std.proofs.Common.{subst, sym, ap, ◌∙◌}
use Rattle.ant_asm.specs.Inner.Flat.{IsLabelOf, number_led}
use Rattle.ant_asm.proofs.FlatLemmas.{get_or-any, parameter_given}
use Rattle.ant_asm.proofs.expand.number_target.Goals as goal

pub bounds-spot-i : goal.bounds-spot-i
bounds-spot-i c = parameter_given c.args.spot.bodies.now c.args.spot.number c.args.spot.frame c.in-Parameter.i c.requires.spot.known
    (subst (IsLabelOf c.args.spot.bodies.now c.args.spot.number) c.in-Parameter.is c.requires.label) c.requires.spot.given

pub returns-in-Parameter : goal.returns-in-Parameter
returns-in-Parameter c =
    get_or-any c.args.spot.frame.given.now c.in-Parameter.i 0 c.args.spot.frame.after (parameter_given c.args.spot.bodies.now c.args.spot.number c.args.spot.frame c.in-Parameter.i c.requires.spot.known
    (subst (IsLabelOf c.args.spot.bodies.now c.args.spot.number) c.in-Parameter.is c.requires.label) c.requires.spot.given)
    ∙ sym (ap (number_led c.args.spot) c.in-Parameter.is)
