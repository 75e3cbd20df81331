use Rattle.std.proofs.Common.{refl}
use Rattle.ant_asm.proofs.Walks.{use-good, use-step}
use Rattle.ant_asm.proofs.walk.Walk.pass.Goals as goal

pub returns-in-Use-clause-good : goal.returns-in-Use-clause-good
returns-in-Use-clause-good c =
    use-good c.args.self.now c.requires.good c.args.line.now c.args.behind c.requires.next c.in-Use.line c.in-Use.name c.in-Use.block c.in-Use.is
    (record { spot = c.args.behind; step = record { name = c.deref.result; line = c.in-Use.line } }) refl refl c.deref.ensures.value c.push.new.self c.push.ensures.items
    (record { number = c.in-Use.block; place = 0; at = c.args.self.now.spot.at; end = c.args.behind.at; after = c.state_from.result }) refl refl refl refl c.state_from.ensures

pub returns-in-Use-clause-step : goal.returns-in-Use-clause-step
returns-in-Use-clause-step c =
    use-step c.args.self.now c.requires.good c.args.line.now c.args.behind c.requires.next c.in-Use.line c.in-Use.name c.in-Use.block c.in-Use.is
    (record { spot = c.args.behind; step = record { name = c.deref.result; line = c.in-Use.line } }) refl refl c.deref.ensures.value c.push.new.self c.push.ensures.items
    (record { number = c.in-Use.block; place = 0; at = c.args.self.now.spot.at; end = c.args.behind.at; after = c.state_from.result }) refl refl refl refl c.state_from.ensures
