use Rattle.std.proofs.Common.{ap, refl}
use Rattle.ant_asm.specs.Standing.{Draft, mapped}
use Rattle.ant_asm.specs.Inner.Flat.{trees_of}
use Rattle.ant_asm.proofs.OnAnswers.{on_both}
use Rattle.ant_asm.specs.Inner.Reading.{seen}
use Rattle.ant_asm.proofs.ProgramLemmas.{good-with, instruct-into}
use Rattle.ant_asm.proofs.program.Program.instruct.Goals as goal

pub returns-clause-good : goal.returns-clause-good
returns-clause-good c =
    let p = c.args.self.now in
    on_both c.add.result (c.add.ensures.good p.bodies.items c.requires.good.current (c.requires.range, refl)) (c.add.ensures.seen (trees_of p.bodies.items) refl)
    (λ is seen_so. good-with p c.add.new.self c.requires.good is (ap (λ (d : Draft). d.parameters) seen_so))

pub returns-clause-into : goal.returns-clause-into
returns-clause-into c =
    let p = c.args.self.now in
    on_both c.add.result c.add.ensures.room (c.add.ensures.seen (trees_of p.bodies.items) refl)
    (λ free seen_so. instruct-into p (mapped seen c.args.action) c.args.number c.add.new.self free seen_so)
