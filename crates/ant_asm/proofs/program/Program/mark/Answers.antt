use Rattle.std.proofs.Common.{ap}
use Rattle.ant_asm.specs.Standing.{Draft}
use Rattle.ant_asm.specs.Inner.Flat.{trees_of}
use Rattle.ant_asm.proofs.OnAnswers.{on_both}
use Rattle.ant_asm.proofs.OpenLemmas.{open-short}
use Rattle.ant_asm.proofs.ProgramLemmas.{good-with, mark-into}
use Rattle.ant_asm.proofs.program.Program.mark.Goals as goal

pub mark-requires : goal.mark-requires
mark-requires c = record { few = open-short c.args.self.now.bodies.items c.args.self.now.current c.requires.good.current }

pub returns-clause-good : goal.returns-clause-good
returns-clause-good c =
    let p = c.args.self.now in
    on_both c.mark.result (c.mark.ensures.good p.bodies.items c.requires.good.current) (c.mark.ensures.seen (trees_of p.bodies.items))
    (λ is seen. good-with p c.mark.new.self c.requires.good is (ap (λ (d : Draft). d.parameters) seen))

pub returns-clause-into : goal.returns-clause-into
returns-clause-into c =
    let p = c.args.self.now in
    on_both c.mark.result c.mark.ensures.free (c.mark.ensures.seen (trees_of p.bodies.items))
    (λ free seen. mark-into p c.args.name.now c.args.number c.mark.new.self free seen)
