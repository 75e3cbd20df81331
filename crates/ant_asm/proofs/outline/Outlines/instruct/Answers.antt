use Rattle.std.proofs.Common.{refl}
use Rattle.ant_asm.specs.declared.named.NamedLine.{NamedLine}
use Rattle.ant_asm.specs.Lines.Line.{Instructs}
use Rattle.ant_asm.specs.Labels.NumberedLine.{At}
use Rattle.ant_asm.specs.Inner.Outlines.{blocks_named, outlines_of}
use Rattle.ant_asm.proofs.OnAnswers.{on_ok, on_three}
use Rattle.ant_asm.proofs.OutlineLemmas.{good-push}
use Rattle.ant_asm.proofs.OutlineReading.{add-on, current-good}
use Rattle.ant_asm.proofs.outline.Outlines.instruct.Goals as goal

pub returns-clause-good : goal.returns-clause-good
returns-clause-good c =
    let o = c.args.self.now in
    on_three c.add.result c.add.ensures.lines c.add.ensures.counted c.add.ensures.size (λ lines counted size.
    current-good o c.add.new.self c.requires.good (good-push (outlines_of o.bodies.items) o.current c.add.new.self (NamedLine.Instruction c.args.line) 1 c.requires.good.current lines counted size tt (λ few. refl)))

pub returns-clause-on : goal.returns-clause-on
returns-clause-on c = λ action lines.
    let o = c.args.self.now in
    on_ok c.add.result c.add.ensures.lines (λ is.
    add-on o.bodies.items o.current c.add.new.self (blocks_named o.bodies.items o.blocks.entries) (NamedLine.Instruction c.args.line) (At c.args.line (Instructs action)) lines o.around is refl (λ named. refl) refl)
