use Rattle.std.proofs.Common.{ℕ, false, List, refl, sym, ap}
use Rattle.ant_asm.specs.declared.named.NamedLine.{NamedLine}
use Rattle.ant_asm.specs.Lines.Line.{Marks}
use Rattle.ant_asm.specs.Labels.{block_outline, main_outline}
use Rattle.ant_asm.specs.Labels.NumberedLine.{At}
use Rattle.ant_asm.specs.Labels.Outline.{Labelled}
use Rattle.ant_asm.specs.Inner.Outlines.{blocks_named, outlines_of}
use Rattle.ant_asm.proofs.OnAnswers.{on_ok, on_three}
use Rattle.ant_asm.proofs.OutlineLemmas.{good-push}
use Rattle.ant_asm.proofs.OutlineReading.{add-on, current-good}
use Rattle.ant_asm.proofs.outline.Outlines.mark.Goals as goal

pub returns-clause-good : goal.returns-clause-good
returns-clause-good c =
    let o = c.args.self.now in
    on_three c.add.result c.add.ensures.lines c.add.ensures.counted c.add.ensures.size (λ lines counted size.
    current-good o c.add.new.self c.requires.good (good-push (outlines_of o.bodies.items) o.current c.add.new.self (NamedLine.Label c.in_ok-name.name) 0 c.requires.good.current lines counted size tt (λ few. refl)))

pub returns-clause-on : goal.returns-clause-on
returns-clause-on c = λ number lines.
    let o = c.args.self.now in
    let blocks = blocks_named o.bodies.items o.blocks.entries in
    on_ok c.add.result c.add.ensures.lines (λ is.
    add-on o.bodies.items o.current c.add.new.self blocks (NamedLine.Label c.in_ok-name.name) (At number (Marks c.args.name.now)) lines o.around is
    (ap (λ (n : List ℕ). Labelled n (main_outline lines false blocks)) (sym c.in_ok-name.ensures.items)) (λ named. refl)
    (ap (λ (n : List ℕ). Labelled n (block_outline lines blocks)) (sym c.in_ok-name.ensures.items)))
