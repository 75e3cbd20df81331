use Rattle.std.proofs.Common.{ℕ, List, sym, ap, ◌∙◌, arith}
use Rattle.ant_asm.specs.declared.named.NamedLine.{NamedLine}
use Rattle.ant_asm.specs.Labels.Outline.{Used}
use Rattle.ant_asm.specs.Inner.Outlines.{blocks_named, outline_at, outline_in_map, outlines_of}
use Rattle.ant_asm.proofs.FlatLemmas.{read_at}
use Rattle.ant_asm.proofs.OnAnswers.{on_ok, on_three}
use Rattle.ant_asm.proofs.OutlineLemmas.{good-push, named-at, outlines_of-length}
use Rattle.ant_asm.proofs.OutlineReading.{current-good, put-on}
use Rattle.ant_asm.proofs.outline.Outlines.put.Goals as goal

pub returns-clause-good : goal.returns-clause-good
returns-clause-good c =
    let o = c.args.self.now in
    let n = c.in-Some.block in
    let inside = c.requires.good.blocks c.args.name.now n (sym c.block_named.ensures ∙ c.in-Some.is) in
    let there = named-at o.bodies.items n c.index.result.now (read_at o.bodies.items n c.index.result.now inside c.index.ensures) c.requires.good.bodies in
    on_three c.add.result c.add.ensures.lines c.add.ensures.counted c.add.ensures.size (λ lines counted size.
    current-good o c.add.new.self c.requires.good
    (good-push (outlines_of o.bodies.items) o.current c.add.new.self (NamedLine.Use c.args.line c.in_ok-name.name n) c.index.result.now.size c.requires.good.current lines counted size
    (let all = outlines_of-length o.bodies.items in omega (arith, all, inside))
    (λ few. let same = there.size (omega (arith, few)) in omega (arith, same))))

pub returns-clause-on : goal.returns-clause-on
returns-clause-on c = λ handed lines.
    let o = c.args.self.now in
    let n = c.in-Some.block in
    let block = outline_at o.bodies.items n in
    on_ok c.add.result c.add.ensures.lines (λ is.
    put-on o.bodies.items o.current c.add.new.self (blocks_named o.bodies.items o.blocks.entries) (NamedLine.Use c.args.line c.in_ok-name.name n) block c.args.line c.args.name.now handed lines o.around is
    (ap (outline_in_map (outlines_of o.bodies.items)) (sym c.block_named.ensures ∙ c.in-Some.is))
    (λ others. ap (λ (name : List ℕ). Used c.args.line name block others) c.in_ok-name.ensures.items))
