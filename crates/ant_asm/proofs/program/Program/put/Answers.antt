use Rattle.std.proofs.Common.{◌≡◌, inl, ℕ, ◌≤◌, Some, sym, ap, ◌∙◌, subst}
use Rattle.std.proofs.lemmas.List.{length-map}
use Rattle.ant_asm.specs.Program.{size_of}
use Rattle.ant_asm.specs.Lines.Line.{Uses}
use Rattle.ant_asm.specs.Standing.{Draft, place_fault, size_fault}
use Rattle.ant_asm.specs.Inner.Flat.{tree_at, trees_of}
use Rattle.ant_asm.specs.Inner.ProgramView.{program_seen}
use Rattle.ant_asm.specs.Inner.Reading.{seen}
use Rattle.ant_asm.specs.Inner.ReadLine.{labels_seen}
use Rattle.ant_asm.specs.Inner.Scopes.{known_as}
use Rattle.ant_asm.specs.Inner.View.{parameters_in}
use Rattle.ant_asm.proofs.FlatLemmas.{read_at}
use Rattle.ant_asm.proofs.OnAnswers.{if_err, on_both}
use Rattle.ant_asm.proofs.ProgramLemmas.{fails-same, good-with, put-counts, put-fault, put-into, put-none}
use Rattle.ant_asm.proofs.program.Program.put.Goals as goal

pub returns-in_default-clause-fault : goal.returns-in_default-clause-fault
returns-in_default-clause-fault c =
    inl (put-none c.args.self.now c.args.name.now (labels_seen c.args.handed.items) c.args.number (sym c.block_number.ensures ∙ c.in_default.is))

pub returns-then-len-index-clause-fault : goal.returns-then-len-index-clause-fault
returns-then-len-index-clause-fault c =
    let p = c.args.self.now in
    let known : known_as p.blocks.entries c.args.name.now ≡ Some c.in-Some.block = sym c.block_number.ensures ∙ c.in-Some.is in
    let body = read_at p.bodies.items c.in-Some.block c.index.result.now (c.requires.good.blocks c.args.name.now c.in-Some.block known) c.index.ensures in
    inl (put-counts p c.args.name.now (labels_seen c.args.handed.items) c.args.number c.in-Some.block known
    (λ all. c.if-len-index.true (c.len.ensures ∙ c.args.handed.ok.0 ∙ sym (length-map c.args.handed.items seen) ∙ all ∙ ap parameters_in body)))

pub returns-clause-good : goal.returns-clause-good
returns-clause-good c =
    let p = c.args.self.now in
    let inside = c.requires.good.blocks c.args.name.now c.in-Some.block (sym c.block_number.ensures ∙ c.in-Some.is) in
    let body = read_at p.bodies.items c.in-Some.block c.index.result.now inside c.index.ensures in
    let size : c.size_of-size.result ≡ size_of (tree_at p.bodies.items c.in-Some.block) = c.size_of-size.ensures.size in
    let count = sym (c.len.ensures ∙ c.args.handed.ok.0) ∙ c.if-len-index.false ∙ sym (ap parameters_in body) in
    on_both c.add.result (c.add.ensures.good p.bodies.items c.requires.good.current (inside, count, size, subst (λ (n : ℕ). 1 ≤ n) (sym size) (c.requires.good.bodies.some c.in-Some.block inside)))
    (c.add.ensures.seen (trees_of p.bodies.items) (sym size))
    (λ is seen_so. good-with p c.add.new.self c.requires.good is (ap (λ (d : Draft). d.parameters) seen_so))

pub returns-clause-into : goal.returns-clause-into
returns-clause-into c =
    let p = c.args.self.now in
    let known : known_as p.blocks.entries c.args.name.now ≡ Some c.in-Some.block = sym c.block_number.ensures ∙ c.in-Some.is in
    let body = read_at p.bodies.items c.in-Some.block c.index.result.now (c.requires.good.blocks c.args.name.now c.in-Some.block known) c.index.ensures in
    let size : c.size_of-size.result ≡ size_of (tree_at p.bodies.items c.in-Some.block) = c.size_of-size.ensures.size in
    let count = length-map c.args.handed.items seen ∙ sym (c.len.ensures ∙ c.args.handed.ok.0) ∙ c.if-len-index.false ∙ sym (ap parameters_in body) in
    on_both c.add.result c.add.ensures.room (c.add.ensures.seen (trees_of p.bodies.items) (sym size))
    (λ free seen_so. put-into p c.args.name.now (labels_seen c.args.handed.items) c.args.number c.in-Some.block c.add.new.self known count
    (sym (ap (λ (n : ℕ). size_fault p.current.size n c.args.number) size) ∙ free) seen_so)

pub returns-clause-fault : goal.returns-clause-fault
returns-clause-fault c =
    let p = c.args.self.now in
    let known : known_as p.blocks.entries c.args.name.now ≡ Some c.in-Some.block = sym c.block_number.ensures ∙ c.in-Some.is in
    let body = read_at p.bodies.items c.in-Some.block c.index.result.now (c.requires.good.blocks c.args.name.now c.in-Some.block known) c.index.ensures in
    let count = length-map c.args.handed.items seen ∙ sym (c.len.ensures ∙ c.args.handed.ok.0) ∙ c.if-len-index.false ∙ sym (ap parameters_in body) in
    if_err c.add.result c.add.ensures.fault (λ fault fails.
    fails-same fault (size_fault p.current.size c.size_of-size.result c.args.number) (place_fault (program_seen p) c.args.number (Uses c.args.name.now (labels_seen c.args.handed.items)))
    (ap (λ (n : ℕ). size_fault p.current.size n c.args.number) c.size_of-size.ensures.size ∙ sym (put-fault p c.args.name.now (labels_seen c.args.handed.items) c.args.number c.in-Some.block known count)) fails)
