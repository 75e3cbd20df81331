use Rattle.std.proofs.Common.{sym, ◌∙◌, arith}
use Rattle.ant_asm.specs.declared.program.Outer.{Outer}
use Rattle.ant_asm.specs.Inner.ReadLine.{names_seen}
use Rattle.ant_asm.proofs.OpenLemmas.{new-good}
use Rattle.ant_asm.proofs.ProgramLemmas.{begin-good, none-of}
use Rattle.ant_asm.proofs.program.Program.begin.Goals as goal

pub returns-clause-good : goal.returns-clause-good
returns-clause-good c =
    let p = c.args.self.now in
    let outer : Outer = record { main = c.replace-main.result; name = c.args.name; line = c.args.number } in
    begin-good p c.args.name.now (names_seen c.args.parameters.now) c.args.number c.name_parameters.new.self outer c.requires.good (none-of p.outer (sym c.is_some.ensures ∙ c.if-is_some.false))
    (new-good p.bodies.items (names_seen c.args.parameters.now) c.name_parameters.new.self c.in_ok-name_parameters.ensures)
    c.replace-main.ensures.value
    (let room = c.if-len-ge-MOST_BLOCKS.false in let all = c.len.ensures in let same = p.bodies.ok.0 in omega (arith, room, all, same))
