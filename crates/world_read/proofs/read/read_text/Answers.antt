use Rattle.std.proofs.Common.{sym, subst}
use Rattle.world_read.specs.Inner.Reading.{ReadsAs}
use Rattle.world_read.proofs.PlanReads.{world_of_text-height, world_of_text-rows, world_of_text-width}
use Rattle.world_read.proofs.read.read_text.Goals as goal

pub returns-in_default : goal.returns-in_default
returns-in_default c = world_of_text-width c.args.text.now c.new-lines.result c.new-lines.ensures.lines c.in_default.ensures.size

pub returns-in_default-read_size : goal.returns-in_default-read_size
returns-in_default-read_size c =
    world_of_text-height c.args.text.now c.new-lines.result c.read_size.new.lines c.in-Some.width c.new-lines.ensures.lines c.in-Some.ensures.size c.read_size.ensures.rest c.in_default-read_size.ensures.size

pub returns : goal.returns
returns c =
    let rows = world_of_text-rows c.args.text.now c.new-lines.result c.read_size.new.lines c.read_size-2.new.lines c.in-Some.width c.in-Some-read_size.height
    c.new-lines.ensures.lines c.in-Some.ensures.size c.read_size.ensures.rest c.in-Some-read_size.ensures.size c.read_size-2.ensures.rest in
    subst (λ all. ReadsAs all c.open_world.result) (sym rows) c.open_world.ensures
