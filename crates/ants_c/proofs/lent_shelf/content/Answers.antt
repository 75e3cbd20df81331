-- if no size is left, the name has no content
use Rattle.std.proofs.Common.{◌∙◌, arith}
use Rattle.ant_base.specs.Lines.{lines_of}
use Rattle.ants_c.proofs.LentFiles.{none_sized}
use Rattle.ants_c.proofs.lent_shelf.content.Goals as goal

pub returns : goal.returns
returns c =
    let end = c.loop-size-test.false in
    none_sized (lines_of c.loop-size.lines.now) c.args.sizes.now c.loop-size.bytes.now c.args.name.now c.loop-size.size-index (omega (arith, end)) ∙ c.loop-size.invariant
