use Rattle.spec_record.specs.Claims.{seen_place}
use Rattle.round_book.proofs.workspace.Workspace.change.Goals as goal

pub difference_at-requires : goal.difference_at-requires
difference_at-requires c = c.requires.marks.inside (seen_place c.args.read.now) (c.is_marked.ensures.0 c.if-not-is_marked.false)
