use Rattle.std.proofs.Common.{map, sym, subst}
use Rattle.brain_read.specs.Drafts.{drafted}
use Rattle.brain_read.specs.Soundness.{IsBrain}
use Rattle.match_save.proofs.SavedBrains.{IsBrain-program}
use Rattle.match_save.proofs.judge.brain_of.Goals as goal

pub from_list-requires : goal.from_list-requires
from_list-requires c =
    let told = c.in_ok-list.ensures in
    subst IsBrain (sym told.0) (IsBrain-program (map drafted c.args.drafts.now) c.requires told.1)
