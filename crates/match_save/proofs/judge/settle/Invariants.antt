use Rattle.std.proofs.Common.{length}
use Rattle.match_save.proofs.SavedBrains.{SettlesOn}
use Rattle.match_save.proofs.judge.settle.Given as goal

abbrev pub invariant-loop-draft : goal.invariant-loop-draft
invariant-loop-draft l = SettlesOn (length l.drafts) l.list.items l.drafts l.draft-index
