use Rattle.std.proofs.Common.{◌≡◌, length, map, drop}
use Rattle.brain_read.specs.Inner.Answered.{placed_of}
use Rattle.line_tokens.specs.Inner.LineByLine.{with_front}
use Rattle.brain_read.specs.Inner.Verdict.{settle_all}
use Rattle.brain_read.proofs.read.settle_all.Given as goal

-- what was settled so far, before what the rest gives
abbrev pub invariant-loop-each : goal.invariant-loop-each
invariant-loop-each l = with_front l.list.items (settle_all (length l.drafts) (map placed_of (drop l.each-index l.drafts))) ≡ settle_all (length l.drafts) (map placed_of l.drafts)
