use Rattle.std.proofs.Common.{◌≡◌, drop}
use Rattle.command_words.specs.Command.{is_among}
use Rattle.command_words.specs.Words.{texts}
use Rattle.command_words.proofs.walk.is_among.Given as goal

abbrev pub invariant-loop-other : goal.invariant-loop-other
invariant-loop-other l = is_among l.word (drop l.other-index (texts l.words)) ≡ is_among l.word (texts l.words)
