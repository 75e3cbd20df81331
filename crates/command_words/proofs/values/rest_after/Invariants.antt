use Rattle.std.proofs.Common.{◌≡◌, drop}
use Rattle.command_words.specs.Command.{rest_after}
use Rattle.command_words.specs.Words.{texts}
use Rattle.command_words.proofs.values.rest_after.Given as goal

abbrev pub invariant-loop-at : goal.invariant-loop-at
invariant-loop-at l = rest_after l.text (drop l.at (texts l.words)) ≡ rest_after l.text (texts l.words)
