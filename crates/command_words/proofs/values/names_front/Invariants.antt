use Rattle.std.proofs.Common.{◌≡◌, ◌++◌, take, drop}
use Rattle.command_words.specs.Command.{names_front}
use Rattle.command_words.specs.Words.{texts}
use Rattle.command_words.proofs.values.names_front.Given as goal

abbrev pub invariant-loop-at : goal.invariant-loop-at
invariant-loop-at l = take l.at (texts l.words) ++ names_front (drop l.at (texts l.words)) ≡ names_front (texts l.words)
