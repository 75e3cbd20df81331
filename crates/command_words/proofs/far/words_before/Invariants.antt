use Rattle.std.proofs.Common.{◌≡◌, ◌++◌, take, drop}
use Rattle.command_words.specs.Inner.Fronts.{words_before}
use Rattle.command_words.specs.Words.{texts}
use Rattle.command_words.proofs.far.words_before.Given as goal

abbrev pub invariant-loop-at : goal.invariant-loop-at
invariant-loop-at l = take l.at (texts l.words) ++ words_before l.text (drop l.at (texts l.words)) ≡ words_before l.text (texts l.words)
