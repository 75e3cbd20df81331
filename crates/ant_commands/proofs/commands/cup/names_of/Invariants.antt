-- the names are those of the words so far
use Rattle.std.proofs.Common.{◌≡◌, take}
use Rattle.command_words.specs.Words.{texts}
use Rattle.ant_commands.proofs.commands.cup.names_of.Given as goal

abbrev pub invariant-loop-word : goal.invariant-loop-word
invariant-loop-word l = l.names ≡ texts (take l.word-index l.words)
