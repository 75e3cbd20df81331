-- the words so far and the lines that are left are all lines
use Rattle.std.proofs.Common.{◌≡◌, ◌++◌}
use Rattle.ant_base.specs.Lines.{lines_of}
use Rattle.command_words.specs.Words.{texts}
use Rattle.ants_c.proofs.call.words_of.Given as goal

abbrev pub invariant-loop-line : goal.invariant-loop-line
invariant-loop-line l = texts l.words.items ++ l.line-iterator ≡ lines_of l.text
