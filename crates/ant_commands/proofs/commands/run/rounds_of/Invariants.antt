-- the rounds so far and the numbers that are left are all of them
use Rattle.std.proofs.Common.{◌≡◌, ◌++◌}
use Rattle.ant_commands.proofs.commands.run.rounds_of.Given as goal

abbrev pub invariant-loop-number : goal.invariant-loop-number
invariant-loop-number l = l.rounds.numbers ++ l.number-iterator ≡ l.fn.numbers
