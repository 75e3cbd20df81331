use Rattle.std.proofs.Common.{◌≡◌, drop}
use Rattle.match_save.specs.Inner.Fit.{are_fit}
use Rattle.match_save.proofs.judge.are_fit.Given as goal

-- all fit where those that are left do
abbrev pub invariant-loop-it : goal.invariant-loop-it
invariant-loop-it l = are_fit l.red l.black l.ants ≡ are_fit l.red l.black (drop l.it-index l.ants)
