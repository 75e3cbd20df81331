use Rattle.std.proofs.Common.{ap, ◌∙◌}
use Rattle.std.proofs.lemmas.List.Sorted.{IsNonDecreasingBy-from_sort}
use Rattle.ant_base.specs.NumberList.{NumberList}
use Rattle.match_run.specs.Dumps.{has_round}
use Rattle.match_run.proofs.RisingRounds.{has_round-permuted}
use Rattle.match_run.proofs.dumps.Rounds.sort.Goals as goal

pub invariant_of-self : goal.invariant_of-self
invariant_of-self c = λ _. IsNonDecreasingBy-from_sort (λ n. n) c.sort_unstable.new.self.items c.sort_unstable.ensures.sorted

pub returns-clause-rising : goal.returns-clause-rising
returns-clause-rising c = IsNonDecreasingBy-from_sort (λ n. n) c.sort_unstable.new.self.items c.sort_unstable.ensures.sorted

pub returns-clause-same : goal.returns-clause-same
returns-clause-same c = λ round.
    has_round-permuted c.self.inside.list.items c.sort_unstable.new.self.items c.sort_unstable.ensures.permutation round
    ∙ ap (λ (rounds : NumberList). has_round rounds.numbers round) c.self.view_is
