use Rattle.std.proofs.Common.{rules, arith}
use Rattle.std.proofs.lemmas.List.Sorted.{answers_always}
use Rattle.tournament.specs.declared.standing.Line.{Line}
use Rattle.tournament.proofs.StandingLemmas.{stands_above}
use Rattle.tournament.proofs.tally.rank.Goals as goal

pub returns-clause-order : goal.returns-clause-order
returns-clause-order c = λ k d lt.
    stands_above _ _ (c.sort_unstable_by_key.ensures.sorted (λ (line : Line). (record { 0 = line.points }, line.player)) (answers_always _ _ _ (λ f a r g h. search rules)) k d (omega arith) lt)
