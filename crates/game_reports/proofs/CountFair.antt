-- What is executed is counted one after another, and doesn't ask for the rest of others.
use Rattle.std.proofs.Common.{ℕ, ◌+◌, ◌++◌, refl, sym, subst, append-nil, append_assoc, arith}
use Rattle.std.specs.Prelude.{⊤, IsTrue}
use Rattle.std.specs.Result.{is_ok}
use Rattle.ant_turn.specs.Minds.{Minds}
use Rattle.match_run.specs.Told.{from_round}
use Rattle.match_run.specs.Watch.{IsFair}
use Rattle.match_run.proofs.SeenLemmas.{IgnoresRest-from}
use Rattle.game_reports.specs.declared.reports.profile.Counting.{Counting}
use Rattle.game_reports.specs.Inner.Tallies.{AreFew, AreTallied, CountsMore, HaveStates}
use Rattle.game_reports.specs.Profile.{executed_in}
use Rattle.game_reports.proofs.ExecutedLemmas.{executed-ignores_rest}
use Rattle.game_reports.proofs.TallyLemmas.{AreFew-less}

pub counts-fair : (from : ℕ) (minds : Minds) (seed : ℕ) → IsFair {Log = Counting} {Stop = ⊤} (from_round from (λ _. executed_in minds seed)) (λ old new told result. IsTrue (is_ok result) × CountsMore told old.tallies new.tallies) (λ log turns. HaveStates minds log.tallies × AreFew log.tallies turns)
counts-fair from minds seed = record {
  ignores = IgnoresRest-from from (λ _. executed-ignores_rest minds seed);
  none = λ log. (refl, λ minds list tallied. subst (λ l. AreTallied minds l log.tallies) (sym (append-nil list)) tallied);
  more = λ old mid new told later result first then. (then.0, λ minds list tallied. subst (λ l. AreTallied minds l new.tallies) (append_assoc list told later) (then.1 minds (list ++ told) (first.1 minds list tallied)));
  front = λ old new told later stop p. let no = p.0 in absurd (cc);
  fewer = λ log turns more has. (has.0, AreFew-less log.tallies (turns + more) turns has.1 (omega arith));
}
