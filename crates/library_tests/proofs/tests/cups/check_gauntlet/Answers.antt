use Rattle.std.proofs.Common.{arith, length, rules}
use Rattle.tournament.proofs.StandingLemmas.{players_named}
use Rattle.library_tests.proofs.tests.cups.check_gauntlet.Goals as goal

pub push_standing_with-pushed-requires : goal.push_standing_with-pushed-requires
push_standing_with-pushed-requires g c =
    let h = players_named _ (length c.in_ok-names.names) _ _ (omega arith) c.in_ok-standing.ensures in
    search rules
