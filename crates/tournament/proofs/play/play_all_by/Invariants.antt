use Rattle.std.proofs.Common.{◌≤◌, ◌-◌}
use Rattle.tournament.specs.Games.{all_played}
use Rattle.tournament.specs.Inner.Tallies.{IsTally}
use Rattle.tournament.proofs.play.play_all_by.Given as goal

-- the tally is that of the games on the worlds so far
abbrev pub invariant-loop-world : goal.invariant-loop-world
invariant-loop-world g l = record {
  within : l.world ≤ l.worlds;
  tally : IsTally l.players (all_played l.gauntlet l.players l.world (g.F.Referee.score l.referee)) l.tally;
}

abbrev pub decreases-loop-world : goal.decreases-loop-world
decreases-loop-world g l = l.worlds - l.world
