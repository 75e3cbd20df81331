use Rattle.std.proofs.Common.{◌≡◌, take, count_by}
use Rattle.tournament.specs.Standing.{is_won, is_lost, is_drawn}
use Rattle.tournament.proofs.tally.line_of.Given as goal

-- the counts of the games so far
abbrev pub invariant-loop-game : goal.invariant-loop-game
invariant-loop-game l = record {
  won : l.won ≡ count_by (is_won l.player) (take l.game-index l.games);
  drawn : l.drawn ≡ count_by (is_drawn l.player) (take l.game-index l.games);
  lost : l.lost ≡ count_by (is_lost l.player) (take l.game-index l.games);
}
