-- Each law of cups, used on worked values: a law that says less, or that asks for more, doesn't give them.
use Rattle.std.proofs.Common.{◌≡◌, false, List, [], ◌∷◌, ◌++◌, ◌*◌, ap, length, sym, ◌∙◌}
use Rattle.std.specs.Prelude.{sum_by}
use Rattle.tournament.specs.declared.games.Pairing.{Pairing}
use Rattle.tournament.specs.declared.standing.Line.{Line}
use Rattle.tournament.specs.Existence.{HasStanding}
use Rattle.tournament.specs.Games.{above, all_played, each_pair_on, games_with, world_played}
use Rattle.tournament.specs.Laws.{GamesAddUp, OneStanding, PointsAddUp, WinsAreLosses, WorldsInOrder}
use Rattle.tournament.specs.Standing.{IsStandingOf, line_of}
use Rattle.tournament.proofs.Worked.{added_by_world, b_then_a, line_a, line_b, score, two_games, two_worlds}

-- two games have four points
points_add_up_used : PointsAddUp → (lines : List Line) → IsStandingOf false 2 1 score lines → sum_by (λ line. line.points) lines ≡ 4
points_add_up_used law lines standing = law false 2 1 score lines standing ∙ ap (λ (games : List Pairing). 2 * length games) two_games

-- who won once, lost once
wins_are_losses_used : WinsAreLosses → sum_by (λ line. line.lost) (line_b ∷ line_a ∷ []) ≡ 1
wins_are_losses_used law = sym (law false 2 1 score (line_b ∷ line_a ∷ []) b_then_a)

-- no other list of lines is the standing
one_standing_used : OneStanding → (lines : List Line) → IsStandingOf false 2 1 score lines → lines ≡ line_b ∷ line_a ∷ []
one_standing_used law lines standing = law false 2 1 score lines (line_b ∷ line_a ∷ []) standing b_then_a

-- a cup on two worlds has a standing
has_standing_used : HasStanding → (lines : List Line) × IsStandingOf false 2 2 two_worlds lines
has_standing_used law = law false 2 2 two_worlds

-- the games on two worlds are those on world 0 and then those on world 1, and player a's line is that of both
games_add_up_used : WorldsInOrder → GamesAddUp →
    (all_played false 2 2 two_worlds ≡ world_played false 2 0 two_worlds ++ world_played false 2 1 two_worlds)
    × (line_of (world_played false 2 0 two_worlds ++ world_played false 2 1 two_worlds) 0 ≡ record { player = 0; points = 2; won = 0; drawn = 2; lost = 2; food_for = 8; food_against = 10 })
unfolding each_pair_on games_with above
games_add_up_used worlds lines = (worlds false 2 2 two_worlds, lines (world_played false 2 0 two_worlds) (world_played false 2 1 two_worlds) 0 ∙ added_by_world)
