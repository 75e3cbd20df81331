-- Cups, worked out. Two players on one world: a has the number 0 and b the number 1. The game with b as red ends 3 to
-- 0, the other one 0 to 0.
use Rattle.std.proofs.Common.{◌≡◌, ℕ, zero, suc, true, false, ◌==◌, List, [], ◌∷◌, ◌++◌, map, codes, cond, refl, sym, subst, arith, IsPermutation}
use Rattle.std.specs.Fmt.{digits}
use Rattle.std.specs.List.{AllAdjacentBelow}
use Rattle.std.proofs.lemmas.List.Sorted.{IsPermutation-append_comm}
use Rattle.cell_world.specs.declared.score.Score.{Score}
use Rattle.tournament.specs.declared.games.Pairing.{Pairing}
use Rattle.tournament.specs.declared.format.Format.{Format}
use Rattle.tournament.specs.declared.standing.Line.{Line}
use Rattle.ant_base.specs.Names.{has_name}
use Rattle.tournament.specs.Names.{with_name}
use Rattle.tournament.specs.Games.{below, above, each_pair_on, games_with, games_of, all_played, world_played}
use Rattle.tournament.specs.Laws.{added_up}
use Rattle.tournament.specs.Seeds.{seed_at, world_at}
use Rattle.tournament.specs.Standing.{line_of, StandsAbove, IsStandingOf}
use Rattle.tournament.specs.Text.{lead_text, table_line_text, standing_text, IsCupText}
use Rattle.tournament.specs.Printed.{IsPrintedCupText, cup_played, first_played, game_line_text, games_text}

abbrev pub score : ℕ → ℕ → ℕ → Score
score world red black = cond (red == 1) (record { red = 3; black = 0 }) (record { red = 0; black = 0 })

abbrev pub line_a : Line
line_a = record { player = 0; points = 1; won = 0; drawn = 1; lost = 1; food_for = 0; food_against = 3 }

abbrev pub line_b : Line
line_b = record { player = 1; points = 3; won = 1; drawn = 1; lost = 0; food_for = 3; food_against = 0 }

abbrev game : ℕ → ℕ → ℕ → Pairing
game world red black = record { world = world; red = red; black = black }

-- the games of two players on one world
pub two_games : games_of false 2 1 ≡ game 0 0 1 ∷ game 0 1 0 ∷ []
unfolding games_of each_pair_on games_with above
two_games = refl

-- the games of three players on two worlds
twelve_games : games_of false 3 2 ≡
    game 0 0 1 ∷ game 0 1 0 ∷ game 0 0 2 ∷ game 0 2 0 ∷ game 0 1 2 ∷ game 0 2 1 ∷ game 1 0 1 ∷ game 1 1 0 ∷ game 1 0 2 ∷ game 1 2 0 ∷ game 1 1 2 ∷ game 1 2 1 ∷ []
unfolding games_of each_pair_on games_with above
twelve_games = refl

-- the two lines, by player number
two_lines : map (line_of (all_played false 2 1 score)) (below 2) ≡ line_a ∷ line_b ∷ []
unfolding games_of each_pair_on games_with above line_of
two_lines = refl

b_first : AllAdjacentBelow StandsAbove (line_b ∷ line_a ∷ []) 2
b_first zero d lt = record { points = omega arith; ties = λ (e : 3 ≡ 1). absurd (omega arith) }
b_first (suc k) d lt = absurd (omega arith)

-- the standing: b, which has more points, and then a
pub b_then_a : IsStandingOf false 2 1 score (line_b ∷ line_a ∷ [])
b_then_a = record {
  each = subst (λ lines. IsPermutation lines (line_b ∷ line_a ∷ [])) (sym two_lines) (IsPermutation-append_comm (line_a ∷ []) (line_b ∷ []));
  order = b_first;
}

text_is : codes "3 points: b (1 won, 1 drawn, 0 lost)\n1 points: a (0 won, 1 drawn, 1 lost)\n" ≡ standing_text false (codes "a" ∷ codes "b" ∷ []) (line_b ∷ line_a ∷ [])
unfolding digits table_line_text
text_is = refl

-- the text of that cup
pub worked : IsCupText false false (codes "a" ∷ codes "b" ∷ []) 2 1 score (codes "3 points: b (1 won, 1 drawn, 0 lost)\n1 points: a (0 won, 1 drawn, 1 lost)\n")
worked = record { lines = line_b ∷ line_a ∷ []; standing = b_then_a; is = text_is }

-- on world 1 the players draw, so that only the games on world 0 distinguish them; one particle more wins
abbrev pub two_worlds : ℕ → ℕ → ℕ → Score
two_worlds world red black = cond (world == 0) (record { red = red; black = black }) (record { red = 4; black = 4 })

by_world : map (line_of (all_played false 2 2 two_worlds)) (below 2)
    ≡ record { player = 0; points = 2; won = 0; drawn = 2; lost = 2; food_for = 8; food_against = 10 }
    ∷ record { player = 1; points = 6; won = 2; drawn = 2; lost = 0; food_for = 10; food_against = 8 } ∷ []
unfolding games_of each_pair_on games_with above line_of
by_world = refl

-- more points are above, regardless of wins; equal points are ordered by the players' numbers, and not by wins
points_before_wins :
    StandsAbove (record { player = 1; points = 3; won = 0; drawn = 3; lost = 0; food_for = 0; food_against = 0 }) (record { player = 0; points = 2; won = 1; drawn = 0; lost = 2; food_for = 0; food_against = 0 })
    × StandsAbove (record { player = 0; points = 2; won = 0; drawn = 2; lost = 1; food_for = 0; food_against = 0 }) (record { player = 1; points = 2; won = 1; drawn = 0; lost = 2; food_for = 0; food_against = 0 })
    × (StandsAbove (record { player = 1; points = 2; won = 1; drawn = 0; lost = 2; food_for = 0; food_against = 0 }) (record { player = 0; points = 2; won = 0; drawn = 2; lost = 1; food_for = 0; food_against = 0 }) → ⊥)
points_before_wins = (
  record { points = omega arith; ties = λ (e : 3 ≡ 2). absurd (omega arith) },
  record { points = omega arith; ties = λ _. omega arith },
  λ above. omega (arith, above.ties refl),
)

-- names are known byte for byte
names_known : (has_name (codes "a" ∷ codes "ab" ∷ []) (codes "ab") ≡ true) × (has_name (codes "a" ∷ codes "ab" ∷ []) (codes "A") ≡ false) × (has_name (codes "ab" ∷ []) (codes "a") ≡ false)
names_known = (refl, refl, refl)

-- a new name goes last, and one that is there stays
names_added : (with_name (codes "b" ∷ codes "a" ∷ []) (codes "c") ≡ codes "b" ∷ codes "a" ∷ codes "c" ∷ []) × (with_name (codes "b" ∷ codes "a" ∷ []) (codes "b") ≡ codes "b" ∷ codes "a" ∷ [])
names_added = (refl, refl)

-- no gauntlet, no leads, and one seed
abbrev plain : Format
plain = record { gauntlet = false; leads = false; seeds = record { first = 5; count = 1 }; shows_seeds = false }

-- the first cup on a world w, printed: its two games, and then its standing
abbrev printed_text : List ℕ
printed_text = codes "game 1: red 0 black 0, w, a, b\ngame 2: red 3 black 0, w, b, a\n3 points: b (1 won, 1 drawn, 0 lost)\n1 points: a (0 won, 1 drawn, 1 lost)\n"

printed_text_is : printed_text ≡ games_text plain (codes "w" ∷ []) (codes "a" ∷ codes "b" ∷ []) (cup_played plain (codes "w" ∷ []) (codes "a" ∷ codes "b" ∷ []) score) 1 ++ standing_text false (codes "a" ∷ codes "b" ∷ []) (line_b ∷ line_a ∷ [])
unfolding digits table_line_text game_line_text games_of each_pair_on games_with above
printed_text_is = refl

pub printed : IsPrintedCupText plain (codes "w" ∷ []) (codes "a" ∷ codes "b" ∷ []) score printed_text
printed = record { lines = line_b ∷ line_a ∷ []; standing = b_then_a; is = printed_text_is }

-- on a second world v the numbers continue; each game has the name of its own world, and red's score first
two_worlds_printed : games_text plain (codes "w" ∷ codes "v" ∷ []) (codes "a" ∷ codes "b" ∷ []) (all_played false 2 2 two_worlds) 1
    ≡ codes "game 1: red 0 black 1, w, a, b\ngame 2: red 1 black 0, w, b, a\ngame 3: red 4 black 4, v, a, b\ngame 4: red 4 black 4, v, b, a\n"
unfolding digits game_line_text games_of each_pair_on games_with above
two_worlds_printed = refl

-- what player a has of it is what it lost on w and what it drew on v, added up
pub added_by_world : added_up (line_of (world_played false 2 0 two_worlds) 0) (line_of (world_played false 2 1 two_worlds) 0) ≡ record { player = 0; points = 2; won = 0; drawn = 2; lost = 2; food_for = 8; food_against = 10 }
unfolding each_pair_on games_with above line_of
added_by_world = refl

-- a gauntlet of three players on one world: the games of player 0, with player 1 before player 2, and none between
-- these two
gauntlet_of_three : games_of true 3 1 ≡ game 0 0 1 ∷ game 0 1 0 ∷ game 0 0 2 ∷ game 0 2 0 ∷ []
unfolding games_of each_pair_on games_with above
gauntlet_of_three = refl

-- a cup of two players is its own gauntlet
gauntlet_of_two : games_of true 2 2 ≡ games_of false 2 2
unfolding games_of each_pair_on games_with above
gauntlet_of_two = refl

-- player 2 of a gauntlet has the two games that it played, though it played player 1 in none
gauntlet_line : line_of (all_played true 3 1 two_worlds) 2 ≡ record { player = 2; points = 4; won = 2; drawn = 0; lost = 0; food_for = 4; food_against = 0 }
unfolding games_of each_pair_on games_with above line_of
gauntlet_line = refl

-- with one seed, number n is world n with that seed
one_seed : (world_at plain.seeds 0 ≡ 0) × (seed_at plain.seeds 0 ≡ 5) × (world_at plain.seeds 15 ≡ 15) × (seed_at plain.seeds 15 ≡ 5)
one_seed = (refl, refl, refl, refl)

-- with two seeds from the last one on, world 0 has 4,294,967,295 and then 0, and so has world 1
abbrev wrapped : Format
wrapped = record { gauntlet = false; leads = true; seeds = record { first = 4294967295; count = 2 }; shows_seeds = true }

seeds_wrap : (seed_at wrapped.seeds 0 ≡ 4294967295) × (seed_at wrapped.seeds 1 ≡ 0) × (world_at wrapped.seeds 1 ≡ 0) × (seed_at wrapped.seeds 2 ≡ 4294967295) × (world_at wrapped.seeds 2 ≡ 1)
seeds_wrap = (refl, refl, refl, refl, refl)

-- with 1000 seeds from 7 on, number 999 is world 0 with seed 1006, and number 1000 is world 1 with seed 7
abbrev thousand : Format
thousand = record { gauntlet = false; leads = false; seeds = record { first = 7; count = 1000 }; shows_seeds = true }

thousand_seeds : (world_at thousand.seeds 999 ≡ 0) × (seed_at thousand.seeds 999 ≡ 1006) × (world_at thousand.seeds 1000 ≡ 1) × (seed_at thousand.seeds 1000 ≡ 7) × (world_at thousand.seeds 15999 ≡ 15) × (seed_at thousand.seeds 15999 ≡ 1006)
thousand_seeds = (refl, refl, refl, refl, refl, refl)

-- three players on two worlds with two seeds: world by world, within a world seed by seed, and within a seed pair by
-- pair
three_by_two : games_text wrapped (codes "w" ∷ codes "v" ∷ []) (codes "a" ∷ codes "b" ∷ codes "c" ∷ []) (first_played wrapped (codes "a" ∷ codes "b" ∷ codes "c" ∷ []) 2 (λ world red black. record { red = red; black = world })) 1
    ≡ codes "game 1: red 0 black 0, seed 4294967295, w, a, b\ngame 2: red 1 black 0, seed 4294967295, w, b, a\ngame 3: red 0 black 0, seed 4294967295, w, a, c\n"
    ++ codes "game 4: red 2 black 0, seed 4294967295, w, c, a\ngame 5: red 1 black 0, seed 4294967295, w, b, c\ngame 6: red 2 black 0, seed 4294967295, w, c, b\n"
    ++ codes "game 7: red 0 black 1, seed 0, w, a, b\ngame 8: red 1 black 1, seed 0, w, b, a\ngame 9: red 0 black 1, seed 0, w, a, c\n"
    ++ codes "game 10: red 2 black 1, seed 0, w, c, a\ngame 11: red 1 black 1, seed 0, w, b, c\ngame 12: red 2 black 1, seed 0, w, c, b\n"
    ++ codes "game 13: red 0 black 2, seed 4294967295, v, a, b\ngame 14: red 1 black 2, seed 4294967295, v, b, a\ngame 15: red 0 black 2, seed 4294967295, v, a, c\n"
    ++ codes "game 16: red 2 black 2, seed 4294967295, v, c, a\ngame 17: red 1 black 2, seed 4294967295, v, b, c\ngame 18: red 2 black 2, seed 4294967295, v, c, b\n"
    ++ codes "game 19: red 0 black 3, seed 0, v, a, b\ngame 20: red 1 black 3, seed 0, v, b, a\ngame 21: red 0 black 3, seed 0, v, a, c\n"
    ++ codes "game 22: red 2 black 3, seed 0, v, c, a\ngame 23: red 1 black 3, seed 0, v, b, c\ngame 24: red 2 black 3, seed 0, v, c, b\n"
unfolding digits game_line_text games_of each_pair_on games_with above
three_by_two = refl

-- the games of a gauntlet are numbered without gaps
gauntlet_printed : games_text (record { gauntlet = true; leads = false; seeds = record { first = 5; count = 1 }; shows_seeds = true }) (codes "w" ∷ []) (codes "a" ∷ codes "b" ∷ codes "c" ∷ []) (all_played true 3 1 two_worlds) 1
    ≡ codes "game 1: red 0 black 1, seed 5, w, a, b\ngame 2: red 1 black 0, seed 5, w, b, a\ngame 3: red 0 black 2, seed 5, w, a, c\ngame 4: red 2 black 0, seed 5, w, c, a\n"
unfolding digits game_line_text games_of each_pair_on games_with above
gauntlet_printed = refl

-- of the first cup b leads by 3, and a by -3
leads_are : standing_text true (codes "a" ∷ codes "b" ∷ []) (line_b ∷ line_a ∷ []) ≡ codes "3 points: b (1 won, 1 drawn, 0 lost), lead 3\n1 points: a (0 won, 1 drawn, 1 lost), lead -3\n"
unfolding digits table_line_text
leads_are = refl

-- equal food is a lead of 0, and a lead may be greater than any score
leads_at_the_ends : (lead_text (record { player = 0; points = 4; won = 2; drawn = 0; lost = 2; food_for = 7; food_against = 7 }) ≡ codes "0")
    × (lead_text (record { player = 0; points = 4; won = 2; drawn = 0; lost = 0; food_for = 8589934590; food_against = 0 }) ≡ codes "8589934590")
    × (lead_text (record { player = 1; points = 0; won = 0; drawn = 0; lost = 2; food_for = 0; food_against = 8589934590 }) ≡ codes "-8589934590")
unfolding digits
leads_at_the_ends = (refl, refl, refl)
