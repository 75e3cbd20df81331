-- Counts over games, and the order of lines.
use mir.Val.{bool_byte}
use Rattle.std.proofs.Common.{◌≡◌, ℕ, ◌+◌, ◌<◌, ◌≤◌, ◌==◌, Bool, true, false, nat_lt, List, length, get_or, take, map, All, count_by, sum_by, Fits, w32, ◌^◌, ◌*◌, take_all, refl, sym, ap, ◌∙◌, subst, arith}
use Rattle.std.specs.Ordering.{nat_cmp, is_lt, ordering_then}
use Rattle.std.proofs.lemmas.Bool.{ltb-false, le-ltb, eq-eqb}
use Rattle.std.proofs.lemmas.List.{length-take}
use Rattle.std.proofs.lemmas.List.Elements.{All-map, All-weaker}
use Rattle.std.proofs.lemmas.List.Sorted.{All-permutation}
use Rattle.std.proofs.lemmas.List.Sums.{count_by-le-length, count_by_more_no, count_by_more_yes, sum_by_more}
use Rattle.tournament.specs.Games.{below}
use Rattle.tournament.proofs.GamesLemmas.{All-below}
use Rattle.tournament.specs.declared.games.Played.{Played}
use Rattle.tournament.specs.declared.standing.Line.{Line}
use Rattle.tournament.specs.Standing.{is_won, is_lost, is_drawn, food_against, food_for, line_of, StandsAbove, Ranks}

above_points_by : (a b p q : ℕ) (t : Bool) → nat_lt a b ≡ t → is_lt (ordering_then (nat_cmp a b) (nat_cmp p q)) ≡ false → b ≤ a
above_points_by a b p q true e h = let k = rw e at h in absurd (cc)
above_points_by a b p q false e h = ltb-false a b e

above_ties_by : (a p q : ℕ) (t : Bool) → nat_lt p q ≡ t → is_lt (ordering_then (nat_cmp a a) (nat_cmp p q)) ≡ false → q ≤ p
above_ties_by a p q true e h =
    let less : nat_lt a a ≡ false = le-ltb a a (omega arith) in
    let same : (a == a) ≡ true = eq-eqb a a refl in
    let k = rw (less, same, e) at h in absurd (cc)
above_ties_by a p q false e h = ltb-false p q e

-- what a sort says of two neighbours
pub stands_above : (x y : Line) → is_lt (ordering_then (nat_cmp x.points y.points) (nat_cmp y.player x.player)) ≡ false → StandsAbove x y
stands_above x y h = record {
  points = above_points_by x.points y.points y.player x.player (nat_lt x.points y.points) refl h;
  ties = λ e. above_ties_by x.points y.player x.player (nat_lt y.player x.player) refl (subst (λ b. is_lt (ordering_then (nat_cmp x.points b) (nat_cmp y.player x.player)) ≡ false) (sym e) h);
}

-- the count of the first games and of one more
pub counted : (p : Played → Bool) (games : List Played) (i : ℕ) (d : Played) (count byte : ℕ) (answer : Bool) → i < length games → count ≡ count_by p (take i games)
    → answer ≡ p (get_or games i d) → byte ≡ bool_byte answer → count + byte ≡ count_by p (take (i + 1) games)
counted p games i d count byte true lt before is one = let more = count_by_more_yes p games i d lt (sym is) in omega arith
counted p games i d count byte false lt before is none = let same = count_by_more_no p games i d lt (sym is) in omega arith

-- a count is no more than the games
pub few_counted : (p : Played → Bool) (games : List Played) (i count : ℕ) → length games < 2 ^ 30 → count ≡ count_by p (take i games) → count < 2 ^ 30
few_counted p games i count few is = let within = count_by-le-length p (take i games) in let long = length-take i games in omega arith

pub count_within : (p : Played → Bool) (games : List Played) (i count : ℕ) → count ≡ count_by p (take i games) → count ≤ length games
count_within p games i count is = let within = count_by-le-length p (take i games) in let long = length-take i games in omega arith

-- so there is room for it with one game more, for twice it, and for another count on top
pub counted_fits : (p : Played → Bool) (games : List Played) (i : ℕ) (d : Played) (count byte : ℕ) (answer : Bool) → length games < 2 ^ 30 → i < length games → count ≡ count_by p (take i games)
    → answer ≡ p (get_or games i d) → byte ≡ bool_byte answer → Fits w32 (count + byte)
counted_fits p games i d count byte answer few lt before is one =
    let small = few_counted p games (i + 1) (count + byte) few (counted p games i d count byte answer lt before is one) in omega arith

pub twice_fits : (count : ℕ) → count < 2 ^ 30 → Fits w32 (2 * count)
twice_fits count few = omega arith

pub points_fit : (won drawn : ℕ) → won < 2 ^ 30 → drawn < 2 ^ 30 → Fits w32 (2 * won + drawn)
points_fit won drawn few fewer = omega arith

-- the food after one game more
pub food_more : (f : Played → ℕ) (games : List Played) (i : ℕ) (d : Played) (food more : ℕ) → i < length games → food ≡ sum_by f (take i games) → more ≡ f (get_or games i d) → food + more ≡ sum_by f (take (i + 1) games)
food_more f games i d food more lt before is = let next = sum_by_more f games i d lt in omega arith

-- when all games are there
pub food_all : (f : Played → ℕ) (games : List Played) (i food : ℕ) → length games ≤ i → food ≡ sum_by f (take i games) → food ≡ sum_by f games
food_all f games i food le is = is ∙ ap (sum_by f) (take_all i games le)

-- the counts after the last game, and the food, are the line
pub line_is : (games : List Played) (player i won drawn lost own others : ℕ) → length games ≤ i → won ≡ count_by (is_won player) (take i games) → drawn ≡ count_by (is_drawn player) (take i games)
    → lost ≡ count_by (is_lost player) (take i games) → own ≡ sum_by (food_for player) games → others ≡ sum_by (food_against player) games
    → (record { player = player; points = 2 * won + drawn; won = won; drawn = drawn; lost = lost; food_for = own; food_against = others }) ≡ line_of games player
unfolding line_of
line_is games player i won drawn lost own others le w d l o t = rw (w, d, l, o, t, take_all i games le) refl

pub line_of-player : (games : List Played) (p : ℕ) → (line_of games p).player ≡ p
unfolding line_of
line_of-player games p = refl

-- the players of a standing are below their number
pub players_in : (players : ℕ) (games : List Played) (lines : List Line) → Ranks players games lines → All (λ line. line.player < players) lines
players_in players games lines at =
    All-permutation (λ line. line.player < players) (map (line_of games) (below players)) lines at.each
    (All-map (λ line. line.player < players) (line_of games) (below players)
    (All-weaker (λ p. p < players) (λ p. (line_of games p).player < players) (λ p lt. omega (arith, line_of-player games p)) (below players) (All-below players)))

-- if there are at least as many names, each player of a standing has one
pub players_named : (players count : ℕ) (games : List Played) (lines : List Line) → players ≤ count → Ranks players games lines → All (λ line. line.player < count) lines
players_named players count games lines le at =
    All-weaker (λ line. line.player < players) (λ line. line.player < count) (λ line lt. omega arith) lines (players_in players games lines at)
