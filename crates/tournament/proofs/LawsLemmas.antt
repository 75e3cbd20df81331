-- The laws of cups.
use Rattle.std.proofs.Common.{◌≡◌, ℕ, suc, ◌+◌, ◌*◌, ◌<◌, ◌≤◌, ◌==◌, Bool, true, false, List, [], ◌∷◌, length, get_or, map, cond, count_by, sum_by, All, refl, sym, ◌∙◌, ap, subst, arith}
use Rattle.std.specs.Bool.{⊤}
use Rattle.std.specs.List.{AllAdjacentBelow}
use Rattle.std.proofs.lemmas.Bool.{eqb-true, eq-eqb}
use Rattle.std.proofs.lemmas.List.Elements.{All-map, All-cons, All-nil}
use Rattle.std.proofs.lemmas.List.Sorted.{sum_by-IsPermutation, All-permutation}
use Rattle.std.proofs.lemmas.List.Sums.{sum_by-cons}
use Rattle.tournament.specs.declared.games.Played.{Played}
use Rattle.tournament.specs.declared.standing.Line.{Line}
use Rattle.tournament.specs.Games.{below, games_of, all_played}
use Rattle.tournament.specs.Laws.{PointsAddUp, WinsAreLosses, OneStanding}
use Rattle.tournament.specs.Standing.{is_won, is_lost, is_drawn, line_of, StandsAbove}
use Rattle.tournament.proofs.GamesLemmas.{All-games_of}
use Rattle.tournament.proofs.TotalLemmas.{total, sum_by-lines, total-points, wins_losses, points_games}

sum_by-points : (players : ℕ) (games : List Played) → sum_by (λ line. line.points) (map (line_of games) (below players)) ≡ 2 * total (λ p. count_by (is_won p) games) players + total (λ p. count_by (is_drawn p) games) players
unfolding line_of
sum_by-points players games = sum_by-lines (λ line. line.points) (line_of games) players ∙ total-points (λ p. count_by (is_won p) games) (λ p. count_by (is_drawn p) games) players

sum_by-won : (players : ℕ) (games : List Played) → sum_by (λ line. line.won) (map (line_of games) (below players)) ≡ total (λ p. count_by (is_won p) games) players
unfolding line_of
sum_by-won players games = sum_by-lines (λ line. line.won) (line_of games) players

sum_by-lost : (players : ℕ) (games : List Played) → sum_by (λ line. line.lost) (map (line_of games) (below players)) ≡ total (λ p. count_by (is_lost p) games) players
unfolding line_of
sum_by-lost players games = sum_by-lines (λ line. line.lost) (line_of games) players

pub points_law : PointsAddUp
points_law gauntlet players worlds score lines at =
    sum_by-IsPermutation (λ line. line.points) _ lines at.each ∙ sum_by-points players (all_played gauntlet players worlds score)
    ∙ points_games players worlds score (games_of gauntlet players worlds) (All-games_of gauntlet players worlds)

pub wins_law : WinsAreLosses
wins_law gauntlet players worlds score lines at =
    sum_by-IsPermutation (λ line. line.won) _ lines at.each ∙ sum_by-won players (all_played gauntlet players worlds score)
    ∙ wins_losses players worlds score (games_of gauntlet players worlds) (All-games_of gauntlet players worlds)
    ∙ sym (sum_by-IsPermutation (λ line. line.lost) _ lines at.each ∙ sum_by-lost players (all_played gauntlet players worlds score))

StandsAbove-refl : (x : Line) → StandsAbove x x
StandsAbove-refl x = record { points = omega arith; ties = λ e. omega arith }

trans_ties : (x y z : Line) → StandsAbove x y → StandsAbove y z → x.points ≡ z.points → x.player ≤ z.player
trans_ties x y z a b e =
    let front = a.ties (omega (arith, a.points, b.points)) in
    let back = b.ties (omega (arith, a.points, b.points)) in
    omega arith

StandsAbove-trans : (x y z : Line) → StandsAbove x y → StandsAbove y z → StandsAbove x z
StandsAbove-trans x y z a b = record {
  points = omega (arith, a.points, b.points);
  ties = λ (e : x.points ≡ z.points). trans_ties x y z a b e;
}

-- each line stands above all that follow
abbrev Falls : List Line → Type 0
Falls [] = ⊤
Falls (x ∷ xs) = All (StandsAbove x) xs × Falls xs

near_rest : (x y : Line) (ys : List Line) → AllAdjacentBelow StandsAbove (x ∷ y ∷ ys) (length (x ∷ y ∷ ys)) → AllAdjacentBelow StandsAbove (y ∷ ys) (length (y ∷ ys))
near_rest x y ys near k d lt =
    let next : suc k + 1 ≡ suc (k + 1) = omega arith in
    subst (λ m. StandsAbove (get_or (y ∷ ys) k d) (get_or (x ∷ y ∷ ys) m d)) next (near (suc k) d (omega arith))

falls_from : (xs : List Line) → AllAdjacentBelow StandsAbove xs (length xs) → Falls xs
falls_from [] near = tt
falls_from (x ∷ []) near = (All-nil (StandsAbove x), tt)
falls_from (x ∷ y ∷ ys) near =
    let rest = falls_from (y ∷ ys) (near_rest x y ys near) in
    let next : StandsAbove x y = near 0 x (omega arith) in
    (All-cons (StandsAbove x) y ys next (λ k d lt. StandsAbove-trans x y _ next (rest.0 k d lt)), rest)

same_rest : (f : Line → ℕ) (x y : Line) (xs ys : List Line) → x ≡ y → sum_by f (x ∷ xs) ≡ sum_by f (y ∷ ys) → sum_by f xs ≡ sum_by f ys
same_rest f x y xs ys first same =
    let e = ap f first in
    omega (arith, same, sum_by-cons f x xs, sum_by-cons f y ys)

module _ (games : List Played) where
  -- a line is that of its player
  abbrev IsOwn : Line → Type 0
  IsOwn line = line ≡ line_of games line.player

  own_line : (p : ℕ) → IsOwn (line_of games p)
  unfolding line_of
  own_line p = refl

  same_line : (x y : Line) → IsOwn x → IsOwn y → x.player ≡ y.player → x ≡ y
  same_line x y x_own y_own e = x_own ∙ ap (line_of games) e ∙ sym y_own

  -- whether a line is that of a player, as a number
  abbrev is_of : ℕ → Line → ℕ
  is_of p line = cond (line.player == p) 1 0

  among_by : (x y z : Line) (zs : List Line) → IsOwn x → IsOwn z → StandsAbove y z → (0 < sum_by (is_of x.player) zs → StandsAbove y x)
      → (b : Bool) → (z.player == x.player) ≡ b → 0 < sum_by (is_of x.player) (z ∷ zs) → StandsAbove y x
  among_by x y z zs x_own z_own above rest true e some = subst (StandsAbove y) (same_line z x z_own x_own (eqb-true z.player x.player e)) above
  among_by x y z zs x_own z_own above rest false e some =
      let first : is_of x.player z ≡ 0 = ap (λ b. cond b 1 0) e in
      let cons = sum_by-cons (is_of x.player) z zs in
      rest (omega arith)

  -- what stands above all lines stands above each that is among them
  among : (x y : Line) (zs : List Line) → IsOwn x → All IsOwn zs → All (StandsAbove y) zs → 0 < sum_by (is_of x.player) zs → StandsAbove y x
  among x y [] x_own own above some = absurd (omega arith)
  among x y (z ∷ zs) x_own own above some =
      among_by x y z zs x_own (own 0 z (omega arith)) (above 0 z (omega arith)) (among x y zs x_own (λ k d lt. own (suc k) d (omega arith)) (λ k d lt. above (suc k) d (omega arith)))
      (z.player == x.player) refl some

  first_counts : (x : Line) (xs : List Line) → 0 < sum_by (is_of x.player) (x ∷ xs)
  first_counts x xs =
      let one : is_of x.player x ≡ 1 = ap (λ b. cond b 1 0) (eq-eqb x.player x.player refl) in
      let cons = sum_by-cons (is_of x.player) x xs in
      omega arith

  same_first : (x y : Line) → IsOwn x → IsOwn y → StandsAbove x y → StandsAbove y x → x ≡ y
  same_first x y x_own y_own a b =
      let points : x.points ≡ y.points = omega (arith, a.points, b.points) in
      let front = a.ties points in
      let back = b.ties (sym points) in
      same_line x y x_own y_own (omega arith)

  unique : (xs ys : List Line) → ((f : Line → ℕ) → sum_by f xs ≡ sum_by f ys) → All IsOwn xs → All IsOwn ys → Falls xs → Falls ys → xs ≡ ys
  unique [] [] same xs_own ys_own xs_fall ys_fall = refl
  unique [] (y ∷ ys) same xs_own ys_own xs_fall ys_fall = absurd (omega (arith, same (λ _. 1), sum_by-cons (λ _. 1) y ys))
  unique (x ∷ xs) [] same xs_own ys_own xs_fall ys_fall = absurd (omega (arith, same (λ _. 1), sum_by-cons (λ _. 1) x xs))
  unique (x ∷ xs) (y ∷ ys) same xs_own ys_own xs_fall ys_fall =
      let x_own = xs_own 0 x (omega arith) in
      let y_own = ys_own 0 y (omega arith) in
      let some_x : 0 < sum_by (is_of x.player) (y ∷ ys) = omega (arith, same (is_of x.player), first_counts x xs) in
      let some_y : 0 < sum_by (is_of y.player) (x ∷ xs) = omega (arith, same (is_of y.player), first_counts y ys) in
      let y_above = among x y (y ∷ ys) x_own ys_own (All-cons (StandsAbove y) y ys (StandsAbove-refl y) ys_fall.0) some_x in
      let x_above = among y x (x ∷ xs) y_own xs_own (All-cons (StandsAbove x) x xs (StandsAbove-refl x) xs_fall.0) some_y in
      let first : x ≡ y = same_first x y x_own y_own x_above y_above in
      let rest = unique xs ys (λ f. same_rest f x y xs ys first (same f)) (λ k d lt. xs_own (suc k) d (omega arith)) (λ k d lt. ys_own (suc k) d (omega arith)) xs_fall.1 ys_fall.1 in
      ap (λ l. l ∷ xs) first ∙ ap (λ ls. y ∷ ls) rest

pub standing_law : OneStanding
standing_law gauntlet players worlds score lines others at other =
    let games = all_played gauntlet players worlds score in
    let own = All-map (IsOwn games) (line_of games) (below players) (λ k d lt. own_line games _) in
    unique games lines others (λ f. sum_by-IsPermutation f _ lines at.each ∙ sym (sum_by-IsPermutation f _ others other.each))
    (All-permutation (IsOwn games) _ lines at.each own) (All-permutation (IsOwn games) _ others other.each own) (falls_from lines at.order) (falls_from others other.order)
