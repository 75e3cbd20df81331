-- Totals over all players, and what each game adds to them.
use Rattle.std.proofs.Common.{◌≡◌, ◌≢◌, ℕ, zero, suc, ◌+◌, ◌*◌, ◌<◌, ◌≤◌, ◌==◌, ◌&&◌, ◌||◌, Bool, true, false, nat_lt, List, [], ◌∷◌, length, map, cond, count_by, sum_by, All, refl, sym, ◌∙◌, ap, arith}
use Rattle.std.proofs.lemmas.Bool.{ltb-false, ltb-true, eqb-true, eqb-false, eq-eqb, ne_eqb}
use Rattle.std.proofs.lemmas.List.{map_push}
use Rattle.std.proofs.lemmas.List.Sums.{sum_by-cons, sum_by_push}
use Rattle.cell_world.specs.declared.score.Score.{Score}
use Rattle.tournament.specs.declared.games.Pairing.{Pairing}
use Rattle.tournament.specs.declared.games.Played.{Played}
use Rattle.tournament.specs.declared.standing.Line.{Line}
use Rattle.tournament.specs.Games.{IsGame, below, played_by}
use Rattle.tournament.specs.Standing.{is_won, is_lost, is_drawn}

-- the sum of f over the numbers below n
abbrev pub total : (ℕ → ℕ) → ℕ → ℕ
total f zero = 0
total f (suc n) = total f n + f n

-- a sum over lines by player number is a total
pub sum_by-lines : (f : Line → ℕ) (line : ℕ → Line) (n : ℕ) → sum_by f (map line (below n)) ≡ total (λ p. f (line p)) n
sum_by-lines f line zero = refl
sum_by-lines f line (suc n) =
    ap (sum_by f) (map_push line (below n) n) ∙ sum_by_push f (map line (below n)) (line n) ∙ ap (λ t. t + f (line n)) (sum_by-lines f line n)

total-same : (f g : ℕ → ℕ) → ((p : ℕ) → f p ≡ g p) → (n : ℕ) → total f n ≡ total g n
total-same f g same zero = refl
total-same f g same (suc n) = omega (arith, total-same f g same n, same n)

total-add : (f g : ℕ → ℕ) (n : ℕ) → total (λ p. f p + g p) n ≡ total f n + total g n
total-add f g zero = refl
total-add f g (suc n) = omega (arith, total-add f g n)

-- the points are two for each win and one for each draw
pub total-points : (won drawn : ℕ → ℕ) (n : ℕ) → total (λ p. 2 * won p + drawn p) n ≡ 2 * total won n + total drawn n
total-points won drawn zero = refl
total-points won drawn (suc n) = omega (arith, total-points won drawn n)

total-none : (n : ℕ) → total (λ p. 0) n ≡ 0
total-none zero = refl
total-none (suc n) = omega (arith, total-none n)

missed : (r a n : ℕ) → n ≤ r → total (λ p. cond (r == p) a 0) n ≡ 0
missed r a zero le = refl
missed r a (suc n) le =
    let here : cond (r == n) a 0 ≡ 0 = ap (λ b. cond b a 0) (ne_eqb r n (λ (e : r ≡ n). absurd (omega arith))) in
    omega (arith, missed r a n (omega arith))

hit_at : (r a n : ℕ) → (r ≡ n) → total (λ p. cond (r == p) a 0) (suc n) ≡ a
hit_at r a n e =
    let here : cond (r == n) a 0 ≡ a = ap (λ b. cond b a 0) (eq-eqb r n e) in
    omega (arith, missed r a n (omega arith))

lt_of : (r n : ℕ) → r < suc n → (r ≡ n → ⊥) → r < n
lt_of r n lt apart = omega arith

hit_by : (r a n : ℕ) → r < suc n → (b : Bool) → (r == n) ≡ b → (r < n → total (λ p. cond (r == p) a 0) n ≡ a) → total (λ p. cond (r == p) a 0) (suc n) ≡ a
hit_by r a n lt true e rest = hit_at r a n (eqb-true r n e)
hit_by r a n lt false e rest =
    let apart = eqb-false r n e in
    let here : cond (r == n) a 0 ≡ 0 = ap (λ b. cond b a 0) e in
    omega (arith, rest (lt_of r n lt apart))

-- a total that one number alone adds to
hit : (r a n : ℕ) → r < n → total (λ p. cond (r == p) a 0) n ≡ a
hit r a zero lt = absurd (omega arith)
hit r a (suc n) lt = hit_by r a n lt (r == n) refl (hit r a n)

-- one game more adds what its two sides get
more : (q : ℕ → Played → Bool) (x : Played) (xs : List Played) (n r s a b : ℕ) → r < n → s < n → ((p : ℕ) → cond (q p x) 1 0 ≡ cond (r == p) a 0 + cond (s == p) b 0)
    → total (λ p. count_by (q p) (x ∷ xs)) n ≡ (a + b) + total (λ p. count_by (q p) xs) n
more q x xs n r s a b r_in s_in each =
    let cons = total-same (λ p. count_by (q p) (x ∷ xs)) (λ p. (cond (r == p) a 0 + cond (s == p) b 0) + count_by (q p) xs)
    (λ p. sum_by-cons (λ y. cond (q p y) 1 0) x xs ∙ ap (λ t. t + count_by (q p) xs) (each p)) n in
    let first = total-add (λ p. cond (r == p) a 0 + cond (s == p) b 0) (λ p. count_by (q p) xs) n in
    let sides = total-add (λ p. cond (r == p) a 0) (λ p. cond (s == p) b 0) n in
    let red = hit r a n r_in in
    let black = hit s b n s_in in
    omega arith

two_sides : (a b s t : Bool) → (a ≡ true → b ≡ true → ⊥) → cond ((a && s) || (b && t)) 1 0 ≡ cond a (cond s 1 0) 0 + cond b (cond t 1 0) 0
two_sides true true s t apart = absurd (apart refl refl)
two_sides true false true t apart = refl
two_sides true false false t apart = refl
two_sides false true s true apart = refl
two_sides false true s false apart = refl
two_sides false false s t apart = refl

each_side : (a b s : Bool) → (a ≡ true → b ≡ true → ⊥) → cond ((a || b) && s) 1 0 ≡ cond a (cond s 1 0) 0 + cond b (cond s 1 0) 0
each_side true true s apart = absurd (apart refl refl)
each_side true false true apart = refl
each_side true false false apart = refl
each_side false true true apart = refl
each_side false true false apart = refl
each_side false false s apart = refl

not_both : (r s p : ℕ) → r ≢ s → (r == p) ≡ true → (s == p) ≡ true → ⊥
not_both r s p apart a b = apart (eqb-true r p a ∙ sym (eqb-true s p b))

three_ways : (r b : ℕ) (s t u : Bool) → nat_lt b r ≡ s → nat_lt r b ≡ t → (r == b) ≡ u → 2 * (cond s 1 0 + cond t 1 0) + (cond u 1 0 + cond u 1 0) ≡ 2
three_ways r b true true u p q e = absurd (omega (arith, ltb-true b r p, ltb-true r b q))
three_ways r b true false true p q e = absurd (omega (arith, ltb-true b r p, eqb-true r b e))
three_ways r b false true true p q e = absurd (omega (arith, ltb-true r b q, eqb-true r b e))
three_ways r b false false false p q e = absurd (eqb-false r b e (omega (arith, ltb-false b r p, ltb-false r b q)))
three_ways r b it that u p q e = refl

module _ (players worlds : ℕ) (score : ℕ → ℕ → ℕ → Score) where
  abbrev scored : List Pairing → List Played
  scored games = map (played_by score) games

  abbrev red_wins : Pairing → ℕ
  red_wins g = cond (nat_lt (score g.world g.red g.black).black (score g.world g.red g.black).red) 1 0

  abbrev black_wins : Pairing → ℕ
  black_wins g = cond (nat_lt (score g.world g.red g.black).red (score g.world g.red g.black).black) 1 0

  abbrev drawn_once : Pairing → ℕ
  drawn_once g = cond ((score g.world g.red g.black).red == (score g.world g.red g.black).black) 1 0

  won_more : (g : Pairing) (games : List Pairing) → IsGame players worlds g
      → total (λ p. count_by (is_won p) (scored (g ∷ games))) players ≡ (red_wins g + black_wins g) + total (λ p. count_by (is_won p) (scored games)) players
  won_more g games at = more is_won (played_by score g) (scored games) players g.red g.black (red_wins g) (black_wins g) at.red at.black (λ p. two_sides (g.red == p) (g.black == p) _ _ (not_both g.red g.black p at.apart))

  lost_more : (g : Pairing) (games : List Pairing) → IsGame players worlds g
      → total (λ p. count_by (is_lost p) (scored (g ∷ games))) players ≡ (black_wins g + red_wins g) + total (λ p. count_by (is_lost p) (scored games)) players
  lost_more g games at = more is_lost (played_by score g) (scored games) players g.red g.black (black_wins g) (red_wins g) at.red at.black (λ p. two_sides (g.red == p) (g.black == p) _ _ (not_both g.red g.black p at.apart))

  drawn_more : (g : Pairing) (games : List Pairing) → IsGame players worlds g
      → total (λ p. count_by (is_drawn p) (scored (g ∷ games))) players ≡ (drawn_once g + drawn_once g) + total (λ p. count_by (is_drawn p) (scored games)) players
  drawn_more g games at = more is_drawn (played_by score g) (scored games) players g.red g.black (drawn_once g) (drawn_once g) at.red at.black (λ p. each_side (g.red == p) (g.black == p) _ (not_both g.red g.black p at.apart))

  -- as many wins as losses
  pub wins_losses : (games : List Pairing) → All (IsGame players worlds) games → total (λ p. count_by (is_won p) (scored games)) players ≡ total (λ p. count_by (is_lost p) (scored games)) players
  wins_losses [] all = refl
  wins_losses (g ∷ games) all =
      let at = all 0 g (omega arith) in
      omega (arith, won_more g games at, lost_more g games at, wins_losses games (λ k d lt. all (suc k) d (omega arith)))

  -- two points for each game
  pub points_games : (games : List Pairing) → All (IsGame players worlds) games
      → 2 * total (λ p. count_by (is_won p) (scored games)) players + total (λ p. count_by (is_drawn p) (scored games)) players ≡ 2 * length games
  points_games [] all = omega (arith, total-none players)
  points_games (g ∷ games) all =
      let at = all 0 g (omega arith) in
      let s = score g.world g.red g.black in
      let two = three_ways s.red s.black _ _ _ refl refl refl in
      omega (arith, two, won_more g games at, drawn_more g games at, points_games games (λ k d lt. all (suc k) d (omega arith)))
