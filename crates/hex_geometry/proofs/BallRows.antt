-- The rows of a ball list it.
use Rattle.hex_geometry.proofs.Metric.{distance_some}
use Rattle.hex_geometry.proofs.Places.{at, pos_same}
use Rattle.hex_geometry.proofs.Walks.{Within, distance_tight, distance_within, half}
use Rattle.hex_geometry.specs.Distance.{HasBall, IsInBall, ListsBall}
use Rattle.hex_geometry.specs.RowOrder.{IsBefore}
use Rattle.hex_geometry.specs.Inner.BallRows.{column_count, first_column, line, rows}
use Rattle.hex_geometry.specs.Position.{Point, point_of}
use Rattle.hex_geometry.specs.declared.position.Pos.{Pos}
use Rattle.list_lemmas.proofs.Elements.{Contains-none, Contains-one}
use Rattle.std.proofs.Common.{◌≡◌, ℕ, zero, suc, ◌+◌, ◌-◌, ◌*◌, ◌<◌, ◌≤◌, List, [], ◌∷◌, ◌++◌, refl, sym, ◌∙◌, ap, arith, subst, inl, inr, append_assoc}
use Rattle.std.proofs.lemmas.Bool.{cases_lt}
use Rattle.std.proofs.lemmas.Int.{ints}
use Rattle.std.proofs.lemmas.List.{append-nil}
use Rattle.std.proofs.lemmas.List.Elements.{Contains-append_cases, Contains-append_left, Contains-append_right, Contains-get_or, Contains-push}
use Rattle.std.proofs.lemmas.List.Quantifiers.{all_pairs_push}
use Rattle.std.specs.Prelude.{ℤ, pos, negsuc, AllPairs, Contains}

-- the positions of a line
pub record IsOnLine (x y n : ℕ) (p : Pos) : Type 0 where
  pub row : p.y ≡ y
  pub from : x ≤ p.x
  pub to : p.x < x + n

line_only : (x y n : ℕ) (p : Pos) → Contains (line x y n) p → IsOnLine x y n p
unfolding line
line_only x y zero p found = absurd (Contains-none p found)
line_only x y (suc n) p found =
    elim (Contains-append_cases (line x y n) (record { x = x + n; y = y } ∷ []) p found) [
      | inl before ↦ let on = line_only x y n p before in record { row = on.row; from = on.from; to = omega arith }
      | inr last ↦
          let e : record { x = x + n; y = y } ≡ p = Contains-one _ p last in
          record { row = sym (ap (λ (q : Pos). q.y) e); from = (let h = ap (λ (q : Pos). q.x) e in omega (arith, h)); to = (let h = ap (λ (q : Pos). q.x) e in omega (arith, h)) }
    ]

line_every : (x y n : ℕ) (p : Pos) → IsOnLine x y n p → Contains (line x y n) p
unfolding line
line_every x y zero p on = absurd (omega arith)
line_every x y (suc n) p on =
    elim (cases_lt p.x (x + n)) [
      | inl h ↦ Contains-append_left _ _ p (line_every x y n p (record { row = on.row; from = on.from; to = h }))
      | inr h ↦
          let e : record { x = x + n; y = y } ≡ p = pos_same (omega arith) (sym on.row) in
          subst (Contains (line x y (suc n))) e (Contains-push (line x y n) (record { x = x + n; y = y }))
    ]

-- the positions of the first n rows
pub record IsInRows (centre : Pos) (radius n : ℕ) (p : Pos) : Type 0 where
  pub from : centre.y ≤ p.y + radius
  pub to : p.y + radius < centre.y + n
  pub on : IsOnLine (first_column centre radius p.y) p.y (column_count centre radius p.y) p

rows_only : (centre : Pos) (radius n : ℕ) (p : Pos) → radius ≤ centre.y → Contains (rows centre radius n) p → IsInRows centre radius n p
unfolding rows
rows_only centre radius zero p top found = absurd (Contains-none p found)
rows_only centre radius (suc n) p top found =
    let y = centre.y - radius + n in
    elim (Contains-append_cases (rows centre radius n) (line (first_column centre radius y) y (column_count centre radius y)) p found) [
      | inl before ↦ let in_rows = rows_only centre radius n p top before in record { from = in_rows.from; to = omega arith; on = in_rows.on }
      | inr last ↦
          let on = line_only (first_column centre radius y) y (column_count centre radius y) p last in
          let same = on.row in
          record {
            from = omega (arith, same);
            to = omega (arith, same);
            on = subst (λ z. IsOnLine (first_column centre radius z) z (column_count centre radius z) p) (sym same) on;
          }
    ]

rows_every : (centre : Pos) (radius n : ℕ) (p : Pos) → radius ≤ centre.y → IsInRows centre radius n p → Contains (rows centre radius n) p
unfolding rows
rows_every centre radius zero p top within = absurd (let a = within.from in let b = within.to in omega (arith, a, b))
rows_every centre radius (suc n) p top within =
    let y = centre.y - radius + n in
    elim (cases_lt (p.y + radius) (centre.y + n)) [
      | inl h ↦ Contains-append_left _ _ p (rows_every centre radius n p top (record { from = within.from; to = h; on = within.on }))
      | inr h ↦
          let a = within.from in
          let b = within.to in
          let same : p.y ≡ y = omega (arith, a, b) in
          Contains-append_right _ _ p (line_every (first_column centre radius y) y (column_count centre radius y) p
          (subst (λ z. IsOnLine (first_column centre radius z) z (column_count centre radius z) p) same within.on))
    ]

-- rows, and after them a line below, are in row order
then_line : (xs : List Pos) (x y n : ℕ) → AllPairs IsBefore xs → ((p : Pos) → Contains xs p → p.y < y) → AllPairs IsBefore (xs ++ line x y n)
unfolding line
then_line xs x y zero ordered above = subst (AllPairs IsBefore) (sym (append-nil xs)) ordered
then_line xs x y (suc n) ordered above =
    let so_far : AllPairs IsBefore (xs ++ line x y n) = then_line xs x y n ordered above in
    let last : Pos = record { x = x + n; y = y } in
    let each : (p : Pos) → Contains (xs ++ line x y n) p → IsBefore p last = λ p found.
    elim (Contains-append_cases xs (line x y n) p found) [
      | inl high ↦ let h = above p high in record { row = omega arith; column = λ e. absurd (omega arith) }
      | inr left ↦ let on = line_only x y n p left in record { row = (let h = on.row in omega (arith, h)); column = λ e. on.to }
    ] in
    subst (AllPairs IsBefore) (append_assoc (xs) (line x y n) (last ∷ []))
    (all_pairs_push IsBefore (xs ++ line x y n) last so_far (λ k d h. each _ (Contains-get_or (xs ++ line x y n) k d h)))

rows_ordered : (centre : Pos) (radius n : ℕ) → radius ≤ centre.y → AllPairs IsBefore (rows centre radius n)
unfolding rows
rows_ordered centre radius zero top = λ i j d before within. absurd (omega arith)
rows_ordered centre radius (suc n) top =
    let y = centre.y - radius + n in
    then_line (rows centre radius n) (first_column centre radius y) y (column_count centre radius y) (rows_ordered centre radius n top)
    (λ p found. let above = (rows_only centre radius n p top found).to in omega (arith, above))

-- what is within the radius by the three differences is in the ball, and nothing else is
pub within_ball : (centre p : Point) (radius : ℕ) → Within radius centre p → IsInBall centre radius p
within_ball centre p radius within =
    let far = distance_some centre p in
    record { far = far.0; distance = far.1; near = distance_tight centre p far.0 radius far.1 within }

pub ball_within : (centre p : Point) (radius : ℕ) → IsInBall centre radius p → Within radius centre p
ball_within centre p radius ball =
    let w = distance_within centre p ball.far ball.distance in
    let h = ball.near in
    record { below = omega (arith, ints); above = omega (arith, ints); right = omega (arith, ints); left = omega (arith, ints); under = omega (arith, ints); over = omega (arith, ints) }

-- a position of the rows is within
rows_within : (centre p : Pos) (radius : ℕ) → HasBall centre radius → IsInRows centre radius (2 * radius + 1) p → Within radius (point_of centre) (point_of p)
unfolding half
rows_within centre p radius has within =
    let a = within.from in
    let b = within.to in
    let c = within.on.from in
    let d = within.on.to in
    record { below = omega (arith, ints, a, b); above = omega (arith, ints, a, b); right = omega (arith, ints, a, b, c, d); left = omega (arith, ints, a, b, c, d); under = omega (arith, ints, a, b, c, d); over = omega (arith, ints, a, b, c, d) }

within_rows : (centre p : Pos) (radius : ℕ) → HasBall centre radius → Within radius (point_of centre) (point_of p) → IsInRows centre radius (2 * radius + 1) p
unfolding half
within_rows centre p radius has w =
    record { from = omega (arith, ints); to = omega (arith, ints); on = record { row = refl; from = omega (arith, ints); to = omega (arith, ints) } }

-- each place of a ball is a position
place_is : (centre : Pos) (radius : ℕ) (x y : ℤ) → HasBall centre radius → Within radius (point_of centre) (record { x = x; y = y }) → (p : Pos) × (point_of p ≡ record { x = x; y = y })
unfolding half
place_is centre radius (pos x) (pos y) has w = (at x y, refl)
place_is centre radius (negsuc x) (pos y) has w = absurd (omega (arith, ints))
place_is centre radius (pos x) (negsuc y) has w = absurd (omega (arith, ints))
place_is centre radius (negsuc x) (negsuc y) has w = absurd (omega (arith, ints))

pub rows_list : (centre : Pos) (radius : ℕ) → HasBall centre radius → ListsBall centre radius (rows centre radius (2 * radius + 1))
rows_list centre radius has = record {
  within = λ p found. within_ball (point_of centre) (point_of p) radius (rows_within centre p radius has (rows_only centre radius (2 * radius + 1) p has.from_top found));
  every = λ q ball.
      let w = ball_within (point_of centre) q radius ball in
      let place = place_is centre radius q.x q.y has w in
      let there : Within radius (point_of centre) (point_of place.0) = subst (Within radius (point_of centre)) (sym place.1) w in
      (place.0, place.1, rows_every centre radius (2 * radius + 1) place.0 has.from_top (within_rows centre place.0 radius has there));
  in_order = rows_ordered centre radius (2 * radius + 1) has.from_top;
}

-- a list that ends in a line, with one more position
pub line_more : (xs before : List Pos) (x y n : ℕ) → xs ≡ before ++ line x y n → xs ++ record { x = x + n; y = y } ∷ [] ≡ before ++ line x y (suc n)
unfolding line
line_more xs before x y n e = ap (λ (l : List Pos). l ++ record { x = x + n; y = y } ∷ []) e ∙ append_assoc before (line x y n) (record { x = x + n; y = y } ∷ [])

-- rows, with one more
pub rows_more : (xs : List Pos) (centre : Pos) (radius n : ℕ) → xs ≡ rows centre radius n
    → xs ++ line (first_column centre radius (centre.y - radius + n)) (centre.y - radius + n) (column_count centre radius (centre.y - radius + n)) ≡ rows centre radius (suc n)
unfolding rows
rows_more xs centre radius n e = ap (λ (l : List Pos). l ++ line (first_column centre radius (centre.y - radius + n)) (centre.y - radius + n) (column_count centre radius (centre.y - radius + n))) e
