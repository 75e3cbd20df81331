-- How many positions a ball has.
use Rattle.hex_geometry.proofs.BallRows.{rows_list}
use Rattle.hex_geometry.proofs.Places.{pos_same, same_pos_false, same_pos_true}
use Rattle.hex_geometry.specs.Distance.{ListsBall}
use Rattle.hex_geometry.specs.RowOrder.{IsBefore}
use Rattle.hex_geometry.specs.DistanceLaws.{BallsAreCounted}
use Rattle.hex_geometry.specs.Inner.BallRows.{column_count, first_column, line, rows}
use Rattle.hex_geometry.specs.Position.{Point, point_of, same_pos}
use Rattle.hex_geometry.specs.declared.position.Pos.{Pos}
use Rattle.std.proofs.Common.{◌≡◌, ◌≢◌, ℕ, zero, suc, ◌+◌, ◌-◌, ◌*◌, ◌≤◌, List, [], ◌∷◌, length, refl, sym, ◌∙◌, ap, arith, subst, length-append, inl, inr}
use Rattle.std.proofs.lemmas.Bool.{cases_Bool}
use Rattle.std.proofs.lemmas.Map.Made.{Contains-tail}
use Rattle.std.specs.Prelude.{pos, AllPairs, Contains}

line_length : (x y n : ℕ) → length (line x y n) ≡ n
unfolding line
line_length x y zero = refl
line_length x y (suc n) = omega (arith, length-append (line x y n) (record { x = x + n; y = y } ∷ []), line_length x y n)

rows_length : (centre : Pos) (radius n : ℕ) → length (rows centre radius (suc n)) ≡ length (rows centre radius n) + column_count centre radius (centre.y - radius + n)
unfolding rows
rows_length centre radius n =
    let y = centre.y - radius + n in
    omega (arith, length-append (rows centre radius n) (line (first_column centre radius y) y (column_count centre radius y)), line_length (first_column centre radius y) y (column_count centre radius y))

rows_none : (centre : Pos) (radius : ℕ) → length (rows centre radius 0) ≡ 0
unfolding rows
rows_none centre radius = refl

-- the rows down to the centre's
upper : (centre : Pos) (radius n : ℕ) → radius ≤ centre.y → n ≤ radius + 1 → 2 * length (rows centre radius n) + n ≡ 2 * (n * (radius + 1)) + n * n
upper centre radius zero top low = let e = rows_none centre radius in omega (arith, e)
upper centre radius (suc n) top low =
    let before = upper centre radius n top (omega arith) in
    let count : column_count centre radius (centre.y - radius + n) ≡ radius + 1 + n = omega arith in
    let more = rows_length centre radius n in
    omega arith

-- and the rows below it
lower : (centre : Pos) (radius m : ℕ) → radius ≤ centre.y → m ≤ radius → 2 * length (rows centre radius (radius + 1 + m)) + m * m ≡ (radius + 1) * (3 * radius + 2) + 4 * (radius * m) + m
lower centre radius zero top low =
    let e : radius + 1 + 0 ≡ radius + 1 = omega arith in
    let high = upper centre radius (radius + 1) top (omega arith) in
    rw e (omega arith)
lower centre radius (suc m) top low =
    let before = lower centre radius m top (omega arith) in
    let n = radius + 1 + m in
    let e : radius + 1 + suc m ≡ suc n = omega arith in
    let count : column_count centre radius (centre.y - radius + n) + m ≡ 2 * radius = omega arith in
    let more = rows_length centre radius n in
    rw e (omega arith)

pub rows_size : (centre : Pos) (radius : ℕ) → radius ≤ centre.y → length (rows centre radius (2 * radius + 1)) ≡ 3 * radius * (radius + 1) + 1
rows_size centre radius top =
    let e : radius + 1 + radius ≡ 2 * radius + 1 = omega arith in
    let whole = subst (λ n. 2 * length (rows centre radius n) + radius * radius ≡ (radius + 1) * (3 * radius + 2) + 4 * (radius * radius) + radius) e (lower centre radius radius top (omega arith)) in
    omega arith

-- of two lists in row order, the one whose positions the other has is no longer
tail_ordered : (x : Pos) (xs : List Pos) → AllPairs IsBefore (x ∷ xs) → AllPairs IsBefore xs
tail_ordered x xs ordered = λ i j d before within. ordered (suc i) (suc j) d (omega arith) (omega arith)

head_before : (x : Pos) (xs : List Pos) (p : Pos) → AllPairs IsBefore (x ∷ xs) → Contains xs p → IsBefore x p
head_before x xs p ordered (k, within, is) = subst (IsBefore x) is (ordered 0 (suc k) p (omega arith) (omega arith))

not_before_itself : (p : Pos) → IsBefore p p → ⊥
not_before_itself p before = let h = before.column refl in omega arith

not_both : (p q : Pos) → IsBefore p q → IsBefore q p → ⊥
not_both p q there back =
    let row : p.y ≡ q.y = omega arith in
    let h = there.column row in
    let g = back.column (sym row) in
    omega arith

-- lists with one head: the rest of the one is in the rest of the other
sub_tail : (x y : Pos) (xs ys : List Pos) → AllPairs IsBefore (x ∷ xs) → ((p : Pos) → Contains (x ∷ xs) p → Contains (y ∷ ys) p) → x ≡ y → (p : Pos) → Contains xs p → Contains ys p
sub_tail x y xs ys ox sub e p found =
    let later : Contains (x ∷ xs) p = (suc found.0, (let h = found.1 in omega arith), found.2) in
    Contains-tail y ys p (λ same. not_before_itself p (subst (λ q. IsBefore q p) (e ∙ same) (head_before x xs p ox found))) (sub p later)

not_head : (x y : Pos) (xs : List Pos) (p : Pos) → AllPairs IsBefore (x ∷ xs) → x ≢ y → Contains (x ∷ xs) p → y ≡ p → IsBefore y x → ⊥
not_head x y xs p ox apart (zero, within, is) same first = apart (is ∙ sym same)
not_head x y xs p ox apart (suc k, within, is) same first = not_both y x first (subst (IsBefore x) (sym same) (head_before x xs p ox (k, omega arith, is)))

-- lists with two heads: the whole of the one is in the rest of the other
sub_whole : (x y : Pos) (xs ys : List Pos) → AllPairs IsBefore (x ∷ xs) → AllPairs IsBefore (y ∷ ys) → ((p : Pos) → Contains (x ∷ xs) p → Contains (y ∷ ys) p) → x ≢ y → (p : Pos) → Contains (x ∷ xs) p → Contains ys p
sub_whole x y xs ys ox oy sub apart p found =
    let early : Contains ys x = Contains-tail y ys x (λ e. apart (sym e)) (sub x (0, omega arith, refl)) in
    let first : IsBefore y x = head_before y ys x oy early in
    Contains-tail y ys p (λ same. not_head x y xs p ox apart found same first) (sub p found)

no_longer : (ys xs : List Pos) → AllPairs IsBefore xs → AllPairs IsBefore ys → ((p : Pos) → Contains xs p → Contains ys p) → length xs ≤ length ys
no_longer ys [] ox oy sub = omega arith
no_longer [] (x ∷ xs) ox oy sub = absurd (let h = (sub x (0, omega arith, refl)).1 in omega arith)
no_longer (y ∷ ys) (x ∷ xs) ox oy sub =
    elim (cases_Bool (same_pos x y)) [
      | inl is ↦
          let h = no_longer ys xs (tail_ordered x xs ox) (tail_ordered y ys oy) (sub_tail x y xs ys ox sub (same_pos_true x y is)) in
          omega arith
      | inr is ↦
          let h = no_longer ys (x ∷ xs) ox (tail_ordered y ys oy) (sub_whole x y xs ys ox oy sub (same_pos_false x y is)) in
          omega arith
    ]

-- lists of one ball have one length
into : (centre : Pos) (radius : ℕ) (xs ys : List Pos) → ListsBall centre radius xs → ListsBall centre radius ys → (p : Pos) → Contains xs p → Contains ys p
into centre radius xs ys lx ly p found =
    let other = ly.every (point_of p) (lx.within p found) in
    let columns : pos other.0.x ≡ pos p.x = ap (λ (q : Point). q.x) other.1 in
    let rows_same : pos other.0.y ≡ pos p.y = ap (λ (q : Point). q.y) other.1 in
    subst (Contains ys) (pos_same (cc) (cc)) other.2

pub balls_counted : BallsAreCounted
balls_counted centre radius items has lists =
    let model = rows_list centre radius has in
    let whole = rows centre radius (2 * radius + 1) in
    let up = no_longer whole items lists.in_order model.in_order (into centre radius items whole lists model) in
    let low = no_longer items whole model.in_order lists.in_order (into centre radius whole items model lists) in
    let size = rows_size centre radius has.from_top in
    omega (arith, up, low, size)
