-- Placings that are known whole: three elements at their first tries, and one that has no room.
use Rattle.cell_world.specs.Opening.{floor, hill_cell, new_ant}
use Rattle.cell_world.specs.World.{World, put_cell}
use Rattle.cell_world.specs.declared.ant.Colour.TheVariants.{Red, Black}
use Rattle.hex_geometry.proofs.BallRows.{ball_within, within_ball}
use Rattle.hex_geometry.proofs.Metric.{within_one}
use Rattle.hex_geometry.proofs.Walks.{Within, half, halved, slant, step_is}
use Rattle.hex_geometry.specs.Direction.{turned_by}
use Rattle.hex_geometry.specs.Neighbourhood.{adjacent_point}
use Rattle.hex_geometry.specs.Position.{Point, point_of, same_pos}
use Rattle.hex_geometry.specs.declared.direction.Dir.TheVariants.{East, SouthEast, SouthWest}
use Rattle.hex_geometry.specs.declared.position.Pos.{Pos}
use Rattle.std.proofs.Common.{◌≡◌, ℕ, zero, suc, ◌≤◌, [], ◌∷◌, true, Some, refl, sym, subst, arith, inl, inr}
use Rattle.std.proofs.lemmas.Int.{ints}
use Rattle.std.proofs.lemmas.List.Elements.{Contains-push_cases}
use Rattle.std.specs.Prelude.{ℤ, pos, negsuc, ◌+ℤ◌, ◌-ℤ◌}
use Rattle.world_gen.proofs.Balls.{off_rim_within}
use Rattle.list_lemmas.proofs.Elements.{Contains-none}
use Rattle.world_gen.proofs.Worked.{black_hill, blob, place, red_hill}
use Rattle.world_gen.specs.Elements.{IsCell, point_after}
use Rattle.world_gen.specs.FreeSpots.{IsFreeSpot, IsOffRim, IsTouching}
use Rattle.world_gen.specs.Food.{food_on}
use Rattle.world_gen.specs.Placing.{HasNoRoom, IsPlacing, try_of}
use Rattle.world_gen.specs.PlacingLaws.{AreApart}
use Rattle.world_gen.specs.declared.shape.Shape.{Shape}
use Rattle.world_gen.specs.declared.spot.Figure.TheVariants.{Hill, Blob}
use Rattle.world_gen.specs.declared.spot.Spot.{Spot}
use lib.Signed.{◌≤ℤ◌}

-- 12 columns and rows are too few for a hill, wherever it is tried
abbrev pub twelve : Shape
twelve = record { width = 12; height = 12; rocks = 14; blobs = 11 }

no_hill : (p : Pos) → IsFreeSpot 12 12 [] (record { figure = Hill Red; place = p }) → ⊥
no_hill p fits = let within = off_rim_within 12 12 p 6 fits.off_rim in omega arith

pub no_room : HasNoRoom 1 twelve 0
no_room = record {
  placed = [];
  after = 0;
  follow = refl;
  before = refl;
  low = omega arith;
  none = record { no_try = λ k below fits. no_hill (try_of 1 12 12 (Hill Red) 0 k).place fits; no_place = λ p inside fits. no_hill p fits };
}

-- two hills and a blob in 64 columns and rows
abbrev pub shape : Shape
shape = record { width = 64; height = 64; rocks = 0; blobs = 1 }

abbrev pub first : Spot
first = record { figure = Hill Red; place = place 25 52 }

abbrev pub second : Spot
second = record { figure = Hill Black; place = place 18 7 }

abbrev pub third : Spot
third = record { figure = Blob SouthEast; place = place 36 40 }

-- a place between these numbers is off the rim
off_rim_at : (x y : ℤ) → pos 1 ≤ℤ x → x ≤ℤ pos 62 → pos 1 ≤ℤ y → y ≤ℤ pos 62 → IsOffRim 64 64 (record { x = x; y = y })
off_rim_at (pos x) (pos y) left right top bottom =
    (record { x = x; y = y }, refl, record { from_left = omega (arith, ints); to_right = omega (arith, ints); from_top = omega (arith, ints); to_bottom = omega (arith, ints) })
off_rim_at (pos x) (negsuc y) left right top bottom = absurd (omega (arith, ints))
off_rim_at it that left right top bottom = absurd (omega (arith, ints))

-- where the cells of the three are, by rows and slanting columns
first_within : (q : Point) → IsCell first q → Within 6 (record { x = pos 25; y = pos 52 }) q
first_within q cell = ball_within (point_of first.place) q 6 cell

second_within : (q : Point) → IsCell second q → Within 6 (record { x = pos 18; y = pos 7 }) q
second_within q cell = ball_within (point_of second.place) q 6 cell

record IsDown (p q : Point) (n : ℕ) (left : ℕ) : Type 0 where
  pub column : slant q ≡ slant p -ℤ pos left
  pub row : q.y ≡ p.y +ℤ pos n

south_east : (n : ℕ) (p : Point) → IsDown p (point_after n SouthEast p) n 0
unfolding point_after
south_east zero p = record { column = omega (arith, ints); row = omega (arith, ints) }
south_east (suc n) p =
    let before = south_east n p in
    let s = step_is (point_after n SouthEast p) SouthEast in
    record { column = omega (arith, ints); row = omega (arith, ints) }

south_west : (n : ℕ) (p : Point) → IsDown p (point_after n SouthWest p) n n
unfolding point_after
south_west zero p = record { column = omega (arith, ints); row = omega (arith, ints) }
south_west (suc n) p =
    let before = south_west n p in
    let s = step_is (point_after n SouthWest p) SouthWest in
    record { column = omega (arith, ints); row = omega (arith, ints) }

record IsThird (q : Point) : Type 0 where
  pub left : pos 12 ≤ℤ slant q
  pub right : slant q ≤ℤ pos 16
  pub top : pos 40 ≤ℤ q.y
  pub bottom : q.y ≤ℤ pos 48

third_within : (q : Point) → IsCell third q → IsThird q
unfolding half turned_by
third_within q cell =
    let corner : Point = record { x = pos 36; y = pos 40 } in
    let along = south_east cell.along corner in
    let beside = south_west cell.beside (point_after cell.along SouthEast corner) in
    let long = cell.is_long in
    let wide = cell.is_wide in
    let there : IsThird (point_after cell.beside SouthWest (point_after cell.along SouthEast corner)) =
    record { left = omega (arith, ints); right = omega (arith, ints); top = omega (arith, ints); bottom = omega (arith, ints) } in
    subst IsThird cell.is there

-- what touches is one step away at most
touching_within : (p q : Point) → IsTouching p q → Within 1 p q
touching_within p q touching =
    elim touching [
      | inl same ↦ subst (Within 1 p) same (record { below = omega (arith, ints); above = omega (arith, ints); right = omega (arith, ints); left = omega (arith, ints); under = omega (arith, ints); over = omega (arith, ints) })
      | inr way ↦ within_one p q way
    ]

first_fits : IsFreeSpot 64 64 [] first
unfolding half
first_fits = record {
  off_rim = λ q cell. let w = first_within q cell in let h = halved q.y in off_rim_at q.x q.y (omega (arith, ints)) (omega (arith, ints)) (omega (arith, ints)) (omega (arith, ints));
  apart = λ other q r among. absurd (Contains-none other among);
}

second_fits : IsFreeSpot 64 64 (first ∷ []) second
unfolding half
second_fits = record {
  off_rim = λ q cell. let w = second_within q cell in let h = halved q.y in off_rim_at q.x q.y (omega (arith, ints)) (omega (arith, ints)) (omega (arith, ints)) (omega (arith, ints));
  apart = λ other q r among cell of touching. elim (Contains-push_cases [] first other among) [
    | inl none ↦ Contains-none other none
    | inr same ↦
        let near = second_within q cell in
        let far = first_within r (subst (λ s. IsCell s r) (sym same) of) in
        let step = touching_within r q touching in
        omega (arith, ints)
  ];
}

third_fits : IsFreeSpot 64 64 (first ∷ second ∷ []) third
unfolding half
third_fits = record {
  off_rim = λ q cell. let w = third_within q cell in let h = halved q.y in off_rim_at q.x q.y (omega (arith, ints)) (omega (arith, ints)) (omega (arith, ints)) (omega (arith, ints));
  apart = λ other q r among cell of touching.
      let near = third_within q cell in
      let step = touching_within r q touching in
      elim (Contains-push_cases (first ∷ []) second other among) [
        | inl before ↦ elim (Contains-push_cases [] first other before) [
          | inl none ↦ Contains-none other none
          | inr same ↦ let far = first_within r (subst (λ s. IsCell s r) (sym same) of) in omega (arith, ints)
        ]
        | inr same ↦ let far = second_within r (subst (λ s. IsCell s r) (sym same) of) in omega (arith, ints)
      ];
}

pub three_placed : IsPlacing 12345 shape (first ∷ second ∷ third ∷ [])
three_placed = record {
  after = 7;
  follow = (
    2,
    inl (record { try = 0; below = omega arith; is = sym red_hill; fitting = first_fits; first = λ k early. absurd (omega arith); drew = refl }),
    (
      4,
      inl (record { try = 0; below = omega arith; is = sym black_hill; fitting = second_fits; first = λ k early. absurd (omega arith); drew = refl }),
      (7, inl (record { try = 0; below = omega arith; is = sym blob; fitting = third_fits; first = λ k early. absurd (omega arith); drew = refl }), refl),
    ),
  );
  all = refl;
}

-- the columns of the black hill in rows 1 and 7, and of the red one in row 46
pub black_in_row_1 : (x : ℕ) → IsCell second (point_of (place x 1)) → (15 ≤ x) × (x ≤ 21)
unfolding half
black_in_row_1 x cell = let w = second_within (point_of (place x 1)) cell in (omega (arith, ints), omega (arith, ints))

pub row_1_is_black : (x : ℕ) → 15 ≤ x → x ≤ 21 → IsCell second (point_of (place x 1))
unfolding half
row_1_is_black x left right =
    within_ball (point_of second.place) (point_of (place x 1)) 6 (record { below = omega (arith, ints); above = omega (arith, ints); right = omega (arith, ints); left = omega (arith, ints); under = omega (arith, ints); over = omega (arith, ints) })

pub black_in_row_7 : (x : ℕ) → IsCell second (point_of (place x 7)) → (12 ≤ x) × (x ≤ 24)
unfolding half
black_in_row_7 x cell = let w = second_within (point_of (place x 7)) cell in (omega (arith, ints), omega (arith, ints))

pub red_in_row_46 : (x : ℕ) → IsCell first (point_of (place x 46)) → (22 ≤ x) × (x ≤ 28)
unfolding half
red_in_row_46 x cell = let w = first_within (point_of (place x 46)) cell in (omega (arith, ints), omega (arith, ints))

pub row_46_is_red : (x : ℕ) → 22 ≤ x → x ≤ 28 → IsCell first (point_of (place x 46))
unfolding half
row_46_is_red x left right =
    within_ball (point_of first.place) (point_of (place x 46)) 6 (record { below = omega (arith, ints); above = omega (arith, ints); right = omega (arith, ints); left = omega (arith, ints); under = omega (arith, ints); over = omega (arith, ints) })

-- hills round (7, 7) and (20, 7) touch, and with one column more between them they are apart
abbrev hill : ℕ → Spot
hill x = record { figure = Hill Red; place = place x 7 }

hill_within : (x : ℕ) (q : Point) → IsCell (hill x) q → Within 6 (point_of (place x 7)) q
hill_within x q cell = ball_within (point_of (place x 7)) q 6 cell

hill_cell_at : (x y : ℕ) → Within 6 (point_of (place x 7)) (point_of (place y 7)) → IsCell (hill x) (point_of (place y 7))
hill_cell_at x y within = within_ball (point_of (place x 7)) (point_of (place y 7)) 6 within

pub touching : AreApart (hill 7) (hill 20) → ⊥
unfolding half adjacent_point
touching apart =
    apart (point_of (place 13 7)) (point_of (place 14 7))
    (hill_cell_at 7 13 (record { below = omega (arith, ints); above = omega (arith, ints); right = omega (arith, ints); left = omega (arith, ints); under = omega (arith, ints); over = omega (arith, ints) }))
    (hill_cell_at 20 14 (record { below = omega (arith, ints); above = omega (arith, ints); right = omega (arith, ints); left = omega (arith, ints); under = omega (arith, ints); over = omega (arith, ints) }))
    (inr (East, refl))

pub one_column_between : AreApart (hill 7) (hill 21)
unfolding half
one_column_between q r near far touching =
    let left = hill_within 7 q near in
    let right = hill_within 21 r far in
    let step = touching_within q r touching in
    omega (arith, ints)

-- food counts on a hill and off it, and what an ant carries doesn't
abbrev fed : World
fed = record {
  width = 2;
  height = 2;
  ids = 1;
  cells = put_cell (put_cell (λ _. floor) (place 1 0) (record (hill_cell Red 0) { food = 2; ant = Some (record (new_ant Red 0) { laden = true }) })) (place 0 1) (record floor { food = 3 });
}

pub food_there : food_on fed ≡ 5
unfolding food_on put_cell same_pos floor
food_there = refl
