-- Each seed and shape has a world, or an element without room: the elements are placed one after another, and their
-- cells painted.
use Rattle.std.proofs.Common.{◌≡◌, ◌⊎◌, inl, inr, ℕ, zero, suc, ◌+◌, ◌*◌, ◌<◌, ◌≤◌, Bool, true, List, [], ◌∷◌, ◌++◌, length, set, refl, sym, ◌∙◌, ap, subst, append_assoc, append-nil, arith}
use Rattle.std.proofs.lemmas.Bool.{false≢true}
use Rattle.std.proofs.lemmas.List.Elements.{All-contains_itself, All-head, All-tail, All-weaker}
use Rattle.std.specs.Prelude.{All, Contains}
use Rattle.hex_geometry.specs.Direction.{dir_of}
use Rattle.hex_geometry.specs.Inner.BallRows.{rows}
use Rattle.hex_geometry.specs.Neighbourhood.{adjacent_pos}
use Rattle.hex_geometry.specs.Position.{IsInner, point_of}
use Rattle.hex_geometry.specs.RowOrder.{index_of}
use Rattle.hex_geometry.specs.declared.position.Pos.{Pos}
use Rattle.hex_geometry.proofs.BallRows.{rows_list}
use Rattle.hex_geometry.proofs.BallSizes.{rows_size}
use Rattle.hex_geometry.proofs.Beside.{adjacent_pos_inside}
use Rattle.hex_geometry.proofs.Places.{inner_inside}
use Rattle.cell_world.specs.Cell.{one_if}
use Rattle.cell_world.specs.Grid.{Grid}
use Rattle.cell_world.specs.Opening.{is_hill, is_rock, opening}
use Rattle.cell_world.specs.declared.ant.Colour.{Colour}
use Rattle.cell_world.specs.declared.ant.Colour.TheVariants.{Red, Black}
use Rattle.cell_world.specs.declared.kind.Kind.{Kind}
use Rattle.world_gen.specs.Elements.{count_of, element_of}
use Rattle.world_gen.specs.Existence.{HasOutcome}
use Rattle.world_gen.specs.FreeSpots.{IsFreeSpot}
use Rattle.world_gen.specs.Inner.Answers.{IsElementPut, IsGeneratedGrid}
use Rattle.world_gen.specs.Inner.Open.{AllOpen, ListsCells, lines_from}
use Rattle.world_gen.specs.Inner.Sets.{IsRoundBelow, SetsWhere}
use Rattle.world_gen.specs.Inner.Drafts.{IsBegun, IsStamped, bare_blocked, bare_kinds}
use Rattle.world_gen.specs.Generated.{IsGenerated, IsShape, hill_kind, paint_of}
use Rattle.world_gen.specs.Placing.{Goes, HasNoRoom, after_begun, figure_begun}
use Rattle.world_gen.specs.declared.shape.Shape.{Shape}
use Rattle.world_gen.specs.declared.spot.Figure.{Figure}
use Rattle.world_gen.specs.declared.spot.Figure.TheVariants.{Hill, Rock, Blob}
use Rattle.world_gen.specs.declared.spot.Spot.{Spot}
use Rattle.cell_world.proofs.Rims.{rim_rock}
use Rattle.world_gen.proofs.Balls.{ball_has}
use Rattle.world_gen.proofs.Bares.{bare_blocked_length}
use Rattle.world_gen.proofs.Follows.{goes_as, goes_fits}
use Rattle.world_gen.proofs.HasPlacings.{AllPlaced, IsListed, goes_or_barred, inner_placed, listed_by, dec_ball, dec_fits, dec_inner}
use Rattle.world_gen.proofs.Lines.{lines_each, lines_every}
use Rattle.world_gen.proofs.Makings.{begun_more, begun_none, begun_whole}
use Rattle.world_gen.proofs.Stamps.{round_all, round_first, round_more, stamped_more, stamped_none}
use Rattle.world_gen.proofs.Steps.{fits_open, open_fits, point_one}

-- a list with the entries of a position and its neighbours set
record RoundSet (width height : ℕ) (p : Pos) (n : ℕ) (xs : List Bool) : Type 0 where
  ys : List Bool
  sets : SetsWhere width height true (IsRoundBelow p n) xs ys

round_below : (width height : ℕ) (p : Pos) (xs : List Bool) → IsInner width height p → length xs ≡ width * height → (n : ℕ) → RoundSet width height p n xs
round_below width height p xs inner full zero = record { ys = set xs (index_of width p) true; sets = round_first width height p xs full (inner_inside inner) }
round_below width height p xs inner full (suc n) =
    let before = round_below width height p xs inner full n in
    let next : n + 1 ≡ suc n = omega arith in
    subst (λ (m : ℕ). RoundSet width height p m xs) next
    (record { ys = set before.ys (index_of width (adjacent_pos p (dir_of n))) true; sets = round_more width height p (adjacent_pos p (dir_of n)) n xs before.ys before.sets full refl (adjacent_pos_inside (dir_of n) inner) })

-- the cells of an element painted, and what is round them blocked
record StampedBy (width height : ℕ) (cells : List Pos) (painted : Kind) (blocked : List Bool) (kinds : List Kind) : Type 0 where
  now : List Bool
  paint : List Kind
  stamped : IsStamped width height cells painted blocked now kinds paint

stamped_then : (width height : ℕ) (painted : Kind) (blocked : List Bool) (kinds : List Kind) → length blocked ≡ width * height → length kinds ≡ width * height → (done rest : List Pos) → StampedBy width height done painted blocked kinds
    → All (IsInner width height) rest → StampedBy width height (done ++ rest) painted blocked kinds
stamped_then width height painted blocked kinds long full done [] before inner = subst (λ (cells : List Pos). StampedBy width height cells painted blocked kinds) (sym (append-nil done)) before
stamped_then width height painted blocked kinds long full done (cell ∷ rest) before inner =
    let here : IsInner width height cell = All-head (IsInner width height) cell rest inner in
    let round = round_below width height cell before.now here (before.stamped.blocks.same_length ∙ long) 6 in
    let one : StampedBy width height (done ++ cell ∷ []) painted blocked kinds =
    record {
      now = round.ys;
      paint = set before.paint (index_of width cell) painted;
      stamped = stamped_more width height done cell painted blocked before.now round.ys kinds before.paint before.stamped (round_all width height cell 6 before.now round.ys refl round.sets) full (inner_inside here);
    } in
    subst (λ (cells : List Pos). StampedBy width height cells painted blocked kinds) (append_assoc done (cell ∷ []) rest)
    (stamped_then width height painted blocked kinds long full (done ++ cell ∷ []) rest one (All-tail (IsInner width height) cell rest inner))

stamped_by : (width height : ℕ) (painted : Kind) (blocked : List Bool) (kinds : List Kind) → length blocked ≡ width * height → length kinds ≡ width * height → (cells : List Pos) → All (IsInner width height) cells
    → StampedBy width height cells painted blocked kinds
stamped_by width height painted blocked kinds long full cells inner =
    stamped_then width height painted blocked kinds long full [] cells (record { now = blocked; paint = kinds; stamped = stamped_none width height painted blocked kinds }) inner

-- the cells of an element, listed; those of a hill are at most 127
record FewCells (spot : Spot) : Type 0 where
  cells : List Pos
  lists : ListsCells spot cells
  few : one_if (is_hill (paint_of spot.figure)) * length cells ≤ 127

hill_few : (colour : Colour) (count : ℕ) → count ≤ 127 → one_if (is_hill (hill_kind colour)) * count ≤ 127
hill_few Red count le = omega arith
hill_few Black count le = omega arith

few_at : (figure : Figure) (place : Pos) → AllPlaced (record { figure = figure; place = place }) → FewCells (record { figure = figure; place = place })
few_at (Hill colour) place all =
    elim (dec_ball place 6) [
      | yes has ↦
          let list = rows_list place 6 has in
          let size = rows_size place 6 has.from_top in
          record { cells = rows place 6 (2 * 6 + 1); lists = record { each = list.within; every = list.every }; few = hill_few colour (length (rows place 6 (2 * 6 + 1))) (omega (arith, size)) }
      | no never ↦ absurd (never (ball_has place 6 all))
    ]
few_at (Rock radius) place all =
    elim (dec_ball place radius) [
      | yes has ↦ (let list = rows_list place radius has in record { cells = rows place radius (2 * radius + 1); lists = record { each = list.within; every = list.every }; few = omega arith })
      | no never ↦ absurd (never (ball_has place radius all))
    ]
few_at (Blob first) place all = record { cells = lines_from 5 first place; lists = record { each = lines_each place first all; every = lines_every place first all }; few = omega arith }

-- the first elements are placed and painted
record Making (seed : ℕ) (shape : Shape) (n : ℕ) : Type 0 where
  blocked : List Bool
  kinds : List Kind
  g : ℕ
  long : length blocked ≡ shape.width * shape.height
  begun : IsBegun seed shape n blocked kinds g

module _ (seed : ℕ) (shape : Shape) (narrow : shape.width ≤ 512) (low : shape.height ≤ 512) where
  made_more : (n : ℕ) (it : Making seed shape n) (spot : Spot) (after : ℕ) → Goes (IsFreeSpot shape.width shape.height it.begun.placed) seed shape.width shape.height (element_of shape n) it.g spot after → Making seed shape (n + 1)
  made_more n it spot after goes =
      let fits = goes_fits (IsFreeSpot shape.width shape.height it.begun.placed) seed shape.width shape.height (element_of shape n) it.g spot after goes in
      let few = few_at spot.figure spot.place (inner_placed shape.width shape.height narrow low spot fits.off_rim) in
      let inner : All (IsInner shape.width shape.height) few.cells =
      All-weaker (Contains few.cells) (IsInner shape.width shape.height)
      (λ p among. (let at = fits.off_rim (point_of p) (few.lists.each p among) in subst (IsInner shape.width shape.height) (point_one at.0 p at.1) at.2)) few.cells (All-contains_itself few.cells) in
      let stamp = stamped_by shape.width shape.height (paint_of spot.figure) it.blocked it.kinds it.long it.begun.draft.painted.full few.cells inner in
      let put : IsElementPut spot shape.width shape.height it.blocked stamp.now it.kinds stamp.paint = record { cells = few.cells; lists = few.lists; stamped = stamp.stamped; few = few.few } in
      let opens : Goes (AllOpen shape.width shape.height it.blocked) seed shape.width shape.height (element_of shape n) it.g spot after =
      goes_as (IsFreeSpot shape.width shape.height it.begun.placed) (AllOpen shape.width shape.height it.blocked)
      (λ s fit. fits_open shape.width shape.height it.begun.placed it.blocked it.kinds s it.begun.draft fit)
      (λ s open_all. open_fits shape.width shape.height it.begun.placed it.blocked it.kinds s it.begun.draft open_all)
      seed shape.width shape.height (element_of shape n) it.g spot after goes in
      record {
        blocked = stamp.now;
        kinds = stamp.paint;
        g = after;
        long = stamp.stamped.blocks.same_length ∙ it.long;
        begun = begun_more seed shape n shape.width shape.height seed it.g after (element_of shape n) it.blocked stamp.now it.kinds stamp.paint refl refl refl refl it.begun (spot, opens, put);
      }

  made_next : (n : ℕ) → n < count_of shape → Making seed shape n → Making seed shape (n + 1) ⊎ HasNoRoom seed shape n
  made_next n below it =
      let placed = it.begun.placed in
      let listed : All (IsListed shape.width shape.height) placed =
      All-weaker (Contains placed) (IsListed shape.width shape.height) (λ other among. listed_by shape.width shape.height narrow low other (λ q cell. it.begun.draft.off_rim other q among cell)) placed (All-contains_itself placed) in
      elim (goes_or_barred (IsFreeSpot shape.width shape.height placed) (dec_fits shape.width shape.height narrow low placed listed) seed shape.width shape.height (figure_begun seed it.g (element_of shape n)) (after_begun it.g (element_of shape n))) [
        | inl goes ↦ inl (made_more n it goes.spot goes.after goes.goes)
        | inr none ↦ inr (record { placed = placed; after = it.g; follow = it.begun.follow; before = it.begun.count; low = below; none = none })
      ]

  made : (n : ℕ) → n ≤ count_of shape → Making seed shape n ⊎ ((number : ℕ) × HasNoRoom seed shape number)
  made zero le =
      let area = shape.width * shape.height in
      inl (record {
        blocked = bare_blocked shape.width shape.height area;
        kinds = bare_kinds shape.width shape.height area;
        g = 0;
        long = bare_blocked_length shape.width shape.height area;
        begun = begun_none seed shape (bare_blocked shape.width shape.height area) (bare_kinds shape.width shape.height area) 0 narrow low refl refl refl;
      })
  made (suc n) le =
      elim (made n (omega arith)) [
        | inl it ↦ elim (made_next n (omega arith) it) [
          | inl more ↦ (let next : n + 1 ≡ suc n = omega arith in inl (subst (Making seed shape) next more))
          | inr none ↦ inr (n, none)
        ]
        | inr none ↦ inr none
      ]

-- what was placed and painted is a world at the start of a game
generated : (seed : ℕ) (shape : Shape) (kinds : List Kind) → IsShape shape → IsGeneratedGrid seed shape shape.width shape.height kinds → (world : Grid) × IsGenerated seed shape world
generated seed shape kinds is made =
    let few = made.few in (
      opening shape.width shape.height kinds,
      record {
        placed = made.placed;
        placing = made.placing;
        kinds = kinds;
        painted = made.painted;
        plan = record {
          wide = is.wide;
          narrow = is.narrow;
          tall = is.tall;
          low = is.low;
          full = made.painted.full;
          rim = rim_rock shape.width shape.height kinds λ p inside clear. elim (dec_inner shape.width shape.height p) [
            | yes inner ↦ inner
            | no never ↦ absurd (false≢true (sym clear ∙ ap is_rock (made.painted.rim p inside never)))
          ];
          fed = made.fed;
          few = omega arith;
        };
        is = refl;
      },
    )

pub has_outcome : HasOutcome
has_outcome seed shape is =
    elim (made seed shape is.narrow is.low (count_of shape) (omega arith)) [
      | inl it ↦ inl (generated seed shape it.kinds is (begun_whole seed shape (count_of shape) shape.width shape.height it.blocked it.kinds it.g refl refl it.begun refl))
      | inr none ↦ inr none
    ]
