-- A seed and a shape have one outcome.
use Rattle.cell_world.specs.Grid.{Grid}
use Rattle.cell_world.specs.Opening.{kind_at, opening}
use Rattle.hex_geometry.proofs.Rim.{inner-off_rim, off_rim-inner}
use Rattle.hex_geometry.proofs.RowLemmas.{index_of-pos_at, pos_at-inside}
use Rattle.cell_world.specs.declared.kind.Kind.{Kind}
use Rattle.cell_world.specs.declared.kind.Kind.TheVariants as kind
use Rattle.hex_geometry.proofs.Places.{pos_same}
use Rattle.hex_geometry.specs.RowOrder.{IsBefore, pos_at}
use Rattle.hex_geometry.specs.Position.{IsInner, IsInside, is_on_rim, point_of}
use Rattle.hex_geometry.specs.declared.position.Pos.{Pos}
use Rattle.std.proofs.Common.{◌≡◌, ◌≢◌, ℕ, ◌+◌, ◌*◌, ◌<◌, List, [], ◌∷◌, ◌++◌, length, get_or, refl, sym, ◌∙◌, ap, arith, subst, inl, inr, append_assoc}
use Rattle.std.proofs.lemmas.Bool.{cases_Bool, cases_lt, eqb-false, eqb-true, false≢true}
use Rattle.std.proofs.lemmas.List.{append-nil, get_or_default, same_lists}
use Rattle.std.specs.Prelude.{Contains, ◌⊎◌, ◌==◌}
use Rattle.world_gen.specs.Elements.{IsCell, element_of}
use Rattle.world_gen.specs.Generated.{IsGenerated, IsPainted}
use Rattle.world_gen.specs.FreeSpots.{IsFreeSpot}
use Rattle.world_gen.specs.Placing.{Follow, Goes, HasNone, HasNoRoom, IsBarred, IsFound, IsPlacing, IsChosenSpot, after_begun, figure_begun, draws_of, spot_at, try_of}
use Rattle.world_gen.specs.PlacingLaws.{PlacingIsOne}
use Rattle.world_gen.specs.declared.element.Element.{Element}
use Rattle.world_gen.specs.declared.shape.Shape.{Shape}
use Rattle.world_gen.specs.declared.spot.Figure.{Figure}
use Rattle.world_gen.specs.declared.spot.Spot.{Spot}

-- of two positions one is before the other, or they are one
order : (p q : Pos) → (p ≡ q) ⊎ (IsBefore p q ⊎ IsBefore q p)
order p q =
    elim (cases_lt p.y q.y) [
      | inl up ↦ inr (inl (record { row = omega arith; column = λ e. absurd (omega arith) }))
      | inr h ↦ elim (cases_lt q.y p.y) [
        | inl low ↦ inr (inr (record { row = omega arith; column = λ e. absurd (omega arith) }))
        | inr g ↦
            let rows : p.y ≡ q.y = omega arith in
            elim (cases_lt p.x q.x) [
              | inl left ↦ inr (inl (record { row = omega arith; column = λ e. left }))
              | inr a ↦ elim (cases_lt q.x p.x) [
                | inl right ↦ inr (inr (record { row = omega arith; column = λ e. right }))
                | inr b ↦ inl (pos_same (omega arith) rows)
              ]
            ]
      ]
    ]

module _ (fits : Spot → Type 0) (seed width height : ℕ) (figure : Figure) (g : ℕ) where
  -- the first try that fits is one
  one_try : (s t : Spot) (a b : ℕ) (x : IsChosenSpot fits seed width height figure g s a) (y : IsChosenSpot fits seed width height figure g t b) → x.try ≡ y.try
  one_try s t a b x y =
      elim (cases_lt x.try y.try) [
        | inl h ↦ absurd (y.first x.try h (subst fits x.is x.fitting))
        | inr h ↦ elim (cases_lt y.try x.try) [
          | inl k ↦ absurd (x.first y.try k (subst fits y.is y.fitting))
          | inr k ↦ omega arith
        ]
      ]

  taken_one : (s t : Spot) (a b : ℕ) → IsChosenSpot fits seed width height figure g s a → IsChosenSpot fits seed width height figure g t b → (s ≡ t) × (a ≡ b)
  taken_one s t a b x y =
      let same = one_try s t a b x y in
      (x.is ∙ ap (try_of seed width height figure g) same ∙ sym y.is, x.drew ∙ ap (λ k. g + (k + 1) * draws_of figure) same ∙ sym y.drew)

  taken_found : (s t : Spot) (a b : ℕ) → IsChosenSpot fits seed width height figure g s a → IsFound fits seed width height figure g t b → ⊥
  taken_found s t a b x y = y.no_try x.try x.below (subst fits x.is x.fitting)

  found_one : (s t : Spot) (a b : ℕ) → IsFound fits seed width height figure g s a → IsFound fits seed width height figure g t b → (s ≡ t) × (a ≡ b)
  found_one s t a b x y =
      let same : x.place ≡ y.place =
      elim (order x.place y.place) [
        | inl e ↦ e
        | inr other ↦ elim other [
          | inl h ↦ absurd (y.first x.place x.inside h (subst fits x.is x.fitting))
          | inr h ↦ absurd (x.first y.place y.inside h (subst fits y.is y.fitting))
        ]
      ] in
      (x.is ∙ ap (spot_at figure) same ∙ sym y.is, x.drew ∙ sym y.drew)

  taken_barred : (s : Spot) (a : ℕ) → IsChosenSpot fits seed width height figure g s a → IsBarred fits seed width height figure g → ⊥
  taken_barred s a x none = none.no_try x.try x.below (subst fits x.is x.fitting)

  found_barred : (s : Spot) (a : ℕ) → IsFound fits seed width height figure g s a → IsBarred fits seed width height figure g → ⊥
  found_barred s a x none = none.no_place x.place x.inside (subst fits x.is x.fitting)

goes_one : (fits : Spot → Type 0) (seed width height : ℕ) (e : Element) (g : ℕ) (s t : Spot) (a b : ℕ) → Goes fits seed width height e g s a → Goes fits seed width height e g t b → (s ≡ t) × (a ≡ b)
goes_one fits seed width height e g s t a b x y =
    let figure = figure_begun seed g e in
    let start = after_begun g e in
    elim x [
      | inl u ↦ elim y [ inl v ↦ taken_one fits seed width height figure start s t a b u v | inr v ↦ absurd (taken_found fits seed width height figure start s t a b u v) ]
      | inr u ↦ elim y [ inl v ↦ absurd (taken_found fits seed width height figure start t s b a v u) | inr v ↦ found_one fits seed width height figure start s t a b u v ]
    ]

goes_none : (fits : Spot → Type 0) (seed width height : ℕ) (e : Element) (g : ℕ) (s : Spot) (a : ℕ) → Goes fits seed width height e g s a → HasNone fits seed width height e g → ⊥
goes_none fits seed width height e g s a x none =
    elim x [ inl u ↦ taken_barred fits seed width height (figure_begun seed g e) (after_begun g e) s a u none | inr u ↦ found_barred fits seed width height (figure_begun seed g e) (after_begun g e) s a u none ]

-- two ways on from one state, as far as the shorter goes, are one
follow_same : (seed : ℕ) (shape : Shape) (placed : List Spot) (g : ℕ) (xs ys : List Spot) (a b : ℕ) → Follow seed shape placed g xs a → Follow seed shape placed g ys b → length xs ≡ length ys → (xs ≡ ys) × (a ≡ b)
follow_same seed shape placed g [] [] a b x y same = (refl, sym x ∙ y)
follow_same seed shape placed g (s ∷ xs) (t ∷ ys) a b x y same =
    let one = goes_one (IsFreeSpot shape.width shape.height placed) seed shape.width shape.height (element_of shape (length placed)) g s t x.0 y.0 x.1 y.1 in
    let moved : Follow seed shape (placed ++ s ∷ []) y.0 ys b = subst (λ (u : Spot). Follow seed shape (placed ++ u ∷ []) y.0 ys b) (sym one.0) y.2 in
    let moved_too : Follow seed shape (placed ++ s ∷ []) x.0 ys b = subst (λ n. Follow seed shape (placed ++ s ∷ []) n ys b) (sym one.1) moved in
    let rest = follow_same seed shape (placed ++ s ∷ []) x.0 xs ys a b x.2 moved_too (omega arith) in
    (ap (λ (u : Spot). u ∷ xs) one.0 ∙ ap (λ (l : List Spot). t ∷ l) rest.0, rest.1)
follow_same seed shape placed g it that a b x y same = absurd (omega arith)

-- a way on that is longer than one which ends where an element has no room is none
follow_barred : (seed : ℕ) (shape : Shape) (placed : List Spot) (g : ℕ) (xs ys : List Spot) (a b : ℕ) → Follow seed shape placed g xs a → Follow seed shape placed g ys b → length ys < length xs
    → HasNone (IsFreeSpot shape.width shape.height (placed ++ ys)) seed shape.width shape.height (element_of shape (length (placed ++ ys))) b → ⊥
follow_barred seed shape placed g [] ys a b x y longer none = omega arith
follow_barred seed shape placed g (s ∷ xs) [] a b x y longer none =
    let here : HasNone (IsFreeSpot shape.width shape.height placed) seed shape.width shape.height (element_of shape (length placed)) b =
    subst (λ l. HasNone (IsFreeSpot shape.width shape.height l) seed shape.width shape.height (element_of shape (length l)) b) (append-nil placed) none in
    goes_none (IsFreeSpot shape.width shape.height placed) seed shape.width shape.height (element_of shape (length placed)) g s x.0 x.1
    (subst (λ n. HasNone (IsFreeSpot shape.width shape.height placed) seed shape.width shape.height (element_of shape (length placed)) n) (sym y) here)
follow_barred seed shape placed g (s ∷ xs) (t ∷ ys) a b x y longer none =
    let one = goes_one (IsFreeSpot shape.width shape.height placed) seed shape.width shape.height (element_of shape (length placed)) g s t x.0 y.0 x.1 y.1 in
    let moved : Follow seed shape (placed ++ t ∷ []) x.0 xs a = subst (λ (u : Spot). Follow seed shape (placed ++ u ∷ []) x.0 xs a) one.0 x.2 in
    let moved_too : Follow seed shape (placed ++ t ∷ []) y.0 xs a = subst (λ n. Follow seed shape (placed ++ t ∷ []) n xs a) one.1 moved in
    let none_on : HasNone (IsFreeSpot shape.width shape.height ((placed ++ t ∷ []) ++ ys)) seed shape.width shape.height (element_of shape (length ((placed ++ t ∷ []) ++ ys))) b =
    subst (λ l. HasNone (IsFreeSpot shape.width shape.height l) seed shape.width shape.height (element_of shape (length l)) b) (sym (append_assoc placed (t ∷ []) ys)) none in
    follow_barred seed shape (placed ++ t ∷ []) y.0 xs ys a b moved_too y.2 (omega arith) none_on

barred_here : (seed : ℕ) (shape : Shape) (number : ℕ) (none : HasNoRoom seed shape number)
    → HasNone (IsFreeSpot shape.width shape.height none.placed) seed shape.width shape.height (element_of shape (length none.placed)) none.after
barred_here seed shape number none =
    subst (λ n. HasNone (IsFreeSpot shape.width shape.height none.placed) seed shape.width shape.height (element_of shape n) none.after) (sym none.before) none.none

placing_barred : (seed : ℕ) (shape : Shape) (placed : List Spot) (number : ℕ) → IsPlacing seed shape placed → HasNoRoom seed shape number → ⊥
placing_barred seed shape placed number placing none =
    let low = none.low in
    let all = placing.all in
    let before = none.before in
    follow_barred seed shape [] 0 placed none.placed placing.after none.after placing.follow none.follow (omega arith) (barred_here seed shape number none)

barred_later : (seed : ℕ) (shape : Shape) (first second : ℕ) → HasNoRoom seed shape first → HasNoRoom seed shape second → first < second → ⊥
barred_later seed shape first second x y later =
    let a = x.before in
    let b = y.before in
    follow_barred seed shape [] 0 y.placed x.placed y.after x.after y.follow x.follow (omega arith) (barred_here seed shape first x)

-- kinds are one or two
kinds_apart : (a b : Kind) → (a ≡ b) ⊎ (a ≢ b)
kinds_apart kind.Rock kind.Rock = inl refl
kinds_apart kind.Clear kind.Clear = inl refl
kinds_apart kind.RedHill kind.RedHill = inl refl
kinds_apart kind.BlackHill kind.BlackHill = inl refl
kinds_apart (kind.Food m) (kind.Food n) =
    elim (cases_Bool (m == n)) [
      | inl same ↦ inl (ap kind.Food (eqb-true m n same))
      | inr other ↦ let two : m ≢ n = eqb-false m n other in inr (λ e. two (cc))
    ]
kinds_apart a b = inr (λ e. absurd (cc))

-- a placing is painted in one way
painted_at : (width height : ℕ) (placed : List Spot) (xs ys : List Kind) → IsPainted width height placed xs → IsPainted width height placed ys → (p : Pos) → IsInside width height p → kind_at width xs p ≡ kind_at width ys p
painted_at width height placed xs ys x y p inside =
    elim (cases_Bool (is_on_rim width height p)) [
      | inl on ↦
          let outer : IsInner width height p → ⊥ = λ inner. false≢true (sym (inner-off_rim width height p inner) ∙ on) in
          x.rim p inside outer ∙ sym (y.rim p inside outer)
      | inr off ↦ elim (kinds_apart (kind_at width xs p) (kind_at width ys p)) [
        | inl same ↦ same
        | inr other ↦
            let none : (spot : Spot) → Contains placed spot → IsCell spot (point_of p) → ⊥ = λ spot among cell. other (x.cell p spot among cell ∙ sym (y.cell p spot among cell)) in
            let inner : IsInner width height p = off_rim-inner width height p inside off in
            x.floor p inner none ∙ sym (y.floor p inner none)
      ]
    ]

painted_each : (width height : ℕ) (placed : List Spot) (xs ys : List Kind) → IsPainted width height placed xs → IsPainted width height placed ys → (k : ℕ) (d : Kind) → k < length xs → get_or xs k d ≡ get_or ys k d
painted_each width height placed xs ys x y k d below =
    let low : k < width * height = let h = x.full in omega arith in
    let low_too : k < length ys = let h = y.full in omega arith in
    let same = painted_at width height placed xs ys x y (pos_at width k) (pos_at-inside width height k low) in
    let here : get_or xs k kind.Rock ≡ get_or ys k kind.Rock = subst (λ i. get_or xs i kind.Rock ≡ get_or ys i kind.Rock) (index_of-pos_at width k) same in
    get_or_default xs k d kind.Rock below ∙ here ∙ get_or_default ys k kind.Rock d low_too

painted_one : (width height : ℕ) (placed : List Spot) (xs ys : List Kind) → IsPainted width height placed xs → IsPainted width height placed ys → xs ≡ ys
painted_one width height placed xs ys x y = same_lists xs ys (x.full ∙ sym y.full) (painted_each width height placed xs ys x y)

generated_one : (seed : ℕ) (shape : Shape) (first second : Grid) → IsGenerated seed shape first → IsGenerated seed shape second → first ≡ second
generated_one seed shape first second x y =
    let same : x.placed ≡ y.placed = (follow_same seed shape [] 0 x.placed y.placed x.placing.after y.placing.after x.placing.follow y.placing.follow (x.placing.all ∙ sym y.placing.all)).0 in
    let painted : IsPainted shape.width shape.height y.placed x.kinds = subst (λ l. IsPainted shape.width shape.height l x.kinds) same x.painted in
    x.is ∙ ap (opening shape.width shape.height) (painted_one shape.width shape.height y.placed x.kinds y.kinds painted y.painted) ∙ sym y.is

pub one_outcome : PlacingIsOne
one_outcome = record {
  one = λ seed shape first second x y. (follow_same seed shape [] 0 first second x.after y.after x.follow y.follow (x.all ∙ sym y.all)).0;
  none = placing_barred;
  number = λ seed shape first second x y.
      elim (cases_lt first second) [
        | inl h ↦ absurd (barred_later seed shape first second x y h)
        | inr h ↦ elim (cases_lt second first) [ inl k ↦ absurd (barred_later seed shape second first y x k) | inr k ↦ omega arith ]
      ];
  world = generated_one;
}
