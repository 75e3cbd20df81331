-- A test of the plan of a world, which computes where the plan is written out.
use Rattle.std.proofs.Common.{◌≡◌, ℕ, suc, zero, ◌+◌, ◌*◌, ◌<◌, ◌≤◌, Bool, true, false, ◌&&◌, ◌||◌, nat_eq, nat_le, List, [], ◌∷◌, length, get_or, sym, ◌∙◌, ap, subst, arith, inl, inr}
use Rattle.std.proofs.lemmas.Bool.{and_parts, both_ways, cases_eq, eqb-true, leb-true, or_cases}
use Rattle.std.proofs.lemmas.List.Elements.{All-cons, All-nil}
use Rattle.std.specs.List.{All}
use Rattle.hex_geometry.specs.declared.position.Pos.{Pos}
use Rattle.hex_geometry.specs.Position.{IsInner}
use Rattle.cell_world.specs.declared.kind.Kind.{Kind}
use Rattle.cell_world.specs.declared.kind.Kind.TheVariants.{Rock, Clear, RedHill, BlackHill, Food}
use Rattle.hex_geometry.proofs.RowLemmas.{index_of-inside, pos_at-index_of}
use Rattle.hex_geometry.specs.RowOrder.{index_of, pos_at}
use Rattle.cell_world.specs.Limits.{least_size, most_ants, most_size}
use Rattle.cell_world.specs.Opening.{IsFed, IsPlan, hill_count, is_rock}
use Rattle.cell_world.proofs.Rims.{rim_rock}

-- whether food is in range
abbrev pub is_fed : Kind → Bool
is_fed (Food n) = nat_le 1 n && nat_le n 9
is_fed it = true

-- whether all food is in range
abbrev pub are_fed : List Kind → Bool
are_fed [] = true
are_fed (kind ∷ kinds) = is_fed kind && are_fed kinds

-- whether a position isn't on the rim
abbrev pub is_inner : ℕ → ℕ → Pos → Bool
is_inner width height p = (nat_le 1 p.x && nat_le (p.x + 2) width) && (nat_le 1 p.y && nat_le (p.y + 2) height)

-- whether, of the first n positions, those on the rim are rock
abbrev pub has_rim : ℕ → ℕ → List Kind → ℕ → Bool
has_rim width height kinds zero = true
has_rim width height kinds (suc n) = (is_rock (get_or kinds n Rock) || is_inner width height (pos_at width n)) && has_rim width height kinds n

-- whether it is the plan of a world
abbrev pub is_plan : ℕ → ℕ → List Kind → Bool
is_plan width height kinds =
    ((nat_le least_size width && nat_le width most_size) && (nat_le least_size height && nat_le height most_size))
    && ((nat_eq (length kinds) (width * height) && has_rim width height kinds (width * height)) && (are_fed kinds && nat_le (hill_count kinds) most_ants))

-- food that passes is in range
IsFed-test : (kind : Kind) → is_fed kind ≡ true → IsFed kind
IsFed-test Rock fed = tt
IsFed-test Clear fed = tt
IsFed-test RedHill fed = tt
IsFed-test BlackHill fed = tt
IsFed-test (Food n) fed =
    let both = and_parts (nat_le 1 n) (nat_le n 9) fed in
    (leb-true 1 n both.0, leb-true n 9 both.1)

-- likewise all food
All-fed : (kinds : List Kind) → are_fed kinds ≡ true → All IsFed kinds
All-fed [] fed = All-nil IsFed
All-fed (kind ∷ kinds) fed =
    let both = and_parts (is_fed kind) (are_fed kinds) fed in
    All-cons IsFed kind kinds (IsFed-test kind both.0) (All-fed kinds both.1)

-- a position that passes isn't on the rim
IsInner-test : (width height : ℕ) (p : Pos) → is_inner width height p ≡ true → IsInner width height p
IsInner-test width height p inner =
    let both = and_parts (nat_le 1 p.x && nat_le (p.x + 2) width) (nat_le 1 p.y && nat_le (p.y + 2) height) inner in
    let column = and_parts (nat_le 1 p.x) (nat_le (p.x + 2) width) both.0 in
    let row = and_parts (nat_le 1 p.y) (nat_le (p.y + 2) height) both.1 in
    let right : p.x + 2 ≤ width = leb-true (p.x + 2) width column.1 in
    let bottom : p.y + 2 ≤ height = leb-true (p.y + 2) height row.1 in
    record { from_left = leb-true 1 p.x column.0; to_right = omega arith; from_top = leb-true 1 p.y row.0; to_bottom = omega arith }

-- what isn't rock among the first n positions isn't on the rim
rim-test : (width height : ℕ) (kinds : List Kind) (n i : ℕ) → has_rim width height kinds n ≡ true → i < n → is_rock (get_or kinds i Rock) ≡ false → IsInner width height (pos_at width i)
rim-test width height kinds zero i rim early clear = absurd (omega arith)
rim-test width height kinds (suc n) i rim early clear =
    let both = and_parts (is_rock (get_or kinds n Rock) || is_inner width height (pos_at width n)) (has_rim width height kinds n) rim in
    elim (cases_eq i n) [
      | inl last ↦ elim (or_cases (is_rock (get_or kinds n Rock)) (is_inner width height (pos_at width n)) both.0) [
        | inl rock ↦ absurd (both_ways (is_rock (get_or kinds i Rock)) clear (ap (λ k. is_rock (get_or kinds k Rock)) last ∙ rock))
        | inr inner ↦ subst (λ k. IsInner width height (pos_at width k)) (sym last) (IsInner-test width height (pos_at width n) inner)
      ]
      | inr earlier ↦ rim-test width height kinds n i both.1 (omega arith) clear
    ]

-- what passes the test is a plan
pub IsPlan-test : (width height : ℕ) (kinds : List Kind) → is_plan width height kinds ≡ true → IsPlan width height kinds
IsPlan-test width height kinds passes =
    let all = and_parts _ _ passes in
    let sizes = and_parts _ _ all.0 in
    let columns = and_parts (nat_le least_size width) (nat_le width most_size) sizes.0 in
    let rows = and_parts (nat_le least_size height) (nat_le height most_size) sizes.1 in
    let content = and_parts _ _ all.1 in
    let cells = and_parts (nat_eq (length kinds) (width * height)) (has_rim width height kinds (width * height)) content.0 in
    let stock = and_parts (are_fed kinds) (nat_le (hill_count kinds) most_ants) content.1 in
    record {
      wide = leb-true least_size width columns.0;
      narrow = leb-true width most_size columns.1;
      tall = leb-true least_size height rows.0;
      low = leb-true height most_size rows.1;
      full = eqb-true (length kinds) (width * height) cells.0;
      rim = rim_rock width height kinds λ p inside clear. subst (IsInner width height) (pos_at-index_of width p inside.column)
          (rim-test width height kinds (width * height) (index_of width p) cells.1 (index_of-inside width height p inside) clear);
      fed = All-fed kinds stock.0;
      few = leb-true (hill_count kinds) most_ants stock.1;
    }
