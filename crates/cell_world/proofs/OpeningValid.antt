-- An opening world keeps what every world keeps.
use Rattle.std.proofs.Common.{◌≡◌, inl, inr, ℕ, ◌+◌, ◌*◌, ◌<◌, ◌≤◌, true, false, List, length, Some, refl, sym, ◌∙◌, ap, subst, arith}
use Rattle.std.proofs.lemmas.Bool.{both_ways, cases_lt, cases_order, true≢false}
use Rattle.std.proofs.lemmas.List.{get_or_past}
use Rattle.std.proofs.lemmas.List.Elements.{All-get_or}
use Rattle.std.proofs.lemmas.Nat.{mul-le}
use Rattle.hex_geometry.specs.declared.position.Pos.{Pos}
use Rattle.hex_geometry.specs.Position.{IsInner}
use Rattle.cell_world.specs.declared.ant.Ant.{Ant}
use Rattle.cell_world.specs.declared.cell.Cell.{Cell}
use Rattle.cell_world.specs.declared.kind.Kind.{Kind}
use Rattle.cell_world.specs.declared.kind.Kind.TheVariants.{Rock}
use Rattle.cell_world.specs.Cell.{HasMarksOfSix, cell_weight, holds_id, rock}
use Rattle.cell_world.specs.Grid.{IsWorld, cell_in, world_of}
use Rattle.hex_geometry.proofs.RowLemmas.{pos_at-index_of}
use Rattle.hex_geometry.specs.RowOrder.{index_of, pos_at}
use Rattle.cell_world.specs.Opening.{IsFed, IsPlan, hill_count, is_hill, is_rock, hills_before, kind_at, opening, opening_cell}
use Rattle.cell_world.proofs.GridLemmas.{cell_in-beyond, cell_in-column}
use Rattle.cell_world.proofs.OpeningWeight.{weight-light}
use Rattle.cell_world.proofs.Openings.{HasMarksOfSix-opening_cell, HasMarksOfSix-rock, ant-opening_cell, cell_weight-opening_cell, get_or-opening_cells, hill_count-later, hill_count-take, holds_id-opening_cell, length-opening_cells, opening_cell-rocky, rocky-opening_cell}
use Rattle.cell_world.proofs.Places.{holds_id-rock}
use Rattle.cell_world.proofs.Rims.{clear_inner}
use Rattle.cell_world.proofs.Weights.{cell_weight-rock}

module _ (width height : ℕ) (kinds : List Kind) where
  -- a cell of an opening world is that of the kind at its position, and an ant's id is the number of hill cells before
  -- it
  pub cell_in-opening : (p : Pos) → p.x < width → cell_in (opening width height kinds) p ≡ opening_cell (hills_before width kinds p) (kind_at width kinds p)
  unfolding opening
  cell_in-opening p column =
      let from_zero : 0 + hills_before width kinds p ≡ hills_before width kinds p = omega arith in
      cell_in-column (opening width height kinds) p column
      ∙ get_or-opening_cells 0 kinds (index_of width p)
      ∙ ap (λ t. opening_cell t (kind_at width kinds p)) from_zero

  -- right of the rows there is rock
  pub cell_in-opening_right : (p : Pos) → width ≤ p.x → cell_in (opening width height kinds) p ≡ rock
  unfolding opening
  cell_in-opening_right p right = cell_in-beyond (opening width height kinds) p right

  -- what holds of rock and of each cell made of its kind holds of each cell of an opening world
  pub opening-all : (P : Pos → Cell → Type 0) → ((p : Pos) → P p rock) → ((p : Pos) → p.x < width → P p (opening_cell (hills_before width kinds p) (kind_at width kinds p))) → (p : Pos) → P p (cell_in (opening width height kinds) p)
  opening-all P bare made p = elim (cases_lt p.x width) [
    | inl column ↦ subst (P p) (sym (cell_in-opening p column)) (made p column)
    | inr right ↦ subst (P p) (sym (cell_in-opening_right p right)) (bare p)
  ]

  module _ (plan : IsPlan width height kinds) where
    -- where a kind isn't rock there is a row
    row_of_kind : (p : Pos) → p.x < width → is_rock (kind_at width kinds p) ≡ false → p.y < height
    row_of_kind p column clear = elim (cases_lt p.y height) [
      | inl row ↦ row
      | inr below ↦
          let many : height * width ≤ p.y * width = mul-le height width p.y width below (omega arith) in
          let full : length kinds ≡ width * height = plan.full in
          let beyond : length kinds ≤ index_of width p = omega arith in
          absurd (true≢false (sym (ap is_rock (get_or_past kinds (index_of width p) Rock beyond)) ∙ clear))
    ]

    -- what isn't rocky isn't on the rim
    opening_rim : (p : Pos) → (cell_in (opening width height kinds) p).rocky ≡ false → IsInner width height p
    unfolding rock
    opening_rim = opening-all (λ p c. c.rocky ≡ false → IsInner width height p) (λ p clear. absurd (true≢false clear)) λ p column clear.
        let not_rock : is_rock (kind_at width kinds p) ≡ false = sym (rocky-opening_cell (hills_before width kinds p) (kind_at width kinds p)) ∙ clear in
        clear_inner width height kinds plan.rim p (record { column = column; row = row_of_kind p column not_rock }) not_rock

    -- what is rocky is bare
    opening_bare : (p : Pos) → (cell_in (opening width height kinds) p).rocky ≡ true → cell_in (opening width height kinds) p ≡ rock
    opening_bare = opening-all (λ p c. c.rocky ≡ true → c ≡ rock) (λ p rocky. refl) λ p column rocky.
        opening_cell-rocky (hills_before width kinds p) (kind_at width kinds p) (sym (rocky-opening_cell (hills_before width kinds p) (kind_at width kinds p)) ∙ rocky)

    -- each id is below the number of hill cells
    opening_known : (p : Pos) (ant : Ant) → (cell_in (opening width height kinds) p).ant ≡ Some ant → ant.id < hill_count kinds
    unfolding rock
    opening_known = opening-all (λ p c. (ant : Ant) → c.ant ≡ Some ant → ant.id < hill_count kinds) (λ p ant is. absurd (cc)) λ p column ant is.
        let it = ant-opening_cell (hills_before width kinds p) (kind_at width kinds p) ant is in
        let below : hills_before width kinds p < hill_count kinds = hill_count-take kinds (index_of width p) it.0 in
        let id : ant.id ≡ hills_before width kinds p = it.1 in
        omega arith

    -- two hill cells before which there are equally many are one
    same_hill : (p q : Pos) → p.x < width → q.x < width → is_hill (kind_at width kinds p) ≡ true → is_hill (kind_at width kinds q) ≡ true → hills_before width kinds p ≡ hills_before width kinds q → p ≡ q
    same_hill p q column other hill hill' same = elim (cases_order (index_of width p) (index_of width q)) [
      | inl one ↦ sym (pos_at-index_of width p column) ∙ ap (pos_at width) one ∙ pos_at-index_of width q other
      | inr apart ↦ elim apart [
        | inl before ↦ let more : hills_before width kinds p < hills_before width kinds q = hill_count-later kinds _ _ before hill in absurd (omega arith)
        | inr after ↦ let more : hills_before width kinds q < hills_before width kinds p = hill_count-later kinds _ _ after hill' in absurd (omega arith)
      ]
    ]

    -- no id is at two positions
    opening_once : (t : ℕ) (p q : Pos) → holds_id t (cell_in (opening width height kinds) p) ≡ true → holds_id t (cell_in (opening width height kinds) q) ≡ true → p ≡ q
    opening_once t p q = opening-all (λ r c. holds_id t c ≡ true → holds_id t (cell_in (opening width height kinds) q) ≡ true → r ≡ q)
        (λ r holds. absurd (both_ways (holds_id t rock) (holds_id-rock t) holds))
        (λ r column holds. opening-all (λ s d. holds_id t d ≡ true → r ≡ s)
        (λ s holds'. absurd (both_ways (holds_id t rock) (holds_id-rock t) holds'))
        (λ s other holds'.
        let here = holds_id-opening_cell t (hills_before width kinds r) (kind_at width kinds r) holds in
        let there = holds_id-opening_cell t (hills_before width kinds s) (kind_at width kinds s) holds' in
        same_hill r s column other here.0 there.0 (here.1 ∙ sym there.1))
        q)
        p

    -- food is in range, also beyond the last kind
    fed_kind : (p : Pos) → IsFed (kind_at width kinds p)
    fed_kind p = elim (cases_lt (index_of width p) (length kinds)) [
      | inl within ↦ All-get_or IsFed kinds (index_of width p) Rock within plan.fed
      | inr beyond ↦ subst IsFed (sym (get_or_past kinds (index_of width p) Rock beyond)) tt
    ]

    -- no marker is set
    opening_six : (p : Pos) → HasMarksOfSix (cell_in (opening width height kinds) p)
    opening_six = opening-all (λ p c. HasMarksOfSix c) (λ p. HasMarksOfSix-rock) (λ p column. HasMarksOfSix-opening_cell (hills_before width kinds p) (kind_at width kinds p))

    -- no cell weighs more than nine
    opening_light : (p : Pos) → cell_weight (cell_in (opening width height kinds) p) ≤ 9
    opening_light = opening-all (λ p c. cell_weight c ≤ 9) (λ p. let none = cell_weight-rock in omega arith) λ p column.
        cell_weight-opening_cell (hills_before width kinds p) (kind_at width kinds p) (fed_kind p)

    -- an opening world is a world
    pub IsWorld-opening : IsWorld (opening width height kinds)
    unfolding opening
    IsWorld-opening = record {
      full = length-opening_cells 0 kinds ∙ plan.full;
      valid = record {
        wide = plan.wide;
        narrow = plan.narrow;
        tall = plan.tall;
        low = plan.low;
        few = plan.few;
        rim = opening_rim;
        bare = opening_bare;
        known = opening_known;
        once = opening_once;
        six = opening_six;
        light = weight-light (world_of (opening width height kinds)) plan.wide plan.narrow plan.tall plan.low opening_rim opening_bare opening_light;
      };
    }
