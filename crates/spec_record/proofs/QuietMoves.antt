-- A Move that goes if no foe is near: no ant is killed.
use Rattle.std.proofs.Common.{◌≡◌, ◌≢◌, inl, inr, ℕ, ◌≤◌, true, false, nat_le, List, [], ◌∷◌, ◌++◌, Option, Some, None, refl, sym, ◌∙◌, ap, subst, arith}
use Rattle.std.specs.List.{AllByRecursion, flat_map}
use Rattle.std.proofs.lemmas.Bool.{cases_Bool, cond-true, cond-false, lt-leb}
use Rattle.hex_geometry.specs.declared.position.Pos.{Pos}
use Rattle.hex_geometry.specs.Neighbourhood.{neighbours_of}
use Rattle.hex_geometry.specs.Position.{same_pos}
use Rattle.hex_geometry.proofs.Places.{same_pos_true, same_pos_false}
use Rattle.cell_world.specs.declared.ant.Ant.{Ant}
use Rattle.cell_world.specs.declared.ant.Colour.{Colour}
use Rattle.cell_world.specs.declared.ant.Colour.TheVariants.{Red, Black}
use Rattle.cell_world.specs.declared.cell.Cell.{Cell}
use Rattle.cell_world.specs.declared.part.Parts.{Parts}
use Rattle.cell_world.specs.Cell.{is_ant_of, one_if}
use Rattle.cell_world.specs.Colour.{foe_of, same_colour}
use Rattle.cell_world.specs.World.{Cells, put_cell}
use Rattle.cell_world.proofs.Puts.{put_cell-same, put_cell-other}
use Rattle.ant_turn.specs.Kills.{ants_among, check_all, check_at, has_foes, is_surrounded, killed_all, places_around}
use Rattle.ant_turn.specs.Sheet.{Sheet}
use Rattle.ant_turn.specs.Turn.{arrived, has_ant, left_by_ant, stepped, with_ant}
use Rattle.ant_turn.proofs.Checks.{check_at-spared, killed_at-spared}
use Rattle.ant_turn.proofs.Foes.{ants_among-cons}
use Rattle.spec_record.proofs.CheckSteps.{all_of_flat_map, all_split}
use Rattle.spec_record.specs.Claims.{EachOnce, Sighting, seen_cell, seen_place, seen_positions}
use Rattle.spec_record.specs.Reads.{neighbours_if_manned, seen_around}
use Rattle.spec_record.specs.Inner.Sightings.{all_sighted, sighted, sightings_of}
use Rattle.spec_record.proofs.Sighting.{Apart}

-- no ant of this colour is at a position
abbrev pub NoneAt : Colour → Cells → Pos → Type 0
NoneAt colour cells p = is_ant_of colour (cells p).ant ≡ false

all-then : (P Q : Pos → Type 0) → ((r : Pos) → P r → Q r) → (places : List Pos) → AllByRecursion P places → AllByRecursion Q places
all-then P Q so [] all = tt
all-then P Q so (r ∷ places) all = (so r all.0, all-then P Q so places all.1)

-- sightings of these cells
abbrev AreTrue : Cells → List Sighting → Type 0
AreTrue cells list = AllByRecursion (λ (s : Sighting). seen_cell s ≡ cells (seen_place s)) list

sighted-true : (cells : Cells) (list : List Sighting) (new : Sighting) → seen_cell new ≡ cells (seen_place new) → AreTrue cells list → AreTrue cells (sighted list new)
sighted-true cells [] new is all = (is, tt)
sighted-true cells (old ∷ list) new is all =
    elim (cases_Bool (same_pos (seen_place old) (seen_place new))) [
      | inl same ↦ rw (cond-true _ _ _ same) all
      | inr apart ↦ rw (cond-false _ _ _ apart) (all.0, sighted-true cells list new is all.1)
    ]

-- what holds of the cells of a list with one more holds of the list's, and of that one
sighted-each : (P : Cell → Type 0) (cells : Cells) (list : List Sighting) (new : Sighting) → seen_cell new ≡ cells (seen_place new) → AreTrue cells list → AllByRecursion (λ (s : Sighting). P (seen_cell s)) (sighted list new) →
    AllByRecursion (λ (s : Sighting). P (seen_cell s)) list × P (seen_cell new)
sighted-each P cells [] new is are all = (tt, all.0)
sighted-each P cells (old ∷ list) new is are all =
    elim (cases_Bool (same_pos (seen_place old) (seen_place new))) [
      | inl same ↦
          let it = subst (AllByRecursion (λ (s : Sighting). P (seen_cell s))) (cond-true _ _ _ same) all in
          let one : seen_cell old ≡ (seen_cell new) = are.0 ∙ ap cells (same_pos_true (seen_place old) (seen_place new) same) ∙ sym is in
          (it, subst P one it.0)
      | inr apart ↦
          let it = subst (AllByRecursion (λ (s : Sighting). P (seen_cell s))) (cond-false _ _ _ apart) all in
          let rest = sighted-each P cells list new is are.1 it.1 in
          ((it.0, rest.0), rest.1)
    ]

-- what holds of the cells of all sightings holds at each position
sightings-each : (P : Cell → Type 0) (cells : Cells) (parts : Parts) (places : List Pos) (list : List Sighting) → AreTrue cells list → AllByRecursion (λ (s : Sighting). P (seen_cell s)) (all_sighted list (sightings_of cells parts places)) →
    AllByRecursion (λ (s : Sighting). P (seen_cell s)) list × AllByRecursion (λ r. P (cells r)) places
sightings-each P cells parts [] list are all = (all, tt)
sightings-each P cells parts (r ∷ places) list are all =
    let new : Sighting = (r, parts, cells r) in
    let rest = sightings-each P cells parts places (sighted list new) (sighted-true cells list new refl are) all in
    let one = sighted-each P cells list new refl are rest.0 in
    (one.0, (one.1, rest.1))

pub seen-none : (colour : Colour) (cells : Cells) (p : Pos) (own parts : Parts) (places : List Pos) →
    AllByRecursion (λ (s : Sighting). is_ant_of colour (seen_cell s).ant ≡ false) (all_sighted ((p, own, cells p) ∷ []) (sightings_of cells parts places)) → AllByRecursion (NoneAt colour cells) places
seen-none colour cells p own parts places all =
    (sightings-each (λ (cell : Cell). is_ant_of colour cell.ant ≡ false) cells parts places ((p, own, cells p) ∷ []) (refl, tt) all).1

-- none among cells at none of which is one
none_among : (colour : Colour) (cells : Cells) (places : List Pos) → AllByRecursion (NoneAt colour cells) places → ants_among cells colour places ≡ 0
none_among colour cells [] all = refl
none_among colour cells (p ∷ places) all =
    let one : one_if (is_ant_of colour (cells p).ant) ≡ 0 = ap one_if all.0 in
    let rest = none_among colour cells places all.1 in
    omega (arith, ants_among-cons cells colour p places, one, rest)

-- an ant that is no foe is of the colour
no_foe : (colour : Colour) (ant : Ant) → is_ant_of (foe_of colour) (Some ant) ≡ false → ant.colour ≡ colour
no_foe colour ant none = go colour ant.colour none where
  go : (a b : Colour) → same_colour (foe_of a) b ≡ false → b ≡ a
  go Red Red none = refl
  go Red Black none = absurd (cc)
  go Black Red none = absurd (cc)
  go Black Black none = refl

-- an ant of the colour without a foe beside it isn't surrounded
spared : (sheet : Sheet) (cells : Cells) (colour : Colour) (r : Pos) (o : Option Ant) → (cells r).ant ≡ o → 1 ≤ sheet.surround → is_ant_of (foe_of colour) o ≡ false → (has_ant o ≡ true → AllByRecursion (NoneAt (foe_of colour) cells) (neighbours_of r)) →
    is_surrounded sheet cells r ≡ false
unfolding is_surrounded
spared sheet cells colour r None is some none beside = ap (has_foes sheet cells (neighbours_of r)) is
spared sheet cells colour r (Some ant) is some none beside =
    let none_beside : ants_among cells (foe_of ant.colour) (neighbours_of r) ≡ 0 =
    ap (λ c. ants_among cells (foe_of c) (neighbours_of r)) (no_foe colour ant none) ∙ none_among (foe_of colour) cells (neighbours_of r) (beside refl) in
    ap (has_foes sheet cells (neighbours_of r)) is ∙ ap (nat_le sheet.surround) none_beside ∙ lt-leb sheet.surround 0 (omega arith)

-- if no foe of a colour decides the checks around a position, no ant is surrounded there
calm-around : (sheet : Sheet) (cells : Cells) (colour : Colour) (q : Pos) → 1 ≤ sheet.surround → AllByRecursion (NoneAt (foe_of colour) cells) (seen_around cells q) → AllByRecursion (λ r. is_surrounded sheet cells r ≡ false) (places_around q)
unfolding places_around
calm-around sheet cells colour q some all =
    let both = all_split (NoneAt (foe_of colour) cells) (q ∷ neighbours_of q) (flat_map (neighbours_if_manned cells) (neighbours_of q)) all in
    (spared sheet cells colour q (cells q).ant refl some both.0.0 (λ manned. both.0.1), go (neighbours_of q) both.0.1 (all_of_flat_map (NoneAt (foe_of colour) cells) (neighbours_if_manned cells) (neighbours_of q) both.1))
  where
    go : (places : List Pos) → AllByRecursion (NoneAt (foe_of colour) cells) places → AllByRecursion (λ r. AllByRecursion (NoneAt (foe_of colour) cells) (neighbours_if_manned cells r)) places → AllByRecursion (λ r. is_surrounded sheet cells r ≡ false) places
    go [] own beyond = tt
    go (r ∷ places) own beyond = (
      spared sheet cells colour r (cells r).ant refl some own.0 (λ manned. subst (AllByRecursion (NoneAt (foe_of colour) cells)) (cond-true _ _ _ manned) beyond.0),
      go places own.1 beyond.1,
    )

-- checks of cells at none of which an ant is surrounded do nothing
calm-checks : (sheet : Sheet) (places : List Pos) (cells : Cells) → AllByRecursion (λ r. is_surrounded sheet cells r ≡ false) places → check_all sheet cells places ≡ cells
calm-checks sheet [] cells all = refl
calm-checks sheet (r ∷ places) cells all = ap (λ (now : Cells). check_all sheet now places) (check_at-spared sheet cells r all.0) ∙ calm-checks sheet places cells all.1

calm-kills : (sheet : Sheet) (places : List Pos) (cells : Cells) → AllByRecursion (λ r. is_surrounded sheet cells r ≡ false) places → killed_all sheet cells places ≡ []
calm-kills sheet [] cells all = refl
calm-kills sheet (r ∷ places) cells all =
    ap (λ some. some ++ killed_all sheet (check_at sheet cells r) places) (killed_at-spared sheet cells r all.0)
    ∙ ap (λ (now : Cells). killed_all sheet now places) (check_at-spared sheet cells r all.0) ∙ calm-kills sheet places cells all.1

-- a step brings no foe anywhere
foe-stepped : (sheet : Sheet) (cells : Cells) (p : Pos) (ant : Ant) (q : Pos) (next : ℕ) (r : Pos) → NoneAt (foe_of ant.colour) cells r → NoneAt (foe_of ant.colour) (stepped sheet cells p ant q next) r
unfolding stepped
foe-stepped sheet cells p ant q next r none =
    let left : Cells = put_cell cells p (left_by_ant (cells p)) in
    let there : Cell = with_ant (cells q) (arrived sheet ant next) in
    elim (cases_Bool (same_pos r q)) [
      | inl same ↦
          ap (λ s. is_ant_of (foe_of ant.colour) (put_cell left q there s).ant) (same_pos_true r q same)
          ∙ ap (λ (cell : Cell). is_ant_of (foe_of ant.colour) cell.ant) (put_cell-same left q there)
          ∙ own ant.colour
      | inr other ↦
          ap (λ (cell : Cell). is_ant_of (foe_of ant.colour) cell.ant) (put_cell-other left q there r (λ e. same_pos_false r q other (sym e)))
          ∙ elim (cases_Bool (same_pos r p)) as (λ _. NoneAt (foe_of ant.colour) left r) [
            | inl here ↦
                ap (λ s. is_ant_of (foe_of ant.colour) (left s).ant) (same_pos_true r p here)
                ∙ ap (λ (cell : Cell). is_ant_of (foe_of ant.colour) cell.ant) (put_cell-same cells p (left_by_ant (cells p)))
            | inr away ↦
                ap (λ (cell : Cell). is_ant_of (foe_of ant.colour) cell.ant) (put_cell-other cells p (left_by_ant (cells p)) r (λ e. same_pos_false r p away (sym e))) ∙ none
          ]
    ]
  where
    own : (colour : Colour) → same_colour (foe_of colour) colour ≡ false
    own Red = refl
    own Black = refl

-- the cells from which and to which it leads
pub stepped-from : (sheet : Sheet) (cells : Cells) (p : Pos) (ant : Ant) (q : Pos) (next : ℕ) → p ≢ q → stepped sheet cells p ant q next p ≡ left_by_ant (cells p)
unfolding stepped
stepped-from sheet cells p ant q next other =
    put_cell-other (put_cell cells p (left_by_ant (cells p))) q (with_ant (cells q) (arrived sheet ant next)) p (λ e. other (sym e)) ∙ put_cell-same cells p (left_by_ant (cells p))

pub stepped-to : (sheet : Sheet) (cells : Cells) (p : Pos) (ant : Ant) (q : Pos) (next : ℕ) → stepped sheet cells p ant q next q ≡ with_ant (cells q) (arrived sheet ant next)
unfolding stepped
stepped-to sheet cells p ant q next = put_cell-same (put_cell cells p (left_by_ant (cells p))) q (with_ant (cells q) (arrived sheet ant next))

-- positions that are pairwise two are each there once
pub apart-once : (list : List Sighting) → Apart list → EachOnce (seen_positions list)
apart-once [] apart = tt
apart-once (old ∷ list) apart = (go list apart.0, apart-once list apart.1)
  where
    go : (more : List Sighting) → AllByRecursion (λ (s : Sighting). same_pos (seen_place old) (seen_place s) ≡ false) more → AllByRecursion (λ r. r ≢ seen_place old) (seen_positions more)
    go [] all = tt
    go (s ∷ more) all = ((λ e. same_pos_false (seen_place old) (seen_place s) all.0 (sym e)), go more all.1)

-- if no foe of the ant that goes is seen, no ant is surrounded after its step
module _ (sheet : Sheet) (cells : Cells) (p : Pos) (ant : Ant) (q : Pos) (next : ℕ) (left : 1 ≤ q.x) (top : 1 ≤ q.y) (some : 1 ≤ sheet.surround) (none : AllByRecursion (NoneAt (foe_of ant.colour) cells) (seen_around (stepped sheet cells p ant q next) q)) where
  abbrev after : Cells
  after = stepped sheet cells p ant q next

  spared_all : AllByRecursion (λ r. is_surrounded sheet (stepped sheet cells p ant q next) r ≡ false) (places_around q)
  spared_all = calm-around sheet after ant.colour q some (all-then (NoneAt (foe_of ant.colour) cells) (NoneAt (foe_of ant.colour) after) (foe-stepped sheet cells p ant q next) (seen_around after q) none)

  pub step-checks : check_all sheet (stepped sheet cells p ant q next) (places_around q) ≡ stepped sheet cells p ant q next
  step-checks = calm-checks sheet (places_around q) after spared_all

  pub step-kills : killed_all sheet (stepped sheet cells p ant q next) (places_around q) ≡ []
  step-kills = calm-kills sheet (places_around q) after spared_all
