-- The writes of a look that holds may be set one after another: first those that don't raise the weight of their cell,
-- then the others.
use Rattle.std.proofs.Common.{◌≡◌, ◌≢◌, inl, inr, ℕ, ◌≤◌, true, false, nat_lt, List, [], ◌∷◌, refl, sym, ◌∙◌, ap, subst, arith}
use Rattle.std.specs.List.{AllByRecursion}
use Rattle.std.proofs.Math.Path.{fun_ext}
use Rattle.std.proofs.lemmas.Bool.{both_ways, cases_Bool, cond-true, cond-false, false_from_ne_true, ltb-false, le-ltb}
use Rattle.hex_geometry.specs.declared.position.Pos.{Pos}
use Rattle.cell_world.specs.declared.cell.Cell.{Cell}
use Rattle.cell_world.specs.declared.part.Part.TheVariants as part
use Rattle.cell_world.specs.declared.part.Parts.{Parts}
use Rattle.cell_world.specs.Cell.{HasMarksOfSix, cell_weight, holds_id}
use Rattle.cell_world.specs.Parts.{CanPatch, patched}
use Rattle.cell_world.specs.Valid.{CanSet, Valid}
use Rattle.cell_world.specs.Inner.Replaces.{Replaces}
use Rattle.cell_world.specs.World.{Cells, World, put, put_cell, with_cells}
use Rattle.cell_world.proofs.Patches.{CanPatch-alike, patched-named, patched-others, patched-unchanged}
use Rattle.cell_world.proofs.Places.{clear_inside, holds_id-own}
use Rattle.cell_world.proofs.Puts.{cases_pos, put_cell-other, put_cell-same}
use Rattle.cell_world.proofs.ValidLemmas.{CanSet-replaces, Valid-put}
use Rattle.spec_record.specs.Claims.{EachOnce, Sighting, seen_cell, seen_parts, seen_place, seen_positions}
use Rattle.spec_record.specs.Patches.{CanSetHeavier, CanSetLighter, CanSetWrites, CanWrite, after_heavier, after_lighter, patched_by_write, raises, with_heavier, with_lighter}

-- a write makes of its cell the one that is needed there
pub record Makes (cells wanted : Cells) (write : Sighting) : Type 0 where
  pub can_patch : CanPatch (cells (seen_place write)) (seen_cell write) (seen_parts write)
  pub makes : patched_by_write cells write ≡ wanted (seen_place write)

-- a patched cell can be patched again, and that changes nothing
pub CanPatch-again : (cell source : Cell) (parts : Parts) → CanPatch cell source parts → CanPatch (patched cell source parts) source parts
CanPatch-again cell source parts can = record {
  mind = can.mind;
  load = can.load;
  same_ant = λ alone named. (CanPatch-alike cell (patched cell source parts) source parts (sym (patched-others cell source parts can part.Who alone)) can).same_ant alone named;
}

pub patched-again : (cell source : Cell) (parts : Parts) → CanPatch cell source parts → patched (patched cell source parts) source parts ≡ patched cell source parts
patched-again cell source parts can =
    patched-unchanged (patched cell source parts) source parts (CanPatch-again cell source parts can) (patched-named cell source parts can)

-- a write that is already set changes nothing
Makes-again : (cells now wanted : Cells) (write : Sighting) → Makes cells wanted write → now (seen_place write) ≡ wanted (seen_place write) → Makes now wanted write
Makes-again cells now wanted write made is =
    let after : Cell = patched (cells (seen_place write)) (seen_cell write) (seen_parts write) in
    let at : now (seen_place write) ≡ after = is ∙ sym made.makes in
    record {
      can_patch = subst (λ c. CanPatch c (seen_cell write) (seen_parts write)) (sym at) (CanPatch-again (cells (seen_place write)) (seen_cell write) (seen_parts write) made.can_patch);
      makes = ap (λ c. patched c (seen_cell write) (seen_parts write)) at ∙ patched-again (cells (seen_place write)) (seen_cell write) (seen_parts write) made.can_patch ∙ made.makes;
    }

-- a write depends on its own cell alone
Makes-same : (cells now wanted : Cells) (write : Sighting) → now (seen_place write) ≡ cells (seen_place write) → Makes cells wanted write → Makes now wanted write
Makes-same cells now wanted write same made = record { can_patch = rw same made.can_patch; makes = ap (λ c. patched c (seen_cell write) (seen_parts write)) same ∙ made.makes }

raises-same : (cells now : Cells) (write : Sighting) → now (seen_place write) ≡ cells (seen_place write) → raises now write ≡ raises cells write
raises-same cells now write same = ap (λ c. nat_lt (cell_weight c) (cell_weight (patched c (seen_cell write) (seen_parts write)))) same

-- what a write that doesn't raise its cell's weight needs
pub record Eases (cells wanted : Cells) (write : Sighting) : Type 0 where
  pub makes : Makes cells wanted write
  pub clear : (cells (seen_place write)).rocky ≡ false
  pub replaces : cell_weight (wanted (seen_place write)) ≤ cell_weight (cells (seen_place write)) → Replaces (cells (seen_place write)) (wanted (seen_place write))
  pub six : HasMarksOfSix (wanted (seen_place write))

Eases-same : (cells now wanted : Cells) (write : Sighting) → now (seen_place write) ≡ cells (seen_place write) → Eases cells wanted write → Eases now wanted write
Eases-same cells now wanted write same eases = record {
  makes = Makes-same cells now wanted write same eases.makes;
  clear = ap (λ (c : Cell). c.rocky) same ∙ eases.clear;
  six = eases.six;
  replaces = λ light. rw same (eases.replaces (subst (λ (c : Cell). cell_weight (wanted (seen_place write)) ≤ cell_weight c) same light));
}

-- a write that doesn't raise its cell's weight may be set
lighter_can : (w : World) (room : ℕ) (wanted : Cells) (write : Sighting) → 1 ≤ room → Valid w → Eases w.cells wanted write → raises w.cells write ≡ false → CanWrite w room write
lighter_can w room wanted write left valid eases light =
    let no_more : cell_weight (patched_by_write w.cells write) ≤ cell_weight (w.cells (seen_place write)) = ltb-false (cell_weight (w.cells (seen_place write))) (cell_weight (patched_by_write w.cells write)) light in
    let wanted_light : cell_weight (wanted (seen_place write)) ≤ cell_weight (w.cells (seen_place write)) = subst (λ (c : Cell). cell_weight c ≤ cell_weight (w.cells (seen_place write))) eases.makes.makes no_more in
    record {
      can_patch = eases.makes.can_patch;
      can_set = subst (λ c. CanSet w room (seen_place write) c) (sym eases.makes.makes) (CanSet-replaces w room (seen_place write) (wanted (seen_place write)) valid left eases.clear (eases.replaces wanted_light) eases.six);
    }

-- the result of the writes that don't raise their cell's weight: each of these cells is the new one, and all others are
-- unchanged
pub record Eased (w : World) (wanted : Cells) (writes : List Sighting) (now : World) : Type 0 where
  pub valid : Valid now
  pub sizes : with_cells now w.cells ≡ w
  pub others : (p : Pos) → AllByRecursion (λ q. q ≢ p) (seen_positions writes) → now.cells p ≡ w.cells p
  pub each : AllByRecursion (λ write. (raises w.cells write ≡ false → now.cells (seen_place write) ≡ wanted (seen_place write)) × (raises w.cells write ≡ true → now.cells (seen_place write) ≡ w.cells (seen_place write))) writes

-- what holds of each write, if the world changed at none of their positions
all_apart : (P Q : Sighting → Type 0) (writes : List Sighting) (p : Pos) → AllByRecursion (λ q. q ≢ p) (seen_positions writes) → ((write : Sighting) → seen_place write ≢ p → P write → Q write) → AllByRecursion P writes → AllByRecursion Q writes
all_apart P Q [] p apart f all = tt
all_apart P Q (write ∷ writes) p apart f all = (f write apart.0 all.0, all_apart P Q writes p apart.1 f all.1)

-- the world with one write set or not
module _ (w : World) (write : Sighting) where
  pub with_lighter-raises : raises w.cells write ≡ true → with_lighter w write ≡ w
  with_lighter-raises heavy = cond-true _ _ _ heavy

  pub with_lighter-sets : raises w.cells write ≡ false → with_lighter w write ≡ put w (seen_place write) (patched_by_write w.cells write)
  with_lighter-sets light = cond-false _ _ _ light

  pub with_heavier-sets : raises w.cells write ≡ true → with_heavier w write ≡ put w (seen_place write) (patched_by_write w.cells write)
  with_heavier-sets heavy = cond-true _ _ _ heavy

  pub with_heavier-light : raises w.cells write ≡ false → with_heavier w write ≡ w
  with_heavier-light light = cond-false _ _ _ light

-- after those writes that don't raise their cell's weight
pub lighter_all : (room : ℕ) (wanted : Cells) (writes : List Sighting) (w : World) → 1 ≤ room → Valid w → EachOnce (seen_positions writes) → AllByRecursion (Eases w.cells wanted) writes →
    CanSetLighter w room writes × Eased w wanted writes (after_lighter w writes)
lighter_all room wanted [] w left valid once eases = (tt, record { valid = valid; sizes = refl; others = λ p _. refl; each = tt })
lighter_all room wanted (write ∷ writes) w left valid once eases =
    elim (cases_Bool (raises w.cells write)) [
      | inl heavy ↦
          let rest : CanSetLighter w room writes × Eased w wanted writes (after_lighter w writes) = lighter_all room wanted writes w left valid once.1 eases.1 in
          let skip : w ≡ with_lighter w write = sym (with_lighter-raises w write heavy) in
          let it : Eased w wanted writes (after_lighter w writes) = rest.1 in (
            (λ light. absurd (both_ways (raises w.cells write) light heavy), subst (λ (u : World). CanSetLighter u room writes) skip rest.0),
            subst (Eased w wanted (write ∷ writes)) (ap (λ (u : World). after_lighter u writes) skip) (record {
              valid = it.valid;
              sizes = it.sizes;
              others = λ p apart. it.others p apart.1;
              each = ((λ light. absurd (both_ways (raises w.cells write) light heavy), λ _. it.others (seen_place write) once.0), it.each);
            }),
          )
      | inr light ↦
          let can : CanWrite w room write = lighter_can w room wanted write left valid eases.0 light in
          let next : World = put w (seen_place write) (patched_by_write w.cells write) in
          let sets : next ≡ with_lighter w write = sym (with_lighter-sets w write light) in
          let still : Valid next = Valid-put w room (seen_place write) (patched_by_write w.cells write) valid can.can_set in
          let same : (other : Sighting) → seen_place other ≢ seen_place write → next.cells (seen_place other) ≡ w.cells (seen_place other) = λ other apart. put_cell-other w.cells (seen_place write) (patched_by_write w.cells write) (seen_place other) (λ e. apart (sym e)) in
          let later : AllByRecursion (Eases next.cells wanted) writes = all_apart (Eases w.cells wanted) (Eases next.cells wanted) writes (seen_place write) once.0 (λ other apart it. Eases-same w.cells next.cells wanted other (same other apart) it) eases.1 in
          let rest : CanSetLighter next room writes × Eased next wanted writes (after_lighter next writes) = lighter_all room wanted writes next left still once.1 later in
          let it : Eased next wanted writes (after_lighter next writes) = rest.1 in
          let Now : Sighting → Type 0 = λ other. (raises w.cells other ≡ false → (after_lighter next writes).cells (seen_place other) ≡ wanted (seen_place other)) × (raises w.cells other ≡ true → (after_lighter next writes).cells (seen_place other) ≡ w.cells (seen_place other)) in
          let Then : Sighting → Type 0 = λ other. (raises next.cells other ≡ false → (after_lighter next writes).cells (seen_place other) ≡ wanted (seen_place other)) × (raises next.cells other ≡ true → (after_lighter next writes).cells (seen_place other) ≡ next.cells (seen_place other)) in (
            (λ _. can, subst (λ (u : World). CanSetLighter u room writes) sets rest.0),
            subst (Eased w wanted (write ∷ writes)) (ap (λ (u : World). after_lighter u writes) sets) (record {
              valid = it.valid;
              sizes = ap (λ (u : World). with_cells u w.cells) it.sizes;
              others = λ p apart. it.others p apart.1 ∙ put_cell-other w.cells (seen_place write) (patched_by_write w.cells write) p apart.0;
              each = (
                (
                  λ _. it.others (seen_place write) once.0 ∙ put_cell-same w.cells (seen_place write) (patched_by_write w.cells write) ∙ eases.0.makes.makes,
                  λ heavy. absurd (both_ways (raises w.cells write) light heavy),
                ),
                all_apart Then Now writes (seen_place write) once.0
                    (λ other apart each. (
                      λ easy. each.0 (raises-same w.cells next.cells other (same other apart) ∙ easy),
                      λ heavy. each.1 (raises-same w.cells next.cells other (same other apart) ∙ heavy) ∙ same other apart,
                    )) it.each,
              );
            }),
          )
    ]

-- a write that is set doesn't raise its cell's weight again
settled-light : (cells now wanted : Cells) (write : Sighting) → Makes cells wanted write → now (seen_place write) ≡ wanted (seen_place write) → raises now write ≡ false
settled-light cells now wanted write made is =
    let again : Makes now wanted write = Makes-again cells now wanted write made is in
    let same : patched_by_write now write ≡ now (seen_place write) = again.makes ∙ sym is in
    ap (λ c. nat_lt (cell_weight (now (seen_place write))) (cell_weight c)) same ∙ le-ltb (cell_weight (now (seen_place write))) (cell_weight (now (seen_place write))) (omega arith)

-- writes of which none raises its cell's weight
heavier_none : (room : ℕ) (writes : List Sighting) (w : World) → AllByRecursion (λ write. raises w.cells write ≡ false) writes → CanSetHeavier w room writes
heavier_none room [] w light = tt
heavier_none room (write ∷ writes) w light = (
  (λ heavy. absurd (both_ways (raises w.cells write) light.0 heavy)),
  subst (λ (u : World). CanSetHeavier u room writes) (sym (with_heavier-light w write light.0)) (heavier_none room writes w light.1),
)

-- writes of which one at most raises its cell's weight, and may be set
heavier_one : (room : ℕ) (q : Pos) (writes : List Sighting) (w : World) → EachOnce (seen_positions writes) → AllByRecursion (λ write. seen_place write ≢ q → raises w.cells write ≡ false) writes →
    AllByRecursion (λ write. seen_place write ≡ q → raises w.cells write ≡ true → CanWrite w room write) writes → CanSetHeavier w room writes
heavier_one room q [] w once light can = tt
heavier_one room q (write ∷ writes) w once light can =
    elim (cases_Bool (raises w.cells write)) [
      | inl heavy ↦
          elim (cases_pos (seen_place write) q) [
            | inl here ↦
                let next : World = put w (seen_place write) (patched_by_write w.cells write) in
                let easy : AllByRecursion (λ other. raises next.cells other ≡ false) writes =
                all_apart (λ other. seen_place other ≢ q → raises w.cells other ≡ false) (λ other. raises next.cells other ≡ false) writes (seen_place write) once.0
                (λ other apart it. raises-same w.cells next.cells other (put_cell-other w.cells (seen_place write) (patched_by_write w.cells write) (seen_place other) (λ e. apart (sym e))) ∙ it (λ at. apart (at ∙ sym here))) light.1 in
                (can.0 here, subst (λ (u : World). CanSetHeavier u room writes) (sym (with_heavier-sets w write heavy)) (heavier_none room writes next easy))
            | inr other ↦ absurd (both_ways (raises w.cells write) (light.0 other) heavy)
          ]
      | inr easy ↦ (
        (λ heavy. absurd (both_ways (raises w.cells write) easy heavy)),
        subst (λ (u : World). CanSetHeavier u room writes) (sym (with_heavier-light w write easy)) (heavier_one room q writes w once.1 light.1 can.1),
      )
    ]

-- the result of the writes that raise their cell's weight: each of these cells is the new one, and all others are
-- unchanged
record Raised (w : World) (wanted : Cells) (writes : List Sighting) (now : World) : Type 0 where
  sizes : with_cells now w.cells ≡ w
  others : (p : Pos) → AllByRecursion (λ q. q ≢ p) (seen_positions writes) → now.cells p ≡ w.cells p
  each : AllByRecursion (λ write. (raises w.cells write ≡ true → now.cells (seen_place write) ≡ wanted (seen_place write)) × (raises w.cells write ≡ false → now.cells (seen_place write) ≡ w.cells (seen_place write))) writes

heavier_all : (wanted : Cells) (writes : List Sighting) (w : World) → EachOnce (seen_positions writes) → AllByRecursion (Makes w.cells wanted) writes → Raised w wanted writes (after_heavier w writes)
heavier_all wanted [] w once made = record { sizes = refl; others = λ p _. refl; each = tt }
heavier_all wanted (write ∷ writes) w once made =
    elim (cases_Bool (raises w.cells write)) [
      | inr light ↦
          let it : Raised w wanted writes (after_heavier w writes) = heavier_all wanted writes w once.1 made.1 in
          subst (Raised w wanted (write ∷ writes)) (ap (λ (u : World). after_heavier u writes) (sym (with_heavier-light w write light))) (record {
            sizes = it.sizes;
            others = λ p apart. it.others p apart.1;
            each = ((λ heavy. absurd (both_ways (raises w.cells write) light heavy), λ _. it.others (seen_place write) once.0), it.each);
          })
      | inl heavy ↦
          let next : World = put w (seen_place write) (patched_by_write w.cells write) in
          let same : (other : Sighting) → seen_place other ≢ seen_place write → next.cells (seen_place other) ≡ w.cells (seen_place other) = λ other apart. put_cell-other w.cells (seen_place write) (patched_by_write w.cells write) (seen_place other) (λ e. apart (sym e)) in
          let later : AllByRecursion (Makes next.cells wanted) writes = all_apart (Makes w.cells wanted) (Makes next.cells wanted) writes (seen_place write) once.0 (λ other apart it. Makes-same w.cells next.cells wanted other (same other apart) it) made.1 in
          let it : Raised next wanted writes (after_heavier next writes) = heavier_all wanted writes next once.1 later in
          let now : World = after_heavier next writes in
          let Now : Sighting → Type 0 = λ other. (raises w.cells other ≡ true → now.cells (seen_place other) ≡ wanted (seen_place other)) × (raises w.cells other ≡ false → now.cells (seen_place other) ≡ w.cells (seen_place other)) in
          let Then : Sighting → Type 0 = λ other. (raises next.cells other ≡ true → now.cells (seen_place other) ≡ wanted (seen_place other)) × (raises next.cells other ≡ false → now.cells (seen_place other) ≡ next.cells (seen_place other)) in
          subst (Raised w wanted (write ∷ writes)) (ap (λ (u : World). after_heavier u writes) (sym (with_heavier-sets w write heavy))) (record {
            sizes = ap (λ (u : World). with_cells u w.cells) it.sizes;
            others = λ p apart. it.others p apart.1 ∙ put_cell-other w.cells (seen_place write) (patched_by_write w.cells write) p apart.0;
            each = (
              (
                λ _. it.others (seen_place write) once.0 ∙ put_cell-same w.cells (seen_place write) (patched_by_write w.cells write) ∙ made.0.makes,
                λ light. absurd (both_ways (raises w.cells write) light heavy),
              ),
              all_apart Then Now writes (seen_place write) once.0
                  (λ other apart each. (
                    λ more. each.0 (raises-same w.cells next.cells other (same other apart) ∙ more),
                    λ easy. each.1 (raises-same w.cells next.cells other (same other apart) ∙ easy) ∙ same other apart,
                  )) it.each,
            );
          })
    ]

-- what holds at each write, and at each other position, holds everywhere
everywhere : (P : Pos → Type 0) (writes : List Sighting) (p : Pos) → (AllByRecursion (λ q. q ≢ p) (seen_positions writes) → P p) → AllByRecursion (λ write. P (seen_place write)) writes → P p
everywhere P [] p outside each = outside tt
everywhere P (write ∷ writes) p outside each =
    elim (cases_pos (seen_place write) p) [
      | inl here ↦ subst P here each.0
      | inr apart ↦ everywhere P writes p (λ fresh. outside (apart, fresh)) each.1
    ]

-- what holds of each write by two other things
zip_all : (P Q R : Sighting → Type 0) (writes : List Sighting) → ((write : Sighting) → P write → Q write → R write) → AllByRecursion P writes → AllByRecursion Q writes → AllByRecursion R writes
zip_all P Q R [] f first second = tt
zip_all P Q R (write ∷ writes) f first second = (f write first.0 second.0, zip_all P Q R writes f first.1 second.1)

-- writes that make the new cells of a world, by a turn that raises the weight of at most one cell
pub record Settles (w : World) (wanted : Cells) (writes : List Sighting) (q : Pos) : Type 0 where
  pub valid : Valid w
  pub still : Valid (with_cells w wanted)
  pub once : EachOnce (seen_positions writes)
  pub made : AllByRecursion (Makes w.cells wanted) writes
  pub clear : AllByRecursion (λ write. (w.cells (seen_place write)).rocky ≡ false) writes
  pub rocks : (p : Pos) → (wanted p).rocky ≡ (w.cells p).rocky
  pub hills : (p : Pos) → (wanted p).hill ≡ (w.cells p).hill
  pub others : (p : Pos) → AllByRecursion (λ r. r ≢ p) (seen_positions writes) → wanted p ≡ w.cells p
  pub replaced : (p : Pos) → p ≢ q → Replaces (w.cells p) (wanted p)
  pub raised : cell_weight (wanted q) ≤ cell_weight (w.cells q) → Replaces (w.cells q) (wanted q)

module _ {w : World} {wanted : Cells} {writes : List Sighting} {q : Pos} (settles : Settles w wanted writes q) (room : ℕ) (left : 1 ≤ room) where
  -- each write that doesn't raise its cell's weight may be set
  eased : AllByRecursion (Eases w.cells wanted) writes
  eased = zip_all (Makes w.cells wanted) (λ write. (w.cells (seen_place write)).rocky ≡ false) (Eases w.cells wanted) writes
      (λ write makes clear. record {
        makes = makes;
        clear = clear;
        six = settles.still.six (seen_place write);
        replaces = λ light. elim (cases_pos (seen_place write) q) [
          | inl here ↦ subst (λ p. Replaces (w.cells p) (wanted p)) (sym here) (settles.raised (subst (λ p. cell_weight (wanted p) ≤ cell_weight (w.cells p)) here light))
          | inr other ↦ settles.replaced (seen_place write) other
        ];
      }) settles.made settles.clear

  -- the world between
  between : World
  between = after_lighter w writes

  first : CanSetLighter w room writes × Eased w wanted writes between
  unfolding between
  first = lighter_all room wanted writes w left settles.valid settles.once eased

  -- there each write makes what is needed
  made_between : AllByRecursion (Makes between.cells wanted) writes
  unfolding between
  made_between = zip_all (Makes w.cells wanted) (λ write. (raises w.cells write ≡ false → between.cells (seen_place write) ≡ wanted (seen_place write)) × (raises w.cells write ≡ true → between.cells (seen_place write) ≡ w.cells (seen_place write))) (Makes between.cells wanted) writes
      (λ write makes each. elim (cases_Bool (raises w.cells write)) [
        | inl heavy ↦ Makes-same w.cells between.cells wanted write (each.1 heavy) makes
        | inr light ↦ Makes-again w.cells between.cells wanted write makes (each.0 light)
      ]) settles.made first.1.each

  -- except for the one, all cells are the new ones
  write_light : (write : Sighting) → seen_place write ≢ q → Makes w.cells wanted write → raises w.cells write ≡ false
  write_light write other makes =
      ap (λ c. nat_lt (cell_weight (w.cells (seen_place write))) (cell_weight c)) makes.makes ∙ le-ltb (cell_weight (w.cells (seen_place write))) (cell_weight (wanted (seen_place write))) (settles.replaced (seen_place write) other).no_heavier

  wanted_between : (p : Pos) → p ≢ q → between.cells p ≡ wanted p
  unfolding between
  wanted_between p apart =
      everywhere (λ r. r ≢ q → between.cells r ≡ wanted r) writes p (λ fresh _. first.1.others p fresh ∙ sym (settles.others p fresh))
      (zip_all (Makes w.cells wanted) (λ write. (raises w.cells write ≡ false → between.cells (seen_place write) ≡ wanted (seen_place write)) × (raises w.cells write ≡ true → between.cells (seen_place write) ≡ w.cells (seen_place write))) (λ write. seen_place write ≢ q → between.cells (seen_place write) ≡ wanted (seen_place write)) writes
      (λ write makes each other. each.0 (write_light write other makes)) settles.made first.1.each) apart

  -- with the one set too, it is the new world
  whole : put between q (wanted q) ≡ with_cells w wanted
  whole =
      let cells : put_cell between.cells q (wanted q) ≡ wanted = fun_ext λ p. elim (cases_pos q p) [
        | inl here ↦ ap (put_cell between.cells q (wanted q)) (sym here) ∙ put_cell-same between.cells q (wanted q) ∙ ap wanted here
        | inr apart ↦ put_cell-other between.cells q (wanted q) p apart ∙ wanted_between p (λ e. apart (sym e))
      ] in
      ap (with_cells between) cells ∙ ap (λ (u : World). with_cells u wanted) first.1.sizes

  -- so the one may be set
  CanSet-last : (write : Sighting) → seen_place write ≡ q → raises between.cells write ≡ true → Makes w.cells wanted write → (w.cells (seen_place write)).rocky ≡ false → (raises w.cells write ≡ false → between.cells (seen_place write) ≡ wanted (seen_place write)) × (raises w.cells write ≡ true → between.cells (seen_place write) ≡ w.cells (seen_place write)) → CanSet between room q (wanted q)
  CanSet-last write here heavy makes clear each =
      let as_it_was : between.cells q ≡ w.cells q = elim (cases_Bool (raises w.cells write)) [
        | inl more ↦ subst (λ p. between.cells p ≡ w.cells p) here (each.1 more)
        | inr light ↦ absurd (both_ways (raises between.cells write) (settled-light w.cells between.cells wanted write makes (each.0 light)) heavy)
      ] in
      let was : (between.cells q).rocky ≡ false = ap (λ (c : Cell). c.rocky) as_it_was ∙ subst (λ p. (w.cells p).rocky ≡ false) here clear in
      let all : Valid (put between q (wanted q)) = subst Valid (sym whole) settles.still in
      record {
        room_left = left;
        inside = clear_inside between q first.1.valid was;
        was_clear = was;
        is_clear = settles.rocks q ∙ subst (λ p. (w.cells p).rocky ≡ false) here clear;
        six = settles.still.six q;
        same_hill = settles.hills q ∙ ap (λ (c : Cell). c.hill) (sym as_it_was);
        ant_known = λ ant is. all.known q ant (ap (λ (c : Cell). c.ant) (put_cell-same between.cells q (wanted q)) ∙ is);
        ant_nowhere_else = λ ant is p apart. false_from_ne_true (holds_id ant.id (between.cells p)) λ there.
            apart (all.once ant.id p q (ap (holds_id ant.id) (put_cell-other between.cells q (wanted q) p (λ e. apart (sym e))) ∙ there) (ap (holds_id ant.id) (put_cell-same between.cells q (wanted q)) ∙ holds_id-own (wanted q) ant is));
        light_enough = all.light;
      }

  -- all writes may be set
  pub CanSetWrites-all : CanSetWrites w room writes
  unfolding between
  CanSetWrites-all =
      let Each : Sighting → Type 0 = λ write. (raises w.cells write ≡ false → between.cells (seen_place write) ≡ wanted (seen_place write)) × (raises w.cells write ≡ true → between.cells (seen_place write) ≡ w.cells (seen_place write)) in
      let light : AllByRecursion (λ write. seen_place write ≢ q → raises between.cells write ≡ false) writes =
      zip_all (Makes w.cells wanted) Each (λ write. seen_place write ≢ q → raises between.cells write ≡ false) writes
      (λ write makes each other. settled-light w.cells between.cells wanted write makes (each.0 (write_light write other makes))) settles.made first.1.each in
      let Fits : Sighting → Type 0 = λ write. Makes w.cells wanted write × ((w.cells (seen_place write)).rocky ≡ false) in
      let both : AllByRecursion Fits writes = zip_all (Makes w.cells wanted) (λ write. (w.cells (seen_place write)).rocky ≡ false) Fits writes (λ write makes clear. (makes, clear)) settles.made settles.clear in
      let can : AllByRecursion (λ write. seen_place write ≡ q → raises between.cells write ≡ true → CanSet between room q (wanted q)) writes =
      zip_all Fits Each (λ write. seen_place write ≡ q → raises between.cells write ≡ true → CanSet between room q (wanted q)) writes
      (λ write fits each here heavy. CanSet-last write here heavy fits.0 fits.1 each) both first.1.each in
      let writable : AllByRecursion (λ write. seen_place write ≡ q → raises between.cells write ≡ true → CanWrite between room write) writes =
      zip_all (Makes between.cells wanted) (λ write. seen_place write ≡ q → raises between.cells write ≡ true → CanSet between room q (wanted q)) (λ write. seen_place write ≡ q → raises between.cells write ≡ true → CanWrite between room write) writes
      (λ write makes may here heavy. record {
        can_patch = makes.can_patch;
        can_set = subst (λ c. CanSet between room (seen_place write) c) (sym (makes.makes ∙ ap wanted here)) (subst (λ p. CanSet between room p (wanted q)) (sym here) (may here heavy));
      }) made_between can in
      record { lighter = first.0; heavier = heavier_one room q writes between settles.once light writable }

  -- and then the world is the new one
  pub after_all : after_heavier (after_lighter w writes) writes ≡ with_cells w wanted
  unfolding between
  after_all =
      let now : World = after_heavier between writes in
      let second : Raised between wanted writes now = heavier_all wanted writes between settles.once made_between in
      let cells : now.cells ≡ wanted = fun_ext λ p.
      everywhere (λ r. now.cells r ≡ wanted r) writes p
      (λ fresh. second.others p fresh ∙ first.1.others p fresh ∙ sym (settles.others p fresh))
      (zip_all (λ write. (raises w.cells write ≡ false → between.cells (seen_place write) ≡ wanted (seen_place write)) × (raises w.cells write ≡ true → between.cells (seen_place write) ≡ w.cells (seen_place write)))
      (λ write. (raises between.cells write ≡ true → now.cells (seen_place write) ≡ wanted (seen_place write)) × (raises between.cells write ≡ false → now.cells (seen_place write) ≡ between.cells (seen_place write))) (λ write. now.cells (seen_place write) ≡ wanted (seen_place write)) writes
      (λ write before each. elim (cases_Bool (raises between.cells write)) [
        | inl heavy ↦ each.0 heavy
        | inr light ↦ each.1 light ∙ elim (cases_Bool (raises w.cells write)) [
          | inl more ↦ absurd (both_ways (raises between.cells write) light (raises-same w.cells between.cells write (before.1 more) ∙ more))
          | inr easy ↦ before.0 easy
        ]
      ]) first.1.each second.each) in
      ap (with_cells now) cells ∙ ap (λ (u : World). with_cells (with_cells u w.cells) wanted) second.sizes ∙ ap (λ (u : World). with_cells u wanted) first.1.sizes
