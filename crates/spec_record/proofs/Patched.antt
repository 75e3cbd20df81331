-- The turn of a look that holds, as patches of the cells.
use Rattle.std.proofs.Common.{◌≡◌, inl, inr, ℕ, Bool, true, false, ◌||◌, Option, Some, None, List, [], ◌∷◌, refl, sym, ◌∙◌, ap, ap₂}
use Rattle.std.specs.List.{AllByRecursion}
use Rattle.std.proofs.Math.Path.{fun_ext}
use Rattle.std.proofs.lemmas.Bool.{or_left, or_right}
use Rattle.hex_geometry.specs.declared.position.Pos.{Pos}
use Rattle.cell_world.specs.declared.ant.Ant.{Ant}
use Rattle.cell_world.specs.declared.cell.Cell.{Cell}
use Rattle.cell_world.specs.declared.part.Part.{Part}
use Rattle.cell_world.specs.Parts.{Agree, Alike, has_part, no_parts, patched, patched_ant, union}
use Rattle.cell_world.specs.World.{Cells, World, place_in, put_cell}
use Rattle.cell_world.proofs.Patches.{patched-only}
use Rattle.cell_world.proofs.Puts.{cases_pos, put_cell-other, put_cell-same}
use Rattle.ant_turn.specs.Minds.{Minds}
use Rattle.ant_turn.specs.Turn.{Outcome, turn}
use Rattle.spec_record.specs.Claims.{Claim, EachOnce, seen_cell, seen_parts, seen_place, with_cells_at}
use Rattle.spec_record.specs.Holds.{Holds}
use Rattle.spec_record.specs.Locality.{GoesOn, IsLater, IsLookedAt, outcome_by}
use Rattle.spec_record.specs.Look.{look_of}
use Rattle.spec_record.specs.Patches.{parts_at, parts_there, patched_cells}
use Rattle.spec_record.specs.Writes.{writes, writes_from}
use Rattle.spec_record.proofs.ClaimLemmas.{EachOnce-merged, has_part-none, has_part-union, parts_at-fresh, parts_at-merged, parts_there-elsewhere, parts_there-here, positions, union-none}
use Rattle.spec_record.proofs.Steps.{CellStep, InStep, InStep-same}
use Rattle.spec_record.proofs.TurnSteps.{turn_both}

-- a patch of no part is none
pub patched-none : (cell source : Cell) → patched cell source no_parts ≡ cell
unfolding patched
patched-none cell source = ap (λ o. record cell { ant = o }) (unpatched cell.ant source.ant) where
  unpatched : (own there : Option Ant) → patched_ant no_parts own there ≡ own
  unpatched None there = refl
  unpatched (Some ant) None = refl
  unpatched (Some ant) (Some other) = refl

-- what patches make of a cell, if each position is claimed once: that cell with all that is claimed there
pub patched_cells-at : (claims : List Claim) (cells after : Cells) (r : Pos) → EachOnce (positions claims) → patched_cells cells (with_cells_at after claims) r ≡ patched (cells r) (after r) (parts_at claims r)
patched_cells-at [] cells after r once = sym (patched-none (cells r) (after r))
patched_cells-at (c ∷ claims) cells after r once =
    let first : Cells = put_cell cells c.at (patched (cells c.at) (after c.at) c.parts) in
    patched_cells-at claims first after r once.1
    ∙ elim (cases_pos c.at r) [
      | inl one ↦
          let fresh : parts_at claims r ≡ no_parts = ap (parts_at claims) (sym one) ∙ parts_at-fresh claims c.at once.0 in
          let all : parts_at (c ∷ claims) r ≡ c.parts = ap₂ (λ a b. union a b) (parts_there-here c r one) fresh ∙ union-none c.parts in
          ap (patched (first r) (after r)) fresh ∙ patched-none (first r) (after r)
          ∙ ap first (sym one) ∙ put_cell-same cells c.at (patched (cells c.at) (after c.at) c.parts)
          ∙ ap (λ q. patched (cells q) (after q) c.parts) one
          ∙ ap (patched (cells r) (after r)) (sym all)
      | inr apart ↦
          ap₂ (λ cell parts. patched cell (after r) parts) (put_cell-other cells c.at (patched (cells c.at) (after c.at) c.parts) r apart)
          (sym (ap (λ a. union a (parts_at claims r)) (parts_there-elsewhere c r apart)))
    ]

-- a step of two worlds makes of the second what patches of the first do
pub InStep-patched : {claims : List Claim} {v w v' w' : Cells} → InStep claims v w v' w' → EachOnce (positions claims) → w' ≡ patched_cells w (with_cells_at v' claims)
InStep-patched {claims} {v} {w} {v'} {w'} step once = fun_ext λ r.
    let at : CellStep (parts_at claims r) (v r) (w r) (v' r) (w' r) = step.each r in
    patched-only (w r) (v' r) (parts_at claims r) at.can (w' r) (record { named = λ k named. sym (at.named k named); others = at.now_others; same_kind = at.same_kind; same_hill = at.same_hill })
    ∙ sym (patched_cells-at claims w v' r once)

-- each position is written once
pub written_once : (minds : Minds) (base : World) (t : ℕ) → EachOnce (positions (writes minds base t))
unfolding writes
written_once minds base t = EachOnce-merged (writes_from minds base.cells (place_in base t))

module _ (minds : Minds) (seed : ℕ) (base : World) (guess : ℕ) (now : World) (place t : ℕ) (goes : GoesOn base now t) (holds : Holds minds base guess now place t) where
  -- the step of a look that holds, by what the look writes
  pub look_step : InStep (writes minds base t) base.cells now.cells (turn minds seed base guess t).cells (turn minds seed now place t).cells
  unfolding writes
  look_step = InStep-same (λ r. sym (parts_at-merged (writes_from minds base.cells (place_in base t)) r)) (turn_both minds seed base guess now place t goes holds).step

  -- so the turn sets the writes of the look, and draws and kills as it did
  pub turn-patched : turn minds seed now place t ≡ outcome_by (look_of minds seed base guess t) now.cells
  unfolding look_of
  turn-patched =
      let both = turn_both minds seed base guess now place t goes holds in
      let made : Cells → Bool → List ℕ → Outcome = λ cells drew killed. record { cells = cells; drew = drew; killed = killed } in
      let it : Outcome = turn minds seed now place t in
      ap (λ cells. made cells it.drew it.killed) (InStep-patched look_step (written_once minds base t))
      ∙ ap₂ (made (patched_cells now.cells (with_cells_at (turn minds seed base guess t).cells (writes minds base t)))) (sym both.drew) (sym both.killed)

-- the parts that no claim of a position has
pub unclaimed : (claims : List Claim) (after : Cells) (p : Pos) (k : Part) → AllByRecursion (λ write. seen_place write ≡ p → has_part (seen_parts write) k ≡ false) (with_cells_at after claims) → has_part (parts_at claims p) k ≡ false
unclaimed [] after p k none = has_part-none k
unclaimed (c ∷ claims) after p k none =
    has_part-union (parts_there c p) (parts_at claims p) k
    ∙ ap₂ (λ a b. a || b)
    (elim (cases_pos c.at p) [
      | inl one ↦ ap (λ parts. has_part parts k) (parts_there-here c p one) ∙ none.0 one
      | inr apart ↦ ap (λ parts. has_part parts k) (parts_there-elsewhere c p apart) ∙ has_part-none k
    ])
    (unclaimed claims after p k none.1)

-- what holds of each claim whose parts are among those of a list
claimed_all : (claims : List Claim) (v w : Cells) → ((r : Pos) → Agree (parts_at claims r) (v r) (w r)) → AllByRecursion (λ write. Agree (seen_parts write) (w (seen_place write)) (seen_cell write)) (with_cells_at v claims)
claimed_all claims v w agree = go claims (λ r k named. named_by r k named) where
  named_by : (r : Pos) (k : Part) → has_part (parts_at claims r) k ≡ true → Alike k (v r) (w r)
  named_by r k named = agree r k named

  go : (more : List Claim) → ((r : Pos) (k : Part) → has_part (parts_at more r) k ≡ true → Alike k (v r) (w r)) → AllByRecursion (λ write. Agree (seen_parts write) (w (seen_place write)) (seen_cell write)) (with_cells_at v more)
  go [] alike = tt
  go (c ∷ more) alike = (
    λ k named. sym (alike c.at k (has_part-union (parts_there c c.at) (parts_at more c.at) k ∙ or_left (has_part (parts_there c c.at) k) (has_part (parts_at more c.at) k) (ap (λ parts. has_part parts k) (parts_there-here c c.at refl) ∙ named))),
    go more (λ r k named. alike r k (has_part-union (parts_there c r) (parts_at more r) k ∙ or_right (has_part (parts_there c r) k) (has_part (parts_at more r) k) named)),
  )

-- the turn of a look that holds is what was looked at
pub turn-looked_at : (minds : Minds) (seed : ℕ) (base : World) (guess : ℕ) (now : World) (place t : ℕ) → GoesOn base now t → Holds minds base guess now place t →
    IsLookedAt (look_of minds seed base guess t) now.cells (turn minds seed now place t)
unfolding look_of
turn-looked_at minds seed base guess now place t goes holds =
    let both = turn_both minds seed base guess now place t goes holds in
    let step = look_step minds seed base guess now place t goes holds in
    let after : Cells = (turn minds seed base guess t).cells in
    record {
      drew = sym both.drew;
      killed = sym both.killed;
      written = claimed_all (writes minds base t) after (turn minds seed now place t).cells (λ r. (step.each r).named);
      others = λ p k none. (step.each p).now_others k (unclaimed (writes minds base t) after p k none);
      rocks = λ p. (step.each p).same_kind;
      hills = λ p. (step.each p).same_hill;
    }

-- a later world continues from the base
pub later-GoesOn : (minds : Minds) (base now : World) (t : ℕ) → IsLater minds base now → GoesOn base now t
later-GoesOn minds base now t later = record { width = later.width; height = later.height; rocks = later.rocks; hills = later.hills; dead = later.dead t; once = later.valid.once t }
