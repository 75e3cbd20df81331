-- The writes of a look that holds may be set, one after another, and make the turn.
use Rattle.std.proofs.Common.{◌≡◌, ◌≢◌, ℕ, ◌≤◌, false, List, [], ◌∷◌, sym, ◌∙◌, subst, arith}
use Rattle.std.specs.List.{AllByRecursion}
use Rattle.list_lemmas.proofs.AllElements.{AllByRecursion-weaker}
use Rattle.hex_geometry.specs.declared.position.Pos.{Pos}
use Rattle.cell_world.specs.Parts.{no_parts}
use Rattle.cell_world.specs.Valid.{Valid}
use Rattle.cell_world.specs.World.{Cells, World, with_cells}
use Rattle.cell_world.proofs.Patches.{patched-only}
use Rattle.ant_turn.specs.Minds.{AreSound, Fits, Minds}
use Rattle.ant_turn.specs.Turn.{turn}
use Rattle.ant_turn.proofs.KeptByTurns.{Keeps-turn}
use Rattle.spec_record.specs.Claims.{Claim, EachOnce, Sighting, seen_place, with_cells_at}
use Rattle.spec_record.specs.Holds.{Holds}
use Rattle.spec_record.specs.Locality.{GoesOn}
use Rattle.spec_record.specs.Look.{look_of}
use Rattle.spec_record.specs.Patches.{CanSetWrites, after_heavier, after_lighter, parts_at}
use Rattle.spec_record.specs.Writes.{writes}
use Rattle.spec_record.proofs.ClaimLemmas.{own_parts, parts_at-fresh, seen_positions-claims, positions}
use Rattle.spec_record.proofs.Patched.{look_step, patched-none, written_once}
use Rattle.spec_record.proofs.RaisedWeights.{RaisesOne, turn-raises}
use Rattle.spec_record.proofs.SettledWrites.{CanSetWrites-all, Makes, Settles, after_all}
use Rattle.spec_record.proofs.Steps.{CellStep, InStep}
use Rattle.spec_record.proofs.WritesClear.{writes-clear}

-- what holds of claims holds of them with their cells
pub all_with_cells : (P : Sighting → Type 0) (after : Cells) (claims : List Claim) → AllByRecursion (λ c. P (c.at, c.parts, after c.at)) claims → AllByRecursion P (with_cells_at after claims)
all_with_cells P after [] all = tt
all_with_cells P after (c ∷ claims) all = (all.0, all_with_cells P after claims all.1)

-- of their positions too
pub all_at_places : (P : Pos → Type 0) (after : Cells) (claims : List Claim) → AllByRecursion P (positions claims) → AllByRecursion (λ write. P (seen_place write)) (with_cells_at after claims)
all_at_places P after [] all = tt
all_at_places P after (c ∷ claims) all = (all.0, all_at_places P after claims all.1)

-- a step of two worlds makes its claimed cells by patches
step-makes : (claims : List Claim) (v w v' w' : Cells) → InStep claims v w v' w' → EachOnce (positions claims) → AllByRecursion (Makes w w') (with_cells_at v' claims)
step-makes claims v w v' w' step once =
    all_with_cells (Makes w w') v' claims
    (AllByRecursion-weaker (λ c. parts_at claims c.at ≡ c.parts) (λ c. Makes w w' (c.at, c.parts, v' c.at)) claims (own_parts claims once) (λ c own.
    let at : CellStep c.parts (v c.at) (w c.at) (v' c.at) (w' c.at) = subst (λ parts. CellStep parts (v c.at) (w c.at) (v' c.at) (w' c.at)) own (step.each c.at) in
    record {
      can_patch = at.can;
      makes = sym (patched-only (w c.at) (v' c.at) c.parts at.can (w' c.at) (record { named = λ k named. sym (at.named k named); others = at.now_others; same_kind = at.same_kind; same_hill = at.same_hill }));
    }))

-- and leaves all others
step-others : (claims : List Claim) (v w v' w' : Cells) → InStep claims v w v' w' → (p : Pos) → AllByRecursion (λ r. r ≢ p) (positions claims) → w' p ≡ w p
step-others claims v w v' w' step p fresh =
    let at : CellStep no_parts (v p) (w p) (v' p) (w' p) = subst (λ parts. CellStep parts (v p) (w p) (v' p) (w' p)) (parts_at-fresh claims p fresh) (step.each p) in
    patched-only (w p) (v' p) no_parts at.can (w' p) (record { named = λ k named. sym (at.named k named); others = at.now_others; same_kind = at.same_kind; same_hill = at.same_hill })
    ∙ patched-none (w p) (v' p)

module _ (minds : Minds) (seed : ℕ) (base : World) (guess : ℕ) (now : World) (place t : ℕ) (sound : AreSound minds) (valid_base : Valid base) (valid : Valid now) (fits : Fits now minds) (goes : GoesOn base now t) (holds : Holds minds base guess now place t) where
  -- the cell that may get heavier
  pub raised : RaisesOne now.cells (turn minds seed now place t).cells
  raised = turn-raises minds seed now place t sound.corpse

  pub settles : Settles now (turn minds seed now place t).cells (look_of minds seed base guess t).writes raised.q
  unfolding look_of
  settles =
      let claims : List Claim = writes minds base t in
      let after : Cells = (turn minds seed base guess t).cells in
      let step : InStep claims base.cells now.cells after (turn minds seed now place t).cells = look_step minds seed base guess now place t goes holds in
      let once : EachOnce (positions claims) = written_once minds base t in
      record {
        valid = valid;
        still = (Keeps-turn minds seed now place t sound valid fits).valid;
        once = subst EachOnce (seen_positions-claims after claims) once;
        made = step-makes claims base.cells now.cells after (turn minds seed now place t).cells step once;
        clear = all_at_places (λ q. (now.cells q).rocky ≡ false) after claims (AllByRecursion-weaker (λ q. (base.cells q).rocky ≡ false) (λ q. (now.cells q).rocky ≡ false) (positions claims) (writes-clear minds base t valid_base) (λ q clear. goes.rocks q ∙ clear));
        rocks = λ p. (step.each p).same_kind;
        hills = λ p. (step.each p).same_hill;
        others = λ p fresh. step-others claims base.cells now.cells after (turn minds seed now place t).cells step p (subst (AllByRecursion (λ r. r ≢ p)) (sym (seen_positions-claims after claims)) fresh);
        replaced = raised.others;
        raised = raised.own;
      }

  -- the writes of a look that holds may be set: first those that don't raise their cell's weight, then the others
  pub look-CanSetWrites : (room : ℕ) → 1 ≤ room → CanSetWrites now room (look_of minds seed base guess t).writes
  look-CanSetWrites room left = CanSetWrites-all settles room left

  -- and that makes the turn
  pub look-after : after_heavier (after_lighter now (look_of minds seed base guess t).writes) (look_of minds seed base guess t).writes ≡ with_cells now (turn minds seed now place t).cells
  look-after = after_all settles 1 (omega arith)
