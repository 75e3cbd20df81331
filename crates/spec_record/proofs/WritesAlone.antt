-- A turn changes no part but those that it writes.
use Rattle.std.proofs.Common.{◌≡◌, ℕ, false, List, [], ◌∷◌, refl}
use Rattle.std.specs.List.{AllByRecursion}
use Rattle.cell_world.specs.Parts.{Agree, has_part}
use Rattle.cell_world.specs.Valid.{Valid}
use Rattle.cell_world.specs.World.{Cells, World}
use Rattle.ant_turn.specs.Minds.{Minds}
use Rattle.spec_record.specs.Claims.{Claim, seen_parts, seen_place}
use Rattle.spec_record.specs.Holds.{Holds}
use Rattle.spec_record.specs.Locality.{GoesOn, WritesAlone}
use Rattle.spec_record.specs.Reads.{reads}
use Rattle.spec_record.specs.Writes.{writes}
use Rattle.spec_record.proofs.Patched.{look_step, unclaimed}
use Rattle.spec_record.proofs.SettledTurns.{all_with_cells}

-- a world agrees with itself
all_agree : (v : Cells) (claims : List Claim) → AllByRecursion (λ c. Agree c.parts (v c.at) (v c.at)) claims
all_agree v [] = tt
all_agree v (c ∷ claims) = (λ k named. refl, all_agree v claims)

-- a look at a turn holds in the world itself
pub Holds-itself : (minds : Minds) (w : World) (place t : ℕ) → Holds minds w place w place t
Holds-itself minds w place t = record { unchanged = all_agree w.cells (reads minds w t); guessed = λ _. refl }

-- and a world continues from itself
pub GoesOn-itself : (w : World) (t : ℕ) → Valid w → GoesOn w w t
GoesOn-itself w t valid = record { width = refl; height = refl; rocks = λ p. refl; hills = λ p. refl; dead = λ dead. dead; once = valid.once t }

-- so a turn changes no part but those that it writes
pub turn-WritesAlone : (minds : Minds) (seed : ℕ) (w : World) (place t : ℕ) → Valid w → WritesAlone minds seed w place t
turn-WritesAlone minds seed w place t valid =
    let step = look_step minds seed w place w place t (GoesOn-itself w t valid) (Holds-itself minds w place t) in
    record {
      parts = λ p k none. (step.each p).now_others k (unclaimed (writes minds w t) w.cells p k (all_with_cells (λ write. seen_place write ≡ p → has_part (seen_parts write) k ≡ false) w.cells (writes minds w t) none));
      rocks = λ p. (step.each p).same_kind;
      hills = λ p. (step.each p).same_hill;
    }
