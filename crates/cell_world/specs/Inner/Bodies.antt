-- The bodies of all ants, by id, when the ant of one cell changes.
use Rattle.std.specs.Prelude.{◌≡◌, ℕ, ◌<◌, if◌then◌else◌, ◌==◌, List, length, slice_index_or, Option, Some, None}
use Rattle.hex_geometry.specs.declared.position.Pos.{Pos}
use Rattle.cell_world.specs.declared.ant.Ant.{Ant}
use Rattle.cell_world.specs.declared.body.Body.{Body}
use Rattle.cell_world.specs.Inner.Stored.{body_at}

-- the ant, if there is one, has an id below this number
abbrev pub IsKnown : ℕ → Option Ant → Type 0
IsKnown ids None = Unit {0}
IsKnown ids (Some ant) = ant.id < ids

-- the id, if there is one, is below this number
abbrev pub IsMadeBody : ℕ → Option ℕ → Type 0
IsMadeBody ids None = Unit {0}
IsMadeBody ids (Some t) = t < ids

-- the body of id t after the ant that was on the cell is gone
abbrev pub gone : ℕ → Option ℕ → Body → Body
gone t None body = body
gone t (Some before) body = if before == t then record body { place = None } else body

-- the body of id t after this ant came to the cell at p
abbrev pub came : ℕ → Pos → Option Ant → Body → Body
came t p None body = body
came t p (Some after) body = if after.id == t then body_at p after else body

-- in the new bodies the ant with the first id is nowhere, the other ant is at p, and the rest are unchanged
pub record Moved (old new : List Body) (p : Pos) (before : Option ℕ) (after : Option Ant) : Type 0 where
  pub all_ids : length new ≡ length old
  pub each : (t : ℕ) (none : Body) → t < length old
      → slice_index_or new t none ≡ came t p after (gone t before (slice_index_or old t none))
