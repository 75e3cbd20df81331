-- Bodies of ants, of which those that rest are distinguished from the others.
use Rattle.std.specs.Prelude.{◌≡◌, ℕ, ◌-◌, Bool, nat_eq, List, length}
use Rattle.cell_world.specs.declared.body.Body.{Body}
use Rattle.cell_world.specs.Inner.CatchUp.{body_of}
use Rattle.cell_world.specs.Resting.{ids_where, one_less}

-- the body with this resting count
abbrev pub with_resting : Body → ℕ → Body
with_resting body resting = record body { resting = resting }

-- whether the body with this id doesn't rest
abbrev pub acts_by : List Body → ℕ → Bool
acts_by bodies t = nat_eq (body_of bodies t).resting 0

-- the ids from `from` to below `to` were distinguished: each of them has one turn less to rest, and those that don't
-- rest are listed
pub record ToldApart (old new : List Body) (from to : ℕ) (listed : List ℕ) : Type 0 where
  pub all_ids : length new ≡ length old
  pub each : (t : ℕ) → body_of new t ≡ with_resting (body_of old t) (one_less from to t (body_of old t).resting)
  pub acting : listed ≡ ids_where (acts_by old) from (to - from)
