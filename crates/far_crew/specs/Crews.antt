-- What a contract sees of a crew whose workers stay ready (this project's own).
use Rattle.std.specs.Prelude.{◌≡◌, ℕ, []}
use Rattle.far_crew.specs.declared.crew.FarCrew.{FarCrew}

-- how many turns a crew has played
abbrev pub turns_of : {R G : Type 0} → FarCrew R G → ℕ
turns_of crew = crew.turns

-- a crew of the given number of workers none of which was started: no worker is used, the caller's thread announces its
-- looks by that number, and no turn was played yet
pub record IsUnstarted {R G : Type 0} (workers : ℕ) (crew : FarCrew R G) : Type 0 where
  pub lines : crew.lines.items ≡ []
  pub number : crew.caller.worker ≡ workers
  pub turns : turns_of crew ≡ 0
