-- The names of a body.
use Rattle.std.specs.Prelude.{ℕ, List, Option, bytes_eq}
use Rattle.std.specs.Borrow.{Bor}
use Rattle.std.specs.Map.{lookup}

-- the meaning of a name
abbrev pub known_as : {A : Type 0} → List (Bor (List ℕ) × A) → List ℕ → Option A
known_as entries name = lookup (λ (key : Bor (List ℕ)). bytes_eq name key.now) entries
