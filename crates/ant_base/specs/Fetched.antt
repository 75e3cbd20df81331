-- One fetch: the requested name and the answer (this project's own).
use Rattle.std.specs.Prelude.{ℕ, List, Result, Ok, Err, Vec}
use Rattle.ant_base.specs.declared.shelf.FetchFault.{FetchFault}

-- a name with its answer: the bytes, or why there are none
pub record Fetched : Type 0 where
  pub name : List ℕ
  pub answer : Result (List ℕ) FetchFault

-- the fetch of a name with this result
abbrev pub fetched : {A : Type 0} → List ℕ → Result (Vec ℕ A) FetchFault → Fetched
fetched name (Ok content) = record { name = name; answer = Ok content.items }
fetched name (Err fault) = record { name = name; answer = Err fault }
