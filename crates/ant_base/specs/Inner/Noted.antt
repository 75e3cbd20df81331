-- A shelf in memory whose fetch is noted.
use Rattle.std.specs.Prelude.{[], ◌∷◌, ◌++◌}
use Rattle.ant_base.specs.Fetched.{Fetched}
use Rattle.ant_base.specs.MemShelf.{MemShelfState}

-- the state with this fetch last in its log
abbrev pub noted : MemShelfState → Fetched → MemShelfState
noted s fetch = record s { log = s.log ++ fetch ∷ [] }
