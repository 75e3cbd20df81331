-- The surroundings of the program (this project's own).
use Rattle.ant_base.specs.Shelf.{ShelfState}
use Rattle.ant_base.specs.Sink.{SinkState}

-- the shelf of its files, its output, and where its errors are written, which is standard error for `main`
pub record Outside : Type 0 where
  pub shelf : ShelfState
  pub out : SinkState
  pub err : SinkState

-- the outside with its three parts in these states
abbrev pub outside_of : ShelfState → SinkState → SinkState → Outside
outside_of shelf out err = record { shelf = shelf; out = out; err = err }
