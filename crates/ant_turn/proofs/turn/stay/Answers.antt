-- the cell may be set, since it replaces the one there
use Rattle.cell_world.proofs.ValidLemmas.{CanSet-replaces}
use Rattle.ant_turn.proofs.turn.stay.Goals as goal

pub set-requires : goal.set-requires
set-requires g c = CanSet-replaces _ _ _ _ c.requires.valid c.requires.room c.requires.clear c.requires.replaces c.requires.six
