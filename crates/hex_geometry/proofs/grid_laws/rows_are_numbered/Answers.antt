-- positions and numbers lead to each other
use Rattle.hex_geometry.proofs.RowLemmas.{IsBefore-index_of, index_of-inside, index_of-pos_at, pos_at-index_of, pos_at-inside}
use Rattle.hex_geometry.proofs.grid_laws.rows_are_numbered.Goals as goal

pub returns : goal.returns
returns c = record {
  position = pos_at-index_of;
  number = index_of-pos_at;
  below = index_of-inside;
  inside = pos_at-inside;
  in_order = IsBefore-index_of;
}
