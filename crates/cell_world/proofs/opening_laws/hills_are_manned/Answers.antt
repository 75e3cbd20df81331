-- what and who is where at the start
use Rattle.cell_world.proofs.OpeningLaws.{opening-alive, opening-manned, opening-new, opening-place, opening-unmarked}
use Rattle.cell_world.proofs.OpeningValid.{cell_in-opening, cell_in-opening_right}
use Rattle.cell_world.proofs.opening_laws.hills_are_manned.Goals as goal

pub returns : goal.returns
returns c = record {
  cell = cell_in-opening;
  beyond = cell_in-opening_right;
  manned = opening-manned;
  new = opening-new;
  place = opening-place;
  alive = opening-alive;
  unmarked = opening-unmarked;
}
