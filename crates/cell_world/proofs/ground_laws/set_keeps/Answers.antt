-- what every world keeps, and the places, after a change
use Rattle.cell_world.proofs.Places.{place_in-put_gone, place_in-put_new, place_in-put_other}
use Rattle.cell_world.proofs.ValidLemmas.{Valid-put}
use Rattle.cell_world.proofs.ground_laws.set_keeps.Goals as goal

pub returns : goal.returns
returns c = record { valid = Valid-put; came = place_in-put_new; gone = place_in-put_gone; stayed = place_in-put_other }
