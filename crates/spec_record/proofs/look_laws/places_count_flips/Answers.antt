use Rattle.spec_record.proofs.PlacesLemmas.{after_rounds-place, after_turns-place}
use Rattle.spec_record.proofs.look_laws.places_count_flips.Goals as goal

pub returns : goal.returns
returns c = record { turns = after_turns-place; rounds = after_rounds-place }
