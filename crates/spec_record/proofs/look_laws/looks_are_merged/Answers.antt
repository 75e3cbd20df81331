use Rattle.spec_record.proofs.ClaimLemmas.{AllPairs-positions, parts_at-merged}
use Rattle.spec_record.proofs.look_laws.looks_are_merged.Goals as goal

pub returns : goal.returns
returns c = λ claims. (AllPairs-positions claims, parts_at-merged claims)
