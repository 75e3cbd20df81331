use Rattle.std.proofs.Common.{refl}
use Rattle.word_table.proofs.Places.{word_place-only}
use Rattle.word_table.proofs.words.word_is_found.Goals as goal

pub returns : goal.returns
returns c = λ words i word distinct stands. word_place-only words word i distinct (record { word = word; stands = stands; same = refl })
