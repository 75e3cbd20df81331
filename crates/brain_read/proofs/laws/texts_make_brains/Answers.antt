use Rattle.brain_read.proofs.SoundnessLemmas.{brain_of}
use Rattle.brain_read.proofs.laws.texts_make_brains.Goals as goal

pub returns : goal.returns
returns c = brain_of
