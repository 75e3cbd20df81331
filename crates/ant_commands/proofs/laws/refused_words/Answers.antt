use Rattle.ant_commands.proofs.RunPromises.{refused_words}
use Rattle.ant_commands.proofs.laws.refused_words.Goals as goal

pub returns : goal.returns
returns c = refused_words
