use Rattle.std.proofs.Common.{sym, subst}
use Rattle.command_words.specs.Command.{AreWithin, plain}
use Rattle.command_words.specs.Words.{plain_dumps}
use Rattle.ant_commands.specs.Setups.{plain_told}
use Rattle.ant_commands.proofs.SetupLemmas.{words-within}
use Rattle.ant_commands.proofs.commands.setups.RunWords.of.Goals as goal

pub returns-clause-within : goal.returns-clause-within
returns-clause-within c = words-within (plain c.args.asked) c.requires.within (plain_told c.of.result) c.of.ensures.options (plain_dumps c.dumps.result)
    (subst AreWithin (sym c.dumps.ensures) c.requires.within.dumps) c.option.result c.option-2.result c.option.ensures.is c.option-2.ensures.is c.has.result c.has-2.result
