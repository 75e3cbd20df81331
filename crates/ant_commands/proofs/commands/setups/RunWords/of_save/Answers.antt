use Rattle.std.proofs.Common.{false}
use Rattle.command_words.specs.Command.{plain}
use Rattle.command_words.specs.Slots.DumpChoice.{NoDump}
use Rattle.ant_commands.specs.Setups.{plain_told}
use Rattle.ant_commands.proofs.SetupLemmas.{words-within}
use Rattle.ant_commands.proofs.commands.setups.RunWords.of_save.Goals as goal

pub returns-clause-within : goal.returns-clause-within
returns-clause-within c = words-within (plain c.args.asked) c.requires.within (plain_told c.of.result) c.of.ensures.options NoDump tt
    c.option.result c.option-2.result c.option.ensures.is c.option-2.ensures.is false false
