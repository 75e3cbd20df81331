-- the next name differs from the others, so it is put last
use Rattle.std.proofs.Common.{◌∙◌, ap}
use Rattle.tournament.specs.Names.{with_name}
use Rattle.ant_commands.proofs.Cups.{named_more}
use Rattle.ant_commands.proofs.commands.cup.names_of.Goals as goal

pub loop-word-preserved : goal.loop-word-preserved
loop-word-preserved c =
    named_more c.args.words.now c.loop-word.word-index c.word-item.result c.loop-word.names c.add.new.self c.requires c.loop-word-test.true c.word-item.is c.loop-word.invariant
    (c.in_ok-add.ensures.names ∙ ap (with_name c.loop-word.names) c.as_str.ensures.value)
