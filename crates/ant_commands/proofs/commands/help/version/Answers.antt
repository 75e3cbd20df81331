-- nothing was fetched, and the text was written, or a prefix of it
use Rattle.std.proofs.Common.{[], refl}
use Rattle.ant_commands.specs.Jobs.{version_job}
use Rattle.ant_commands.specs.Help.{version_text}
use Rattle.ant_commands.proofs.Readings.{carries_pushed, reads_none}
use Rattle.ant_commands.proofs.commands.help.version.Goals as goal

pub returns : goal.returns
returns g c =
    carries_pushed version_job (g.S.Shelf.state c.args.shelf.now) (g.S.Shelf.state c.args.shelf.now) (g.K.Sink.state c.args.out.now) (g.K.Sink.state c.push_version.new.out)
    [] c.after_push.result c.push_version.result c.after_push.ensures (reads_none (g.S.Shelf.state c.args.shelf.now))
    version_text (record { value = tt; read = refl; told = refl }) c.push_version.ensures
