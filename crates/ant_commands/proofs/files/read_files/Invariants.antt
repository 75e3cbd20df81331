-- the files of the words so far were read, and the values are what they were read as
use Rattle.std.proofs.Common.{map, take}
use Rattle.command_words.specs.Words.{texts}
use Rattle.ant_commands.specs.Inner.Cups.{files_named}
use Rattle.ant_commands.specs.Inner.Reading.{ReadsFiles}
use Rattle.ant_commands.specs.Inner.Reading.ReadOutcome.{Contents}
use Rattle.ant_commands.proofs.files.read_files.Given as goal

abbrev pub invariant-loop-name : goal.invariant-loop-name
invariant-loop-name g l =
    ReadsFiles (g.S.Shelf.state l.initial.shelf) (g.S.Shelf.state l.shelf) (files_named g.T.FileText.kind (texts (take l.name-index l.names))) (Contents (map g.T.FileText.content l.values.items))
