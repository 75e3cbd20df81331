-- the worlds, and then the brains
use Rattle.std.proofs.Common.{map}
use Rattle.command_words.specs.Words.{texts}
use Rattle.ant_commands.specs.declared.commands.cup.Roster.{Roster}
use Rattle.ant_commands.specs.Files.FileContent.{BrainContent, WorldContent}
use Rattle.ant_commands.specs.Inner.Reading.ReadOutcome.{Contents}
use Rattle.ant_commands.specs.Outputs.{brain_file, cup_contents, world_file}
use Rattle.ant_commands.proofs.Readings.{reads_then, stopped_first, stopped_later}
use Rattle.ant_commands.proofs.commands.cup.roster_of.Goals as goal

pub returns-in_err-worlds : goal.returns-in_err-worlds
returns-in_err-worlds g c =
    stopped_first (λ (roster : Roster). cup_contents roster.worlds.items roster.players.items) (g.S.Shelf.state c.args.shelf.now) (g.S.Shelf.state c.read_files.new.shelf)
    (map world_file (texts c.args.entry.worlds.now)) (map brain_file (texts c.args.entry.brains.now)) c.from_residual.result c.in_err-worlds.field-0.0 c.from_residual.ensures.1 c.in_err-worlds.ensures

pub returns-in_err-players : goal.returns-in_err-players
returns-in_err-players g c =
    stopped_later (λ (roster : Roster). cup_contents roster.worlds.items roster.players.items) (g.S.Shelf.state c.args.shelf.now) (g.S.Shelf.state c.read_files.new.shelf) (g.S.Shelf.state c.read_files-2.new.shelf)
    (map world_file (texts c.args.entry.worlds.now)) (map brain_file (texts c.args.entry.brains.now)) (map WorldContent c.in_ok-worlds.worlds.items) c.from_residual-in_err-players.result c.in_err-players.field-0.0
    c.from_residual-in_err-players.ensures.1 c.in_ok-worlds.ensures c.in_err-players.ensures

pub returns : goal.returns
returns g c =
    reads_then (g.S.Shelf.state c.args.shelf.now) (g.S.Shelf.state c.read_files.new.shelf) (g.S.Shelf.state c.read_files-2.new.shelf) (map world_file (texts c.args.entry.worlds.now)) (map brain_file (texts c.args.entry.brains.now))
    (map WorldContent c.in_ok-worlds.worlds.items) (Contents (map BrainContent c.in_ok-players.players.items)) c.in_ok-worlds.ensures c.in_ok-players.ensures
