-- the numbers and the names of a command are within their limits; words that are none were refused
use Rattle.std.proofs.Common.{sym, subst}
use Rattle.command_words.specs.Far.{words_without_far}
use Rattle.command_words.specs.Command.{plain}
use Rattle.command_words.specs.Words.{texts}
use Rattle.command_words.proofs.WordLaws.{within_limits}
use Rattle.ant_commands.specs.Inner.Reading.{CarriesOutWords, ending_of}
use Rattle.ant_commands.proofs.Readings.{carries_no_words, carries_words}
use Rattle.ant_commands.proofs.program.carry_out_alone.Goals as goal

pub dispatch-requires-clause-within : goal.dispatch-requires-clause-within
dispatch-requires-clause-within g c = within_limits (words_without_far (texts c.args.words.now)) (plain c.in-Ok.asked) c.in-Ok.ensures.command

pub returns-in-Ok : goal.returns-in-Ok
returns-in-Ok g c =
    subst (CarriesOutWords (words_without_far (texts c.args.words.now)) (g.S.Shelf.state c.args.shelf.now) (g.S.Shelf.state c.dispatch.new.shelf) (g.K.Sink.state c.args.out.now) (g.K.Sink.state c.dispatch.new.out)) (sym c.after.ensures)
    (carries_words (words_without_far (texts c.args.words.now)) (plain c.in-Ok.asked) (g.S.Shelf.state c.args.shelf.now) (g.S.Shelf.state c.dispatch.new.shelf) (g.K.Sink.state c.args.out.now) (g.K.Sink.state c.dispatch.new.out)
    (ending_of c.dispatch.result) c.in-Ok.ensures.command c.dispatch.ensures)

pub returns-in-Err : goal.returns-in-Err
returns-in-Err g c = carries_no_words (words_without_far (texts c.args.words.now)) c.in-Err.refused.word (g.S.Shelf.state c.args.shelf.now) (g.K.Sink.state c.args.out.now) c.in-Err.ensures.refused
