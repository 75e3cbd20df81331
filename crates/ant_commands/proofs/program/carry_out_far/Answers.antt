-- the numbers and the names of a command are within their limits; words that are none were refused
use Rattle.std.proofs.Common.{sym, subst, rules}
use Rattle.command_words.specs.Command.{plain}
use Rattle.command_words.specs.Words.{texts}
use Rattle.command_words.proofs.WordLaws.{within_limits}
use Rattle.ant_commands.specs.Inner.Reading.{CarriesOutWords, ending_of}
use Rattle.ant_commands.proofs.Readings.{carries_no_words, carries_words}
use Rattle.ant_commands.proofs.program.carry_out_far.Goals as goal

pub returns-in-Err : goal.returns-in-Err
returns-in-Err g c = carries_no_words (texts c.args.words.now) c.in-Err.refused.word (g.S.Shelf.state c.args.shelf.now) (g.K.Sink.state c.args.out.now) c.in-Err.ensures.refused

pub of-requires-clause-within : goal.of-requires-clause-within
of-requires-clause-within g c = within_limits (texts c.args.words.now) (plain c.in-Ok.asked) c.in-Ok.ensures.command

pub carry_out-requires-clause-within : goal.carry_out-requires-clause-within
carry_out-requires-clause-within g c κs within = within_limits (texts c.args.words.now) (plain c.in-Ok.asked) c.in-Ok.ensures.command

pub returns-in_default : goal.returns-in_default
returns-in_default g c =
    subst (CarriesOutWords (texts c.args.words.now) (g.S.Shelf.state c.args.shelf.now) (g.S.Shelf.state c.carry_out.new.shelf) (g.K.Sink.state c.args.out.now) (g.K.Sink.state c.carry_out.new.out)) (sym c.after-in_default.ensures)
    (carries_words (texts c.args.words.now) (plain c.in-Ok.asked) (g.S.Shelf.state c.args.shelf.now) (g.S.Shelf.state c.carry_out.new.shelf) (g.K.Sink.state c.args.out.now) (g.K.Sink.state c.carry_out.new.out)
    (ending_of c.carry_out.result) c.in-Ok.ensures.command c.carry_out.ensures)

pub returns-in-Run : goal.returns-in-Run
returns-in-Run g c =
    subst (CarriesOutWords (texts c.args.words.now) (g.S.Shelf.state c.args.shelf.now) (g.S.Shelf.state c.run_far.new.shelf) (g.K.Sink.state c.args.out.now) (g.K.Sink.state c.run_far.new.out)) (sym c.after.ensures)
    (carries_words (texts c.args.words.now) (plain c.in-Ok.asked) (g.S.Shelf.state c.args.shelf.now) (g.S.Shelf.state c.run_far.new.shelf) (g.K.Sink.state c.args.out.now) (g.K.Sink.state c.run_far.new.out)
    (ending_of c.run_far.result) c.in-Ok.ensures.command (search rules))
