-- the program ends as its command did, and its line was pushed
use Rattle.std.proofs.Common.{refl}
use Rattle.command_words.specs.Far.{words_without_far}
use Rattle.command_words.specs.Words.{texts}
use Rattle.ant_commands.specs.Outside.{outside_of}
use Rattle.ant_commands.specs.FaultLines.{ending_status, plain_ending}
use Rattle.ant_commands.proofs.Verdicts.{promised_run}
use Rattle.ant_commands.proofs.program.run_alone.Goals as goal

pub returns : goal.returns
unfolding promised_run
returns g c =
    let ending = plain_ending c.carry_out_alone-ended.result in
    record {
      promised = promised_run (words_without_far (texts c.args.words.now)) (outside_of (g.S.Shelf.state c.args.shelf.now) (g.K.Sink.state c.args.out.now) (g.E.Sink.state c.args.err.now))
          (outside_of (g.S.Shelf.state c.carry_out_alone-ended.new.shelf) (g.K.Sink.state c.carry_out_alone-ended.new.out) (g.E.Sink.state c.report.new.err)) (ending_status ending)
          (record {
            fetches = c.carry_out_alone-ended.ensures.fetches;
            fetched = c.carry_out_alone-ended.ensures.fetched;
            ending = ending;
            ends = c.carry_out_alone-ended.ensures.ends _ _;
            reports = c.report.ensures.reports;
            is_status = refl;
          });
      is_ending = refl;
    }
