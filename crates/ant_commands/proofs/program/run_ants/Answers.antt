-- the program ends as its command did, and its line was pushed; or it ends as the run without workers that stay ready
-- did
use Rattle.std.proofs.Common.{ℕ, List, sym, ◌∙◌, subst}
use Rattle.command_words.specs.Words.{texts}
use Rattle.ant_commands.specs.Outside.{outside_of}
use Rattle.ant_commands.specs.FaultLines.{plain_ending}
use Rattle.ant_commands.specs.Run.{EndsAsPromised}
use Rattle.ant_commands.proofs.Verdicts.{promised_run}
use Rattle.command_words.proofs.FarWords.{refuses_far}
use Rattle.ant_commands.proofs.program.run_ants.Goals as goal

pub returns-then-not-is_far_run : goal.returns-then-not-is_far_run
returns-then-not-is_far_run g c =
    subst
    (λ (words : List (List ℕ)). EndsAsPromised words (outside_of (g.S.Shelf.state c.args.shelf.now) (g.K.Sink.state c.args.out.now) (g.E.Sink.state c.args.err.now))
    (outside_of (g.S.Shelf.state c.run_here.new.shelf) (g.K.Sink.state c.run_here.new.out) (g.E.Sink.state c.run_here.new.err)) c.run_here.result)
    (refuses_far.others (texts c.args.words.now) (sym c.is_far_run.ensures ∙ c.if-not-is_far_run.true)) c.run_here.ensures

pub returns : goal.returns
returns g c =
    promised_run (texts c.args.words.now) (outside_of (g.S.Shelf.state c.args.shelf.now) (g.K.Sink.state c.args.out.now) (g.E.Sink.state c.args.err.now))
    (outside_of (g.S.Shelf.state c.carry_out_far-ended.new.shelf) (g.K.Sink.state c.carry_out_far-ended.new.out) (g.E.Sink.state c.report.new.err)) c.report.result
    (record {
      fetches = c.carry_out_far-ended.ensures.fetches;
      fetched = c.carry_out_far-ended.ensures.fetched;
      ending = plain_ending c.carry_out_far-ended.result;
      ends = c.carry_out_far-ended.ensures.ends _ _;
      reports = c.report.ensures.reports;
      is_status = c.report.ensures.status;
    })
