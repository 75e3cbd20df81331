use Rattle.std.proofs.Common.{sym}
use Rattle.match_save.specs.Inner.Reading.{ant_or_end}
use Rattle.match_save.proofs.Words.{one_taken}
use Rattle.match_save.proofs.ants.next_ant.Goals as goal

pub returns-in-Some-clause-value : goal.returns-in-Some-clause-value
returns-in-Some-clause-value c =
    one_taken (ant_or_end c.args.width c.args.height c.args.least) c.args.lines.now c.take.new.self c.in_ok-line.line.now c.in-Some.next c.in_ok-line.ensures (sym c.in-Some.ensures.value)
