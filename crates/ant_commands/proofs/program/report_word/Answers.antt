-- the line was pushed
use Rattle.ant_commands.specs.FaultLines.{word_line}
use Rattle.ant_commands.proofs.program.report_word.Goals as goal

pub returns-clause-reports : goal.returns-clause-reports
unfolding word_line
returns-clause-reports g c = (c.push_to.result, c.push_to.ensures)
