-- the line was pushed
use Rattle.ant_commands.proofs.program.report_stop.Goals as goal

pub returns-clause-reports : goal.returns-clause-reports
returns-clause-reports g c = (c.push_to.result, c.push_to.ensures)
