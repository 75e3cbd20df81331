use Rattle.game_reports.proofs.DumpedLines.{lines_are_of_dumps}
use Rattle.game_reports.proofs.laws.lines_are_of_dumps.Goals as goal

pub returns : goal.returns
returns c = lines_are_of_dumps
