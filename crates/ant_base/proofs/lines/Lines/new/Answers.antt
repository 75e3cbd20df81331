use Rattle.ant_base.proofs.Linewise.{length-lines_of}
use Rattle.ant_base.proofs.lines.Lines.new.Goals as goal

pub returns-clause-few : goal.returns-clause-few
returns-clause-few c = length-lines_of c.args.text.now
