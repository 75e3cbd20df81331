-- these faults say what their variants do
use Rattle.match_save.proofs.fault.SaveFaultLayout.push_to.Goals as goal

pub returns-in-BadLine : goal.returns-in-BadLine
returns-in-BadLine g c = rw c.in-BadLine.is c.push_to.ensures

pub returns-in-BadState : goal.returns-in-BadState
returns-in-BadState g c = rw c.in-BadState.is c.push_to-in-BadState.ensures
