-- two of the faults say what their variants do
use Rattle.brain_read.proofs.fault.BrainFaultLayout.push_to.Goals as goal

pub returns-in-Empty : goal.returns-in-Empty
returns-in-Empty g c = rw c.in-Empty.is c.push_to-in-Empty.ensures

pub returns-in-NoSuchState : goal.returns-in-NoSuchState
returns-in-NoSuchState g c = rw c.in-NoSuchState.is c.push_to-in-NoSuchState.ensures
