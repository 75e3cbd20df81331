-- these faults say what their variants do
use Rattle.ant_asm.proofs.fault.AsmFaultLayout.push_to.Goals as goal

pub returns-in-Misplaced : goal.returns-in-Misplaced
returns-in-Misplaced g c = rw c.in-Misplaced.is c.push_to-in-Misplaced.ensures

pub returns-in-NoBlock : goal.returns-in-NoBlock
returns-in-NoBlock g c = rw c.in-NoBlock.is c.push_to-in-NoBlock.ensures
