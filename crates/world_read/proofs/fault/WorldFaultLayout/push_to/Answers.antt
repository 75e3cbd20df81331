-- three of the faults say what their variants do
use Rattle.world_read.proofs.fault.WorldFaultLayout.push_to.Goals as goal

pub returns-in-BadCell : goal.returns-in-BadCell
returns-in-BadCell g c = rw c.in-BadCell.is c.push_to-in-BadCell.ensures

pub returns-in-OpenRim : goal.returns-in-OpenRim
returns-in-OpenRim g c = rw c.in-OpenRim.is c.push_to-in-OpenRim.ensures

pub returns-in-TooManyAnts : goal.returns-in-TooManyAnts
returns-in-TooManyAnts g c = rw c.in-TooManyAnts.is c.push_to-in-TooManyAnts.ensures
