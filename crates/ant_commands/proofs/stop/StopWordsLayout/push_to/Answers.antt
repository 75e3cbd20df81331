-- each stop's words are those of its variant
use Rattle.ant_commands.proofs.stop.StopWordsLayout.push_to.Goals as goal

pub returns-in-Write : goal.returns-in-Write
returns-in-Write g c = rw c.in-Write.is c.push_to-in-Write.ensures

pub returns-in-NoRoom : goal.returns-in-NoRoom
returns-in-NoRoom g c = rw c.in-NoRoom.is c.push_to-in-NoRoom.ensures

pub returns-in-Memory : goal.returns-in-Memory
returns-in-Memory g c = rw c.in-Memory.is c.push_to-in-Memory.ensures
