-- a generator's fault says what its variant does
use Rattle.ants_c.proofs.refusal.CallFaultLayout.push_to.Goals as goal

pub returns-in-NoRoom : goal.returns-in-NoRoom
returns-in-NoRoom g c = rw c.in-NoRoom.is c.push_to-in-NoRoom.ensures
