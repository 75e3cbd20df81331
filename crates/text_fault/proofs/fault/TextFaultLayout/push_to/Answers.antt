-- this fault says what its variant does
use Rattle.text_fault.proofs.fault.TextFaultLayout.push_to.Goals as goal

pub returns-in-AlreadyAt : goal.returns-in-AlreadyAt
returns-in-AlreadyAt g c = rw c.in-AlreadyAt.is c.push_to-in-AlreadyAt.ensures
