use Rattle.brain_same.proofs.way.WayLayout.push_to.Goals as goal

pub returns-in-Different : goal.returns-in-Different
returns-in-Different g c = rw (c.in-Different.is, ← c.deref.ensures.value) c.push_difference.ensures
