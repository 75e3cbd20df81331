use Rattle.std.proofs.lemmas.Bool.{eqb-true, eq-eqb}
use Rattle.cell_world.proofs.cell.Cell.alike.Goals as goal

pub returns-in-Who : goal.returns-in-Who
returns-in-Who c = rw c.in-Who.is c.same_who.ensures

pub returns-in-Mind : goal.returns-in-Mind
returns-in-Mind c = rw c.in-Mind.is c.same_mind.ensures

pub returns-in-Load : goal.returns-in-Load
returns-in-Load c = rw c.in-Load.is c.same_load.ensures

pub returns-in-Food : goal.returns-in-Food
returns-in-Food c = rw c.in-Food.is (eqb-true _ _, eq-eqb _ _)

pub returns-in-RedMarks : goal.returns-in-RedMarks
returns-in-RedMarks c = rw c.in-RedMarks.is c.same_marks.ensures

pub returns-in-BlackMarks : goal.returns-in-BlackMarks
returns-in-BlackMarks c = rw c.in-BlackMarks.is c.same_marks-in-BlackMarks.ensures
