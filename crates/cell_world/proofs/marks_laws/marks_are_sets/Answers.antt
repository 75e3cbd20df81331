-- each marker is a bit
use Rattle.cell_world.proofs.MarksLemmas.{IsOfSix-with, IsOfSix-without, has_any_mark-one, has_mark-empty, has_mark-six, has_mark-with_other, has_mark-with_same, has_mark-without_other, has_mark-without_same, same_marks}
use Rattle.cell_world.proofs.marks_laws.marks_are_sets.Goals as goal

pub returns : goal.returns
returns c = record {
  empty = has_mark-empty;
  six = has_mark-six;
  gained = has_mark-with_same;
  beside = λ marks i j known. has_mark-with_other marks i j;
  lost = has_mark-without_same;
  kept = has_mark-without_other;
  with_six = IsOfSix-with;
  without_six = λ marks i known. IsOfSix-without marks i;
  one = same_marks;
  any = has_any_mark-one;
}
