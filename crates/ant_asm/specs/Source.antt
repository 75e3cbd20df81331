-- The labels and the states of a labelled program (this project's own).
use Rattle.std.specs.Prelude.{ℕ, List}
use Rattle.ant_asm.specs.Labels.{AreLabelsOf, LabelState}
use Rattle.ant_asm.specs.StateLines.{AreStateLinesOf, StateLine}

-- what is read of a labelled program: each label with the state to which it leads, and for each state the line of its
-- instruction
pub record ReadSource : Type 0 where
  pub labels : List LabelState
  pub lines : List StateLine

-- these are the labels and lines of the text's program
abbrev pub IsSourceOf : List ℕ → ReadSource → Type 0
IsSourceOf text source = AreLabelsOf text source.labels × AreStateLinesOf text source.lines
