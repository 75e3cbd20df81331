-- The text of a comparison, and of the way to a difference (this project's own).
use Rattle.std.specs.Prelude.{ℕ, Bool, true, false, List, codes, decimal, flat_map}
use Rattle.ant_base.specs.Layout.{◌+++◌}
use Rattle.brain_read.specs.Canonical.{instruction_text, instruction_words}
use Rattle.brain_same.specs.declared.comparison.Comparison.{Comparison}
use Rattle.brain_same.specs.declared.comparison.Comparison.TheVariants.{Same, Different}
use Rattle.brain_same.specs.declared.comparison.Found.{Found}
use Rattle.brain_same.specs.declared.way.Step.{Step}

-- a state, a colon and the canonical line of its instruction
unfoldable pub found_text : Found → List ℕ
found_text found = decimal found.state +++ codes ": " +++ instruction_text found.instruction

-- `same`; or after how many answers the brains differ, and the state of each at that point with its instruction
unfoldable pub comparison_text : Comparison → List ℕ
comparison_text Same = codes "same\n"
comparison_text (Different answers first second) =
    codes "different after " +++ decimal answers +++ codes " answers\nfirst " +++ found_text first +++ codes "second "
    +++ found_text second

-- a state, a colon and the words of its instruction
unfoldable pub found_words : Found → List ℕ
found_words found = decimal found.state +++ codes ": " +++ instruction_words found.instruction

-- an answer
unfoldable pub answer_text : Bool → List ℕ
answer_text true = codes "met"
answer_text false = codes "unmet"

-- the line of an answer on the way: the states before it, and the answer
unfoldable pub step_text : Step → List ℕ
step_text step = codes "first " +++ found_words step.first +++ codes ", second " +++ found_words step.second +++ codes ": " +++ answer_text step.met +++ codes "\n"

-- the text of a comparison, with a line for each answer on the way after the line of their number
unfoldable pub way_text : Comparison → List Step → List ℕ
way_text Same steps = codes "same\n"
way_text (Different answers first second) steps =
    codes "different after " +++ decimal answers +++ codes " answers\n"
    +++ flat_map step_text steps +++ codes "first " +++ found_text first +++ codes "second " +++ found_text second
