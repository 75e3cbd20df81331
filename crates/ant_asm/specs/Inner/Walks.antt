-- A walk over the bodies of a program, and what is left of it.
use Rattle.std.specs.Prelude.{◌≡◌, ℕ, suc, ◌+◌, ◌<◌, ◌≤◌, List, [], ◌∷◌, ◌++◌, length, drop, Option, Some, None, slice_get}
use Rattle.ant_asm.specs.declared.level.Level.{Level}
use Rattle.ant_asm.specs.declared.level.Spot.{Spot}
use Rattle.ant_asm.specs.declared.named.NamedBody.{NamedBody}
use Rattle.ant_asm.specs.declared.named.NamedLine.{NamedLine}
use Rattle.ant_asm.specs.declared.walk.Met.{Met}
use Rattle.ant_asm.specs.declared.walk.Met.TheVariants.{Nothing, Instruction, Body}
use Rattle.ant_asm.specs.declared.walk.Walk.{Walk}
use Rattle.ant_asm.specs.Labels.{LabelState, Outline, WayStep}
use Rattle.ant_asm.specs.Labels.Outline.{Closed, Labelled, Instructed, Used}
use Rattle.ant_asm.specs.Standing.{most_blocks}
use Rattle.ant_asm.specs.StateLines.{StateLine}
use Rattle.ant_asm.specs.Inner.Flat.{most}
use Rattle.ant_asm.specs.Inner.Left.{left_by}
use Rattle.ant_asm.specs.Inner.Outlines.{AreGoodNamed, IsUseBelow, inner_states, line_before, lines_before, outline_at, outline_size, outlines_of, own_states, told_lines}
use Rattle.ant_asm.specs.Inner.Ways.{step_of, steps_of}

-- the lines that have these places
abbrev pub line_and : Option NamedLine → List NamedLine → List NamedLine
line_and None others = others
line_and (Some line) others = line ∷ others

abbrev pub lines_at : List NamedLine → List ℕ → List NamedLine
lines_at lines [] = []
lines_at lines (place ∷ places) = line_and (slice_get lines place) (lines_at lines places)

-- the items of a body from its k-th on, without labels
abbrev pub rest_in : List Outline → Option NamedBody → ℕ → Outline
rest_in blocks None k = Closed
rest_in blocks (Some body) k = lines_before blocks (lines_at body.lines.items (drop k body.counted.items)) Closed

abbrev pub rest_at : List NamedBody → Spot → Outline
rest_at bodies spot = rest_in (outlines_of bodies) (slice_get bodies spot.number) spot.place

-- what a spot's body still has to report: its instructions, and the labels of the blocks that it uses
abbrev pub lines_from : List NamedBody → Spot → List WayStep → List StateLine
lines_from bodies spot way = told_lines (rest_at bodies spot) spot.at way

abbrev pub labels_from : List NamedBody → Spot → List WayStep → List LabelState
labels_from bodies spot way = inner_states (rest_at bodies spot) spot.at spot.after way

-- the same for the bodies that the walk has left at uses
abbrev pub left_in : {A : Type 0} → (Spot → List WayStep → List A) → List Level → List WayStep → List A
left_in tell levels way = left_by step_of (λ level way. tell level.spot way) levels way

-- the same for the spot's body, and then for the bodies that the walk has left
abbrev pub left_of : {A : Type 0} → (Spot → List WayStep → List A) → Walk → List A
left_of tell walk = tell walk.spot (steps_of walk.outer.items) ++ left_in tell walk.outer.items []

abbrev pub lines_left : Walk → List StateLine
lines_left walk = left_of (lines_from walk.bodies.now) walk

abbrev pub labels_left : Walk → List LabelState
labels_left walk = left_of (labels_from walk.bodies.now) walk

-- how many steps are left in the lines of a body
abbrev pub steps_in : Outline → ℕ
steps_in Closed = 1
steps_in (Labelled name others) = suc (steps_in others)
steps_in (Instructed line others) = suc (steps_in others)
steps_in (Used line name block others) = suc (steps_in block + steps_in others)

abbrev pub steps_after : List NamedBody → List Level → ℕ
steps_after bodies [] = 0
steps_after bodies (level ∷ levels) = steps_in (rest_at bodies level.spot) + steps_after bodies levels

abbrev pub steps_left : Walk → ℕ
steps_left walk = steps_in (rest_at walk.bodies.now walk.spot) + steps_after walk.bodies.now walk.outer.items

-- A spot is in one of these bodies, which is inside `depth` others. Each body has a lower number than the one around
-- it.
pub record IsSpotIn (bodies : List NamedBody) (depth : ℕ) (spot : Spot) : Type 0 where
  pub known : depth + spot.number < length bodies
  pub ends : spot.at + outline_size (rest_at bodies spot) ≡ spot.end
  pub few : spot.end ≤ most

abbrev pub AreLevelsIn : List NamedBody → ℕ → List Level → Type 0
AreLevelsIn bodies depth [] = Unit {0}
AreLevelsIn bodies depth (level ∷ levels) = IsSpotIn bodies depth level.spot × AreLevelsIn bodies (suc depth) levels

pub record IsWalk (walk : Walk) : Type 0 where
  pub good : AreGoodNamed [] walk.bodies.now
  pub short : length walk.bodies.now ≤ suc most_blocks
  pub spot : IsSpotIn walk.bodies.now (length walk.outer.items) walk.spot
  pub outer : AreLevelsIn walk.bodies.now 0 walk.outer.items

-- `line` is the line of the spot's body that follows the spot, and `behind` is the spot after that line
pub record IsNext (bodies : List NamedBody) (spot : Spot) (line : NamedLine) (behind : Spot) : Type 0 where
  pub number : behind.number ≡ spot.number
  pub at : behind.at ≡ spot.at + outline_size (line_before (outlines_of bodies) line Closed)
  pub end : behind.end ≡ spot.end
  pub after : behind.after ≡ spot.after
  pub below : IsUseBelow spot.number line
  pub rest : rest_at bodies spot ≡ line_before (outlines_of bodies) line (rest_at bodies behind)

-- what is reported at a step
abbrev pub met_lines : Met → List WayStep → List StateLine
met_lines Nothing way = []
met_lines (Instruction at line) way = (record { state = at; line = line; way = way }) ∷ []
met_lines (Body spot) way = []

abbrev pub met_labels : List NamedBody → Met → List WayStep → List LabelState
met_labels bodies Nothing way = []
met_labels bodies (Instruction at line) way = []
met_labels bodies (Body spot) way = own_states (outline_at bodies spot.number) spot.at spot.after way

-- if a body begins, it is one of these bodies, and all its instructions have numbers
abbrev pub FitsMet : List NamedBody → Met → Type 0
FitsMet bodies Nothing = Unit {0}
FitsMet bodies (Instruction at line) = Unit {0}
FitsMet bodies (Body spot) =
    (spot.number < length bodies) × (spot.at + outline_size (outline_at bodies spot.number) ≤ most)

-- A step of a walk. What was left to report is what the step met, followed by what is left now. Fewer steps are left.
pub record IsStep (old new : Walk) (met : Met) : Type 0 where
  pub fits : FitsMet old.bodies.now met
  pub lines : lines_left old ≡ met_lines met (steps_of new.outer.items) ++ lines_left new
  pub labels : labels_left old ≡ met_labels old.bodies.now met (steps_of new.outer.items) ++ labels_left new
  pub fewer : steps_left new < steps_left old

-- a step of a walk, or its end, at which nothing is left to report
abbrev pub IsStepOrEnd : Walk → Walk → Option Met → Type 0
IsStepOrEnd old new None = (lines_left old ≡ []) × (labels_left old ≡ [])
IsStepOrEnd old new (Some met) = IsStep old new met
