-- Which texts are saves, and the first bad line of the others (this project's own).
use Rattle.std.specs.Prelude.{◌≡◌, ℕ, ◌+◌, true, false, List, [], ◌∷◌, ◌++◌, length}
use Rattle.ant_base.specs.Lines.{ends_in_lf, lines_of}
use Rattle.match_save.specs.Draft.{Draft, IsInForm}
use Rattle.match_save.specs.Text.{draft_lines}

-- a text has the lines of a save, each of which ends in LF
pub record IsDraftText (text : List ℕ) (d : Draft) : Type 0 where
  pub in_form : IsInForm d
  pub lines : lines_of text ≡ draft_lines d
  pub ended : ends_in_lf text ≡ true

-- some lines are the first of a save's: each of them is in its form given those before it
pub record BeginSave (front : List (List ℕ)) : Type 0 where
  pub draft : Draft
  pub in_form : IsInForm draft
  pub rest : List (List ℕ)
  pub lines : draft_lines draft ≡ front ++ rest

-- the line after these isn't in its form: no save begins with them and it; or there is none, and they are no whole save
abbrev pub StopsBefore : List (List ℕ) → List (List ℕ) → Type 0
StopsBefore before [] = (d : Draft) → IsInForm d → draft_lines d ≡ before → ⊥
StopsBefore before (line ∷ later) = BeginSave (before ++ line ∷ []) → ⊥

-- the lines before the one with this number are in their form, and it isn't
pub record IsFirstBad (text : List ℕ) (line : ℕ) : Type 0 where
  pub before : List (List ℕ)
  pub after : List (List ℕ)
  pub lines : lines_of text ≡ before ++ after
  pub good : BeginSave before
  pub stops : StopsBefore before after
  pub number : line ≡ length before + 1

-- all lines are those of a save, but the last, which has this number, doesn't end in LF
pub record IsUnended (text : List ℕ) (line : ℕ) : Type 0 where
  pub draft : Draft
  pub in_form : IsInForm draft
  pub lines : lines_of text ≡ draft_lines draft
  pub unended : ends_in_lf text ≡ false
  pub number : line ≡ length (lines_of text)

-- the first line that isn't in its form has this number
pub data IsBadLine (text : List ℕ) (line : ℕ) : Type 0 where
  Unlike : IsFirstBad text line → IsBadLine text line
  Unended : IsUnended text line → IsBadLine text line
