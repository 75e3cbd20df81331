-- The text of a cup.
use Rattle.std.specs.Prelude.{◌≡◌, ℕ, ◌-◌, Bool, true, false, List, codes, decimal, nat_lt, if◌then◌else◌}
use Rattle.std.specs.List.{flat_map}
use Rattle.ant_base.specs.Layout.{◌+++◌}
use Rattle.cell_world.specs.declared.score.Score.{Score}
use Rattle.tournament.specs.declared.standing.Line.{Line}
use Rattle.tournament.specs.Names.{name_of}
use Rattle.tournament.specs.Standing.{IsStandingOf}

-- by how much food a player leads over all its games: its own food minus its opponents', with `-` before a negative
-- number
abbrev pub lead_text : Line → List ℕ
lead_text line = if nat_lt line.food_for line.food_against then codes "-" +++ decimal (line.food_against - line.food_for) else decimal (line.food_for - line.food_against)

-- the end of a player's line, with leads or without
abbrev pub lead_part : Bool → Line → List ℕ
lead_part false line = codes "\n"
lead_part true line = codes ", lead " +++ lead_text line +++ codes "\n"

-- a player's line, such as `3 points: b (1 won, 1 drawn, 0 lost)` or `3 points: b (1 won, 1 drawn, 0 lost), lead 3`;
-- the word `points` is printed even for 1
unfoldable pub table_line_text : Bool → List (List ℕ) → Line → List ℕ
table_line_text leads names line =
    decimal line.points +++ codes " points: " +++ name_of names line.player +++ codes " (" +++ decimal line.won
    +++ codes " won, "
    +++ decimal line.drawn +++ codes " drawn, " +++ decimal line.lost +++ codes " lost)" +++ lead_part leads line

-- the lines of a standing, the best first
abbrev pub standing_text : Bool → List (List ℕ) → List Line → List ℕ
standing_text leads names lines = flat_map (table_line_text leads names) lines

-- the text of a cup or of a gauntlet, with leads or without: that of the standing of these scores
pub record IsCupText (leads gauntlet : Bool) (names : List (List ℕ)) (players worlds : ℕ) (score : ℕ → ℕ → ℕ → Score)
    (text : List ℕ) : Type 0 where
  pub lines : List Line
  pub standing : IsStandingOf gauntlet players worlds score lines
  pub is : text ≡ standing_text leads names lines
