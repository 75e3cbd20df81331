-- How many looks of a window are used and how many turns are executed again (this project's own).
use Rattle.std.specs.Prelude.{ℕ, zero, suc, ◌+◌, ◌-◌, Bool, true, false, not, ◌&&◌, ◌||◌, nat_eq, List, [], ◌∷◌, Option, Some, None}
use Rattle.hex_geometry.specs.Direction.{number_of}
use Rattle.cell_world.specs.declared.ant.Ant.{Ant}
use Rattle.cell_world.specs.declared.cell.Cell.{Cell}
use Rattle.cell_world.specs.declared.part.Part.{Part}
use Rattle.cell_world.specs.declared.part.Part.TheVariants.{Who, Mind, Load, Food, RedMarks, BlackMarks}
use Rattle.cell_world.specs.declared.part.Parts.{Parts}
use Rattle.cell_world.specs.Cell.{one_if}
use Rattle.cell_world.specs.Colour.{same_colour}
use Rattle.cell_world.specs.World.{Cells}
use Rattle.spec_record.specs.Claims.{Sighting, seen_cell, seen_parts, seen_place}
use Rattle.spec_record.specs.Look.{LookValue}
use Rattle.round_book.specs.declared.verdict.Verdict.{Verdict}
use Rattle.round_book.specs.declared.verdict.Verdict.TheVariants.{Taken, Redone}
use Rattle.round_book.specs.Window.{Window, look_for, moment_before}

-- whether there are two ants that are alike, or none
abbrev pub same_if_any : (Ant → Ant → Bool) → Option Ant → Option Ant → Bool
same_if_any same None None = true
same_if_any same None (Some b) = false
same_if_any same (Some a) None = false
same_if_any same (Some a) (Some b) = same a b

abbrev pub same_identity : Ant → Ant → Bool
same_identity a b = nat_eq a.id b.id && same_colour a.colour b.colour

abbrev pub same_posture : Ant → Ant → Bool
same_posture a b =
    nat_eq a.state b.state && (nat_eq a.resting b.resting && nat_eq (number_of a.facing) (number_of b.facing))

abbrev pub same_load : Ant → Ant → Bool
same_load a b = nat_eq (one_if a.laden) (one_if b.laden)

-- whether two cells are equal in a part, as a test that computes
abbrev pub is_alike : Part → Cell → Cell → Bool
is_alike Who c d = same_if_any same_identity c.ant d.ant
is_alike Mind c d = same_if_any same_posture c.ant d.ant
is_alike Load c d = same_if_any same_load c.ant d.ant
is_alike Food c d = nat_eq c.food d.food
is_alike RedMarks c d = nat_eq c.red.set d.red.set
is_alike BlackMarks c d = nat_eq c.black.set d.black.set

-- whether they are equal in a part, if it is named
abbrev pub is_alike_if : Bool → Part → Cell → Cell → Bool
is_alike_if false k c d = true
is_alike_if true k c d = is_alike k c d

-- whether two cells are equal in each part of a set
abbrev pub do_agree : Parts → Cell → Cell → Bool
do_agree parts c d =
    is_alike_if parts.who Who c d
    && (is_alike_if parts.mind Mind c d
    && (is_alike_if parts.load Load c d
    && (is_alike_if parts.food Food c d
    && (is_alike_if parts.red_marks RedMarks c d && is_alike_if parts.black_marks BlackMarks c d))))

-- whether all that was read is unchanged
abbrev pub is_unchanged : List Sighting → Cells → Bool
is_unchanged [] cells = true
is_unchanged (read ∷ reads) cells =
    do_agree (seen_parts read) (seen_cell read) (cells (seen_place read)) && is_unchanged reads cells

-- whether a look is valid in these cells at a place, as a test that computes
abbrev pub look_holds : LookValue → Cells → ℕ → Bool
look_holds look cells place = is_unchanged look.reads cells && (not look.drew || nat_eq place look.guess)

-- whether the look at turn t of a window is valid at that turn, so that it is used
unfoldable pub is_taken : Window → ℕ → Bool
is_taken window t = look_holds (look_for window t) (moment_before window t).world.cells (moment_before window t).place

-- whether a verdict is that the look was used
abbrev pub is_taken_verdict : Verdict → Bool
is_taken_verdict Taken = true
is_taken_verdict (Redone cause) = false

-- how many looks at the first n turns of a window are used
abbrev pub taken_among : Window → ℕ → ℕ
taken_among window zero = 0
taken_among window (suc n) = taken_among window n + one_if (is_taken window (window.from + n))

-- how many looks of a window are used, and how many of its turns are executed again
pub record Counted : Type 0 where
  pub taken : ℕ
  pub redone : ℕ

unfoldable pub counts_of : Window → Counted
counts_of window = record {
  taken = taken_among window (window.to - window.from);
  redone = window.to - window.from - taken_among window (window.to - window.from);
}
