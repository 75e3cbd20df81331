-- The result of comparing what was read.
use Rattle.std.specs.Prelude.{List, Option, Some, None}
use Rattle.std.specs.List.{AllByRecursion, Contains}
use Rattle.hex_geometry.specs.declared.position.Pos.{Pos}
use Rattle.cell_world.specs.Parts.{Agree}
use Rattle.cell_world.specs.World.{Cells}
use Rattle.spec_record.specs.Claims.{Sighting, seen_cell, seen_parts, seen_place}
use Rattle.round_book.specs.declared.verdict.Cause.{Cause}
use Rattle.round_book.specs.declared.verdict.Cause.TheVariants as cause
use Rattle.round_book.specs.Book.{IsChanged}

-- what was read is at a position that wasn't written
abbrev pub IsUnwritten : List Pos → Sighting → Type 0
IsUnwritten written read = ¬ Contains written (seen_place read)

-- a change of what was read, or that all is unchanged
abbrev pub Changes : List Sighting → Cells → Option Cause → Type 0
Changes reads cells None =
    AllByRecursion (λ read. Agree (seen_parts read) (seen_cell read) (cells (seen_place read))) reads
Changes reads cells (Some (cause.Part at k)) = IsChanged reads cells at k
Changes reads cells (Some (cause.Place guessed actual)) = ⊥
