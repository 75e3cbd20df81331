-- The parts of a cell, all of them (this project's own).
use Rattle.std.specs.Prelude.{true}
use Rattle.cell_world.specs.declared.part.Parts.{Parts}

-- every part of a cell
abbrev pub all_parts : Parts
all_parts = record { who = true; mind = true; load = true; food = true; red_marks = true; black_marks = true }
