-- Markers of one colour on a cell (the task's chemistry).
use Rattle.std.specs.Prelude.{ℕ, ◌-◌, ◌<◌, ◌^◌, Bool, ◌&&◌, nat_eq, nat_lt, [], ◌∷◌, bit_and, bit_or}
use Rattle.std.specs.Int.{bit_at}
use Rattle.std.specs.List.{list_any}
use Rattle.cell_world.specs.declared.marks.Marks.{Marks}

-- only the bits of markers 0 to 5 are set
abbrev pub IsOfSix : Marks → Type 0
IsOfSix marks = marks.set < 64

-- no marker is set
abbrev pub no_marks : Marks
no_marks = record { set = 0 }

-- whether marker i is set: i is from 0 to 5, and its bit is 1
abbrev pub has_mark : Marks → ℕ → Bool
has_mark marks i = nat_lt i 6 && nat_eq (bit_at marks.set i) 1

-- the same markers with marker i
abbrev pub with_mark : Marks → ℕ → Marks
with_mark marks i = record { set = bit_or marks.set (2 ^ i) }

-- the same markers without marker i
abbrev pub without_mark : Marks → ℕ → Marks
without_mark marks i = record { set = bit_and marks.set (255 - 2 ^ i) }

-- whether any marker is set
abbrev pub has_any_mark : Marks → Bool
has_any_mark marks = list_any (has_mark marks) (0 ∷ 1 ∷ 2 ∷ 3 ∷ 4 ∷ 5 ∷ [])
