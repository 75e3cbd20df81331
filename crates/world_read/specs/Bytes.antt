-- The bytes of cells (the task's geography).
use Rattle.std.specs.Prelude.{ℕ, ◌+◌, not, List, filter}
use Rattle.cell_world.specs.declared.kind.Kind.{Kind}
use Rattle.cell_world.specs.declared.kind.Kind.TheVariants.{Rock, Clear, RedHill, BlackHill, Food}
use Rattle.ant_base.specs.Lines.{is_separator}

-- the byte of a kind: `#`, `.`, `+`, `-`, and the digit of the food
abbrev pub byte_of : Kind → ℕ
byte_of Rock = 35
byte_of Clear = 46
byte_of RedHill = 43
byte_of BlackHill = 45
byte_of (Food n) = 48 + n

-- the bytes of a line that aren't separators
abbrev pub spelled : List ℕ → List ℕ
spelled line = filter (λ byte. not (is_separator byte)) line
