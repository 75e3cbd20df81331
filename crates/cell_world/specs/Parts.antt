-- The parts of a cell, which looks read and write one by one (this project's own).
use Rattle.std.specs.Prelude.{◌≡◌, ℕ, ◌<◌, Bool, true, false, if◌then◌else◌, ◌||◌, Option, Some, None, option_map}
use Rattle.hex_geometry.specs.declared.direction.Dir.{Dir}
use Rattle.cell_world.specs.declared.ant.Ant.{Ant}
use Rattle.cell_world.specs.declared.ant.Colour.{Colour}
use Rattle.cell_world.specs.declared.cell.Cell.{Cell}
use Rattle.cell_world.specs.declared.marks.Marks.{Marks}
use Rattle.cell_world.specs.declared.part.Part.{Part}
use Rattle.cell_world.specs.declared.part.Part.TheVariants.{Who, Mind, Load, Food, RedMarks, BlackMarks}
use Rattle.cell_world.specs.declared.part.Parts.{Parts}

-- which ant it is
pub record Identity : Type 0 where
  pub id : ℕ
  pub colour : Colour

-- the state, the resting count and the direction of an ant
pub record Posture : Type 0 where
  pub state : ℕ
  pub resting : ℕ
  pub facing : Dir

abbrev pub identity_of : Ant → Identity
identity_of ant = record { id = ant.id; colour = ant.colour }

abbrev pub posture_of : Ant → Posture
posture_of ant = record { state = ant.state; resting = ant.resting; facing = ant.facing }

-- the possible contents of each part
abbrev pub Content : Part → Type 0
Content Who = Option Identity
Content Mind = Option Posture
Content Load = Option Bool
Content Food = ℕ
Content RedMarks = Marks
Content BlackMarks = Marks

-- the six parts of a cell: the id and colour of its ant, if there is one; that ant's state, resting count and
-- direction; whether that ant carries food; the food on the cell; and the two sets of markers. Rock and hill belong to
-- no part, since no turn changes them
abbrev pub part : (k : Part) → Cell → Content k
part Who cell = option_map identity_of cell.ant
part Mind cell = option_map posture_of cell.ant
part Load cell = option_map (λ ant. ant.laden) cell.ant
part Food cell = cell.food
part RedMarks cell = cell.red
part BlackMarks cell = cell.black

-- no part
abbrev pub no_parts : Parts
no_parts = record { who = false; mind = false; load = false; food = false; red_marks = false; black_marks = false }

-- whether a part is in a set
abbrev pub has_part : Parts → Part → Bool
has_part parts Who = parts.who
has_part parts Mind = parts.mind
has_part parts Load = parts.load
has_part parts Food = parts.food
has_part parts RedMarks = parts.red_marks
has_part parts BlackMarks = parts.black_marks

-- the same set with this part
abbrev pub with_part : Parts → Part → Parts
with_part parts Who = record parts { who = true }
with_part parts Mind = record parts { mind = true }
with_part parts Load = record parts { load = true }
with_part parts Food = record parts { food = true }
with_part parts RedMarks = record parts { red_marks = true }
with_part parts BlackMarks = record parts { black_marks = true }

-- only one part
abbrev pub only : Part → Parts
only k = with_part no_parts k

-- the parts of either set
abbrev pub union : Parts → Parts → Parts
union a b = record {
  who = a.who || b.who;
  mind = a.mind || b.mind;
  load = a.load || b.load;
  food = a.food || b.food;
  red_marks = a.red_marks || b.red_marks;
  black_marks = a.black_marks || b.black_marks;
}

-- two cells are equal in a part
abbrev pub Alike : Part → Cell → Cell → Type 0
Alike k c d = part k c ≡ part k d

-- two cells are equal in each part of a set
abbrev pub Agree : Parts → Cell → Cell → Type 0
Agree parts c d = (k : Part) → has_part parts k ≡ true → Alike k c d

-- the place of a part in the order of the variants
abbrev pub place_of_part : Part → ℕ
place_of_part Who = 0
place_of_part Mind = 1
place_of_part Load = 2
place_of_part Food = 3
place_of_part RedMarks = 4
place_of_part BlackMarks = 5

-- two cells are equal in each part of a set that comes before one
abbrev pub AgreeBefore : Part → Parts → Cell → Cell → Type 0
AgreeBefore k parts c d = (j : Part) → place_of_part j < place_of_part k → has_part parts j ≡ true → Alike j c d

-- the first part of a set in which two cells differ, or none if there is no such part
abbrev pub IsDifference : Parts → Cell → Cell → Option Part → Type 0
IsDifference parts c d None = Agree parts c d
IsDifference parts c d (Some k) = (has_part parts k ≡ true) × (¬ Alike k c d) × AgreeBefore k parts c d

-- this ant with those of another's posture and load that are named
abbrev pub patched_by : Parts → Ant → Ant → Ant
patched_by parts ant other = record ant {
  state = if parts.mind then other.state else ant.state;
  resting = if parts.mind then other.resting else ant.resting;
  facing = if parts.mind then other.facing else ant.facing;
  laden = if parts.load then other.laden else ant.laden;
}

-- the same, if there are ants
abbrev pub patched_ant : Parts → Option Ant → Option Ant → Option Ant
patched_ant parts None source = None
patched_ant parts (Some ant) None = Some ant
patched_ant parts (Some ant) (Some other) = Some (patched_by parts ant other)

-- a cell with the named parts of the source and everything else its own; if the ant is named, the whole ant is taken
unfoldable pub patched : Cell → Cell → Parts → Cell
patched cell source parts = record cell {
  food = if parts.food then source.food else cell.food;
  red = if parts.red_marks then source.red else cell.red;
  black = if parts.black_marks then source.black else cell.black;
  ant = if parts.who then source.ant else patched_ant parts cell.ant source.ant;
}

-- both are ants, with the same id and colour
abbrev pub IsSameAnt : Option Ant → Option Ant → Type 0
IsSameAnt (Some ant) (Some other) = identity_of ant ≡ identity_of other
IsSameAnt (Some ant) None = ⊥
IsSameAnt None source = ⊥

-- the parts of a cell can be patched by those of the source: if the ant is named, so are its posture and its load; and
-- if one of these is named alone, both cells hold the same ant
pub record CanPatch (cell source : Cell) (parts : Parts) : Type 0 where
  pub mind : parts.who ≡ true → parts.mind ≡ true
  pub load : parts.who ≡ true → parts.load ≡ true
  pub same_ant : parts.who ≡ false → (parts.mind || parts.load) ≡ true → IsSameAnt cell.ant source.ant
