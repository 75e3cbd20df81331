-- When a look of an answer agrees with a field (this project's own).
use Rattle.std.specs.Prelude.{◌≡◌, ◌↔◌, ℕ, None, Some}
use Rattle.std.specs.List.{AllByRecursion}
use Rattle.hex_geometry.specs.declared.position.Pos.{Pos}
use Rattle.cell_world.specs.declared.ant.Ant.{Ant}
use Rattle.cell_world.specs.Grid.{world_of}
use Rattle.cell_world.specs.World.{place_in}
use Rattle.ant_turn.specs.Minds.{mind_of}
use Rattle.ant_turn.specs.Turn.{instruction_at}
use Rattle.round_book.specs.Book.{FieldValue}
use Rattle.spec_record.specs.Claims.{seen_place}
use Rattle.spec_record.specs.Look.{LookValue}
use Rattle.far_crew.specs.Jobs.{FoundValue}

-- seeds, sheets, sizes and numbers of ids are equal
pub record IsSameGame (field : FieldValue) (found : FoundValue) : Type 0 where
  pub seed : field.seed ≡ found.seed
  pub sheet : field.minds.sheet ≡ found.minds.sheet
  pub width : field.world.width ≡ found.base.width
  pub height : field.world.height ≡ found.base.height
  pub ids : field.world.ids ≡ found.base.ids

-- the ant with an id is dead in both worlds or alive in both, and if it is alive, the instruction of its colour and
-- state is the same in both pairs of brains
pub record IsSameAnt (field : FieldValue) (found : FoundValue) (t : ℕ) : Type 0 where
  pub dead : (place_in (world_of found.base) t ≡ None) ↔ (place_in (world_of field.world) t ≡ None)
  pub instruction : (p : Pos) (ant : Ant) → place_in (world_of found.base) t ≡ Some p
      → ((world_of found.base).cells p).ant ≡ Some ant
      → instruction_at (mind_of field.minds ant.colour) ant.state
      ≡ instruction_at (mind_of found.minds ant.colour) ant.state

-- a look of an answer agrees with a field at a guess: the games are the same, the look's guess is this one, every
-- position that it reads has the same whole cell in both worlds, and its ant is the same in both
pub record AgreesWith (field : FieldValue) (found : FoundValue) (look : LookValue) (guess : ℕ) : Type 0 where
  pub game : IsSameGame field found
  pub guessed : look.guess ≡ guess
  pub cells : AllByRecursion (λ read. (world_of found.base).cells (seen_place read) ≡ (world_of field.world).cells (seen_place read)) look.reads
  pub same_ant : IsSameAnt field found look.turn
