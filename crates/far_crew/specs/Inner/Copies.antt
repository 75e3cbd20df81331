-- Copies that are shared with the workers (this project's own).
use Rattle.std.specs.Prelude.{◌≡◌}
use Rattle.std.specs.Arc.{arc_value}
use Rattle.round_book.specs.Book.{FieldValue}
use Rattle.far_crew.specs.declared.kept.Copies.{Copies}

-- these are copies of a field's brains and world
pub record AreCopiesOf (field : FieldValue) (copies : Copies) : Type 0 where
  pub minds : arc_value copies.minds ≡ field.minds
  pub base : arc_value copies.base ≡ field.world
