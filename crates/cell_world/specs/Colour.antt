-- Colours (the task's biology).
use Rattle.cell_world.specs.declared.ant.Colour.{Colour}
use Rattle.cell_world.specs.declared.ant.Colour.TheVariants.{Red, Black}
use Rattle.std.specs.Prelude.{Bool, true, false}

-- each colour is the other's foe
abbrev pub foe_of : Colour → Colour
foe_of Red = Black
foe_of Black = Red

-- whether two colours are equal
abbrev pub same_colour : Colour → Colour → Bool
same_colour Red Red = true
same_colour Black Black = true
same_colour _ _ = false
