-- The text of a cell's content (this project's own layout).
use Rattle.std.specs.Prelude.{ℕ, List, [], codes, decimal, if◌then◌else◌, ◌==◌, Option, Some, None}
use Rattle.hex_geometry.specs.Direction.{number_of}
use Rattle.cell_world.specs.declared.ant.Ant.{Ant}
use Rattle.cell_world.specs.declared.ant.Colour.{Colour}
use Rattle.cell_world.specs.declared.ant.Colour.TheVariants.{Red, Black}
use Rattle.cell_world.specs.declared.cell.Cell.{Cell}
use Rattle.cell_world.specs.declared.marks.Marks.{Marks}
use Rattle.cell_world.specs.Marks.{has_mark, has_any_mark}
use Rattle.ant_base.specs.Layout.{numbered, ◌+++◌}

-- a colour's word
abbrev pub colour_text : Colour → List ℕ
colour_text Red = codes "red"
colour_text Black = codes "black"

-- the food, if there is any
abbrev pub food_text : ℕ → List ℕ
food_text food = if food == 0 then [] else decimal food +++ codes " food; "

-- the hill, if the cell belongs to one
abbrev pub hill_text : Option Colour → List ℕ
hill_text None = []
hill_text (Some colour) = colour_text colour +++ codes " hill; "

-- the markers of a colour in rising order, if any is set
abbrev pub marks_text : Colour → Marks → List ℕ
marks_text colour marks =
    if has_any_mark marks then colour_text colour +++ codes " marks: " +++ numbered (λ i. if has_mark marks i then decimal i else []) 6 +++ codes "; " else []

-- an ant
unfoldable pub standing_ant_text : Ant → List ℕ
standing_ant_text ant =
    colour_text ant.colour +++ codes " ant of id " +++ decimal ant.id +++ codes ", dir "
    +++ decimal (number_of ant.facing)
    +++ codes ", food " +++ (if ant.laden then codes "1" else codes "0") +++ codes ", state " +++ decimal ant.state
    +++ codes ", resting " +++ decimal ant.resting

-- the ant, if there is one
abbrev pub ant_text : Option Ant → List ℕ
ant_text None = []
ant_text (Some ant) = standing_ant_text ant

-- the content of a cell; for a clear one its parts in this order, each only if it applies
unfoldable pub content_text : Cell → List ℕ
content_text cell =
    if cell.rocky then codes "rock" else food_text cell.food +++ hill_text cell.hill +++ marks_text Red cell.red +++ marks_text Black cell.black +++ ant_text cell.ant
