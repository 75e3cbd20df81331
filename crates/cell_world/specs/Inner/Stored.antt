-- What a world keeps of cells and ants, and what it means.
use Rattle.std.specs.Prelude.{ℕ, ◌+◌, Bool, false, ◌&&◌, if◌then◌else◌, ◌==◌, List, [], ◌∷◌, ◌++◌, length, map, slice_index_or, Option, Some, None}
use Rattle.std.specs.Option.{is_some, option_map}
use Rattle.hex_geometry.specs.declared.direction.Dir.TheVariants.{East}
use Rattle.hex_geometry.specs.declared.position.Pos.{Pos}
use Rattle.cell_world.specs.declared.ant.Ant.{Ant}
use Rattle.cell_world.specs.declared.ant.Colour.{Colour}
use Rattle.cell_world.specs.declared.ant.Colour.TheVariants.{Red, Black}
use Rattle.cell_world.specs.declared.body.Body.{Body}
use Rattle.cell_world.specs.declared.cell.Cell.{Cell}
use Rattle.cell_world.specs.declared.kind.Kind.{Kind}
use Rattle.cell_world.specs.declared.kind.Kind.TheVariants.{Rock, Clear, RedHill, BlackHill, Food}
use Rattle.cell_world.specs.declared.occupant.Occupant.{Occupant}
use Rattle.cell_world.specs.declared.tile.Tile.{Tile}
use Rattle.cell_world.specs.Cell.{is_hill_of, one_if}
use Rattle.cell_world.specs.Colour.{same_colour}
use Rattle.cell_world.specs.Grid.{Grid}
use Rattle.cell_world.specs.Opening.{is_hill, opening_cell}
use Rattle.hex_geometry.specs.RowOrder.{pos_at}

-- the ant with this id and body
abbrev pub ant_from : ℕ → Body → Ant
ant_from t body = record {
  id = t;
  colour = body.colour;
  state = body.state;
  resting = body.resting;
  facing = body.facing;
  laden = body.laden;
}

-- the body of an ant at p
abbrev pub body_at : Pos → Ant → Body
body_at p ant = record {
  place = Some p;
  state = ant.state;
  resting = ant.resting;
  facing = ant.facing;
  colour = ant.colour;
  laden = ant.laden;
}

-- the default for a body after the last one
unfoldable pub no_body : Body
no_body = record { place = None; state = 0; resting = 0; facing = East; colour = Red; laden = false }

-- the ant with this id, from its body, if there is an id
unfoldable pub ant_named : List Body → Option ℕ → Option Ant
ant_named bodies None = None
ant_named bodies (Some t) = Some (ant_from t (slice_index_or bodies t no_body))

-- the occupant's number for "no ant"
abbrev pub nobody : ℕ
nobody = 65535

-- the id of an occupant, if there is an ant
abbrev pub occupant_id : Occupant → Option ℕ
occupant_id occupant = if occupant.number == nobody then None else Some occupant.number

-- the occupant of a cell with this ant, or without one
abbrev pub occupant_of : Option Ant → Occupant
occupant_of None = record { number = nobody }
occupant_of (Some ant) = record { number = ant.id }

-- the cell of a tile
abbrev pub cell_from : List Body → Tile → Cell
cell_from bodies tile = record {
  rocky = tile.rocky;
  hill = tile.hill;
  food = tile.food;
  red = tile.red;
  black = tile.black;
  ant = ant_named bodies (occupant_id tile.ant);
}

-- the id of the ant, if there is one
abbrev pub stored_id : Option Ant → Option ℕ
stored_id ant = option_map (λ (it : Ant). it.id) ant

-- what is kept of a cell
abbrev pub tile_of : Cell → Tile
tile_of cell = record {
  food = cell.food;
  ant = occupant_of cell.ant;
  rocky = cell.rocky;
  hill = cell.hill;
  red = cell.red;
  black = cell.black;
}

-- the grid of tiles and bodies, with one id for each body
abbrev pub grid_from : ℕ → ℕ → List Tile → List Body → Grid
grid_from width height tiles bodies = record {
  width = width;
  height = height;
  ids = length bodies;
  cells = map (cell_from bodies) tiles;
}

-- the place of each ant, by id
abbrev pub stored_places : List Body → List (Option Pos)
stored_places bodies = map (λ (body : Body). body.place) bodies

-- whether it is the body of a living ant of this colour
abbrev pub is_living : Colour → Body → Bool
is_living colour body = is_some body.place && same_colour colour body.colour

-- the food of a tile, if it belongs to this colour's hill
abbrev pub tile_food : Colour → Tile → ℕ
tile_food colour tile = if is_hill_of colour tile.hill then tile.food else 0

-- the body of an ant that begins at p
abbrev pub new_body : Colour → Pos → Body
new_body colour p = record { place = Some p; state = 0; resting = 0; facing = East; colour = colour; laden = false }

-- the colour of the hill to which a cell of this kind belongs, if any
abbrev pub hill_of : Kind → Option Colour
hill_of Rock = None
hill_of Clear = None
hill_of RedHill = Some Red
hill_of BlackHill = Some Black
hill_of (Food n) = None

-- the body of the ant that begins at p, if there is a hill
abbrev pub new_bodies : Option Colour → Pos → List Body
new_bodies None p = []
new_bodies (Some colour) p = new_body colour p ∷ []

-- the bodies of the ants that begin on cells of these kinds, if the first has number i in row order
abbrev pub opening_bodies : ℕ → ℕ → List Kind → List Body
opening_bodies width i [] = []
opening_bodies width i (kind ∷ kinds) = new_bodies (hill_of kind) (pos_at width i) ++ opening_bodies width (i + 1) kinds

-- what is kept of the cells of these kinds, if the next ant's id is t
abbrev pub opening_tiles : ℕ → List Kind → List Tile
opening_tiles t [] = []
opening_tiles t (kind ∷ kinds) = tile_of (opening_cell t kind) ∷ opening_tiles (t + one_if (is_hill kind)) kinds
