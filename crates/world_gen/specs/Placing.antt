-- How the elements are placed with random numbers.
use Rattle.std.specs.Prelude.{◌≡◌, ℕ, ◌+◌, ◌*◌, ◌<◌, List, [], ◌∷◌, ◌++◌, length, ◌⊎◌}
use Rattle.ant_random.specs.Stream.{drawn}
use Rattle.hex_geometry.specs.Direction.{dir_of}
use Rattle.hex_geometry.specs.RowOrder.{IsBefore}
use Rattle.hex_geometry.specs.Position.{IsInside}
use Rattle.hex_geometry.specs.declared.direction.Dir.TheVariants.{East}
use Rattle.hex_geometry.specs.declared.position.Pos.{Pos}
use Rattle.world_gen.specs.Elements.{count_of, element_of}
use Rattle.world_gen.specs.FreeSpots.{IsFreeSpot}
use Rattle.world_gen.specs.declared.element.Element.{Element}
use Rattle.world_gen.specs.declared.element.Element.TheVariants as element
use Rattle.world_gen.specs.declared.shape.Shape.{Shape}
use Rattle.world_gen.specs.declared.spot.Figure.{Figure}
use Rattle.world_gen.specs.declared.spot.Figure.TheVariants.{Hill, Rock, Blob}
use Rattle.world_gen.specs.declared.spot.Spot.{Spot}

-- the figure of an element that is begun at place g of the stream: a rock's radius is drawn then, once
abbrev pub figure_begun : ℕ → ℕ → Element → Figure
figure_begun seed g (element.Hill colour) = Hill colour
figure_begun seed g element.Rock = Rock (1 + drawn seed g 4)
figure_begun seed g element.Blob = Blob East

-- the place at which its tries begin
abbrev pub after_begun : ℕ → Element → ℕ
after_begun g (element.Hill colour) = g
after_begun g element.Rock = g + 1
after_begun g element.Blob = g

-- how many numbers a try draws: the column, the row, and the direction of a blob
abbrev pub draws_of : Figure → ℕ
draws_of (Hill colour) = 2
draws_of (Rock radius) = 2
draws_of (Blob first) = 3

-- the figure in a try, whose column and row are drawn before place i: a blob has a direction below 3
abbrev pub tried_figure : ℕ → ℕ → Figure → Figure
tried_figure seed i (Hill colour) = Hill colour
tried_figure seed i (Rock radius) = Rock radius
tried_figure seed i (Blob first) = Blob (dir_of (drawn seed i 3))

-- the spot of a try that draws from place i on
abbrev pub tried_at : ℕ → ℕ → ℕ → Figure → ℕ → Spot
tried_at seed width height figure i = record {
  figure = tried_figure seed (i + 2) figure;
  place = record {
    x = drawn seed i width;
    y = drawn seed (i + 1) height;
  };
}

-- try k of those that begin at place g
abbrev pub try_of : ℕ → ℕ → ℕ → Figure → ℕ → ℕ → Spot
try_of seed width height figure g k = tried_at seed width height figure (g + k * draws_of figure)

-- the spot at a place of the grid, for which nothing is drawn: a blob has direction 0
abbrev pub spot_at : Figure → Pos → Spot
spot_at figure p = record { figure = figure; place = p }

-- none of the first n tries fits
abbrev pub NoTryFits : (Spot → Type 0) → ℕ → ℕ → ℕ → Figure → ℕ → ℕ → Type 0
NoTryFits fits seed width height figure g n = (k : ℕ) → k < n → fits (try_of seed width height figure g k) → ⊥

-- a try below 50 is the first that fits
pub record IsChosenSpot (fits : Spot → Type 0) (seed width height : ℕ) (figure : Figure) (g : ℕ) (spot : Spot)
    (after : ℕ) : Type 0 where
  pub try : ℕ
  pub below : try < 50
  pub is : spot ≡ try_of seed width height figure g try
  pub fitting : fits spot
  pub first : NoTryFits fits seed width height figure g try
  pub drew : after ≡ g + (try + 1) * draws_of figure

-- none of 50 tries fits, and the place is the first in row order at which it fits
pub record IsFound (fits : Spot → Type 0) (seed width height : ℕ) (figure : Figure) (g : ℕ) (spot : Spot)
    (after : ℕ) : Type 0 where
  pub no_try : NoTryFits fits seed width height figure g 50
  pub place : Pos
  pub inside : IsInside width height place
  pub is : spot ≡ spot_at figure place
  pub fitting : fits spot
  pub first : (p : Pos) → IsInside width height p → IsBefore p place → fits (spot_at figure p) → ⊥
  pub drew : after ≡ g + 50 * draws_of figure

-- none of 50 tries fits, and no place of the grid does
pub record IsBarred (fits : Spot → Type 0) (seed width height : ℕ) (figure : Figure) (g : ℕ) : Type 0 where
  pub no_try : NoTryFits fits seed width height figure g 50
  pub no_place : (p : Pos) → IsInside width height p → fits (spot_at figure p) → ⊥

-- the spot of an element that is begun at place g, and the place of the stream after it
abbrev pub Goes : (Spot → Type 0) → ℕ → ℕ → ℕ → Element → ℕ → Spot → ℕ → Type 0
Goes fits seed width height element g spot after =
    IsChosenSpot fits seed width height (figure_begun seed g element) (after_begun g element) spot after
    ⊎ IsFound fits seed width height (figure_begun seed g element) (after_begun g element) spot after

-- an element has no room
abbrev pub HasNone : (Spot → Type 0) → ℕ → ℕ → ℕ → Element → ℕ → Type 0
HasNone fits seed width height element g =
    IsBarred fits seed width height (figure_begun seed g element) (after_begun g element)

-- after these elements, at place g, the next ones go to these spots in turn, and the place is then `after`
abbrev pub Follow : ℕ → Shape → List Spot → ℕ → List Spot → ℕ → Type 0
Follow seed shape placed g [] after = g ≡ after
Follow seed shape placed g (spot ∷ rest) after =
    (next : ℕ) × Goes (IsFreeSpot shape.width shape.height placed) seed shape.width shape.height
    (element_of shape (length placed)) g spot next
    × Follow seed shape (placed ++ spot ∷ []) next rest after

-- all elements are placed in this way, one after another
pub record IsPlacing (seed : ℕ) (shape : Shape) (placed : List Spot) : Type 0 where
  pub after : ℕ
  pub follow : Follow seed shape [] 0 placed after
  pub all : length placed ≡ count_of shape

-- the elements before this one are placed in this way, and it has no room
pub record HasNoRoom (seed : ℕ) (shape : Shape) (number : ℕ) : Type 0 where
  pub placed : List Spot
  pub after : ℕ
  pub follow : Follow seed shape [] 0 placed after
  pub before : length placed ≡ number
  pub low : number < count_of shape
  pub none :
      HasNone (IsFreeSpot shape.width shape.height placed) seed shape.width shape.height (element_of shape number) after
