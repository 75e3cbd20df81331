-- What an opening world is like.
use Rattle.std.proofs.Common.{IsSome, ◌≡◌, ℕ, ◌<◌, true, List, option_map, Some, None, refl, sym, ◌∙◌, ap}
use Rattle.std.specs.Option.{is_some}
use Rattle.hex_geometry.specs.declared.position.Pos.{Pos}
use Rattle.cell_world.specs.declared.ant.Ant.{Ant}
use Rattle.cell_world.specs.declared.ant.Colour.TheVariants.{Red, Black}
use Rattle.cell_world.specs.declared.kind.Kind.{Kind}
use Rattle.cell_world.specs.declared.kind.Kind.TheVariants.{Rock, RedHill, BlackHill}
use Rattle.cell_world.specs.Cell.{rock, holds_id}
use Rattle.cell_world.specs.Grid.{cell_in, world_of}
use Rattle.cell_world.specs.Marks.{no_marks}
use Rattle.cell_world.specs.Opening.{IsPlan, floor, hill_count, hills_before, is_hill, kind_at, new_ant, opening, opening_cell}
use Rattle.cell_world.specs.World.{place_in}
use Rattle.cell_world.proofs.OpeningPlaces.{IsIndex-opening, opening_places-some}
use Rattle.cell_world.proofs.OpeningValid.{IsWorld-opening, cell_in-opening, opening-all}
use Rattle.cell_world.proofs.Openings.{opening_cell-holds_id}
use Rattle.cell_world.proofs.Places.{place_in-found}

-- no cell is marked
pub unmarked : (t : ℕ) (kind : Kind) → ((opening_cell t kind).red ≡ no_marks) × ((opening_cell t kind).black ≡ no_marks)
unfolding rock floor
unmarked t Rock = (refl, refl)
unmarked t it = (refl, refl)

-- ants stand on the hill cells and on no others, and each is of its hill's colour
pub manned : (t : ℕ) (kind : Kind) → (opening_cell t kind).hill ≡ option_map (λ (ant : Ant). ant.colour) (opening_cell t kind).ant
unfolding rock floor
manned t Rock = refl
manned t it = refl

-- each ant is new: in state 0, not resting, facing direction 0, without food
pub ant-new : (t : ℕ) (kind : Kind) (ant : Ant) → (opening_cell t kind).ant ≡ Some ant → ant ≡ new_ant ant.colour t
unfolding rock floor
ant-new t RedHill ant is = let new : new_ant Red t ≡ ant = cc in sym new ∙ ap (λ (a : Ant). new_ant a.colour t) new
ant-new t BlackHill ant is = let new : new_ant Black t ≡ ant = cc in sym new ∙ ap (λ (a : Ant). new_ant a.colour t) new
ant-new t it ant is = absurd (cc)

module _ (width height : ℕ) (kinds : List Kind) where
  -- no cell of an opening world is marked
  pub opening-unmarked : (p : Pos) → ((cell_in (opening width height kinds) p).red ≡ no_marks) × ((cell_in (opening width height kinds) p).black ≡ no_marks)
  opening-unmarked = opening-all width height kinds (λ p c. (c.red ≡ no_marks) × (c.black ≡ no_marks)) (λ p. unmarked 0 Rock) λ p column. unmarked (hills_before width kinds p) (kind_at width kinds p)

  -- an ant stands on each hill cell and on no other, and is of its colour
  pub opening-manned : (p : Pos) → (cell_in (opening width height kinds) p).hill ≡ option_map (λ (ant : Ant). ant.colour) (cell_in (opening width height kinds) p).ant
  opening-manned = opening-all width height kinds (λ p c. c.hill ≡ option_map (λ (ant : Ant). ant.colour) c.ant) (λ p. manned 0 Rock) λ p column. manned (hills_before width kinds p) (kind_at width kinds p)

  -- each ant is new, and its id is the number of hill cells before its own in row order
  pub opening-new : (p : Pos) (ant : Ant) → (cell_in (opening width height kinds) p).ant ≡ Some ant → ant ≡ new_ant ant.colour (hills_before width kinds p)
  opening-new = opening-all width height kinds (λ p c. (ant : Ant) → c.ant ≡ Some ant → ant ≡ new_ant ant.colour (hills_before width kinds p)) (λ p. ant-new (hills_before width kinds p) Rock) λ p column. ant-new (hills_before width kinds p) (kind_at width kinds p)

  -- the ant of a hill cell is the one whose id is the number of hill cells before it
  pub opening-place : IsPlan width height kinds → (p : Pos) → p.x < width → is_hill (kind_at width kinds p) ≡ true → place_in (world_of (opening width height kinds)) (hills_before width kinds p) ≡ Some p
  opening-place plan p column hill = place_in-found (world_of (opening width height kinds)) (hills_before width kinds p) p (IsWorld-opening width height kinds plan).valid
      (ap (holds_id (hills_before width kinds p)) (cell_in-opening width height kinds p column) ∙ opening_cell-holds_id (hills_before width kinds p) (kind_at width kinds p) hill)

  -- every ant that was made is alive
  pub opening-alive : IsPlan width height kinds → (t : ℕ) → t < hill_count kinds → IsSome (place_in (world_of (opening width height kinds)) t)
  unfolding opening
  opening-alive plan t made = ap is_some (sym ((IsIndex-opening width height kinds plan).agrees t None made)) ∙ opening_places-some width kinds t made
