-- What a world keeps, made equal to what another keeps, position by position.
use Rattle.std.specs.Prelude.{◌≡◌, ◌≢◌, ◌⊎◌, ℕ, ◌<◌, List, length, slice_index_or, Option, Some}
use Rattle.std.specs.List.{Contains}
use Rattle.hex_geometry.specs.declared.position.Pos.{Pos}
use Rattle.cell_world.specs.declared.body.Body.{Body}
use Rattle.cell_world.specs.declared.tile.Tile.{Tile}
use Rattle.hex_geometry.specs.RowOrder.{index_of}
use Rattle.cell_world.specs.Inner.Stored.{no_body, occupant_id}

-- the body of id t, with a default after the last
abbrev pub body_of : List Body → ℕ → Body
body_of bodies t = slice_index_or bodies t no_body

-- the tiles with this number are equal
abbrev pub SameTile : List Tile → List Tile → ℕ → Type 0
SameTile tiles others i = (d : Tile) → slice_index_or tiles i d ≡ slice_index_or others i d

-- the tile with this number has the ant with this id on it
abbrev pub Names : List Tile → ℕ → ℕ → Type 0
Names tiles i t = (d : Tile) → occupant_id (slice_index_or tiles i d).ant ≡ Some t

-- the body of this id, if there is one, became that of the other world, and perhaps more bodies did
pub record Followed (old new others : List Body) (id : Option ℕ) : Type 0 where
  pub all_ids : length new ≡ length old
  pub either : (t : ℕ) → t < length old → (body_of new t ≡ body_of old t) ⊎ (body_of new t ≡ body_of others t)
  pub own : (t : ℕ) → t < length old → id ≡ Some t → body_of new t ≡ body_of others t

-- what is kept for this number is as in the other world: its tile, and the bodies of the ants that were and are on it
pub record IsCaught (was tiles others : List Tile) (bodies other_bodies : List Body) (i : ℕ) : Type 0 where
  pub tile : SameTile tiles others i
  pub before : (t : ℕ) → t < length bodies → Names was i t → body_of bodies t ≡ body_of other_bodies t
  pub after : (t : ℕ) → t < length bodies → Names others i t → body_of bodies t ≡ body_of other_bodies t

-- some positions are left: each body and each tile is unchanged or as in the other world, and what is kept of every
-- other position is as in the other world
pub record Catching (width : ℕ) (was tiles others : List Tile) (old bodies other_bodies : List Body)
    (left : List Pos) : Type 0 where
  pub all_tiles : length tiles ≡ length was
  pub all_ids : length bodies ≡ length old
  pub either : (t : ℕ) → t < length old
      → (body_of bodies t ≡ body_of old t) ⊎ (body_of bodies t ≡ body_of other_bodies t)
  pub each : (i : ℕ) → i < length was → SameTile tiles was i ⊎ IsCaught was tiles others bodies other_bodies i
  pub done : (i : ℕ) → i < length was → ((p : Pos) → Contains left p → index_of width p ≢ i)
      → IsCaught was tiles others bodies other_bodies i
