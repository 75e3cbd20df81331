-- the kinds so far are done
use Rattle.std.proofs.Common.{◌≡◌, ℕ, ◌+◌, List, ◌++◌, length, drop}
use Rattle.cell_world.specs.declared.body.Body.{Body}
use Rattle.cell_world.specs.declared.kind.Kind.{Kind}
use Rattle.cell_world.specs.declared.tile.Tile.{Tile}
use Rattle.cell_world.specs.Opening.{hill_count}
use Rattle.cell_world.specs.Inner.Stored.{opening_bodies, opening_tiles}
use Rattle.cell_world.proofs.build.WorldParts.of_kinds.Given as goal

-- the first i kinds are done: what there is, and what the other kinds give, is the whole
pub record IsBegun (width : ℕ) (kinds : List Kind) (i : ℕ) (tiles : List Tile) (bodies : List Body) : Type 0 where
  pub tiles_done : tiles ++ opening_tiles (length bodies) (drop i kinds) ≡ opening_tiles 0 kinds
  pub bodies_done : bodies ++ opening_bodies width i (drop i kinds) ≡ opening_bodies width 0 kinds
  pub numbered : length tiles ≡ i
  pub ids_done : length bodies + hill_count (drop i kinds) ≡ hill_count kinds

abbrev pub invariant-loop-kind : goal.invariant-loop-kind
invariant-loop-kind l = IsBegun l.width l.kinds l.kind-index l.parts.tiles.items l.parts.bodies.items
