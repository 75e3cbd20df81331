-- by the element's figure
use Rattle.hex_geometry.specs.Position.{HasNeighbours, Point, point_of}
use Rattle.hex_geometry.specs.declared.position.Pos.{Pos}
use Rattle.std.proofs.Common.{◌≡◌, subst}
use Rattle.world_gen.proofs.Balls.{ball_has}
use Rattle.world_gen.proofs.CellLists.{blob_lists}
use Rattle.world_gen.proofs.Lines.{blob_neighbours}
use Rattle.world_gen.proofs.cells.cells_of.Goals as goal
use Rattle.world_gen.specs.Elements.{IsCellOf}
use Rattle.world_gen.specs.declared.spot.Figure.{Figure}

pub ball-requires : goal.ball-requires
ball-requires c = ball_has c.args.spot.place 6 (subst (λ (f : Figure). (q : Point) → IsCellOf f (point_of c.args.spot.place) q → (p : Pos) × (point_of p ≡ q) × HasNeighbours p) c.in-Hill.is c.requires)

pub ball-requires-in-Rock : goal.ball-requires-in-Rock
ball-requires-in-Rock c =
    ball_has c.args.spot.place c.in-Rock.radius (subst (λ (f : Figure). (q : Point) → IsCellOf f (point_of c.args.spot.place) q → (p : Pos) × (point_of p ≡ q) × HasNeighbours p) c.in-Rock.is c.requires)

pub blob-requires : goal.blob-requires
blob-requires c =
    blob_neighbours c.args.spot.place c.in-Blob.first (subst (λ (f : Figure). (q : Point) → IsCellOf f (point_of c.args.spot.place) q → (p : Pos) × (point_of p ≡ q) × HasNeighbours p) c.in-Blob.is c.requires)

pub returns-in-Blob-clause-cells : goal.returns-in-Blob-clause-cells
returns-in-Blob-clause-cells c =
    blob_lists c.args.spot c.in-Blob.first c.blob.result c.in-Blob.is (subst (λ (f : Figure). (q : Point) → IsCellOf f (point_of c.args.spot.place) q → (p : Pos) × (point_of p ≡ q) × HasNeighbours p) c.in-Blob.is c.requires) c.blob.ensures
