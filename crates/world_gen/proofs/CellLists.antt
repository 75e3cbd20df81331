-- Lists of the cells of an element.
use Rattle.hex_geometry.specs.Position.{HasNeighbours, Point, point_of}
use Rattle.hex_geometry.specs.declared.direction.Dir.{Dir}
use Rattle.ant_base.specs.declared.memory.OutOfMemory.{OutOfMemory}
use Rattle.hex_geometry.specs.declared.position.Pos.{Pos}
use Rattle.std.proofs.Common.{◌≡◌, List, sym, subst, Vec, Global, Ok, Err, Result, IfOk}
use Rattle.std.specs.Prelude.{Contains}
use Rattle.world_gen.proofs.Lines.{lines_each, lines_every}
use Rattle.world_gen.specs.Elements.{IsCellOf, IsInBlob}
use Rattle.world_gen.specs.Inner.Open.{ListsCells, lines_from}
use Rattle.world_gen.specs.declared.spot.Figure.{Figure}
use Rattle.world_gen.specs.declared.spot.Figure.TheVariants.{Blob}
use Rattle.world_gen.specs.declared.spot.Spot.{Spot}

blob_cells : (spot : Spot) (first : Dir) (cells : List Pos) → spot.figure ≡ Blob first → ((q : Point) → IsInBlob (point_of spot.place) first q → (p : Pos) × (point_of p ≡ q) × HasNeighbours p) → cells ≡ lines_from 5 first spot.place → ListsCells spot cells
blob_cells spot first cells figure all is = record {
  each = λ p among. subst (λ (f : Figure). IsCellOf f (point_of spot.place) (point_of p)) (sym figure) (lines_each spot.place first all p (subst (λ l. Contains l p) is among));
  every = λ q cell.
      let place = lines_every spot.place first all q (subst (λ (f : Figure). IsCellOf f (point_of spot.place) q) figure cell) in
      (place.0, place.1, subst (λ l. Contains l place.0) (sym is) place.2);
}

pub blob_lists : (spot : Spot) (first : Dir) (r : Result (Vec Pos Global) OutOfMemory) → spot.figure ≡ Blob first → ((q : Point) → IsInBlob (point_of spot.place) first q → (p : Pos) × (point_of p ≡ q) × HasNeighbours p)
    → IfOk r (λ v. v.items ≡ lines_from 5 first spot.place) → IfOk r (λ v. ListsCells spot v.items)
blob_lists spot first (Ok v) figure all is = blob_cells spot first v.items figure all is
blob_lists spot first (Err e) figure all is = is
