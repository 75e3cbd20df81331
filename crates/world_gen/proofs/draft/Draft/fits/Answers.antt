-- by the element's figure
use Rattle.hex_geometry.specs.Position.{Point, point_of}
use Rattle.std.proofs.Common.{sym, subst}
use Rattle.std.specs.Prelude.{◌↔◌, IsTrue}
use Rattle.world_gen.proofs.draft.Draft.fits.Goals as goal
use Rattle.world_gen.specs.Elements.{IsCellOf}
use Rattle.world_gen.specs.Inner.Open.{IsOpen}

pub returns-in-Hill : goal.returns-in-Hill
returns-in-Hill c =
    subst (λ f. IsTrue c.ball_is_open.result ↔ ((q : Point) → IsCellOf f (point_of c.args.spot.place) q → IsOpen c.args.self.now.width c.args.self.now.height c.args.self.now.blocked.items q)) (sym c.in-Hill.is) c.ball_is_open.ensures

pub returns-in-Rock : goal.returns-in-Rock
returns-in-Rock c =
    subst (λ f. IsTrue c.ball_is_open-in-Rock.result ↔ ((q : Point) → IsCellOf f (point_of c.args.spot.place) q → IsOpen c.args.self.now.width c.args.self.now.height c.args.self.now.blocked.items q)) (sym c.in-Rock.is) c.ball_is_open-in-Rock.ensures

pub returns-in-Blob : goal.returns-in-Blob
returns-in-Blob c =
    subst (λ f. IsTrue c.blob_is_open.result ↔ ((q : Point) → IsCellOf f (point_of c.args.spot.place) q → IsOpen c.args.self.now.width c.args.self.now.height c.args.self.now.blocked.items q)) (sym c.in-Blob.is) c.blob_is_open.ensures
