use Rattle.std.proofs.Common.{◌≡◌, ◌∙◌, true, List, subst}
use Rattle.std.specs.Prelude.{◌↔◌}
use Rattle.std.specs.List.{AllByRecursion}
use Rattle.cell_world.specs.Grid.{Grid, world_of}
use Rattle.spec_record.specs.Claims.{Sighting, seen_cell, seen_place}
use Rattle.far_crew.proofs.AgreementLemmas.{reads-test}
use Rattle.far_crew.proofs.agreement.are_reads_same.Goals as goal

pub returns : goal.returns
returns c =
    reads-test c.args.found.now.minds c.args.found.now.seed c.args.found.now.base (world_of c.args.field.now.world).cells c.args.look.now c.requires c.are_cells_same.result
    (subst (λ (g : Grid). (c.are_cells_same.result ≡ true) ↔ AllByRecursion (λ (read : Sighting). (world_of g).cells (seen_place read) ≡ seen_cell read) c.args.look.now.reads) c.world.ensures.world
    (subst (λ (l : List Sighting). (c.are_cells_same.result ≡ true) ↔ AllByRecursion (λ (read : Sighting). (world_of c.world.result.now).cells (seen_place read) ≡ seen_cell read) l) (c.as_slice.ensures.value ∙ c.reads.ensures.reads) c.are_cells_same.ensures))
