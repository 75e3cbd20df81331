-- what an ant is about, patched alone, makes another ant of it
use Rattle.std.proofs.Common.{◌≡◌, Some, Option, sym, ◌∙◌, ap, ap₂}
use Rattle.cell_world.specs.declared.ant.Ant.{Ant}
use Rattle.cell_world.specs.declared.cell.Cell.{Cell}
use Rattle.cell_world.specs.declared.part.Part.TheVariants as part
use Rattle.cell_world.specs.Grid.{world_of}
use Rattle.cell_world.specs.Parts.{only, patched, patched_ant}
use Rattle.cell_world.specs.World.{put}
use Rattle.round_book.proofs.passes.set_posture.Goals as goal

posture-patched : (cell source : Cell) (ant other : Ant) → cell.ant ≡ Some ant → source.ant ≡ Some other
    → record cell { ant = Some (record ant { state = other.state; resting = other.resting; facing = other.facing }) } ≡ patched cell source (only part.Mind)
unfolding patched
posture-patched cell source ant other own its = sym (ap₂ (λ (one two : Option Ant). record cell { ant = patched_ant (only part.Mind) one two }) own its)

pub returns : goal.returns
returns c =
    let w = world_of c.args.world.now in
    c.set_mind.ensures.set
    ∙ ap (put w c.args.p)
    (posture-patched (w.cells c.args.p) c.args.source.now c.in-Some-Some.ant c.in-Some-Some.other
    (ap (λ (cell : Cell). cell.ant) (sym c.cell-cell.ensures.content) ∙ c.in-Some-Some.is-0) c.in-Some-Some.is-1)
