use Rattle.std.proofs.Common.{ℕ, ◌∙◌, ap, subst, arith}
use Rattle.ant_base.specs.Sink.{Pushed}
use Rattle.world_read.specs.Bytes.{byte_of}
use Rattle.world_read.specs.Canonical.{cell_text}
use Rattle.world_read.specs.Opened.{kind_of_cell}
use Rattle.world_read.proofs.OpenedLemmas.{kinds_of-at}
use Rattle.world_read.proofs.write.GridRowNumberedTexts.push_part.Goals as goal

pub returns : goal.returns
returns g c =
    let row = c.args.self.now in
    let read = kinds_of-at row.world.now (record { x = c.args.at; y = row.y }) c.width-columns.ensures.world (record { column = omega arith; row = row.inside }) in
    let byte = c.byte_of-byte.ensures ∙ ap (λ cell. byte_of (kind_of_cell cell)) c.cell.ensures.content ∙ ap byte_of read in
    subst (λ (b : ℕ). Pushed (g.K.Sink.state c.args.sink.now) (g.K.Sink.state c.push_to.new.sink) (cell_text c.args.at b) c.push_to.result) byte c.push_to.ensures
