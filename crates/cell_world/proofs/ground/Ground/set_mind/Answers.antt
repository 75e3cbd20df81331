-- the cell with that ant may be set
use Rattle.cell_world.proofs.ValidLemmas.{CanSet-mind_read}
use Rattle.cell_world.proofs.ground.Ground.set_mind.Goals as goal

pub set-requires : goal.set-requires
set-requires g c =
    CanSet-mind_read (g.Self.Ground.world c.args.self.now) (g.Self.Ground.world c.cell_at-cell.new.self) (g.Self.Ground.room c.args.self.now) (g.Self.Ground.room c.cell_at-cell.new.self) c.args.p c.cell_at-cell.result c.args.ant
    c.cell_at-cell.ensures.content c.cell_at-cell.ensures.world c.cell_at-cell.ensures.room c.cell_at-cell.ensures.valid c.requires
