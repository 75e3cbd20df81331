-- a cell with an ant isn't on the rim
use Rattle.std.proofs.Common.{sym, ◌∙◌}
use Rattle.cell_world.specs.Grid.{world_of}
use Rattle.spec_record.proofs.MoveReads.{manned-inner, manned-near}
use Rattle.spec_record.proofs.moves.note_beyond.Goals as goal

pub note_neighbours-requires-clause-inner : goal.note_neighbours-requires-clause-inner
note_neighbours-requires-clause-inner c =
    manned-inner (world_of c.args.base.now) c.args.p c.args.r c.is_manned.ensures.valid (sym c.is_manned.ensures.manned ∙ c.if-is_manned.true)

pub note_neighbours-requires-clause-near : goal.note_neighbours-requires-clause-near
note_neighbours-requires-clause-near c =
    manned-near (world_of c.args.base.now) c.args.p c.args.r c.is_manned.ensures.valid (sym c.is_manned.ensures.manned ∙ c.if-is_manned.true)
