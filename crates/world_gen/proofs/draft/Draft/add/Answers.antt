-- the number is that of a position inside
use Rattle.std.proofs.Common.{sym, subst}
use Rattle.hex_geometry.proofs.RowLemmas.{pos_at-inside}
use Rattle.hex_geometry.specs.Position.{IsInside}
use Rattle.world_gen.proofs.draft.Draft.add.Goals as goal

pub is_on_rim-rim-requires : goal.is_on_rim-rim-requires
is_on_rim-rim-requires c = subst (IsInside c.args.self.now.width c.args.self.now.height) (sym c.pos_at.ensures) (pos_at-inside c.args.self.now.width c.args.self.now.height c.args.number c.requires)
