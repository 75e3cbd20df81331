-- a position inside has an entry
use Rattle.std.proofs.Common.{◌≡◌, ◌<◌, length, vec_len, arith, sym, ◌∙◌}
use Rattle.std.proofs.lemmas.Bool.{ltb-true}
use Rattle.hex_geometry.proofs.RowLemmas.{index_of-inside}
use Rattle.world_gen.proofs.draft.Draft.is_open.Goals as goal
use Rattle.world_gen.proofs.draft.Draft.is_open.Goals.{then-p-self, else-p-self}

pub index-requires : goal.index-requires
index-requires c =
    let long : vec_len c.args.self.now.blocked ≡ length c.args.self.now.blocked.items = c.args.self.now.blocked.ok.0 in
    let row : c.args.p.y < c.args.self.now.height = elim c.if-p-self.branch [
      | then-p-self w ↦ ltb-true c.args.p.y c.args.self.now.height (sym w.value-is ∙ c.if-p-self-2.true)
      | else-p-self w ↦ absurd (let h = ltb-true c.args.p.x c.args.self.now.width (sym w.value-is ∙ c.if-p-self-2.true) in omega arith)
    ] in
    let column : c.args.p.x < c.args.self.now.width = elim c.if-p-self.branch [
      | then-p-self w ↦ omega arith
      | else-p-self w ↦ absurd (let h = ltb-true c.args.p.x c.args.self.now.width (sym w.value-is ∙ c.if-p-self-2.true) in omega arith)
    ] in
    let low = index_of-inside c.args.self.now.width c.args.self.now.height c.args.p (record { column = column; row = row }) in
    let is = c.index_of.ensures in
    let full = c.requires in
    omega arith
