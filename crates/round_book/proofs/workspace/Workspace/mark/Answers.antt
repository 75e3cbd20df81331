use Rattle.std.proofs.Common.{◌≡◌, ◌⊎◌, ◌↔◌, true, [], ◌∷◌, ◌++◌, slice_set, subst, sym, ap, ◌∙◌, arith}
use Rattle.std.specs.List.{Contains}
use Rattle.hex_geometry.proofs.RowLemmas.{index_of-early}
use Rattle.hex_geometry.specs.RowOrder.{index_of}
use Rattle.round_book.specs.Inner.Workspace.{AreMarked}
use Rattle.round_book.proofs.WorkspaceLemmas.{AreMarked-more, Contains-more, listed-below, unmarked-at}
use Rattle.round_book.proofs.workspace.Workspace.mark.Goals as goal

pub push_reserved-requires : goal.push_reserved-requires
push_reserved-requires c =
    let at : c.index_of-i.result ≡ index_of c.args.self.now.world.width c.args.p = c.index_of-i.ensures ∙ ap (λ width. index_of width c.args.p) c.width.ensures.width in
    let early = index_of-early c.args.self.now.marked.items c.args.self.now.world.width c.args.self.now.world.height c.args.p c.requires.marks.sized c.requires.inside in
    let below = listed-below c.args.self.now.world c.args.self.now.marked.items c.args.self.now.written.items c.args.p c.requires.marks c.requires.inside
    (unmarked-at c.args.self.now.marked.items c.index_of-i.result (index_of c.args.self.now.world.width c.args.p) c.index.result.now at early c.index.ensures c.if-not-index.true) in
    omega (arith, below, c.requires.room, c.args.self.now.written.ok.0)

pub returns-then-not-index-clause-marks : goal.returns-then-not-index-clause-marks
returns-then-not-index-clause-marks c =
    let at : c.index_of-i.result ≡ index_of c.args.self.now.world.width c.args.p = c.index_of-i.ensures ∙ ap (λ width. index_of width c.args.p) c.width.ensures.width in
    let early = index_of-early c.args.self.now.marked.items c.args.self.now.world.width c.args.self.now.world.height c.args.p c.requires.marks.sized c.requires.inside in
    subst (λ written. AreMarked c.args.self.now.world (slice_set c.args.self.now.marked.items c.index_of-i.result true) written) (sym c.push_reserved.ensures.items)
    (subst (λ i. AreMarked c.args.self.now.world (slice_set c.args.self.now.marked.items i true) (c.args.self.now.written.items ++ c.args.p ∷ [])) (sym at)
    (AreMarked-more c.args.self.now.world c.args.self.now.marked.items c.args.self.now.written.items c.args.p c.requires.marks c.requires.inside
    (unmarked-at c.args.self.now.marked.items c.index_of-i.result (index_of c.args.self.now.world.width c.args.p) c.index.result.now at early c.index.ensures c.if-not-index.true)))

pub returns-then-not-index-clause-written : goal.returns-then-not-index-clause-written
returns-then-not-index-clause-written c =
    λ q. subst (λ written. Contains written q ↔ (Contains c.args.self.now.written.items q ⊎ (q ≡ c.args.p))) (sym c.push_reserved.ensures.items) (Contains-more c.args.self.now.written.items c.args.p q)
