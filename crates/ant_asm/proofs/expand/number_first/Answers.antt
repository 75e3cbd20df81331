use Rattle.std.proofs.Common.{◌≡◌, ℕ, ◌+◌, ◌≤◌, ap, arith, length, slice_index_or, subst, sym}
use Rattle.ant_asm.specs.Program.{size_of}
use Rattle.ant_asm.specs.Inner.Emission.{offset}
use Rattle.ant_asm.specs.Inner.Flat.{numbers_of, tree_at}
use Rattle.ant_asm.proofs.FlatLemmas.{end_at, number_first-after, number_first-inside, offset-rest, place_of, start_at}
use Rattle.ant_asm.proofs.expand.number_first.Goals as goal

pub returns-then-start-index : goal.returns-then-start-index
returns-then-start-index c =
    let body = c.index-bodies-number in
    sym (number_first-after (tree_at c.args.bodies.now c.args.number) (numbers_of c.args.frame) c.args.place c.index-start.result.now c.index.result.now
    (start_at c.args.bodies.now c.args.number body.result c.requires.good c.requires.known body.is c.args.place c.index-start.result.now
    (place_of c.args.bodies.now c.args.number body.result c.requires.good c.requires.known body.is c.args.place c.requires.inside) c.index-start.ensures)
    (end_at c.args.bodies.now c.args.number body.result c.requires.good c.requires.known body.is c.index.result.now
    (subst (λ (n : ℕ). c.index.result.now ≡ slice_index_or body.result.starts.items n c.index.result.now) (ap length c.as_slice.ensures.value) c.index.ensures))
    c.if-start-index.true)

pub overflow_add-result : goal.overflow_add-result
overflow_add-result c =
    let body = c.index-bodies-number in
    let start : c.index-start.result.now ≡ offset c.args.place (tree_at c.args.bodies.now c.args.number) =
    start_at c.args.bodies.now c.args.number body.result c.requires.good c.requires.known body.is c.args.place c.index-start.result.now
    (place_of c.args.bodies.now c.args.number body.result c.requires.good c.requires.known body.is c.args.place c.requires.inside) c.index-start.ensures in
    let rest = offset-rest c.args.place (tree_at c.args.bodies.now c.args.number) in
    let fits : c.args.frame.base + size_of (tree_at c.args.bodies.now c.args.number) ≤ 10000 = c.requires.fits in
    omega arith

pub returns : goal.returns
returns c =
    let body = c.index-bodies-number in
    sym (number_first-inside (tree_at c.args.bodies.now c.args.number) (numbers_of c.args.frame) c.args.place c.index-start.result.now c.index.result.now
    (start_at c.args.bodies.now c.args.number body.result c.requires.good c.requires.known body.is c.args.place c.index-start.result.now
    (place_of c.args.bodies.now c.args.number body.result c.requires.good c.requires.known body.is c.args.place c.requires.inside) c.index-start.ensures)
    (end_at c.args.bodies.now c.args.number body.result c.requires.good c.requires.known body.is c.index.result.now
    (subst (λ (n : ℕ). c.index.result.now ≡ slice_index_or body.result.starts.items n c.index.result.now) (ap length c.as_slice.ensures.value) c.index.ensures))
    c.if-start-index.false)
