use Rattle.std.proofs.Common.{◌≡◌, ℕ, length, slice_index_or, ap, subst, arith}
use Rattle.ant_asm.proofs.FlatLemmas.{end_at, good_body}
use Rattle.ant_asm.proofs.program.Program.size_of.Goals as goal

pub index-requires : goal.index-requires
index-requires c =
    let body = c.index-body.result.now in
    let good = good_body c.args.self.now.bodies.items c.args.block body c.requires.good.bodies.good c.requires.known c.index-body.ensures in
    let all = body.starts.ok.0 in
    let counted = good.counted in
    let same = ap length c.as_slice.ensures.value in
    omega (arith, all, counted, same)

pub returns-clause-size : goal.returns-clause-size
returns-clause-size c =
    let body = c.index-body.result.now in
    end_at c.args.self.now.bodies.items c.args.block body c.requires.good.bodies.good c.requires.known c.index-body.ensures c.index.result.now
    (subst (λ (n : ℕ). c.index.result.now ≡ slice_index_or body.starts.items n c.index.result.now) (ap length c.as_slice.ensures.value) c.index.ensures)

pub returns-clause-few : goal.returns-clause-few
returns-clause-few c =
    let body = c.index-body.result.now in
    let size = end_at c.args.self.now.bodies.items c.args.block body c.requires.good.bodies.good c.requires.known c.index-body.ensures c.index.result.now
    (subst (λ (n : ℕ). c.index.result.now ≡ slice_index_or body.starts.items n c.index.result.now) (ap length c.as_slice.ensures.value) c.index.ensures) in
    let few = (good_body c.args.self.now.bodies.items c.args.block body c.requires.good.bodies.good c.requires.known c.index-body.ensures).few in
    omega (arith, size, few)
