use Rattle.std.proofs.Common.{◌≡◌, ◌<◌, ◌≤◌, Some, arith, length}
use Rattle.std.specs.Prelude.{slice_get}
use Rattle.ant_asm.proofs.FlatLemmas.{read_at}
use Rattle.ant_asm.proofs.Walks.{item-few, item-known, item-next, item-size, place-inside, rest-end}
use Rattle.ant_asm.proofs.walk.Walk.step.Goals as goal

pub leave-requires-clause-end : goal.leave-requires-clause-end
leave-requires-clause-end c =
    let body = c.index-bodies-spot.result in
    let place = c.args.self.now.spot.place in
    let known = c.requires.good.spot.known in
    let there : slice_get c.args.self.now.bodies.now c.args.self.now.spot.number ≡ Some body = read_at c.args.self.now.bodies.now c.args.self.now.spot.number body (omega (arith, known)) c.index-bodies-spot.is in
    let all = body.counted.ok.0 in let many = c.len.ensures in
    let past : length body.counted.items ≤ place = (let over = c.if-spot-len.true in omega (arith, all, many, over)) in
    rest-end c.args.self.now.bodies.now c.args.self.now.spot body c.requires.good.good there past

pub index-line-requires : goal.index-line-requires
index-line-requires c =
    let body = c.index-bodies-spot.result in
    let place = c.args.self.now.spot.place in
    let known = c.requires.good.spot.known in
    let there : slice_get c.args.self.now.bodies.now c.args.self.now.spot.number ≡ Some body = read_at c.args.self.now.bodies.now c.args.self.now.spot.number body (omega (arith, known)) c.index-bodies-spot.is in
    let all = body.counted.ok.0 in let many = c.len.ensures in
    let inside : place < length body.counted.items = (let below = c.if-spot-len.false in omega (arith, all, many, below)) in
    let lines = body.lines.ok.0 in
    let at = place-inside c.args.self.now.bodies.now c.args.self.now.spot body c.requires.good.good there c.index.result.now inside c.index.ensures in
    omega (arith, lines, at)

pub size_of-requires : goal.size_of-requires
size_of-requires c =
    let body = c.index-bodies-spot.result in
    let place = c.args.self.now.spot.place in
    let known = c.requires.good.spot.known in
    let there : slice_get c.args.self.now.bodies.now c.args.self.now.spot.number ≡ Some body = read_at c.args.self.now.bodies.now c.args.self.now.spot.number body (omega (arith, known)) c.index-bodies-spot.is in
    let all = body.counted.ok.0 in let many = c.len.ensures in
    let inside : place < length body.counted.items = (let below = c.if-spot-len.false in omega (arith, all, many, below)) in
    item-known c.args.self.now.bodies.now c.args.self.now.spot body c.requires.good.good there c.index.result.now inside c.index.ensures c.index-line.result.now c.index-line.ensures
    (length c.args.self.now.outer.items) c.requires.good.spot

pub overflow_add-behind-2 : goal.overflow_add-behind-2
overflow_add-behind-2 c =
    let body = c.index-bodies-spot.result in
    let place = c.args.self.now.spot.place in
    let known = c.requires.good.spot.known in
    let there : slice_get c.args.self.now.bodies.now c.args.self.now.spot.number ≡ Some body = read_at c.args.self.now.bodies.now c.args.self.now.spot.number body (omega (arith, known)) c.index-bodies-spot.is in
    let all = body.counted.ok.0 in let many = c.len.ensures in
    let inside : place < length body.counted.items = (let below = c.if-spot-len.false in omega (arith, all, many, below)) in
    let few = item-few c.args.self.now.bodies.now c.args.self.now.spot body c.requires.good.good there c.index.result.now inside c.index.ensures c.index-line.result.now c.index-line.ensures
    (length c.args.self.now.outer.items) c.requires.good.spot in
    let same = item-size c.args.self.now.bodies.now c.args.self.now.spot body c.requires.good.good there c.index.result.now inside c.index.ensures c.index-line.result.now c.index-line.ensures
    (length c.args.self.now.outer.items) c.requires.good.spot in
    let size = c.size_of.ensures in
    omega (arith, few, same, size)

pub pass-requires-clause-next : goal.pass-requires-clause-next
pass-requires-clause-next c =
    let body = c.index-bodies-spot.result in
    let place = c.args.self.now.spot.place in
    let known = c.requires.good.spot.known in
    let there : slice_get c.args.self.now.bodies.now c.args.self.now.spot.number ≡ Some body = read_at c.args.self.now.bodies.now c.args.self.now.spot.number body (omega (arith, known)) c.index-bodies-spot.is in
    let all = body.counted.ok.0 in let many = c.len.ensures in
    let inside : place < length body.counted.items = (let below = c.if-spot-len.false in omega (arith, all, many, below)) in
    item-next c.args.self.now.bodies.now c.args.self.now.spot body c.requires.good.good there c.index.result.now inside c.index.ensures c.index-line.result.now c.index-line.ensures
    (length c.args.self.now.outer.items) c.requires.good.spot c.size_of.result c.size_of.ensures
