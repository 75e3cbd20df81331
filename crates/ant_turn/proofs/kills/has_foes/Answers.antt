use Rattle.std.proofs.Common.{◌≡◌, ℕ, ◌+◌, subst, false, slice_index_or, drop, refl, arith}
use Rattle.hex_geometry.specs.Neighbourhood.{neighbours_of}
use Rattle.cell_world.specs.Cell.{is_ant_of}
use Rattle.cell_world.proofs.Places.{ant-clear, clear_has_neighbours}
use Rattle.ant_turn.proofs.Foes.{neighbours_of-inside, ants_among-few, ants_among-enough}
use Rattle.ant_turn.specs.Kills.{ants_among}
use Rattle.ant_turn.proofs.kills.has_foes.Goals as goal

pub neighbours-around-requires : goal.neighbours-around-requires
neighbours-around-requires g c =
    let w = g.G.Ground.world c.args.ground.now in
    clear_has_neighbours w c.args.p c.requires.valid (ant-clear w c.args.p c.args.ant.now c.requires.valid c.requires.here)

pub cell_at-cell-requires : goal.cell_at-cell-requires
cell_at-cell-requires g c =
    let w = g.G.Ground.world c.args.ground.now in
    rw (c.loop-q.invariant.world, c.neighbours-around.ensures)
    (neighbours_of-inside c.loop-q.q-index _ (c.requires.valid.rim c.args.p (ant-clear w c.args.p c.args.ant.now c.requires.valid c.requires.here)) c.loop-q-test.true)

pub returns-then-gaps-eq0-clause-foes : goal.returns-then-gaps-eq0-clause-foes
returns-then-gaps-eq0-clause-foes g c =
    let w = g.G.Ground.world c.args.ground.now in
    let ns = neighbours_of c.args.p in
    let gap : is_ant_of c.foe-foe.result (w.cells (slice_index_or ns c.loop-q.q-index (record { x = 0; y = 0 }))).ant ≡ false =
    rw (← c.loop-q.invariant.world, ← c.neighbours-around.ensures, ← c.cell_at-cell.ensures.content, ← c.has_ant_of.ensures) c.if-not-has_ant_of.true in
    let count : ants_among w.cells c.foe-foe.result (drop c.loop-q.q-index ns) + c.loop-q.q-index + c.args.surround ≡ ants_among w.cells c.foe-foe.result ns + 6 = omega (arith, c.loop-q.invariant.count, c.if-gaps-eq0.true) in
    rw (← c.foe-foe.ensures, ants_among-few c.args.surround w.cells c.foe-foe.result c.args.p c.loop-q.q-index _ c.loop-q-test.true count gap) refl

pub returns-clause-foes : goal.returns-clause-foes
returns-clause-foes g c =
    let w = g.G.Ground.world c.args.ground.now in
    let ns = neighbours_of c.args.p in
    let six : c.loop-q.q-index ≡ 6 = omega (arith, c.loop-q.auto.q-index-end, c.loop-q-test.false) in
    let count : ants_among w.cells c.foe-foe.result (drop 6 ns) + 6 + c.loop-q.gaps + c.args.surround ≡ ants_among w.cells c.foe-foe.result ns + 6 =
    subst (λ (k : ℕ). ants_among w.cells c.foe-foe.result (drop k ns) + k + c.loop-q.gaps + c.args.surround ≡ ants_among w.cells c.foe-foe.result ns + 6) six c.loop-q.invariant.count in
    rw (← c.foe-foe.ensures, ants_among-enough c.args.surround w.cells c.foe-foe.result c.args.p c.loop-q.gaps count) refl
