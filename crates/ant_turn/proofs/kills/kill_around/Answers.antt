use Rattle.std.proofs.Common.{◌≡◌, ◌∙◌, length, refl, sym, ap, arith}
use Rattle.cell_world.specs.World.{with_cells}
use Rattle.ant_turn.proofs.Checks.{check_around_at-first, dead_around-first, noted-more, killed_around-first}
use Rattle.ant_turn.proofs.Foes.{neighbours_of-inside}
use Rattle.ant_turn.specs.Deaths.{dead_at, with_noted}
use Rattle.ant_turn.specs.Kills.{check_at, killed_at}
use Rattle.ant_turn.specs.Sheet.{sheet_of}
use Rattle.ant_turn.proofs.kills.kill_around.Goals as goal

pub loop-q-init : goal.loop-q-init
loop-q-init g c =
    let w = g.G.Ground.world c.args.ground.now in
    let mine : c.check.new.killed.items ≡ killed_at (sheet_of c.args.sheet) w.cells c.args.p =
    rw (c.check.ensures.killed, c.new-killed.ensures) refl in
    record {
      same = rw c.check.ensures.world (refl {a = with_cells w (check_at (sheet_of c.args.sheet) w.cells c.args.p)});
      cells = rw c.check.ensures.world (sym (check_around_at-first (sheet_of c.args.sheet) w.cells c.args.p));
      killed = rw (mine, c.check.ensures.world) (sym (killed_around-first (sheet_of c.args.sheet) w.cells c.args.p));
      noted = rw (c.check.ensures.world, c.check.ensures.noted) (noted-more (g.N.KillLog.noted c.args.notes.now) (dead_at (sheet_of c.args.sheet) w.cells c.args.p) _ ∙ ap (λ dead. with_noted dead (g.N.KillLog.noted c.args.notes.now)) (sym (dead_around-first (sheet_of c.args.sheet) w.cells c.args.p)));
      count = omega (arith, c.check.ensures.count, ap length c.new-killed.ensures);
      noted_room = c.check.ensures.noted_room;
      room = c.check.ensures.room;
      valid = c.check.ensures.valid;
    }

pub check-requires-in-loop-q-clause-inside : goal.check-requires-in-loop-q-clause-inside
check-requires-in-loop-q-clause-inside g c =
    rw (c.loop-q.invariant.same, c.neighbours-nearby.ensures) (neighbours_of-inside c.loop-q.q-index _ c.requires.inner c.loop-q-test.true)
