use Rattle.std.proofs.Common.{◌≡◌, ◌+◌, ◌≤◌, ◌++◌, drop}
use Rattle.hex_geometry.specs.Neighbourhood.{neighbours_of}
use Rattle.arrayvec.specs.ArrayVec.{array_vec_len}
use Rattle.cell_world.specs.Valid.{Valid}
use Rattle.cell_world.specs.World.{with_cells}
use Rattle.ant_turn.specs.Deaths.{dead_all, dead_around, with_noted}
use Rattle.ant_turn.specs.Kills.{check_all, check_around_at, killed_all, killed_around}
use Rattle.ant_turn.specs.Sheet.{sheet_of}
use Rattle.ant_turn.proofs.kills.kill_around.Given as goal

abbrev pub invariant-loop-q : goal.invariant-loop-q
invariant-loop-q g l =
    let before = g.G.Ground.world l.fn.ground in
    let now = g.G.Ground.world l.ground in
    let left = drop l.q-index (neighbours_of l.fn.p) in
    record {
      same : now ≡ with_cells before now.cells;
      cells : check_all (sheet_of l.fn.sheet) now.cells left ≡ check_around_at (sheet_of l.fn.sheet) before.cells l.fn.p;
      killed : l.killed.items ++ killed_all (sheet_of l.fn.sheet) now.cells left ≡ killed_around (sheet_of l.fn.sheet) before.cells l.fn.p;
      noted : with_noted (dead_all (sheet_of l.fn.sheet) now.cells left) (g.N.KillLog.noted l.notes) ≡ with_noted (dead_around (sheet_of l.fn.sheet) before.cells l.fn.p) (g.N.KillLog.noted l.fn.notes);
      count : array_vec_len l.killed ≤ l.q-index + 1;
      noted_room : g.N.KillLog.room l.fn.notes ≤ g.N.KillLog.room l.notes + (l.q-index + 1);
      room : g.G.Ground.room l.fn.ground ≤ g.G.Ground.room l.ground + (l.q-index + 1);
      valid : Valid now;
    }
