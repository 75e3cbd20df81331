use Rattle.std.proofs.Common.{◌≡◌, true, false, ◌++◌, Some, None, sym, ap, ◌∙◌}
use Rattle.std.proofs.lemmas.List.{append-nil}
use Rattle.cell_world.specs.Valid.{Valid}
use Rattle.cell_world.specs.World.{put_cell, with_cells}
use Rattle.cell_world.proofs.Weights.{food-light}
use Rattle.ant_turn.proofs.Checks.{noted-none, is_surrounded-none, is_surrounded-some, check_at-spared, check_at-struck, dead_at-spared, dead_at-struck, killed_at-spared, killed_at-struck}
use Rattle.ant_turn.proofs.Corpses.{CanSet-after_kill}
use Rattle.ant_turn.specs.Deaths.{with_noted}
use Rattle.ant_turn.specs.Kills.{after_kill, check_at, is_surrounded}
use Rattle.ant_turn.specs.Sheet.{sheet_of}
use Rattle.ant_turn.proofs.kills.check.Goals as goal

pub returns-in_default-clause-world : goal.returns-in_default-clause-world
returns-in_default-clause-world g c =
    let w = g.G.Ground.world c.args.ground.now in
    let nobody : (w.cells c.args.p).ant ≡ None = rw (← c.cell_at-cell.ensures.content) c.in_default.is in
    c.cell_at-cell.ensures.world ∙ ap (with_cells w) (sym (check_at-spared (sheet_of c.args.sheet) w.cells c.args.p (is_surrounded-none (sheet_of c.args.sheet) w.cells c.args.p nobody)))

pub returns-in_default-clause-killed : goal.returns-in_default-clause-killed
returns-in_default-clause-killed g c =
    let w = g.G.Ground.world c.args.ground.now in
    let nobody : (w.cells c.args.p).ant ≡ None = rw (← c.cell_at-cell.ensures.content) c.in_default.is in
    rw (killed_at-spared (sheet_of c.args.sheet) w.cells c.args.p (is_surrounded-none (sheet_of c.args.sheet) w.cells c.args.p nobody)) (sym (append-nil c.args.killed.now.items))

pub has_foes-requires-clause-here : goal.has_foes-requires-clause-here
has_foes-requires-clause-here g c = rw (c.cell_at-cell.ensures.world, ← c.cell_at-cell.ensures.content) c.in-Some.is

pub after_kill-requires-clause-light : goal.after_kill-requires-clause-light
after_kill-requires-clause-light g c =
    rw (c.cell_at-cell.ensures.content, ← c.cell_at-cell.ensures.world) (food-light _ c.args.p c.cell_at-cell.ensures.valid)

pub set-requires : goal.set-requires
set-requires g c =
    let w = g.G.Ground.world c.args.ground.now in
    let valid : Valid w = rw (← c.cell_at-cell.ensures.world) c.cell_at-cell.ensures.valid in
    let is : (w.cells c.args.p).ant ≡ Some c.in-Some.ant = rw (← c.cell_at-cell.ensures.content) c.in-Some.is in
    rw (c.after_kill.ensures, c.has_foes.ensures.world, c.has_foes.ensures.room, c.cell_at-cell.ensures.world, c.cell_at-cell.ensures.room, c.cell_at-cell.ensures.content)
    (CanSet-after_kill (sheet_of c.args.sheet) w _ c.args.p c.in-Some.ant c.args.sheet.light valid c.requires.room is)

pub returns-then-has_foes-clause-world : goal.returns-then-has_foes-clause-world
returns-then-has_foes-clause-world g c =
    let w = g.G.Ground.world c.args.ground.now in
    let is : (w.cells c.args.p).ant ≡ Some c.in-Some.ant = rw (← c.cell_at-cell.ensures.content) c.in-Some.is in
    let struck : is_surrounded (sheet_of c.args.sheet) w.cells c.args.p ≡ true =
    is_surrounded-some (sheet_of c.args.sheet) w.cells c.args.p c.in-Some.ant is ∙ rw (← c.cell_at-cell.ensures.world, ← c.surround.ensures, ← c.has_foes.ensures.foes) c.if-has_foes.true in
    let left : with_cells w (put_cell w.cells c.args.p (after_kill (sheet_of c.args.sheet) (w.cells c.args.p))) ≡ with_cells w (check_at (sheet_of c.args.sheet) w.cells c.args.p) =
    ap (with_cells w) (sym (check_at-struck (sheet_of c.args.sheet) w.cells c.args.p struck)) in
    rw (c.set.ensures.set, c.has_foes.ensures.world, c.cell_at-cell.ensures.world, c.after_kill.ensures, c.cell_at-cell.ensures.content) left

pub returns-then-has_foes-clause-killed : goal.returns-then-has_foes-clause-killed
returns-then-has_foes-clause-killed g c =
    let w = g.G.Ground.world c.args.ground.now in
    let is : (w.cells c.args.p).ant ≡ Some c.in-Some.ant = rw (← c.cell_at-cell.ensures.content) c.in-Some.is in
    let struck : is_surrounded (sheet_of c.args.sheet) w.cells c.args.p ≡ true =
    is_surrounded-some (sheet_of c.args.sheet) w.cells c.args.p c.in-Some.ant is ∙ rw (← c.cell_at-cell.ensures.world, ← c.surround.ensures, ← c.has_foes.ensures.foes) c.if-has_foes.true in
    c.push.ensures.items ∙ ap (λ ids. c.args.killed.now.items ++ ids) (sym (killed_at-struck (sheet_of c.args.sheet) w.cells c.args.p c.in-Some.ant is struck))

pub returns-else-has_foes-clause-world : goal.returns-else-has_foes-clause-world
returns-else-has_foes-clause-world g c =
    let w = g.G.Ground.world c.args.ground.now in
    let is : (w.cells c.args.p).ant ≡ Some c.in-Some.ant = rw (← c.cell_at-cell.ensures.content) c.in-Some.is in
    let spared : is_surrounded (sheet_of c.args.sheet) w.cells c.args.p ≡ false =
    is_surrounded-some (sheet_of c.args.sheet) w.cells c.args.p c.in-Some.ant is ∙ rw (← c.cell_at-cell.ensures.world, ← c.surround.ensures, ← c.has_foes.ensures.foes) c.if-has_foes.false in
    c.has_foes.ensures.world ∙ c.cell_at-cell.ensures.world ∙ ap (with_cells w) (sym (check_at-spared (sheet_of c.args.sheet) w.cells c.args.p spared))

pub returns-else-has_foes-clause-killed : goal.returns-else-has_foes-clause-killed
returns-else-has_foes-clause-killed g c =
    let w = g.G.Ground.world c.args.ground.now in
    let is : (w.cells c.args.p).ant ≡ Some c.in-Some.ant = rw (← c.cell_at-cell.ensures.content) c.in-Some.is in
    let spared : is_surrounded (sheet_of c.args.sheet) w.cells c.args.p ≡ false =
    is_surrounded-some (sheet_of c.args.sheet) w.cells c.args.p c.in-Some.ant is ∙ rw (← c.cell_at-cell.ensures.world, ← c.surround.ensures, ← c.has_foes.ensures.foes) c.if-has_foes.false in
    rw (killed_at-spared (sheet_of c.args.sheet) w.cells c.args.p spared) (sym (append-nil c.args.killed.now.items))

pub returns-in_default-clause-noted : goal.returns-in_default-clause-noted
returns-in_default-clause-noted g c =
    let w = g.G.Ground.world c.args.ground.now in
    let nobody : (w.cells c.args.p).ant ≡ None = rw (← c.cell_at-cell.ensures.content) c.in_default.is in
    rw (dead_at-spared (sheet_of c.args.sheet) w.cells c.args.p (is_surrounded-none (sheet_of c.args.sheet) w.cells c.args.p nobody)) (sym (noted-none (g.N.KillLog.noted c.args.notes.now)))

pub returns-then-has_foes-clause-noted : goal.returns-then-has_foes-clause-noted
returns-then-has_foes-clause-noted g c =
    let w = g.G.Ground.world c.args.ground.now in
    let is : (w.cells c.args.p).ant ≡ Some c.in-Some.ant = rw (← c.cell_at-cell.ensures.content) c.in-Some.is in
    let struck : is_surrounded (sheet_of c.args.sheet) w.cells c.args.p ≡ true =
    is_surrounded-some (sheet_of c.args.sheet) w.cells c.args.p c.in-Some.ant is ∙ rw (← c.cell_at-cell.ensures.world, ← c.surround.ensures, ← c.has_foes.ensures.foes) c.if-has_foes.true in
    c.note.ensures.noted ∙ ap (λ dead. with_noted dead (g.N.KillLog.noted c.args.notes.now)) (sym (dead_at-struck (sheet_of c.args.sheet) w.cells c.args.p c.in-Some.ant is struck))

pub returns-else-has_foes-clause-noted : goal.returns-else-has_foes-clause-noted
returns-else-has_foes-clause-noted g c =
    let w = g.G.Ground.world c.args.ground.now in
    let is : (w.cells c.args.p).ant ≡ Some c.in-Some.ant = rw (← c.cell_at-cell.ensures.content) c.in-Some.is in
    let spared : is_surrounded (sheet_of c.args.sheet) w.cells c.args.p ≡ false =
    is_surrounded-some (sheet_of c.args.sheet) w.cells c.args.p c.in-Some.ant is ∙ rw (← c.cell_at-cell.ensures.world, ← c.surround.ensures, ← c.has_foes.ensures.foes) c.if-has_foes.false in
    rw (dead_at-spared (sheet_of c.args.sheet) w.cells c.args.p spared) (sym (noted-none (g.N.KillLog.noted c.args.notes.now)))
