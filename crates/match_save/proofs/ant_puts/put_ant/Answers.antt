use Rattle.std.proofs.Common.{◌≡◌, Some, sym, ◌∙◌, ap, subst, arith}
use Rattle.cell_world.specs.declared.cell.Cell.{Cell}
use Rattle.cell_world.specs.Grid.{cell_in, world_of}
use Rattle.cell_world.specs.Valid.{CanSet}
use Rattle.cell_world.specs.World.{put}
use Rattle.match_save.specs.Inner.AntPuts.{CanStand, standing}
use Rattle.match_save.proofs.Standings.{CanSet-standing, free-cell, full-standing, same_grid, world_of-standing}
use Rattle.match_save.proofs.ant_puts.put_ant.Goals as goal

pub set-requires : goal.set-requires
set-requires c =
    let content : c.cell-cell.result ≡ cell_in c.args.world.now c.args.it.place = c.cell-cell.ensures.content in
    let free = free-cell c.cell-cell.result c.if-not-is_free.ensures in
    let can : CanStand c.args.world.now c.args.it = record { clear = ap (λ (cell : Cell). cell.rocky) (sym content) ∙ free.clear; free = ap (λ (cell : Cell). cell.ant) (sym content) ∙ free.free; made = omega arith } in
    subst (λ (cell : Cell). CanSet (world_of c.args.world.now) 9 c.args.it.place (record cell { ant = Some c.args.it.ant })) (sym content)
    (CanSet-standing c.args.world.now c.args.it 9 (omega arith) c.cell-cell.ensures.world c.requires.inside can c.requires.late c.requires.light)

pub returns : goal.returns
returns c =
    let content : c.cell-cell.result ≡ cell_in c.args.world.now c.args.it.place = c.cell-cell.ensures.content in
    let free = free-cell c.cell-cell.result c.if-not-is_free.ensures in
    let can : CanStand c.args.world.now c.args.it = record { clear = ap (λ (cell : Cell). cell.rocky) (sym content) ∙ free.clear; free = ap (λ (cell : Cell). cell.ant) (sym content) ∙ free.free; made = omega arith } in
    let full = c.cell-cell.ensures.world.full in (
      can,
      same_grid c.set.new.self (standing c.args.world.now c.args.it) c.width-width.ensures.world.full (full-standing c.args.world.now c.args.it full)
          (c.set.ensures.set ∙ ap (λ (cell : Cell). put (world_of c.args.world.now) c.args.it.place (record cell { ant = Some c.args.it.ant })) content
          ∙ sym (world_of-standing c.args.world.now c.args.it full c.requires.inside)),
    )
