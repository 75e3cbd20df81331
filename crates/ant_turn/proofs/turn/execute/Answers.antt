-- the sensed cell is inside, and the own cell that an instruction changes may replace the one there, with
-- markers of the six
use Rattle.std.proofs.Common.{refl, subst}
use Rattle.brain_read.specs.Soundness.{IsSound}
use Rattle.hex_geometry.proofs.Beside.{sensed_pos_inside}
use Rattle.ant_turn.proofs.OwnCells.{drop_stays, mark_stays, pick_up_stays, unmark_stays}
use Rattle.ant_turn.proofs.StandsLemmas.{own_read, own_replaces, own_six}
use Rattle.ant_turn.proofs.turn.execute.Goals as goal

pub cell_at-sensed_cell-requires : goal.cell_at-sensed_cell-requires
cell_at-sensed_cell-requires g c = rw c.sensed.ensures (sensed_pos_inside c.args.standing.ant.facing c.in-Sense.sight c.requires.stands.inner)

pub stay-requires-clause-replaces : goal.stay-requires-clause-replaces
stay-requires-clause-replaces g c =
    rw c.cell_at-cell.ensures.world
    (own_replaces (own_read c.requires.stands c.cell_at-cell.ensures.content) c.cell_after_mark.result c.cell_after_mark.ensures (mark_stays c.args.standing.ant.colour c.cell_at-cell.result c.args.standing.ant c.in-Mark.mark c.in-Mark.next refl))

pub stay-requires-in-Unmark-clause-replaces : goal.stay-requires-in-Unmark-clause-replaces
stay-requires-in-Unmark-clause-replaces g c =
    rw c.cell_at-cell-in-Unmark.ensures.world
    (own_replaces (own_read c.requires.stands c.cell_at-cell-in-Unmark.ensures.content) c.cell_after_unmark.result c.cell_after_unmark.ensures (unmark_stays c.args.standing.ant.colour c.cell_at-cell-in-Unmark.result c.args.standing.ant c.in-Unmark.mark c.in-Unmark.next refl))

pub stay-requires-in-PickUp-clause-replaces : goal.stay-requires-in-PickUp-clause-replaces
stay-requires-in-PickUp-clause-replaces g c =
    rw c.cell_at-cell-in-PickUp.ensures.world
    (own_replaces (own_read c.requires.stands c.cell_at-cell-in-PickUp.ensures.content) c.cell_after_pick_up.result c.cell_after_pick_up.ensures (pick_up_stays c.cell_at-cell-in-PickUp.result c.args.standing.ant c.in-PickUp.yes c.in-PickUp.no))

pub stay-requires-in-Drop-clause-replaces : goal.stay-requires-in-Drop-clause-replaces
stay-requires-in-Drop-clause-replaces g c =
    rw c.cell_at-cell-in-Drop.ensures.world
    (own_replaces (own_read c.requires.stands c.cell_at-cell-in-Drop.ensures.content) c.cell_after_drop.result c.cell_after_drop.ensures (drop_stays c.cell_at-cell-in-Drop.result c.args.standing.ant c.in-Drop.next))

pub stay-requires-clause-six : goal.stay-requires-clause-six
stay-requires-clause-six g c =
    own_six (own_read c.requires.stands c.cell_at-cell.ensures.content) c.cell_after_mark.result c.requires.sound.0 c.cell_after_mark.ensures (subst (IsSound c.requires.sound.0) c.in-Mark.is c.requires.sound.1)
    (mark_stays c.args.standing.ant.colour c.cell_at-cell.result c.args.standing.ant c.in-Mark.mark c.in-Mark.next refl)

pub stay-requires-in-Unmark-clause-six : goal.stay-requires-in-Unmark-clause-six
stay-requires-in-Unmark-clause-six g c =
    own_six (own_read c.requires.stands c.cell_at-cell-in-Unmark.ensures.content) c.cell_after_unmark.result c.requires.sound.0 c.cell_after_unmark.ensures (subst (IsSound c.requires.sound.0) c.in-Unmark.is c.requires.sound.1)
    (unmark_stays c.args.standing.ant.colour c.cell_at-cell-in-Unmark.result c.args.standing.ant c.in-Unmark.mark c.in-Unmark.next refl)

pub stay-requires-in-PickUp-clause-six : goal.stay-requires-in-PickUp-clause-six
stay-requires-in-PickUp-clause-six g c =
    own_six (own_read c.requires.stands c.cell_at-cell-in-PickUp.ensures.content) c.cell_after_pick_up.result c.requires.sound.0 c.cell_after_pick_up.ensures (subst (IsSound c.requires.sound.0) c.in-PickUp.is c.requires.sound.1)
    (pick_up_stays c.cell_at-cell-in-PickUp.result c.args.standing.ant c.in-PickUp.yes c.in-PickUp.no)

pub stay-requires-in-Drop-clause-six : goal.stay-requires-in-Drop-clause-six
stay-requires-in-Drop-clause-six g c =
    own_six (own_read c.requires.stands c.cell_at-cell-in-Drop.ensures.content) c.cell_after_drop.result c.requires.sound.0 c.cell_after_drop.ensures (subst (IsSound c.requires.sound.0) c.in-Drop.is c.requires.sound.1)
    (drop_stays c.cell_at-cell-in-Drop.result c.args.standing.ant c.in-Drop.next)

pub returns-in-Move-clause-world : goal.returns-in-Move-clause-world
returns-in-Move-clause-world g c = rw c.in-Move.is (c.go.ensures.world c.args.stream.now.seed c.args.stream.now.place)

pub returns-in-Move-clause-killed : goal.returns-in-Move-clause-killed
returns-in-Move-clause-killed g c = rw c.in-Move.is (c.go.ensures.killed c.args.stream.now.seed c.args.stream.now.place)
