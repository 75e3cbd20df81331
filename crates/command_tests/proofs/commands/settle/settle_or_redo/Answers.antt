-- a look at the next turn of a book that stands may be settled, and the book stands again
use Rattle.std.proofs.Common.{sym, subst}
use Rattle.cell_world.specs.Grid.{world_of}
use Rattle.ant_turn.specs.Minds.{Fits, Minds, minds_of}
use Rattle.round_book.specs.Book.{BookValue, IsRedone, IsSameWindow}
use Rattle.round_book.proofs.FieldLemmas.{on-keeps, on-redone, on-taken, on-turn, on-unwritten, on-writes, settles-none, settles-some}
use Rattle.command_tests.proofs.commands.settle.settle_or_redo.Goals as goal

pub settle-requires-clause-turn : goal.settle-requires-clause-turn
settle-requires-clause-turn c = on-turn c.args.field.now c.args.book.now c.requires.stands c.args.look c.requires.look

pub settle-requires-clause-unwritten : goal.settle-requires-clause-unwritten
settle-requires-clause-unwritten c = on-unwritten c.args.field.now c.args.book.now c.requires.stands c.args.look c.requires.look

pub settle-requires-clause-writes : goal.settle-requires-clause-writes
settle-requires-clause-writes c = on-writes c.args.field.now c.args.book.now c.requires.stands c.args.look c.requires.look

pub redo-requires-clause-fit : goal.redo-requires-clause-fit
redo-requires-clause-fit c =
    let back = settles-some c.args.look c.args.book.now c.settle.new.self c.settle.result c.in-Some.cause c.in-Some.is c.settle.ensures.settled in
    let fits : Fits (world_of c.args.book.now.world) (minds_of c.brains.result) =
    subst (λ (m : Minds). Fits (world_of c.args.book.now.world) m) (sym c.brains.ensures.brains) (on-keeps c.args.field.now c.args.book.now c.requires.stands).fits in
    subst (λ (b : BookValue). Fits (world_of b.world) (minds_of c.brains.result)) (sym back.0) fits

pub returns-in-Some-clause-stands : goal.returns-in-Some-clause-stands
returns-in-Some-clause-stands c =
    let back = settles-some c.args.look c.args.book.now c.settle.new.self c.settle.result c.in-Some.cause c.in-Some.is c.settle.ensures.settled in
    on-redone c.args.field.now c.args.book.now c.requires.stands c.redo.new.self c.args.look (minds_of c.brains.result) c.in-Some.cause c.requires.look c.brains.ensures.brains back.1
    (subst (λ (b : BookValue). IsRedone (minds_of c.brains.result) c.in-Some.cause b c.redo.new.self) back.0 c.redo.ensures.redone)
    (subst (λ (b : BookValue). IsSameWindow b c.redo.new.self) back.0 c.redo.ensures.same)

pub returns-in-None-clause-stands : goal.returns-in-None-clause-stands
returns-in-None-clause-stands c =
    on-taken c.args.field.now c.args.book.now c.requires.stands c.settle.new.self c.args.look c.requires.look c.requires.left
    (settles-none c.args.look c.args.book.now c.settle.new.self c.settle.result c.in-None.is c.settle.ensures.settled)
    c.settle.ensures.same
