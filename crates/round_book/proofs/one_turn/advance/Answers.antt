use Rattle.std.proofs.Common.{sym, subst}
use Rattle.cell_world.specs.Grid.{world_of}
use Rattle.ant_turn.specs.Minds.{Fits, Minds, minds_of}
use Rattle.round_book.specs.Book.{BookValue, IsRedone, IsSameWindow}
use Rattle.round_book.proofs.FieldLemmas.{on-keeps, on-redone, on-taken, on-turn, on-unwritten, on-writes, settles-none, settles-some}
use Rattle.round_book.proofs.one_turn.advance.Goals as goal

pub settle_by-requires-clause-turn : goal.settle_by-requires-clause-turn
settle_by-requires-clause-turn c = on-turn c.args.field.now c.args.book.now c.requires.stands c.args.look.now c.requires.look

pub settle_by-requires-clause-unwritten : goal.settle_by-requires-clause-unwritten
settle_by-requires-clause-unwritten c = on-unwritten c.args.field.now c.args.book.now c.requires.stands c.args.look.now c.requires.look

pub settle_by-requires-clause-writes : goal.settle_by-requires-clause-writes
settle_by-requires-clause-writes c = on-writes c.args.field.now c.args.book.now c.requires.stands c.args.look.now c.requires.look

pub redo-requires-clause-fit : goal.redo-requires-clause-fit
redo-requires-clause-fit c =
    let back = settles-some c.args.look.now c.args.book.now c.settle_by.new.self c.settle_by.result c.in-Some.cause c.in-Some.is c.settle_by.ensures.settled in
    let fits : Fits (world_of c.args.book.now.world) (minds_of c.brains.result) =
    subst (λ (m : Minds). Fits (world_of c.args.book.now.world) m) (sym c.brains.ensures.brains) (on-keeps c.args.field.now c.args.book.now c.requires.stands).fits in
    subst (λ (b : BookValue). Fits (world_of b.world) (minds_of c.brains.result)) (sym back.0) fits

pub returns-in-Some-clause-stands : goal.returns-in-Some-clause-stands
returns-in-Some-clause-stands c =
    let back = settles-some c.args.look.now c.args.book.now c.settle_by.new.self c.settle_by.result c.in-Some.cause c.in-Some.is c.settle_by.ensures.settled in
    on-redone c.args.field.now c.args.book.now c.requires.stands c.redo.new.self c.args.look.now (minds_of c.brains.result) c.in-Some.cause c.requires.look c.brains.ensures.brains back.1
    (subst (λ (b : BookValue). IsRedone (minds_of c.brains.result) c.in-Some.cause b c.redo.new.self) back.0 c.redo.ensures.redone)
    (subst (λ (b : BookValue). IsSameWindow b c.redo.new.self) back.0 c.redo.ensures.same)

pub returns-in-None-clause-stands : goal.returns-in-None-clause-stands
returns-in-None-clause-stands c =
    on-taken c.args.field.now c.args.book.now c.requires.stands c.settle_by.new.self c.args.look.now c.requires.look c.requires.left
    (settles-none c.args.look.now c.args.book.now c.settle_by.new.self c.settle_by.result c.in-None.is c.settle_by.ensures.settled)
    c.settle_by.ensures.same

pub returns-in-Some-clause-answer : goal.returns-in-Some-clause-answer
returns-in-Some-clause-answer c =
    (settles-some c.args.look.now c.args.book.now c.settle_by.new.self c.settle_by.result c.in-Some.cause c.in-Some.is c.settle_by.ensures.settled).1

pub returns-in-None-clause-answer : goal.returns-in-None-clause-answer
returns-in-None-clause-answer c =
    (settles-none c.args.look.now c.args.book.now c.settle_by.new.self c.settle_by.result c.in-None.is c.settle_by.ensures.settled).holds

pub returns-in-Some-clause-settled : goal.returns-in-Some-clause-settled
returns-in-Some-clause-settled c =
    let back = settles-some c.args.look.now c.args.book.now c.settle_by.new.self c.settle_by.result c.in-Some.cause c.in-Some.is c.settle_by.ensures.settled in (
      back.1,
      subst (λ (m : Minds). IsRedone m c.in-Some.cause c.args.book.now c.redo.new.self) c.brains.ensures.brains
          (subst (λ (b : BookValue). IsRedone (minds_of c.brains.result) c.in-Some.cause b c.redo.new.self) back.0 c.redo.ensures.redone),
    )

pub returns-in-None-clause-settled : goal.returns-in-None-clause-settled
returns-in-None-clause-settled c = settles-none c.args.look.now c.args.book.now c.settle_by.new.self c.settle_by.result c.in-None.is c.settle_by.ensures.settled
