use Rattle.std.proofs.Common.{arith}
use Rattle.round_book.specs.Book.{window_of}
use Rattle.round_book.proofs.SoloLemmas.{guess_for-le}
use Rattle.far_crew.proofs.WindowLemmas.{guesses-at, guesses_count}
use Rattle.far_crew.proofs.guesses.guess_of.Goals as goal

pub bounds-turns-id : goal.bounds-turns-id
bounds-turns-id c =
    let long = guesses_count c.args.field.now c.args.turns.now.from c.args.turns.now.to c.args.turns.now.guesses.now c.requires.turns.guesses in
    let a = c.requires.first in let b = c.requires.last in omega arith

pub returns-clause-guess : goal.returns-clause-guess
returns-clause-guess c = guesses-at c.args.field.now c.args.turns.now.from c.args.turns.now.to c.args.id c.args.turns.now.guesses.now c.requires.turns.guesses c.requires.first c.requires.last

pub returns-clause-small : goal.returns-clause-small
returns-clause-small c =
    let is = guesses-at c.args.field.now c.args.turns.now.from c.args.turns.now.to c.args.id c.args.turns.now.guesses.now c.requires.turns.guesses c.requires.first c.requires.last in
    let few = guess_for-le (window_of c.args.field.now c.args.turns.now.from c.args.turns.now.to) c.args.id in
    let a = c.requires.first in let b = c.requires.last in let lasting = c.requires.turns.begins.lasting in omega arith
