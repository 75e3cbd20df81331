use Rattle.std.proofs.Common.{◌∙◌, ap, arith}
use Rattle.cell_world.specs.Grid.{world_of}
use Rattle.round_book.specs.Book.{window_of}
use Rattle.round_book.proofs.SoloLemmas.{guess_for-le}
use Rattle.round_workers.proofs.GuessLemmas.{guess_for-on}
use Rattle.round_workers.proofs.guesses.guess_on.Goals as goal

pub guess_at-requires-clause-room : goal.guess_at-requires-clause-room
guess_at-requires-clause-room c =
    let few = guess_for-le (window_of c.args.field.now c.args.turns.from c.args.turns.to) c.args.at in let is = c.requires.guess in let lasting = c.requires.window.lasting in
    let first = c.requires.first in let forwards = c.requires.forwards in let last = c.requires.last in omega arith

pub returns : goal.returns
returns c =
    let window = window_of c.args.field.now c.args.turns.from c.args.turns.to in
    c.guess_at.ensures.guess ∙ guess_for-on window _ _ c.args.guess c.args.at c.args.id c.brains.ensures.brains (ap world_of c.world.ensures.world) c.requires.guess c.requires.first c.requires.forwards
