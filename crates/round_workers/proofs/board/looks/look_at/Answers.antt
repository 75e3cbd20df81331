use Rattle.std.proofs.Common.{◌≡◌, ℕ, ◌+◌, ◌-◌, List, length, slice_index_or, arith, ap, ◌∙◌}
use Rattle.cell_world.specs.Grid.{world_of}
use Rattle.round_book.specs.Book.{window_of}
use Rattle.round_book.specs.Window.{guess_for}
use Rattle.round_book.proofs.SoloLemmas.{guess_for-le}
use Rattle.round_book.proofs.GuessLemmas.{guesses_for-at, guesses_for-length}
use Rattle.round_workers.proofs.BoardWorkers.{look-so}
use Rattle.round_workers.proofs.board.looks.look_at.Goals as goal

pub bounds-guesses-ticket : goal.bounds-guesses-ticket
bounds-guesses-ticket c = let long : length c.args.guesses.now ≡ c.args.turns.to - c.args.turns.from = ap length c.requires.guesses ∙ guesses_for-length (window_of c.args.field.now c.args.turns.from c.args.turns.to) in let inside = c.requires.ticket in omega arith

pub look-requires-clause-guess : goal.look-requires-clause-guess
look-requires-clause-guess c =
    let w = window_of c.args.field.now c.args.turns.from c.args.turns.to in let t : ℕ = c.args.ticket in
    let is : slice_index_or c.args.guesses.now t 0 ≡ guess_for w (c.args.turns.from + t) = ap (λ (l : List ℕ). slice_index_or l t 0) c.requires.guesses ∙ guesses_for-at w t 0 c.requires.ticket in
    let few = guess_for-le w (c.args.turns.from + t) in let lasting = c.requires.lasting in let inside = c.requires.ticket in omega arith

pub returns : goal.returns
returns c =
    let w = window_of c.args.field.now c.args.turns.from c.args.turns.to in let t : ℕ = c.args.ticket in
    let is : slice_index_or c.args.guesses.now t 0 ≡ guess_for w (c.args.turns.from + t) = ap (λ (l : List ℕ). slice_index_or l t 0) c.requires.guesses ∙ guesses_for-at w t 0 c.requires.ticket in
    c.look.ensures ∙ look-so w (c.args.turns.from + t) _ _ _ _ c.brains.ensures.brains c.seed.ensures (ap world_of c.world.ensures.world) is
