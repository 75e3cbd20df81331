-- the guesses so far are listed, and the next is known
use Rattle.std.proofs.Common.{◌≡◌, ◌-◌, ◌≤◌, ◌++◌}
use Rattle.std.specs.Vec.{vec_capacity, vec_len}
use Rattle.round_book.specs.Book.{window_of}
use Rattle.round_book.specs.Window.{guess_for, guesses_for}
use Rattle.spec_record.specs.Guess.{guesses_of}
use Rattle.round_workers.proofs.guesses.list_guesses.Given as goal

abbrev pub invariant-loop-id : goal.invariant-loop-id
invariant-loop-id l = let window = window_of l.field l.turns.from l.turns.to in record {
  listed : l.guesses.items ++ guesses_of window.minds window.base window.place window.from l.id (window.to - l.id) ≡ guesses_for window;
  guess : l.guess ≡ guess_for window l.id;
  count : vec_len l.guesses ≡ l.id - l.turns.from;
  room : l.turns.to - l.turns.from ≤ vec_capacity l.guesses;
}
