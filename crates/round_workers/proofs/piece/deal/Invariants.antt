-- the workers so far have their shares, and the guess of the next turn is known
use Rattle.std.proofs.Common.{◌≡◌, ◌≤◌}
use Rattle.std.specs.Vec.{vec_len}
use Rattle.round_book.specs.Book.{window_of}
use Rattle.round_book.specs.Window.{guess_for}
use Rattle.round_workers.specs.Inner.Pieces.{all_have_room, shares_among}
use Rattle.round_workers.specs.Inner.Shares.{first_turn, shares}
use Rattle.round_workers.proofs.piece.deal.Given as goal

abbrev pub invariant-loop-worker : goal.invariant-loop-worker
invariant-loop-worker l = let window = window_of l.field l.turns.from l.turns.to in record {
  guess : l.guess ≡ guess_for window (first_turn window l.workers l.worker);
  shares : shares_among l.dealt l.pieces.items ≡ shares window l.workers l.worker;
  rooms : all_have_room l.dealt l.pieces.items;
  within : l.dealt ≤ vec_len l.pieces;
}
