use Rattle.round_book.proofs.ReachedBooks.{books_are_reached}
use Rattle.round_book.proofs.laws.books_are_reached.Goals as goal

pub returns : goal.returns
returns c = books_are_reached
