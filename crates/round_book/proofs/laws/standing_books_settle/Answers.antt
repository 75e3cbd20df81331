use Rattle.round_book.proofs.ReachedBooks.{standing_books_settle}
use Rattle.round_book.proofs.laws.standing_books_settle.Goals as goal

pub returns : goal.returns
returns c = standing_books_settle
