use Rattle.round_book.proofs.CountLemmas.{is_taken-test, look_holds-test}
use Rattle.round_book.proofs.laws.taken_where_it_holds.Goals as goal

pub returns : goal.returns
returns c = record { look = look_holds-test; turn = is_taken-test }
