use Rattle.std.proofs.Common.{◌≡◌, subst, ℕ}
use Rattle.round_book.specs.Book.{FieldValue, IsPlayed, lent_for}
use Rattle.round_workers.proofs.board.crew.play_on_board.Goals as goal

-- what is played from a field that is lent is played from the field as it was before
played-so : (old lent now : FieldValue) (from to a b : ℕ) → lent ≡ lent_for old from to → a ≡ from → b ≡ to → IsPlayed lent a b now → IsPlayed old from to now
played-so old lent now from to a b is begins ends played =
    let here = subst (λ (f : FieldValue). IsPlayed f from to now) is (subst (λ (n : ℕ). IsPlayed lent from n now) ends (subst (λ (n : ℕ). IsPlayed lent n b now) begins played)) in
    record { now = here.now; minds = here.minds; seed = here.seed; ids = here.ids; whole = here.whole; lent = here.lent }

pub returns-clause-played : goal.returns-clause-played
returns-clause-played g c = played-so c.args.field.now c.begin.new.self c.finish.new.self c.args.turns.from c.args.turns.to c.settle-book.result.from c.settle-book.result.to
    c.in_ok-book.ensures.lent c.settle-book.ensures.book.from c.settle-book.ensures.book.to c.finish.ensures.played
