use Rattle.std.proofs.Common.{ℕ, ◌-◌, List, ◌++◌, sym, ap, ◌∙◌, arith}
use Rattle.spec_record.specs.Guess.{guesses_of}
use Rattle.round_book.specs.Book.{window_of}
use Rattle.round_book.proofs.SoloLemmas.{guess_for-from}
use Rattle.round_workers.proofs.GuessLemmas.{guesses-more}
use Rattle.round_workers.proofs.guesses.list_guesses.Goals as goal

pub loop-id-init : goal.loop-id-init
loop-id-init c = let window = window_of c.args.field.now c.args.turns.from c.args.turns.to in record {
  listed = ap (λ (all : List ℕ). all ++ guesses_of window.minds window.base window.place window.from window.from (window.to - window.from)) (c.reserve.ensures.items ∙ c.clear.ensures.items);
  guess = c.place-guess.ensures ∙ sym (guess_for-from window);
  count = (let a = c.reserve.ensures.len in let b = c.clear.ensures.len in omega arith);
  room = (let a = c.in_ok-reserve.ensures.ok in omega arith);
}

pub loop-id-preserved : goal.loop-id-preserved
loop-id-preserved c = let window = window_of c.args.field.now c.args.turns.from c.args.turns.to in record {
  listed = guesses-more window c.loop-id.guesses.items c.push_reserved.new.self.items c.loop-id.guess c.loop-id.id (let below = c.loop-id-test.true in omega arith) c.loop-id.invariant.listed c.loop-id.invariant.guess c.push_reserved.ensures.items;
  guess = c.guess_on-guess.ensures;
  count = (let a = c.push_reserved.ensures.len in let b = c.loop-id.invariant.count in let first = c.loop-id.auto.id in omega arith);
  room = (let a = c.push_reserved.ensures.capacity in let b = c.loop-id.invariant.room in omega arith);
}
