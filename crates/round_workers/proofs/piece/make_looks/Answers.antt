use Rattle.std.proofs.Common.{◌-◌, refl, ◌∙◌, ap, arith}
use Rattle.ant_random.specs.Stream.{SeedAndPlace}
use Rattle.round_book.specs.Book.{window_of}
use Rattle.round_book.proofs.SoloLemmas.{guess_for-le}
use Rattle.round_workers.proofs.PieceLemmas.{guess_for-more, guess_for-small, looked-more, looked-none}
use Rattle.round_workers.proofs.piece.make_looks.Goals as goal

pub loop-id-init : goal.loop-id-init
loop-id-init g c = record {
  looked = looked-none (window_of c.args.field.now c.args.from c.args.share.to) c.args.share.from c.args.looks.now.items;
  guess = c.at_place_uncounted-stream.ensures.place ∙ c.requires.guess;
  seed = c.at_place_uncounted-stream.ensures.seed ∙ c.seed.ensures;
  len = omega arith;
  capacity = refl;
}

pub at_place_uncounted-stream-requires : goal.at_place_uncounted-stream-requires
at_place_uncounted-stream-requires g c =
    let few = guess_for-le (window_of c.args.field.now c.args.from c.args.share.to) c.args.share.from in let is = c.requires.guess in let lasting = c.requires.begin.lasting in
    let first = c.requires.first in let forwards = c.requires.forwards in omega arith

pub make_look-requires-clause-place : goal.make_look-requires-clause-place
make_look-requires-clause-place g c =
    let small = guess_for-small c.args.field.now c.args.from c.args.share.to c.loop-id.id c.requires.begin (omega arith) c.loop-id-test.true in
    omega (arith, small, c.loop-id.invariant.guess)

pub loop-id-preserved : goal.loop-id-preserved
loop-id-preserved g c = record {
  looked = looked-more c.args.field.now c.args.from c.args.share.to c.loop-id.id c.loop-id.stream.seed c.loop-id.stream.place c.loop-id.invariant.seed c.loop-id.invariant.guess
      c.args.share.from c.loop-id.looks.items c.make_look.new.looks.items (omega arith) c.loop-id.invariant.looked c.make_look.ensures.made;
  guess = guess_for-more c.args.field.now c.args.from c.args.share.to c.loop-id.id c.loop-id.stream.seed c.loop-id.stream.place c.loop-id.invariant.seed c.loop-id.invariant.guess
      c.make_look.new.stream.place (omega arith) (ap (λ (s : SeedAndPlace). s.place) c.make_look.ensures.stream);
  seed = ap (λ (s : SeedAndPlace). s.seed) c.make_look.ensures.stream ∙ c.loop-id.invariant.seed;
  len = omega (arith, c.make_look.ensures.len);
  capacity = c.make_look.ensures.capacity ∙ c.loop-id.invariant.capacity;
}
