use Rattle.std.proofs.Common.{◌<◌, refl, sym, ◌∙◌, ap, subst}
use Rattle.ant_random.specs.Stream.{SeedAndPlace}
use Rattle.ant_turn.specs.Minds.{minds_of}
use Rattle.round_book.proofs.SoloLemmas.{Going, Going-next, Going-none, going-guess, going-look, same-then}
use Rattle.round_book.proofs.alone.settle_alone.Goals as goal

pub loop-id-init : goal.loop-id-init
loop-id-init g c = record {
  going = subst (λ id. Going c.args.field.now c.args.book.now.from c.args.book.now.to id c.args.book.now c.args.stream.now.place) (sym (c.next-from.ensures.next ∙ c.requires.next))
      (Going-none c.args.field.now c.args.book.now.from c.args.book.now.to c.args.book.now c.args.stream.now.place c.requires.stands refl refl c.requires.next c.requires.place);
  seed = c.requires.seed;
  same = record { seed = refl; from = refl; to = refl };
}

pub renew-requires-clause-place : goal.renew-requires-clause-place
renew-requires-clause-place g c = going-guess c.args.field.now c.args.book.now.from c.args.book.now.to c.loop-id.id c.loop-id.book c.loop-id.stream.place c.loop-id.invariant.going (subst (λ end. c.loop-id.id < end) c.to-to.ensures c.loop-id-test.true)

pub advance-requires-clause-look : goal.advance-requires-clause-look
advance-requires-clause-look g c =
    going-look c.args.field.now c.args.book.now.from c.args.book.now.to c.loop-id.id c.loop-id.book c.loop-id.stream.place c.loop-id.invariant.going
    c.renew.new.self (minds_of c.brains.result) c.loop-id.stream.seed c.world.result.now c.brains.ensures.brains c.loop-id.invariant.seed c.world.ensures.world c.renew.ensures.look

pub loop-id-preserved : goal.loop-id-preserved
loop-id-preserved g c = record {
  going = Going-next c.args.field.now c.args.book.now.from c.args.book.now.to c.loop-id.id c.loop-id.book c.loop-id.stream.place c.loop-id.invariant.going
      c.renew.new.self (minds_of c.brains.result) c.loop-id.stream.seed c.world.result.now c.brains.ensures.brains c.loop-id.invariant.seed c.world.ensures.world c.renew.ensures.look
      c.advance.new.book c.renew.new.stream.place c.advance.ensures.stands c.advance.ensures.same c.advance.ensures.next
      (ap (λ (s : SeedAndPlace). s.place) c.renew.ensures.stream);
  seed = ap (λ (s : SeedAndPlace). s.seed) c.renew.ensures.stream ∙ c.loop-id.invariant.seed;
  same = same-then c.args.book.now c.loop-id.book c.advance.new.book c.loop-id.invariant.same c.advance.ensures.same;
}
