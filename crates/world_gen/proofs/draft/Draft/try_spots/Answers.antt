-- one try after another
use Rattle.std.proofs.Common.{◌∙◌, sym, arith}
use Rattle.std.proofs.lemmas.Bool.{false≢true}
use Rattle.world_gen.proofs.Trials.{tries_more}
use Rattle.world_gen.proofs.draft.Draft.try_spots.Goals as goal
use Rattle.world_gen.specs.Inner.Open.{AllOpen}

pub loop-number-preserved : goal.loop-number-preserved
loop-number-preserved c = record {
  seed = c.draw_spot-spot.ensures.seed ∙ c.loop-number.invariant.seed;
  place = let a = c.draw_spot-spot.ensures.place in let b = c.loop-number.invariant.place in omega (arith, a, b);
  first = tries_more (AllOpen c.args.self.now.width c.args.self.now.height c.args.self.now.blocked.items) c.args.stream.now.seed c.loop-number.stream.seed c.args.self.now.width c.args.self.now.height c.args.figure c.args.stream.now.place c.loop-number.stream.place c.loop-number.number c.draw_spot-spot.result
      c.loop-number.invariant.seed c.loop-number.invariant.place c.draw_spot-spot.ensures.spot c.loop-number.invariant.first
      (λ fits. false≢true (sym c.if-fits.false ∙ c.fits.ensures.1 fits));
}
