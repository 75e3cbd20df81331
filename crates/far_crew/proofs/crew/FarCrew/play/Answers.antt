use Rattle.std.proofs.Common.{◌-◌, sym, ap, ◌∙◌}
use Rattle.round_book.specs.Book.{FieldValue, window_of}
use Rattle.far_crew.proofs.PickLemmas.{ArePicked-so}
use Rattle.far_crew.proofs.crew.FarCrew.play.Goals as goal

pub settle-requires-clause-picks : goal.settle-requires-clause-picks
settle-requires-clause-picks g c = record {
  count = c.deref-4.ensures.len ∙ c.choose.ensures.count;
  picked = ArePicked-so c.deref.result.now c.deref-2.result.now c.choose.new.own.items c.deref-3.result.now c.choose.new.picks.items c.deref-4.result.now
      (window_of c.args.field.now c.args.turns.now.from c.args.turns.now.to) (window_of c.begin.new.self c.args.turns.now.from c.args.turns.now.to)
      (c.deref-2.ensures.value ∙ sym c.deref.ensures.value) c.deref-3.ensures.value c.deref-4.ensures.value (ap (λ (f : FieldValue). window_of f c.args.turns.now.from c.args.turns.now.to) c.in_ok-book.ensures.lent) c.choose.ensures.picked;
}
