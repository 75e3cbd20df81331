use Rattle.std.proofs.Common.{◌-◌, Some, sym, ◌∙◌, arith}
use Rattle.std.proofs.lemmas.List.{length-set}
use Rattle.ant_turn.specs.Minds.{minds_of}
use Rattle.round_book.specs.Book.{window_of}
use Rattle.far_crew.specs.declared.pick.Pick.TheVariants.{Own}
use Rattle.far_crew.proofs.PickLemmas.{AreFilled-kept, AreFilled-own, ArePicked-own}
use Rattle.far_crew.proofs.WindowLemmas.{look_made}
use Rattle.far_crew.proofs.pick.fill_turn.Goals as goal

pub returns-clause-picks : goal.returns-clause-picks
returns-clause-picks g c lines picks =
    let first = c.requires.first in let last = c.requires.last in let count = c.requires.count in
    let made = look_made c.args.field.now c.args.turns.now.from c.args.turns.now.to c.args.id (minds_of c.brains.result) c.seed.result c.world.result.now c.guess_of-guess.result c.look.result
    c.brains.ensures.brains c.seed.ensures c.world.ensures.world c.guess_of-guess.ensures.guess c.look.ensures in
    record {
      count = length-set c.args.picks.now (c.args.id - c.args.turns.now.from) (Some (Own c.len-at.result)) ∙ count;
      picked = ArePicked-own lines c.args.own.now.items c.push_reserved.new.self.items c.look.result c.args.picks.now (window_of c.args.field.now c.args.turns.now.from c.args.turns.now.to) (c.args.id - c.args.turns.now.from) c.args.id c.len-at.result
          (omega arith) (omega (arith, c.len-at.ensures)) (omega arith) made c.push_reserved.ensures.items picks.picked;
    }

pub returns-clause-filled : goal.returns-clause-filled
returns-clause-filled g c = AreFilled-own c.args.picks.now c.args.turns.now.from c.args.turns.now.to c.args.id c.requires.first c.requires.last c.requires.filled (Own c.len-at.result) c.requires.count

pub returns-then-is_some-clause-filled : goal.returns-then-is_some-clause-filled
returns-then-is_some-clause-filled g c =
    AreFilled-kept c.args.picks.now c.args.turns.now.from c.args.turns.now.to c.args.id c.requires.first c.requires.last c.requires.filled (sym c.is_some.ensures ∙ c.if-is_some.true)
