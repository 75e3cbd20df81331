use Rattle.std.proofs.Common.{◌+◌, ◌*◌, ◌<◌, List, length, sym, subst, arith}
use Rattle.std.proofs.lemmas.Bool.{both_ways}
use Rattle.brain_same.specs.declared.search.Pair.{Pair}
use Rattle.brain_same.specs.Difference.IsComparison.{IsSame, IsDifferent}
use Rattle.brain_same.specs.Inner.Classes.{total}
use Rattle.brain_same.proofs.ComparisonLemmas.{AreSame-searched, IsFirstDifference-front}
use Rattle.brain_same.proofs.SearchLemmas.{Front-few, Front-inside, Front-taken, Searching-on, Searching-start, step-work}
use Rattle.brain_same.proofs.search.search.Goals as goal

pub loop-pair-init : goal.loop-pair-init
loop-pair-init c =
    rw (c.in_ok-push_back.ensures.items, c.new-waiting.ensures.items, c.start.ensures)
    (Searching-start c.args.first.now c.args.second.now c.args.classes.now c.requires.apart (omega (arith, c.requires.first.few, c.requires.second.few)))

pub are_alike-requires : goal.are_alike-requires
are_alike-requires c =
    Front-inside c.args.first.now c.args.second.now c.requires.first c.requires.second c.loop-pair.classes c.in-Some.pair c.pop_front.new.self.items
    (Front-taken c.args.first.now c.args.second.now c.loop-pair.classes c.loop-pair.waiting.items c.in-Some.pair c.pop_front.new.self.items c.loop-pair.invariant c.in-Some.ensures.items)

pub difference-requires : goal.difference-requires
difference-requires c =
    Front-inside c.args.first.now c.args.second.now c.requires.first c.requires.second c.loop-pair.classes c.in-Some.pair c.pop_front.new.self.items
    (Front-taken c.args.first.now c.args.second.now c.loop-pair.classes c.loop-pair.waiting.items c.in-Some.pair c.pop_front.new.self.items c.loop-pair.invariant c.in-Some.ensures.items)

pub returns-then-not-are_alike : goal.returns-then-not-are_alike
returns-then-not-are_alike c =
    rw c.difference.ensures
    (IsDifferent c.in-Some.pair.answers c.in-Some.pair.first c.in-Some.pair.second
    (IsFirstDifference-front c.args.first.now c.args.second.now c.requires.first c.requires.second c.loop-pair.classes c.in-Some.pair c.pop_front.new.self.items
    (Front-taken c.args.first.now c.args.second.now c.loop-pair.classes c.loop-pair.waiting.items c.in-Some.pair c.pop_front.new.self.items c.loop-pair.invariant c.in-Some.ensures.items)
    (λ alike. both_ways c.are_alike.result c.if-not-are_alike.true (c.are_alike.ensures.1 alike))))

pub follow-requires-clause-inside : goal.follow-requires-clause-inside
follow-requires-clause-inside c =
    Front-inside c.args.first.now c.args.second.now c.requires.first c.requires.second c.loop-pair.classes c.in-Some.pair c.pop_front.new.self.items
    (Front-taken c.args.first.now c.args.second.now c.loop-pair.classes c.loop-pair.waiting.items c.in-Some.pair c.pop_front.new.self.items c.loop-pair.invariant c.in-Some.ensures.items)

pub follow-requires-clause-few : goal.follow-requires-clause-few
follow-requires-clause-few c =
    Front-few c.args.first.now c.args.second.now c.requires.first c.requires.second c.loop-pair.classes c.in-Some.pair c.pop_front.new.self.items
    (Front-taken c.args.first.now c.args.second.now c.loop-pair.classes c.loop-pair.waiting.items c.in-Some.pair c.pop_front.new.self.items c.loop-pair.invariant c.in-Some.ensures.items)

pub loop-pair-smaller : goal.loop-pair-smaller
loop-pair-smaller c =
    subst (λ (queue : List Pair). 2 * total c.follow.new.classes + length c.follow.new.waiting.items < 2 * total c.loop-pair.classes + length queue) (sym c.in-Some.ensures.items)
    (step-work c.args.first.now c.args.second.now c.in-Some.pair c.loop-pair.classes c.follow.new.classes c.pop_front.new.self.items c.follow.new.waiting.items c.in_ok-follow.ensures)

pub loop-pair-preserved : goal.loop-pair-preserved
loop-pair-preserved c =
    Searching-on c.args.first.now c.args.second.now c.requires.first c.requires.second c.loop-pair.classes c.in-Some.pair c.pop_front.new.self.items
    (Front-taken c.args.first.now c.args.second.now c.loop-pair.classes c.loop-pair.waiting.items c.in-Some.pair c.pop_front.new.self.items c.loop-pair.invariant c.in-Some.ensures.items)
    c.follow.new.classes c.follow.new.waiting.items (c.are_alike.ensures.0 c.if-not-are_alike.false) c.in_ok-follow.ensures

pub returns : goal.returns
returns c = IsSame (AreSame-searched c.args.first.now c.args.second.now c.requires.first c.requires.second c.loop-pair.classes c.loop-pair.waiting.items (omega (arith, c.in_default.ensures.cases.0, c.loop-pair.waiting.ok)) c.loop-pair.invariant)
