use Rattle.std.proofs.Common.{List, slice_get, sym, ap, ◌∙◌, arith}
use Rattle.std.proofs.lemmas.Bool.{both_ways}
use Rattle.brain_same.specs.declared.way_search.Reached.{Reached}
use Rattle.brain_same.specs.Inner.Reached.EndsAt.{NoneDiffers}
use Rattle.brain_same.proofs.ReachedLemmas.{Ahead-few, Ahead-inside, Ahead-of, AreSame-kept, EndsAt-ahead, Keeps-on, Keeps-start}
use Rattle.brain_same.proofs.way_search.first_apart.Goals as goal

pub loop-place-init : goal.loop-place-init
loop-place-init c =
    rw (c.in_ok-push.ensures.items, c.requires.none, c.at_start.ensures)
    (Keeps-start c.args.first.now c.args.second.now c.args.classes.now c.requires.apart (omega (arith, c.requires.first.few, c.requires.second.few)))

pub are_alike-requires : goal.are_alike-requires
are_alike-requires c =
    Ahead-inside c.args.first.now c.args.second.now c.requires.first c.requires.second c.loop-place.classes c.loop-place.reached.items c.loop-place.place c.reached_at.result
    (Ahead-of c.args.first.now c.args.second.now c.loop-place.classes c.loop-place.reached.items c.loop-place.place c.reached_at.result c.loop-place.invariant
    (ap (λ (list : List Reached). slice_get list c.loop-place.place) (sym c.deref.ensures.value) ∙ c.reached_at.ensures))

pub returns-then-not-are_alike : goal.returns-then-not-are_alike
returns-then-not-are_alike c =
    EndsAt-ahead c.args.first.now c.args.second.now c.requires.first c.requires.second c.loop-place.classes c.loop-place.reached.items c.loop-place.place c.reached_at.result
    (Ahead-of c.args.first.now c.args.second.now c.loop-place.classes c.loop-place.reached.items c.loop-place.place c.reached_at.result c.loop-place.invariant
    (ap (λ (list : List Reached). slice_get list c.loop-place.place) (sym c.deref.ensures.value) ∙ c.reached_at.ensures))
    (ap (λ (list : List Reached). slice_get list c.loop-place.place) (sym c.deref.ensures.value) ∙ c.reached_at.ensures)
    (λ alike. both_ways c.are_alike.result c.if-not-are_alike.true (c.are_alike.ensures.1 alike))

pub keep_next-requires-clause-inside : goal.keep_next-requires-clause-inside
keep_next-requires-clause-inside c =
    Ahead-inside c.args.first.now c.args.second.now c.requires.first c.requires.second c.loop-place.classes c.loop-place.reached.items c.loop-place.place c.reached_at.result
    (Ahead-of c.args.first.now c.args.second.now c.loop-place.classes c.loop-place.reached.items c.loop-place.place c.reached_at.result c.loop-place.invariant
    (ap (λ (list : List Reached). slice_get list c.loop-place.place) (sym c.deref.ensures.value) ∙ c.reached_at.ensures))

pub keep_next-requires-clause-few : goal.keep_next-requires-clause-few
keep_next-requires-clause-few c =
    Ahead-few c.args.first.now c.args.second.now c.requires.first c.requires.second c.loop-place.classes c.loop-place.reached.items c.loop-place.place c.reached_at.result
    (Ahead-of c.args.first.now c.args.second.now c.loop-place.classes c.loop-place.reached.items c.loop-place.place c.reached_at.result c.loop-place.invariant
    (ap (λ (list : List Reached). slice_get list c.loop-place.place) (sym c.deref.ensures.value) ∙ c.reached_at.ensures))

pub loop-place-preserved : goal.loop-place-preserved
loop-place-preserved c =
    Keeps-on c.args.first.now c.args.second.now c.requires.first c.requires.second c.loop-place.classes c.loop-place.reached.items c.loop-place.place c.reached_at.result
    (Ahead-of c.args.first.now c.args.second.now c.loop-place.classes c.loop-place.reached.items c.loop-place.place c.reached_at.result c.loop-place.invariant
    (ap (λ (list : List Reached). slice_get list c.loop-place.place) (sym c.deref.ensures.value) ∙ c.reached_at.ensures))
    c.keep_next.new.classes c.keep_next.new.reached.items (c.are_alike.ensures.0 c.if-not-are_alike.false) c.in_ok-keep_next.ensures

pub returns : goal.returns
returns c =
    NoneDiffers
    (AreSame-kept c.args.first.now c.args.second.now c.requires.first c.requires.second c.loop-place.classes c.loop-place.reached.items c.loop-place.place c.loop-place.invariant
    (omega (arith, c.loop-place-test.false, c.len.ensures)))
