use Rattle.std.proofs.Common.{◌≡◌, ℕ, suc, ◌+◌, ◌≤◌, List, [], ◌∷◌, ◌++◌, length, map, ap, ap₂, ◌∙◌, subst, arith, refl}
use Rattle.std.specs.List.{AllByRecursion}
use Rattle.std.proofs.lemmas.List.{map_push}
use Rattle.list_lemmas.proofs.AllElements.{AllByRecursion-append_second}
use Rattle.ant_asm.specs.Inner.Works.{IsPutAt, place_in}
use Rattle.ant_asm.specs.declared.action.Label.{Label}
use Rattle.ant_asm.specs.declared.body.Body.{Body}
use Rattle.ant_asm.specs.declared.body.Item.{Item}
use Rattle.ant_asm.specs.declared.expand.Put.{Put}
use Rattle.ant_asm.specs.LabelGame.{instruction_by}
use Rattle.ant_asm.specs.Program.{from_place}
use Rattle.ant_asm.specs.Inner.Emission.{Numbers}
use Rattle.ant_asm.specs.Inner.Flat.{number_led, tree_at, trees_of}
use Rattle.ant_asm.proofs.FlatLemmas.{at_item, item_short, item_tree, of_body, start_inside, with_item}
use Rattle.ant_asm.proofs.Works.{action-is, gone-do, gone-end, gone-leave, gone-use, inner-few, labels-are, led-is, nothing-in, past-end, put-good, put-numbers, put-tree, spot-is}
use Rattle.ant_asm.proofs.expand.Work.step.Goals as goal

pub emit-requires-clause-spot : goal.emit-requires-clause-spot
emit-requires-clause-spot c =
    let a = at_item c.requires.good c.requires.work.top.known c.index-bodies-number.is c.as_slice-items.result.now c.as_slice-items.ensures.value c.if-place-items.false c.index-items-place.is in
    let top = c.args.self.now.top in
    let e = c.spot-spot.ensures in
    spot-is c.args.bodies.now top c.requires.work.top c.spot-spot.result e.bodies e.number e.place e.numbers a

pub emit-requires-clause-action : goal.emit-requires-clause-action
emit-requires-clause-action c =
    let a = at_item c.requires.good c.requires.work.top.known c.index-bodies-number.is c.as_slice-items.result.now c.as_slice-items.ensures.value c.if-place-items.false c.index-items-place.is in
    let top = c.args.self.now.top in
    let e = c.spot-spot.ensures in
    action-is c.args.bodies.now top c.requires.work.top c.spot-spot.result e.bodies e.number e.place e.numbers a c.in-Do.action c.in-Do.is

pub handed_numbers-requires-clause-spot : goal.handed_numbers-requires-clause-spot
handed_numbers-requires-clause-spot c =
    let a = at_item c.requires.good c.requires.work.top.known c.index-bodies-number.is c.as_slice-items.result.now c.as_slice-items.ensures.value c.if-place-items.false c.index-items-place.is in
    let top = c.args.self.now.top in
    let e = c.spot-spot.ensures in
    spot-is c.args.bodies.now top c.requires.work.top c.spot-spot.result e.bodies e.number e.place e.numbers a

pub handed_numbers-requires-clause-labels : goal.handed_numbers-requires-clause-labels
handed_numbers-requires-clause-labels c =
    let a = at_item c.requires.good c.requires.work.top.known c.index-bodies-number.is c.as_slice-items.result.now c.as_slice-items.ensures.value c.if-place-items.false c.index-items-place.is in
    let top = c.args.self.now.top in
    let e = c.spot-spot.ensures in
    labels-are c.args.bodies.now top c.requires.work.top c.spot-spot.result e.bodies e.number e.place e.numbers a c.in-Use.block c.in-Use.handed c.in-Use.is c.as_slice.result.now c.as_slice.ensures.value

pub index-requires : goal.index-requires
index-requires c =
    let a = at_item c.requires.good c.requires.work.top.known c.index-bodies-number.is c.as_slice-items.result.now c.as_slice-items.ensures.value c.if-place-items.false c.index-items-place.is in
    let top = c.args.self.now.top in
    let e = c.spot-spot.ensures in
    let all = c.index-bodies-number.result.starts.ok.0 in
    let inside = start_inside a in
    omega (arith, all, inside)

pub number_first-requires-clause-inside : goal.number_first-requires-clause-inside
number_first-requires-clause-inside c =
    let a = at_item c.requires.good c.requires.work.top.known c.index-bodies-number.is c.as_slice-items.result.now c.as_slice-items.ensures.value c.if-place-items.false c.index-items-place.is in
    let top = c.args.self.now.top in
    let e = c.spot-spot.ensures in
    of_body a (λ (b : Body). top.place + 1 ≤ length b.items.items) (let i = a.inside in omega (arith, i))

pub number_first-requires-clause-fits : goal.number_first-requires-clause-fits
number_first-requires-clause-fits c =
    let base = ap (λ (n : Numbers). n.base) c.spot-spot.ensures.numbers in let fits = c.requires.work.top.fits in omega (arith, base, fits)

pub returns-in_ok-emit-in-Do : goal.returns-in_ok-emit-in-Do
returns-in_ok-emit-in-Do c =
    let a = at_item c.requires.good c.requires.work.top.known c.index-bodies-number.is c.as_slice-items.result.now c.as_slice-items.ensures.value c.if-place-items.false c.index-items-place.is in
    let top = c.args.self.now.top in
    let e = c.spot-spot.ensures in
    let bodies = c.args.bodies.now in
    let out = c.args.out.now in
    gone-do bodies c.args.self.now c.requires.work c.in-Do.action
    (item_tree a ∙ ap (λ (i : Item). with_item (trees_of bodies) i (from_place (suc top.place) (tree_at bodies top.number))) c.in-Do.is)
    out c.emit.new.out
    (c.in_ok-emit-in-Do.ensures.list ∙ ap (λ (f : Label → ℕ). out.list.items ++ instruction_by f c.in-Do.action ∷ []) (led-is c.args.bodies.now top c.requires.work.top c.spot-spot.result e.bodies e.number e.place e.numbers))
    (c.in_ok-emit-in-Do.ensures.places ∙ ap₂ (λ (p : List ℕ) (k : ℕ). out.places.items ++ (p ++ k ∷ []) ∷ []) (c.as_slice-path.ensures.value ∙ c.requires.work.path) e.place)

pub returns-in_ok-push-in-Use-2 : goal.returns-in_ok-push-in-Use-2
returns-in_ok-push-in-Use-2 c =
    let a = at_item c.requires.good c.requires.work.top.known c.index-bodies-number.is c.as_slice-items.result.now c.as_slice-items.ensures.value c.if-place-items.false c.index-items-place.is in
    let top = c.args.self.now.top in
    let e = c.spot-spot.ensures in
    let bodies = c.args.bodies.now in
    let put = c.replace-outer.new.dest in
    let after = c.replace-outer.ensures.after in
    let number-is : put.number ≡ c.in-Use.block = ap (λ (p : Put). p.number) after in
    let base-is : put.base ≡ top.base + c.index.result.now = ap (λ (p : Put). p.base) after ∙ ap (λ (n : Numbers). n.base + c.index.result.now) e.numbers in
    let after-is = ap (λ (p : Put). p.after) after ∙ c.number_first.ensures in
    let given-is = ap (λ (p : Put). p.given.items) after ∙ c.in_ok-given-in-Use.ensures ∙ ap (map (number_led c.spot-spot.result)) c.as_slice.ensures.value in
    gone-use bodies c.args.self.now c.requires.work c.in-Use.handed.items put
    (put-tree c.args.bodies.now top c.requires.work.top c.spot-spot.result e.bodies e.number e.place e.numbers a c.in-Use.block c.in-Use.handed c.in-Use.is c.index.result.now c.index.ensures put number-is base-is after-is given-is)
    (ap (λ (p : Put). p.place) after)
    (put-good c.args.bodies.now top c.requires.work.top c.spot-spot.result e.bodies e.number e.place e.numbers a c.in-Use.block c.in-Use.handed c.in-Use.is c.index.result.now c.index.ensures put number-is base-is after-is given-is)
    (item_short a)
    (put-numbers c.args.bodies.now top c.requires.work.top c.spot-spot.result e.bodies e.number e.place e.numbers a c.in-Use.block c.in-Use.handed c.in-Use.is c.index.result.now c.index.ensures put number-is base-is after-is given-is)
    c.push.new.self c.in_ok-push-in-Use.ensures.items c.push-in-Use.new.self (c.in_ok-push-in-Use-2.ensures.items ∙ ap (λ (p : Put). c.args.self.now.outer.items ++ p ∷ []) c.replace-outer.ensures.value)
    c.args.out.now c.args.out.now refl refl

pub returns-in_default : goal.returns-in_default
returns-in_default c =
    let old = c.args.self.now in
    let body = c.index-bodies-number.result in
    let over = c.if-place-items.true in
    let same = ap length c.as_slice-items.ensures.value in
    let at = past-end c.args.bodies.now old.top.number body c.requires.good c.requires.work.top.known c.index-bodies-number.is old.top.place (omega (arith, over, same)) in
    let none = c.in_default.ensures.cases in
    let before = old.outer.ok.0 in
    let now = c.pop.new.self.ok.0 in
    gone-end c.args.bodies.now old c.requires.work at (nothing-in old.outer.items (omega (arith, none, before))) c.pop.new.self (nothing-in c.pop.new.self.items (omega (arith, none, now))) c.args.out.now

pub returns-then-place-items : goal.returns-then-place-items
returns-then-place-items c =
    let old = c.args.self.now in
    let body = c.index-bodies-number.result in
    let over = c.if-place-items.true in
    let same = ap length c.as_slice-items.ensures.value in
    let at = past-end c.args.bodies.now old.top.number body c.requires.good c.requires.work.top.known c.index-bodies-number.is old.top.place (omega (arith, over, same)) in
    let put = c.in-Some.put in
    gone-leave c.args.bodies.now old c.requires.work at c.pop.new.self put c.in-Some.ensures.items c.leave.new.path
    (c.leave.ensures (map place_in c.pop.new.self.items) put.place (c.requires.work.path ∙ ap (map place_in) c.in-Some.ensures.items ∙ map_push place_in c.pop.new.self.items put)) c.args.out.now

pub overflow_add-self : goal.overflow_add-self
overflow_add-self c =
    let bodies = c.args.bodies.now in
    let small = (AllByRecursion-append_second (IsPutAt bodies) c.pop.new.self.items (c.in-Some.put ∷ []) (subst (AllByRecursion (IsPutAt bodies)) c.in-Some.ensures.items c.requires.work.outer)).0.1 in
    omega (arith, small)

pub overflow_add-top : goal.overflow_add-top
overflow_add-top c =
    let a = at_item c.requires.good c.requires.work.top.known c.index-bodies-number.is c.as_slice-items.result.now c.as_slice-items.ensures.value c.if-place-items.false c.index-items-place.is in
    let top = c.args.self.now.top in
    let e = c.spot-spot.ensures in
    let few = inner-few c.args.bodies.now top c.requires.work.top c.spot-spot.result e.bodies e.number e.place e.numbers a c.in-Use.block c.in-Use.handed c.in-Use.is c.index.result.now c.index.ensures in
    let base = ap (λ (n : Numbers). n.base) e.numbers in
    omega (arith, few, base)

pub overflow_cast-place : goal.overflow_cast-place
overflow_cast-place c =
    let a = at_item c.requires.good c.requires.work.top.known c.index-bodies-number.is c.as_slice-items.result.now c.as_slice-items.ensures.value c.if-place-items.false c.index-items-place.is in
    let top = c.args.self.now.top in
    let e = c.spot-spot.ensures in
    let short = item_short a in omega (arith, short)
