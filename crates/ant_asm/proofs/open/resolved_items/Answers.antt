use Rattle.std.proofs.Common.{List, ◌∷◌, ◌++◌, [], map, ap, ◌∙◌}
use Rattle.std.proofs.lemmas.List.{map-append}
use Rattle.ant_asm.specs.declared.body.Item.{Item}
use Rattle.ant_asm.specs.Standing.{way_or_next}
use Rattle.ant_asm.specs.Inner.Scopes.{known_as}
use Rattle.ant_asm.specs.Inner.View.{Flat, flat_of, flat_resolved}
use Rattle.ant_asm.proofs.MadeLists.{made-all, made-more, made-none}
use Rattle.ant_asm.proofs.open.resolved_items.Goals as goal

pub loop-item-init : goal.loop-item-init
loop-item-init c =
    made-none (flat_resolved (way_or_next (known_as c.args.names.now.entries))) c.args.items.now (map flat_of c.in_ok-made.made.items) (ap (λ (l : List Item). map flat_of l) c.in_ok-made.ensures.items)

pub loop-item-preserved : goal.loop-item-preserved
loop-item-preserved c =
    made-more (flat_resolved (way_or_next (known_as c.args.names.now.entries))) c.args.items.now (map flat_of c.loop-item.made.items) c.loop-item.item-index c.item-item.result c.item-item.result (map flat_of c.push.new.self.items) c.loop-item-test.true c.item-item.is
    (ap (λ (l : List Item). map flat_of l) c.in_ok-push.ensures.items
    ∙ map-append flat_of c.loop-item.made.items (c.in_ok-one.one ∷ [])
    ∙ ap (λ (flat : Flat). map flat_of c.loop-item.made.items ++ flat ∷ []) c.in_ok-one.ensures)
    c.loop-item.invariant

pub returns : goal.returns
returns c =
    made-all (flat_resolved (way_or_next (known_as c.args.names.now.entries))) c.args.items.now (map flat_of c.loop-item.made.items) c.loop-item.item-index c.loop-item-test.false c.loop-item.invariant
