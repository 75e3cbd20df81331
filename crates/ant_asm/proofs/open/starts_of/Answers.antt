use Rattle.std.proofs.Common.{List, ℕ, ◌∷◌, ◌++◌, [], ap, ◌∙◌}
use Rattle.ant_asm.specs.Inner.View.{start_of}
use Rattle.ant_asm.proofs.MadeLists.{made-all, made-more, made-none}
use Rattle.ant_asm.proofs.open.starts_of.Goals as goal

pub loop-item-init : goal.loop-item-init
loop-item-init c = made-none start_of c.args.items.now c.in_ok-starts.starts.items c.in_ok-starts.ensures.items

pub loop-item-preserved : goal.loop-item-preserved
loop-item-preserved c =
    made-more start_of c.args.items.now c.loop-item.starts.items c.loop-item.item-index c.item-item.result c.item-item.result c.push.new.self.items c.loop-item-test.true c.item-item.is c.in_ok-push.ensures.items c.loop-item.invariant

pub returns : goal.returns
returns c =
    c.in_ok-push-2.ensures.items
    ∙ ap (λ (l : List ℕ). l ++ c.args.size ∷ []) (made-all start_of c.args.items.now c.loop-item.starts.items c.loop-item.item-index c.loop-item-test.false c.loop-item.invariant)
