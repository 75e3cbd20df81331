use Rattle.std.proofs.Common.{◌≡◌, ◌+◌, suc, List, length, refl, sym, ap, ◌∙◌, subst, arith, add-one}
use Rattle.std.proofs.lemmas.List.{length_push}
use Rattle.ant_asm.specs.declared.open.OpenItem.{OpenItem}
use Rattle.ant_asm.specs.Inner.View.{AreGoodItems}
use Rattle.ant_asm.proofs.OpenLemmas.{good-append, label-more}
use Rattle.ant_asm.proofs.open.OpenBody.add.Goals as goal

pub returns-clause-good : goal.returns-clause-good
returns-clause-good c = λ bodies good kind.
    let old = c.args.self.now in
    let item : OpenItem = record { line = c.args.line; start = old.size; kind = c.args.kind } in
    let more : length c.push.new.self.items ≡ suc (length old.items.items) = ap length c.in_ok-push.ensures.items ∙ length_push old.items.items item ∙ add-one (length old.items.items) in
    record {
      items = subst (λ (l : List OpenItem). AreGoodItems bodies 0 l (old.size + c.args.size)) (sym c.in_ok-push.ensures.items)
          (good-append bodies 0 old.items.items old.size c.args.size item good.items kind refl);
      names = λ name label known. label-more old.parameters (length old.items.items) (length c.push.new.self.items) label (omega (arith, more)) (good.names name label known);
      few = (let room = c.if-self-size-gt-MOST_STATES.false in omega (arith, room));
    }
