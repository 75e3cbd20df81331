use Rattle.std.proofs.Common.{◌≡◌, ◌+◌, List, [], ◌∷◌, ◌++◌, Option, Some, Ok, sym, ◌∙◌, ap}
use Rattle.std.proofs.lemmas.Result.{err_from_is_err_and}
use Rattle.cell_world.specs.declared.ant.PlacedAnt.{PlacedAnt}
use Rattle.match_save.specs.Inner.Answered.{behind}
use Rattle.match_save.specs.Inner.Reading.{ant_or_end, ants_from}
use Rattle.match_save.proofs.FilledLists.{ants-last, ants-more, ants-refused, one-fewer}
use Rattle.match_save.proofs.ants.read_ants.Goals as goal

pub returns-in_err-it : goal.returns-in_err-it
returns-in_err-it c =
    let p = err_from_is_err_and c.from_residual.result c.from_residual.ensures.1 in
    rw (p.1, p.2) (c.loop-ants.invariant ∙ ants-refused c.args.width c.args.height c.loop-ants.least c.in_err-it.field-0.0.0 c.loop-ants.ants.items c.loop-ants.lines c.in_err-it.ensures.value)

pub loop-ants-smaller : goal.loop-ants-smaller
loop-ants-smaller c =
    let it : c.in_ok-it.field-0 ≡ Some c.in-Some.it = cc in
    one-fewer (ant_or_end c.args.width c.args.height c.loop-ants.least) (Some c.in-Some.it) c.loop-ants.lines c.next_ant.new.lines
    (c.in_ok-it.ensures.value ∙ ap (λ (o : Option PlacedAnt). Ok (o, c.next_ant.new.lines)) it)

pub loop-ants-preserved : goal.loop-ants-preserved
loop-ants-preserved c =
    let it : c.in_ok-it.field-0 ≡ Some c.in-Some.it = cc in
    let pushed : c.push.new.self.items ≡ c.loop-ants.ants.items ++ c.in-Some.it ∷ [] = c.in_ok-push.ensures.items in
    c.loop-ants.invariant
    ∙ ants-more c.args.width c.args.height c.loop-ants.least c.loop-ants.ants.items c.in-Some.it c.loop-ants.lines c.next_ant.new.lines
    (c.in_ok-it.ensures.value ∙ ap (λ (o : Option PlacedAnt). Ok (o, c.next_ant.new.lines)) it)
    ∙ ap (λ (l : List PlacedAnt). behind l (ants_from c.args.width c.args.height c.next_ant.new.lines.items (c.in-Some.it.ant.id + 1) c.next_ant.new.lines.number)) (sym pushed)

pub returns : goal.returns
returns c =
    c.loop-ants.invariant
    ∙ ants-last c.args.width c.args.height c.loop-ants.least c.loop-ants.ants.items c.loop-ants.lines c.next_ant.new.lines
    (c.in_ok-it.ensures.value ∙ ap (λ (o : Option PlacedAnt). Ok (o, c.next_ant.new.lines)) c.in_default.is)
