use Rattle.std.proofs.Common.{◌+◌, arith}
use Rattle.std.proofs.lemmas.Result.{err_from_is_err_and}
use Rattle.ant_base.proofs.Numbered.{numbered-none, numbered-more, numbered-front}
use Rattle.ant_base.proofs.Pushes.{all_of_nothing, all_then, front_then, front_more}
use Rattle.ant_base.proofs.numbered_texts.EachLayout.push_to.Goals as goal

pub loop-at-init : goal.loop-at-init
loop-at-init g c = rw (numbered-none (g.P.NumberedTexts.part c.args.self.now.0)) (all_of_nothing _)

pub loop-at-preserved : goal.loop-at-preserved
loop-at-preserved g c =
    rw (numbered-more (g.P.NumberedTexts.part c.args.self.now.0) c.loop-at.at) (all_then _ _ _ _ _ c.loop-at.invariant c.in_ok-push_part.ensures)

pub returns-in_err-push_part : goal.returns-in_err-push_part
returns-in_err-push_part g c =
    let f = g.P.NumberedTexts.part c.args.self.now.0 in
    let p = err_from_is_err_and c.from_residual.result c.from_residual.ensures.1 in
    let rest = numbered-front f (c.loop-at.at + 1) (g.P.NumberedTexts.count c.args.self.now.0) (omega arith) in
    rw (p.1, rest.1, numbered-more f c.loop-at.at)
    (front_more _ _ _ _ (front_then _ _ _ _ _ c.loop-at.invariant c.in_err-push_part.ensures))
