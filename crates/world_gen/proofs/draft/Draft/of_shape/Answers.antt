-- one element after another
use Rattle.std.proofs.Common.{◌∙◌, arith}
use Rattle.std.proofs.lemmas.Result.{err_from_is_err_and}
use Rattle.world_gen.proofs.Makings.{begun_more, begun_none, begun_whole, step_refused}
use Rattle.world_gen.proofs.draft.Draft.of_shape.Goals as goal

pub loop-number-init : goal.loop-number-init
loop-number-init c = record {
  begun = begun_none c.args.seed c.args.shape c.in_ok-draft.draft.blocked.items c.in_ok-draft.draft.kinds.items c.from_seed-stream.result.place c.requires.narrow c.requires.low c.in_ok-draft.ensures.blocked c.in_ok-draft.ensures.kinds c.from_seed-stream.ensures.place;
  wide = c.in_ok-draft.ensures.width;
  high = c.in_ok-draft.ensures.height;
  seed = c.from_seed-stream.ensures.seed;
  early = let h = c.from_seed-stream.ensures.place in omega arith;
  total = c.count-number-end.ensures.count;
}

pub returns-in_err-put-clause-refused : goal.returns-in_err-put-clause-refused
returns-in_err-put-clause-refused c =
    let i = c.loop-number.invariant in
    let p = err_from_is_err_and c.from_residual-in_err-put.result c.from_residual-in_err-put.ensures.1 in
    rw (p.1, p.2)
    (step_refused c.args.seed c.args.shape c.loop-number.number c.loop-number.draft.width c.loop-number.draft.height c.loop-number.stream.seed c.loop-number.stream.place c.put.new.stream.place c.element.result c.loop-number.draft.blocked.items c.put.new.self.blocked.items c.loop-number.draft.kinds.items c.put.new.self.kinds.items _
    i.wide i.high i.seed c.element.ensures i.begun (let t = i.total in omega arith) c.in_err-put.ensures.step)

pub loop-number-preserved : goal.loop-number-preserved
loop-number-preserved c =
    let i = c.loop-number.invariant in
    record {
      begun = begun_more c.args.seed c.args.shape c.loop-number.number c.loop-number.draft.width c.loop-number.draft.height c.loop-number.stream.seed c.loop-number.stream.place c.put.new.stream.place c.element.result c.loop-number.draft.blocked.items c.put.new.self.blocked.items c.loop-number.draft.kinds.items c.put.new.self.kinds.items
          i.wide i.high i.seed c.element.ensures i.begun c.in_ok-put.ensures.step;
      wide = c.put.ensures.width ∙ i.wide;
      high = c.put.ensures.height ∙ i.high;
      seed = c.put.ensures.seed ∙ i.seed;
      early = let a = i.early in let b = c.put.ensures.place in omega (arith, a, b);
      total = i.total;
    }

pub returns-clause-made : goal.returns-clause-made
returns-clause-made c =
    let i = c.loop-number.invariant in
    begun_whole c.args.seed c.args.shape c.loop-number.number c.loop-number.draft.width c.loop-number.draft.height c.loop-number.draft.blocked.items c.loop-number.draft.kinds.items c.loop-number.stream.place i.wide i.high i.begun (let t = i.total in omega arith)
