use Rattle.std.proofs.Common.{◌≡◌, ◌∙◌, ◌-◌, ◌+◌, take, subst, arith}
use Rattle.ant_turn.specs.Minds.{minds_of}
use Rattle.far_crew.specs.Inner.Turns.{job_on}
use Rattle.far_crew.specs.Jobs.{JobValue, looks_of}
use Rattle.far_crew.proofs.JobLemmas.{guess_small, looked-each, looked-more}
use Rattle.far_crew.proofs.job.make_looks.Goals as goal

pub loop-id-preserved : goal.loop-id-preserved
loop-id-preserved g c = record {
  looked = looked-more (job_on (minds_of c.args.brains) c.args.seed c.args.base.now c.args.turns.now)
      (c.loop-id.id - c.args.turns.now.from) (c.loop-id.id + 1 - c.args.turns.now.from) c.loop-id.id c.loop-id.looks.items c.make_look.new.looks.items c.stream_at-stream.result.seed c.stream_at-stream.result.place
      c.loop-id.invariant.looked (omega arith) (omega arith) (c.stream_at-stream.ensures.seed ∙ c.loop-id.invariant.seed) c.stream_at-stream.ensures.place c.make_look.ensures.made;
  len = omega (arith, c.make_look.ensures.len);
  capacity = c.make_look.ensures.capacity ∙ c.loop-id.invariant.capacity;
  seed = c.make_look.ensures.seed ∙ c.stream_at-stream.ensures.seed ∙ c.loop-id.invariant.seed;
}

pub returns-clause-each : goal.returns-clause-each
returns-clause-each g c =
    let job : JobValue = job_on (minds_of c.args.brains) c.args.seed c.args.base.now c.args.turns.now in
    let end : c.loop-id.id ≡ c.args.turns.now.to = omega (arith, c.loop-id-test.false) in
    let looked : take (c.args.turns.now.to - c.args.turns.now.from) c.loop-id.looks.items ≡ looks_of job (c.args.turns.now.to - c.args.turns.now.from) =
    subst (λ i. take (i - c.args.turns.now.from) c.loop-id.looks.items ≡ looks_of job (i - c.args.turns.now.from)) end c.loop-id.invariant.looked in
    looked-each job (take (c.args.turns.now.to - c.args.turns.now.from) c.loop-id.looks.items) c.requires.turns.forwards c.requires.turns.ids looked

pub make_look-requires-clause-place : goal.make_look-requires-clause-place
make_look-requires-clause-place g c =
    let small = guess_small c.args.base.now c.args.turns.now c.loop-id.id c.requires.turns c.loop-id.auto.id c.loop-id-test.true in
    let place = c.stream_at-stream.ensures.place in
    omega (arith, small, place)

pub stream_at-stream-requires : goal.stream_at-stream-requires
stream_at-stream-requires g c =
    let small = guess_small c.args.base.now c.args.turns.now c.loop-id.id c.requires.turns c.loop-id.auto.id c.loop-id-test.true in
    omega (arith, small)
