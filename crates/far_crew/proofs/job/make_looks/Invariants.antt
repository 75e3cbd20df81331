-- the looks at the turns so far are made
use Rattle.std.proofs.Common.{◌≡◌, ◌-◌, ◌≤◌, take}
use Rattle.std.specs.Vec.{vec_capacity, vec_len}
use Rattle.ant_turn.specs.Minds.{minds_of}
use Rattle.far_crew.specs.Inner.Turns.{job_on}
use Rattle.far_crew.specs.Jobs.{looks_of}
use Rattle.far_crew.proofs.job.make_looks.Given as goal

abbrev pub invariant-loop-id : goal.invariant-loop-id
invariant-loop-id g l = record {
  looked : take (l.id - l.turns.from) l.looks.items ≡ looks_of (job_on (minds_of l.brains) l.seed l.base l.turns) (l.id - l.turns.from);
  len : l.id - l.turns.from ≤ vec_len l.looks;
  capacity : vec_capacity l.looks ≡ vec_capacity l.fn.looks;
  seed : l.stream.seed ≡ l.seed;
}
