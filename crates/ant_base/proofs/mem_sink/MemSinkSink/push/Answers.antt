use Rattle.std.proofs.Common.{Some, ap, rules, arith}
use Rattle.ant_base.proofs.Pushes.{front_of_first}
use Rattle.ant_base.proofs.mem_sink.MemSinkSink.push.Goals as goal

pub returns-then-fitting-piece-clause-sink : goal.returns-then-fitting-piece-clause-sink
returns-then-fitting-piece-clause-sink c = front_of_first _ _ _ c.min-fitting.result (ap Some (search rules)) (grind arith) (grind arith)
