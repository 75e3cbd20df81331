-- What a report that takes memory does to its sink (this project's own).
use Rattle.std.specs.Prelude.{◌≡◌, ℕ, List, Result, Ok, Err}
use Rattle.ant_base.specs.Sink.{PushedAll, PushedFront, SinkState}
use Rattle.ant_base.specs.declared.push_fault.PushFault.{PushFault}
use Rattle.ant_base.specs.declared.push_fault.PushFault.TheVariants.{OutOfMemory, WriteFault}

-- why a report stopped: the sink failed, after a prefix of the text, and its count of faults rose; or memory ran out,
-- before anything was pushed
abbrev pub StoppedBefore : SinkState → SinkState → List ℕ → PushFault → Type 0
StoppedBefore old new text WriteFault = PushedFront old new text
StoppedBefore old new text OutOfMemory = new ≡ old

-- at Ok the whole text was pushed; otherwise a prefix of it, and nothing if memory ran out
abbrev pub PushedBefore : SinkState → SinkState → List ℕ → Result (Unit {0}) PushFault → Type 0
PushedBefore old new text (Ok _) = PushedAll old new text
PushedBefore old new text (Err fault) = StoppedBefore old new text fault
