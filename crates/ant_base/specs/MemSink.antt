-- A sink in memory (this project's own).
use Rattle.std.specs.Prelude.{ℕ, ◌+◌, ◌-◌, min, Bool, not, ◌&&◌, List, [], length, Some, nat_le, if◌then◌else◌}
use Rattle.ant_base.specs.Faults.{one_more}
use Rattle.ant_base.specs.Sink.{SinkState}
use Rattle.ant_base.specs.Calls.{is_failing}

-- the bytes held, the most that it can hold, the calls that fail, and how many calls and faults there were
pub record MemSinkState : Type 0 where
  pub held : List ℕ
  pub room : ℕ
  pub failing : List ℕ
  pub calls : ℕ
  pub faults : ℕ

-- whether the next push fails by its number
abbrev pub is_failing_push : MemSinkState → Bool
is_failing_push s = is_failing s.failing (one_more s.calls)

-- whether the next push takes the whole piece
abbrev pub takes_whole : MemSinkState → List ℕ → Bool
takes_whole s piece = not (is_failing_push s) && nat_le (length s.held + length piece) s.room

-- how many bytes of the piece the next push takes
abbrev pub bytes_taken : MemSinkState → List ℕ → ℕ
bytes_taken s piece = if is_failing_push s then 0 else min (length piece) (s.room - length s.held)

-- it reports its bytes, and none of them waits
abbrev pub sink_of : MemSinkState → SinkState
sink_of s = record { held = Some s.held; waiting = Some []; faults = s.faults }
