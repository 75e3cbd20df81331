-- What playing a run does to its sink (this project's own).
use Rattle.std.specs.Prelude.{◌≡◌, ℕ, ◌≤◌, List, ◌++◌, length, Result, Ok, Err}
use Rattle.ant_base.specs.Sink.{SinkState, PushedAll, PushedFront}
use Rattle.ant_base.specs.declared.push_fault.PushFault.{PushFault}
use Rattle.ant_base.specs.declared.push_fault.PushFault.TheVariants.{WriteFault, OutOfMemory}

-- a proper prefix of a text was appended, so that some of the text is left, and the sink didn't fail
pub record PushedProperPrefix (old new : SinkState) (text : List ℕ) : Type 0 where
  pub front : List ℕ
  pub rest : List ℕ
  pub whole : text ≡ front ++ rest
  pub some_left : 1 ≤ length rest
  pub pushed : PushedAll old new front

-- why a play stopped: the sink failed, after a prefix of the text, and its count of faults rose; or memory ran out,
-- after a proper prefix
abbrev pub StoppedBy : SinkState → SinkState → List ℕ → PushFault → Type 0
StoppedBy old new text WriteFault = PushedFront old new text
StoppedBy old new text OutOfMemory = PushedProperPrefix old new text

-- at Ok the whole text was appended; otherwise a prefix of it, and a proper one if memory ran out
abbrev pub PushedBy : {A : Type 0} → SinkState → SinkState → List ℕ → Result A PushFault → Type 0
PushedBy old new text (Ok _) = PushedAll old new text
PushedBy old new text (Err fault) = StoppedBy old new text fault
