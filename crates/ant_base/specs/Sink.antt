-- What a sink holds, and what a push does to it (this project's own).
use Rattle.std.specs.Io.BufRead.{ends_with_byte}
use Rattle.std.specs.Prelude.{◌≡◌, ℕ, ◌≤◌, true, List, [], ◌++◌, Option, Result, Ok, Err, IfSome, option_map}
use Rattle.ant_base.specs.Faults.{Rose}
use Rattle.ant_base.specs.declared.sink.Failed.{Failed}

-- the bytes held, if the sink reports them; those of them that wait in its buffer to be flushed, if it reports those;
-- and the count of faults
pub record SinkState : Type 0 where
  pub held : Option (List ℕ)
  pub waiting : Option (List ℕ)
  pub faults : ℕ

-- nothing waits in the sink's buffer, if it reports what waits: all that it holds was flushed
abbrev pub NothingWaits : Option (List ℕ) → Type 0
NothingWaits waiting = IfSome waiting (λ bytes. bytes ≡ [])

-- the whole text was appended to the bytes held, if they are reported, and there was no fault. After a text that ends
-- in LF, the byte 10, nothing waits. After an empty text nothing waits if nothing waited before
pub record PushedAll (old new : SinkState) (text : List ℕ) : Type 0 where
  pub held : new.held ≡ option_map (λ bytes. bytes ++ text) old.held
  pub quiet : new.faults ≡ old.faults
  pub flushed : ends_with_byte 10 text ≡ true → NothingWaits new.waiting
  pub kept : text ≡ [] → NothingWaits old.waiting → NothingWaits new.waiting

-- a prefix of the text was appended, and the count of faults rose
pub record PushedFront (old new : SinkState) (text : List ℕ) : Type 0 where
  pub front : List ℕ
  pub rest : List ℕ
  pub whole : text ≡ front ++ rest
  pub held : new.held ≡ option_map (λ bytes. bytes ++ front) old.held
  pub rose : Rose old.faults new.faults
  pub later : old.faults ≤ new.faults

-- what pushing a text did: at Ok the whole text was appended; at a fault a prefix of it was, and the count rose
abbrev pub Pushed : SinkState → SinkState → List ℕ → Result (Unit {0}) Failed → Type 0
Pushed old new text (Ok _) = PushedAll old new text
Pushed old new text (Err _) = PushedFront old new text
