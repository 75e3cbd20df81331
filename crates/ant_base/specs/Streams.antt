-- The state of the sinks and shelves over the streams and files of the system (this project's own).
--
-- The bytes that a stream took and the log of a shelf of files are ghost data: no memory holds them. They are what the
-- system's own calls returned. Each write adds the bytes that it took by its own answer, and each fetch adds its name
-- with its answer.
use Rattle.std.specs.Prelude.{◌≡◌, ◌⊎◌, ℕ, ◌<◌, Bool, List, ◌++◌, [], Option, Result, Ok, Err, true, false, None, Some}
use Rattle.std.specs.Io.KnownBytes.{Appends}
use Rattle.std.specs.declared.io.Error.{Error}
use Rattle.ant_base.specs.declared.sink.Failed.{Failed}
use Rattle.ant_base.specs.Fetched.{Fetched}
use Rattle.ant_base.specs.Lines.{ends_in_lf}
use Rattle.ant_base.specs.Shelf.{ShelfState}
use Rattle.ant_base.specs.Sink.{SinkState}

-- the bytes that the stream took since the sink was made, those that still wait in its buffer, those that the stream
-- itself reports (if it does), the count of faults, and whether the stream never fails
pub record StreamState : Type 0 where
  pub taken : List ℕ
  pub waiting : List ℕ
  pub written : Option (List ℕ)
  pub faults : ℕ
  pub sure : Bool

-- if no push failed, and what the stream took is empty or ends in LF, nothing waits in its buffer
abbrev pub IsFlushedByLines : (faults : ℕ) (taken waiting : List ℕ) → Type 0
IsFlushedByLines faults taken waiting = faults ≡ 0 → (taken ≡ []) ⊎ (ends_in_lf taken ≡ true) → waiting ≡ []

-- a write was done, and took at least one byte
abbrev pub TakesSome : Result ℕ Error → Type 0
TakesSome (Ok taken) = 0 < taken
TakesSome (Err _) = ⊥

-- a sink over a stream holds the bytes that the stream took
abbrev pub sink_of_stream : StreamState → SinkState
sink_of_stream s = record { held = Some s.taken; waiting = Some s.waiting; faults = s.faults }

-- a prefix of the piece was taken, and this rest of it is left; what the stream itself reports grew by that prefix
pub record TookUpTo (taken new_taken : List ℕ) (written new_written : Option (List ℕ))
    (piece rest : List ℕ) : Type 0 where
  pub front : List ℕ
  pub whole : piece ≡ front ++ rest
  pub took : new_taken ≡ taken ++ front
  pub told : Appends written new_written front

-- what was taken of a piece: all of it at Ok, and a prefix of it at a fault
abbrev pub Takes : List ℕ → List ℕ → Option (List ℕ) → Option (List ℕ) → List ℕ → Result (Unit {0}) Failed → Type 0
Takes taken new_taken written new_written piece (Ok _) = TookUpTo taken new_taken written new_written piece []
Takes taken new_taken written new_written piece (Err _) =
    (rest : List ℕ) × TookUpTo taken new_taken written new_written piece rest

-- the system of a shelf of files, its count of faults, and its log
pub record FileShelfState (R : Type 0) : Type 0 where
  pub system : R
  pub faults : ℕ
  pub log : List Fetched

-- a shelf of files reports no contents and is sure of no name
abbrev pub shelf_of_files : {R : Type 0} → FileShelfState R → ShelfState
shelf_of_files s = record { files = None; sure = λ _. false; faults = s.faults; log = s.log }
