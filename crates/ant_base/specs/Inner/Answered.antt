-- What the system's answers mean to a sink and a shelf.
use Rattle.std.specs.Prelude.{ℕ, ◌+◌, ◌<◌, ⊤, Bool, true, false, zero, suc, ◌≤◌, Option, Some, None, Result, Ok, Err}
use Rattle.std.specs.IoError.{error_kind}
use Rattle.std.specs.declared.io.Error.{Error}
use Rattle.std.specs.declared.io.ErrorKind.{ErrorKind}
use Rattle.std.specs.declared.io.ErrorKind.TheVariants.{Interrupted}
use Rattle.ant_base.specs.System.{fetch_fault_at}
use Rattle.ant_base.specs.declared.sink.Failed.{Failed}
use Rattle.ant_base.specs.declared.shelf.FetchFault.{FetchFault}
use Rattle.ant_base.specs.declared.shelf.FetchFault.TheVariants as fault

-- how many bytes a failed write took: none if it was interrupted, which is not a fault
abbrev pub taken_at : ErrorKind → Result ℕ Failed
taken_at Interrupted = Ok 0
taken_at _ = Err (record {})

-- how many bytes a write took; it is a fault if the write returns 0
abbrev pub taken_of : Result ℕ Error → Result ℕ Failed
taken_of (Ok zero) = Err (record {})
taken_of (Ok (suc n)) = Ok (suc n)
taken_of (Err error) = taken_at (error_kind error)

-- how many bytes a failed read gave: none if it was interrupted, which is not a fault
abbrev pub given_at : ErrorKind → Result (Option ℕ) FetchFault
given_at Interrupted = Ok None
given_at kind = Err (fetch_fault_at kind)

-- how many bytes a read gave
abbrev pub given_of : Result ℕ Error → Result (Option ℕ) FetchFault
given_of (Ok given) = Ok (Some given)
given_of (Err error) = given_at (error_kind error)

-- a read of a reader that is sure: it ends, or memory runs out; if more is left, at least one byte was taken; and it is
-- sure of fewer bytes only by those that were taken
abbrev pub ReadsOn : (sure new_sure taken new_taken : ℕ) → Result Bool FetchFault → Type 0
ReadsOn sure new_sure taken new_taken (Ok true) = ⊤
ReadsOn sure new_sure taken new_taken (Ok false) = (taken < new_taken) × (sure + taken ≤ new_sure + new_taken)
ReadsOn sure new_sure taken new_taken (Err fault.Failed) = ⊥
ReadsOn sure new_sure taken new_taken (Err fault.TooLong) = ⊥
ReadsOn sure new_sure taken new_taken (Err fault.OutOfMemory) = ⊤
