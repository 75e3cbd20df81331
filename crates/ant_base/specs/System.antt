-- What the system answers to a shelf of files, and what the shelf turns it into (this project's own).
use Rattle.std.specs.Prelude.{◌≡◌, ℕ, ◌+◌, ◌<◌, ◌≤◌, ⊤, false, List, [], ◌∷◌, length, Option, IfSome, Result, Ok, Err, Vec}
use Rattle.std.specs.Io.KnownBytes.{Consumes}
use Rattle.std.specs.IoError.{error_kind}
use Rattle.std.specs.declared.io.Error.{Error}
use Rattle.std.specs.declared.io.ErrorKind.{ErrorKind}
use Rattle.std.specs.declared.io.ErrorKind.TheVariants.{OutOfMemory}
use Rattle.ant_base.specs.Shelf.{is_failed, longest}
use Rattle.ant_base.specs.declared.shelf.FetchFault.{FetchFault}
use Rattle.ant_base.specs.declared.shelf.FetchFault.TheVariants as fault

-- the name of standard input: `-` alone
abbrev pub dash : List ℕ
dash = 45 ∷ []

-- why a failed open or read gives no content
abbrev pub fetch_fault_at : ErrorKind → FetchFault
fetch_fault_at OutOfMemory = fault.OutOfMemory
fetch_fault_at _ = fault.Failed

-- a read that requested at most these bytes is done, and the reader is sure of fewer only by those that it gave
abbrev pub GivesWithin : (sure new_sure : ℕ) → Result ℕ Error → Type 0
GivesWithin sure new_sure (Ok given) = sure ≤ new_sure + given
GivesWithin sure new_sure (Err _) = ⊥

-- the content of a reader: all that it had left, or "too long" if that was more than the longest
abbrev pub IsReadOf : {A : Type 0} → Option (List ℕ) → Result (Vec ℕ A) FetchFault → Type 0
IsReadOf remaining (Ok content) = IfSome remaining (λ bytes. content.items ≡ bytes)
IsReadOf remaining (Err fault.Failed) = ⊤
IsReadOf remaining (Err fault.TooLong) = IfSome remaining (λ bytes. longest < length bytes)
IsReadOf remaining (Err fault.OutOfMemory) = ⊤

-- at most this many bytes were taken from a reader
pub record TakesAtMost (most : ℕ) (remaining new_remaining : Option (List ℕ)) : Type 0 where
  pub bytes : List ℕ
  pub taken : Consumes remaining new_remaining bytes
  pub few : length bytes ≤ most

-- the answer read from a reader: it is all that the reader had left, and it is Failed only if the reader wasn't sure of
-- one byte more than the longest
pub record IsReadFrom {A : Type 0} (sure : ℕ) (remaining : Option (List ℕ))
    (result : Result (Vec ℕ A) FetchFault) : Type 0 where
  pub read : IsReadOf remaining result
  pub failed : longest + 1 ≤ sure → is_failed result ≡ false

-- the answer from a file: the file was read, and then closed; at most one byte more than the longest was taken from it
pub record IsMadeOf {File A : Type 0} (sure : File → ℕ) (remaining : File → Option (List ℕ)) (closed : File → Type 0)
    (file : File) (result : Result (Vec ℕ A) FetchFault) : Type 0 where
  pub whole : IsReadFrom (sure file) (remaining file) result
  pub last : File
  pub ended : closed last
  pub taken : TakesAtMost (longest + 1) (remaining file) (remaining last)

-- the answer from opening a file: if it was opened, the answer from that file; otherwise exactly the fault of the open
abbrev pub IsMadeOfOpen : {File A : Type 0} → (File → ℕ) → (File → Option (List ℕ)) → (File → Type 0)
    → Result File Error → Result (Vec ℕ A) FetchFault → Type 0
IsMadeOfOpen sure remaining closed (Ok file) result = IsMadeOf sure remaining closed file result
IsMadeOfOpen sure remaining closed (Err error) result = result ≡ Err (fetch_fault_at (error_kind error))
