-- What a shelf has, and what a fetch returns (this project's own).
use Rattle.std.specs.Prelude.{◌≡◌, ℕ, ◌<◌, ◌≤◌, Bool, true, false, ⊤, List, [], ◌∷◌, ◌++◌, length, Option, Some, Result, Ok, Err, Vec, IfSome, IsSomeAnd}
use Rattle.std.specs.List.{AllByRecursion}
use Rattle.ant_base.specs.Faults.{Rose}
use Rattle.ant_base.specs.Fetched.{Fetched, fetched}
use Rattle.ant_base.specs.declared.shelf.FetchFault.{FetchFault}
use Rattle.ant_base.specs.declared.shelf.FetchFault.TheVariants.{Failed, TooLong, OutOfMemory}

-- the content under each name, if the shelf reports it; of which names it is sure; the count of faults; and the log:
-- all fetches with their answers, in order
pub record ShelfState : Type 0 where
  pub files : Option (List ℕ → Option (List ℕ))
  pub sure : List ℕ → Bool
  pub faults : ℕ
  pub log : List Fetched

-- the length of the longest content that a fetch returns, in bytes
abbrev pub longest : ℕ
longest = 4194304

-- an answer agrees with the reported contents. Bytes are no more than the longest and, if contents are reported, the
-- content of the name. "Too long" means, if contents are reported, that the name has a content longer than that. A
-- fetch that failed or ran out of memory says nothing
abbrev pub AnswerIsTold : Option (List ℕ → Option (List ℕ)) → List ℕ → Result (List ℕ) FetchFault → Type 0
AnswerIsTold files name (Ok bytes) = IfSome files (λ at. at name ≡ Some bytes) × (length bytes ≤ longest)
AnswerIsTold files name (Err TooLong) = IfSome files (λ at. IsSomeAnd (at name) (λ content. longest < length content))
AnswerIsTold files name (Err _) = ⊤

-- a failed fetch: the shelf wasn't sure of the name, and its count of faults rose
pub record IsFailed (old new : ShelfState) (name : List ℕ) : Type 0 where
  pub unsure : old.sure name ≡ false
  pub rose : Rose old.faults new.faults

-- what each answer means
abbrev pub Answers : {A : Type 0} → ShelfState → ShelfState → List ℕ → Result (Vec ℕ A) FetchFault → Type 0
Answers old new name (Ok content) = AnswerIsTold old.files name (Ok content.items)
Answers old new name (Err Failed) = IsFailed old new name
Answers old new name (Err TooLong) = AnswerIsTold old.files name (Err TooLong)
Answers old new name (Err OutOfMemory) = ⊤

-- what a fetch did: it is the last of the log, contents are unchanged, the shelf stays sure of what it was sure of, and
-- the count of faults never falls, and doesn't rise if the shelf was sure of the name
pub record Fetches {A : Type 0} (old new : ShelfState) (name : List ℕ)
    (result : Result (Vec ℕ A) FetchFault) : Type 0 where
  pub answer : Answers old new name result
  pub log : new.log ≡ old.log ++ fetched name result ∷ []
  pub files : new.files ≡ old.files
  pub sure : (other : List ℕ) → old.sure other ≡ true → new.sure other ≡ true
  pub quiet : old.sure name ≡ true → new.faults ≡ old.faults
  pub later : old.faults ≤ new.faults

-- a fetch whose answer agrees with the reported contents
abbrev pub IsTold : Option (List ℕ → Option (List ℕ)) → Fetched → Type 0
IsTold files fetch = AnswerIsTold files fetch.name fetch.answer

-- the shelf is sure of the name of each of these fetches
abbrev pub AreSure : ShelfState → List Fetched → Type 0
AreSure shelf fetches = AllByRecursion (λ fetch. shelf.sure fetch.name ≡ true) fetches

-- what several fetches did, one after another: they are the last of the log, they agree with the reported contents,
-- contents are unchanged, the shelf stays sure of what it was sure of, and the count of faults never falls, and doesn't
-- rise if the shelf was sure of all their names
pub record FetchesEach (old new : ShelfState) (fetches : List Fetched) : Type 0 where
  pub log : new.log ≡ old.log ++ fetches
  pub told : AllByRecursion (λ fetch. AnswerIsTold old.files fetch.name fetch.answer) fetches
  pub files : new.files ≡ old.files
  pub sure : (name : List ℕ) → old.sure name ≡ true → new.sure name ≡ true
  pub quiet : AllByRecursion (λ fetch. old.sure fetch.name ≡ true) fetches → new.faults ≡ old.faults
  pub later : old.faults ≤ new.faults

-- whether an answer is Failed
abbrev pub is_failed : {T : Type 0} → Result T FetchFault → Bool
is_failed (Ok _) = false
is_failed (Err Failed) = true
is_failed (Err TooLong) = false
is_failed (Err OutOfMemory) = false

-- whether an answer is TooLong
abbrev pub is_too_long : {T : Type 0} → Result T FetchFault → Bool
is_too_long (Ok _) = false
is_too_long (Err Failed) = false
is_too_long (Err TooLong) = true
is_too_long (Err OutOfMemory) = false
