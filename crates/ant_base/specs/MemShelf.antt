-- A shelf in memory (this project's own).
use Rattle.std.specs.Prelude.{◌≡◌, ℕ, ◌<◌, ◌≤◌, Bool, true, false, ◌&&◌, ◌||◌, List, [], ◌∷◌, length, Option, Some, None, Result, Ok, Err, Vec, is_some, is_none, nat_lt, if◌then◌else◌, unwrap_or}
use Rattle.std.specs.Str.{bytes_eq}
use Rattle.ant_base.specs.Faults.{one_more}
use Rattle.ant_base.specs.Calls.{is_failing}
use Rattle.ant_base.specs.Fetched.{Fetched}
use Rattle.ant_base.specs.Shelf.{ShelfState, longest}
use Rattle.ant_base.specs.declared.shelf.FetchFault.{FetchFault}
use Rattle.ant_base.specs.declared.shelf.FetchFault.TheVariants.{Failed, TooLong, OutOfMemory}

-- the bytes that were added first under a name
abbrev pub content_of : List (List ℕ × List ℕ) → List ℕ → Option (List ℕ)
content_of [] name = None
content_of (file ∷ files) name = if bytes_eq file.0 name then Some file.1 else content_of files name

-- the names with their bytes, in the order in which they were added; and for how many more names and for how many more
-- bytes there is room
pub record FileList : Type 0 where
  pub files : List (List ℕ × List ℕ)
  pub spare : ℕ
  pub room : ℕ

-- the names with their bytes, the calls that fail, how many calls and faults there were, and all fetches with their
-- answers
pub record MemShelfState : Type 0 where
  pub files : List (List ℕ × List ℕ)
  pub failing : List ℕ
  pub calls : ℕ
  pub faults : ℕ
  pub log : List Fetched

-- whether there are no call numbers
abbrev pub none_fails : List ℕ → Bool
none_fails [] = true
none_fails (_ ∷ _) = false

-- it reports its contents; if no call fails it is sure of each name that it has, and otherwise of none
abbrev pub shelf_of : MemShelfState → ShelfState
shelf_of s = record {
  files = Some (content_of s.files);
  sure = λ name. none_fails s.failing && is_some (content_of s.files name);
  faults = s.faults;
  log = s.log;
}

-- whether the next fetch fails: its number is among the failing ones, or the shelf doesn't have the name
abbrev pub fails : MemShelfState → List ℕ → Bool
fails s name = is_failing s.failing (one_more s.calls) || is_none (content_of s.files name)

-- whether the content of a name exists and is longer than the longest allowed
abbrev pub is_long : MemShelfState → List ℕ → Bool
is_long s name = nat_lt longest (length (unwrap_or (content_of s.files name) []))

-- a copy of a content that isn't too long
abbrev pub IsCopyOf : {A : Type 0} → List ℕ → Result (Vec ℕ A) FetchFault → Type 0
IsCopyOf content (Ok copy) = (copy.items ≡ content) × (length content ≤ longest)
IsCopyOf content (Err Failed) = ⊥
IsCopyOf content (Err TooLong) = longest < length content
IsCopyOf content (Err OutOfMemory) = length content ≤ longest
