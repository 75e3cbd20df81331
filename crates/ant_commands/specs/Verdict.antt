-- The verdict on the files of a command.
use Rattle.std.specs.Prelude.{◌≡◌, ℕ, List, Option, Some, IsSome}
use Rattle.std.specs.List.{AllByRecursion}
use Rattle.ant_base.specs.Fetched.{Fetched}
use Rattle.ant_base.specs.Shelf.{IsTold}
use Rattle.ant_commands.specs.declared.stop.FileFault.{FileFault}
use Rattle.ant_commands.specs.Files.{File, FileContent, AreAccepted, IsRefused, StopsAt}

-- all files are accepted as these contents, or the first that is refused has this name and this fault
pub data FilesVerdict : Type 0 where
  AllAccepted : List FileContent → FilesVerdict
  FirstRefused : List ℕ → FileFault → FilesVerdict

-- the file with this name is refused with this fault
pub record IsRefusedAs (name : List ℕ) (fault : FileFault) (file : File) (fetch : Fetched) : Type 0 where
  pub named : file.name ≡ name
  pub refused : IsRefused file fetch fault

-- the files have this verdict by the answers to their fetches
abbrev pub Judged : List File → List Fetched → FilesVerdict → Type 0
Judged files fetches (AllAccepted contents) = AreAccepted files fetches contents
Judged files fetches (FirstRefused name fault) = StopsAt (IsRefusedAs name fault) files fetches

-- the files have this verdict by these contents, that is, by fetches that return them
pub record IsJudged (at : List ℕ → Option (List ℕ)) (files : List File) (verdict : FilesVerdict) : Type 0 where
  pub fetches : List Fetched
  pub told : AllByRecursion (IsTold (Some at)) fetches
  pub judged : Judged files fetches verdict

-- each of the files has content under its name
abbrev pub AreThere : (List ℕ → Option (List ℕ)) → List File → Type 0
AreThere at files = AllByRecursion (λ file. IsSome (at file.name)) files

-- exactly one verdict
pub record HasOneVerdict (at : List ℕ → Option (List ℕ)) (files : List File) : Type 0 where
  pub verdict : FilesVerdict
  pub judged : IsJudged at files verdict
  pub only : (other : FilesVerdict) → IsJudged at files other → other ≡ verdict

-- if all files exist, contents give them exactly one verdict
abbrev pub JudgesOnce : Type 0
JudgesOnce = (at : List ℕ → Option (List ℕ)) (files : List File) → AreThere at files → HasOneVerdict at files
