-- What a command reads and writes, whichever command it is.
use Rattle.std.specs.Prelude.{ℕ, List}
use Rattle.ant_commands.specs.Files.{File, FileContent}

-- a command's job
pub record Job : Type 1 where
  -- its files, in the order in which they are fetched
  pub files : List File
  -- a text is its output if its files were accepted as these contents
  pub IsText : List FileContent → List ℕ → Type 0
  -- this element of the world that it generates has no room
  pub Lacks : ℕ → Type 0
  -- it writes while it plays, and this may be what it has written so far
  pub InPlay : List FileContent → List ℕ → Type 0
  -- how many workers its words name for its windows; one if it plays no windows
  pub workers : ℕ

-- a job that generates no world, has all memory that it needs before it writes, and plays no windows
abbrev pub plain_job : List File → (List FileContent → List ℕ → Type 0) → Job
plain_job files IsText = record {
  files = files;
  IsText = IsText;
  Lacks = λ element. ⊥;
  InPlay = λ contents front. ⊥;
  workers = 1;
}

abbrev pub files_of : Job → List File
files_of job = job.files

abbrev pub IsJobText : Job → List FileContent → List ℕ → Type 0
IsJobText job = job.IsText

abbrev pub LacksRoom : Job → ℕ → Type 0
LacksRoom job = job.Lacks

-- each element of the world that a command generates has room
abbrev pub HasRoom : Job → Type 0
HasRoom job = (element : ℕ) → ¬ LacksRoom job element

abbrev pub WritesInPlay : Job → List FileContent → List ℕ → Type 0
WritesInPlay job = job.InPlay

abbrev pub workers_named : Job → ℕ
workers_named job = job.workers
