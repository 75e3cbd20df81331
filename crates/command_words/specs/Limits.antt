-- The numbers that words may say, one row for each kind.
use Rattle.std.specs.Prelude.{ℕ, ◌≤◌, List, Option, codes}
use Rattle.ant_base.specs.Number.{number_within}
use Rattle.command_words.specs.declared.limits.NumberKind.{NumberKind}
use Rattle.command_words.specs.declared.limits.NumberKind.TheVariants.{SeedNumber, RoundCount, WorkerCount, WindowSize, FoeCount, CorpseFood, RestRounds, SideLength, ElementCount, AntId, SeedCount}

-- the least number of a kind
abbrev pub least_of : NumberKind → ℕ
least_of SeedNumber = 0
least_of RoundCount = 0
least_of WorkerCount = 1
least_of WindowSize = 1
least_of FoeCount = 4
least_of CorpseFood = 0
least_of RestRounds = 0
least_of SideLength = 3
least_of ElementCount = 0
least_of AntId = 0
least_of SeedCount = 1

-- the greatest number of a kind
abbrev pub most_of : NumberKind → ℕ
most_of SeedNumber = 4294967295
most_of RoundCount = 1000000
most_of WorkerCount = 16
most_of WindowSize = 16384
most_of FoeCount = 6
most_of CorpseFood = 9
most_of RestRounds = 255
most_of SideLength = 512
most_of ElementCount = 255
most_of AntId = 16383
most_of SeedCount = 1000

-- the number of a word, of a kind: 1 to 10 decimal digits, within the kind's limits
abbrev pub number_in : NumberKind → List ℕ → Option ℕ
number_in kind word = number_within (least_of kind) (most_of kind) word

-- a number is within the limits of its kind
abbrev pub IsWithin : NumberKind → ℕ → Type 0
IsWithin kind number = (least_of kind ≤ number) × (number ≤ most_of kind)

-- the name that the page of `--help` has for a number at a place
abbrev pub name_of : NumberKind → List ℕ
name_of SeedNumber = codes "SEED"
name_of RoundCount = codes "ROUNDS"
name_of WorkerCount = codes "WORKERS"
name_of AntId = codes "ID"
name_of kind = codes "N"
