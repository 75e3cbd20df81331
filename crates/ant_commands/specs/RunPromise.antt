-- The promise of one `run` without `--stats`: its words, its files, and what each exit status says (this project's
-- own). The law `run_promise` says that each run of the program keeps it; docs/RUN.md shows all that it rests on.
use Rattle.std.specs.Prelude.{◌≡◌, ◌≢◌, ◌⊎◌, ℕ, ◌≤◌, nat_eq, Bool, true, false, List, [], ◌∷◌, ◌++◌, length, map, flat_map, ◌==◌, Some, Result, Ok, Err, codes}
use Rattle.std.specs.List.{AllByRecursion, AllZip, Contains, list_any, slice_split}
use Rattle.ant_base.specs.Faults.{Rose}
use Rattle.ant_base.specs.Fetched.{Fetched}
use Rattle.ant_base.specs.Layout.{◌+++◌}
use Rattle.ant_base.specs.Number.{decimal_value}
use Rattle.ant_base.specs.Shelf.{FetchesEach}
use Rattle.ant_base.specs.Sink.{NothingWaits, PushedAll, PushedFront, SinkState}
use Rattle.ant_base.specs.declared.shelf.FetchFault.{FetchFault}
use Rattle.ant_base.specs.declared.shelf.FetchFault.TheVariants.{Failed, TooLong, OutOfMemory}
use Rattle.ant_turn.specs.Minds.{Minds}
use Rattle.ant_turn.specs.Sheet.{Sheet}
use Rattle.brain_read.specs.declared.instr.Instr.{Instr}
use Rattle.brain_read.specs.Grammar.{IsBrainText}
use Rattle.cell_world.specs.Grid.{Grid, world_of}
use Rattle.command_words.specs.Command.{PlainAsked, IsCommand}
use Rattle.command_words.specs.Slots.{AllDiffer, is_file_name}
use Rattle.command_words.specs.declared.table.CommandKind.TheVariants.{Run}
use Rattle.command_words.specs.declared.table.Choice.TheVariants.{Stats}
use Rattle.match_run.specs.Run.{run_text}
use Rattle.world_read.specs.Opened.{OpensAs}
use Rattle.ant_commands.specs.Headline.{NamesTheWord}
use Rattle.ant_commands.specs.Outside.{Outside}
use Rattle.ant_commands.specs.Run.{IsNoCommand, IsRunTo}

-- a word is 1 to 10 decimal digits of a number that is neither below the least nor above the greatest
abbrev pub IsNumber : ℕ → ℕ → ℕ → List ℕ → Type 0
IsNumber least greatest number word = (decimal_value word ≡ Some number) × (least ≤ number) × (number ≤ greatest)

-- A word chooses the rounds that are dumped: it is `none`, `all`, or the numbers of these rounds. Single commas (the
-- byte 44) separate the numbers.
pub data IsDumps : (ℕ → Bool) → List ℕ → Type 0 where
  NoRound : IsDumps (λ round. false) (codes "none")
  EveryRound : IsDumps (λ round. true) (codes "all")
  TheseRounds : (rounds : List ℕ) (word : List ℕ)
      → AllZip (IsNumber 0 1000000) rounds (slice_split (λ byte. byte == 44) word)
      → IsDumps (λ round. list_any (λ number. nat_eq number round) rounds) word

-- what a run has to do: the names of its files, the seed, how many rounds are played, which rounds are dumped, and the
-- numbers of the rules
pub record RunAsked : Type 0 where
  pub world : List ℕ
  pub red : List ℕ
  pub black : List ℕ
  pub seed : ℕ
  pub rounds : ℕ
  pub dumps : ℕ → Bool
  pub sheet : Sheet

-- `IsOption others name words asked`: the option of this name, followed by these words, turns `others` into `asked`. So
-- `--seed 7` sets the seed to 7. `--workers`, `--window` and `--far` change nothing.
pub data IsOption (others : RunAsked) : List ℕ → List (List ℕ) → RunAsked → Type 0 where
  Seed : (n : ℕ) (word : List ℕ) → IsNumber 0 4294967295 n word
      → IsOption others (codes "--seed") (word ∷ []) (record others { seed = n })
  Rounds : (n : ℕ) (word : List ℕ) → IsNumber 0 1000000 n word
      → IsOption others (codes "--rounds") (word ∷ []) (record others { rounds = n })
  Dump : (dumps : ℕ → Bool) (word : List ℕ) → IsDumps dumps word
      → IsOption others (codes "--dump") (word ∷ []) (record others { dumps = dumps })
  Workers : (n : ℕ) (word : List ℕ) → IsNumber 1 16 n word → IsOption others (codes "--workers") (word ∷ []) others
  Window : (n : ℕ) (word : List ℕ) → IsNumber 1 16384 n word → IsOption others (codes "--window") (word ∷ []) others
  Surround : (n : ℕ) (word : List ℕ) → IsNumber 4 6 n word
      → IsOption others (codes "--surround") (word ∷ [])
      (record others { sheet = record others.sheet { surround = n } })
  Corpse : (n : ℕ) (word : List ℕ) → IsNumber 0 9 n word
      → IsOption others (codes "--corpse") (word ∷ []) (record others { sheet = record others.sheet { corpse = n } })
  Rest : (n : ℕ) (word : List ℕ) → IsNumber 0 255 n word
      → IsOption others (codes "--rest") (word ∷ []) (record others { sheet = record others.sheet { rest = n } })
  Far : IsOption others (codes "--far") [] others

-- A run of these files before its options: nothing is dumped, and the rules are the contest's. A seed and a number of
-- rounds are always given by options.
abbrev pub bare_run : List ℕ → List ℕ → List ℕ → RunAsked
bare_run world red black =
    record { world = world; red = red; black = black; seed = 0; rounds = 0; dumps = λ round. false; sheet = record { surround = 5; corpse = 3; rest = 14 } }

-- The options turn `start` into `asked`, one by one, the last first. Each is a name and the words that follow it. Each
-- is given at most once, so their order doesn't matter.
abbrev pub AreOptions : RunAsked → List (List ℕ × List (List ℕ)) → RunAsked → Type 0
AreOptions start [] asked = asked ≡ start
AreOptions start (option ∷ options) asked =
    (others : RunAsked) × IsOption others option.0 option.1 asked × AreOptions start options others

-- The words are `run`, the names of three files, and options in any order, each at most once. The seed and the rounds
-- are among the options.
pub record IsRunOf (words : List (List ℕ)) (asked : RunAsked) : Type 0 where
  pub options : List (List ℕ × List (List ℕ))
  pub whole : words ≡ codes "run" ∷ asked.world ∷ asked.red ∷ asked.black ∷ flat_map (λ option. option.0 ∷ option.1) options
  pub names : AllByRecursion (λ name. is_file_name name ≡ true) (asked.world ∷ asked.red ∷ asked.black ∷ [])
  pub said : AreOptions (bare_run asked.world asked.red asked.black) options asked
  pub once : AllDiffer (map (λ option. option.0) options)
  pub seeded : Contains (map (λ option. option.0) options) (codes "--seed")
  pub limited : Contains (map (λ option. option.0) options) (codes "--rounds")

-- a fetch: the name, and the answer
abbrev pub fetch : List ℕ → Result (List ℕ) FetchFault → Fetched
fetch name answer = record { name = name; answer = answer }

-- what was fetched between these two states, in order
abbrev pub DidFetch : Outside → Outside → List Fetched → Type 0
DidFetch before after fetches = after.shelf.log ≡ before.shelf.log ++ fetches

-- what a file has to be: the text of a world, or of a brain
pub data TextKind : Type 0 where
  OfWorld : TextKind
  OfBrain : TextKind

-- bytes are a text of this kind
abbrev pub IsText : TextKind → List ℕ → Type 0
IsText OfWorld bytes = (world : Grid) × OpensAs bytes world
IsText OfBrain bytes = (brain : List Instr) × IsBrainText bytes brain

-- `ComesNext asked kind name earlier`: after the fetches `earlier` the file with this name is next, and it has to be a
-- text of this kind.
pub data ComesNext (asked : RunAsked) : TextKind → List ℕ → List Fetched → Type 0 where
  -- the world, after none
  WorldFirst : ComesNext asked OfWorld asked.world []
  -- red's brain, after a world
  RedNext : (first : List ℕ)
      → IsText OfWorld first → ComesNext asked OfBrain asked.red (fetch asked.world (Ok first) ∷ [])
  -- black's brain, after a world and a brain
  BlackLast : (first second : List ℕ) → IsText OfWorld first → IsText OfBrain second
      → ComesNext asked OfBrain asked.black (fetch asked.world (Ok first) ∷ fetch asked.red (Ok second) ∷ [])

-- A run stopped at the file with this name, which has to be a text of this kind. It was fetched last, with this answer,
-- and nothing was written.
pub record StopsAtFile (asked : RunAsked) (before after : Outside) (kind : TextKind) (name : List ℕ)
    (answer : Result (List ℕ) FetchFault) : Type 0 where
  pub earlier : List Fetched
  pub next : ComesNext asked kind name earlier
  pub fetched : DidFetch before after (earlier ++ (fetch name answer ∷ []))
  pub unwritten : after.out ≡ before.out

-- a proper prefix of the text was appended, without a fault
abbrev pub PushedPart : SinkState → SinkState → List ℕ → Type 0
PushedPart out new_out text =
    (front : List ℕ) × (rest : List ℕ) × (text ≡ front ++ rest) × (1 ≤ length rest) × PushedAll out new_out front

-- The three files were fetched, in this order, and no others. They are a world and two brains. `IsWritten` says what
-- was written of the text of their game: `PushedAll` at status 0, `PushedFront` at 4, and `PushedPart` at 6.
pub record Plays (IsWritten : SinkState → SinkState → List ℕ → Type 0) (asked : RunAsked)
    (before after : Outside) : Type 0 where
  pub first : List ℕ
  pub second : List ℕ
  pub third : List ℕ
  pub fetched : DidFetch before after (fetch asked.world (Ok first) ∷ fetch asked.red (Ok second) ∷ fetch asked.black (Ok third) ∷ [])
  pub grid : Grid
  pub minds : Minds
  pub is_world : OpensAs first grid
  pub is_red : IsBrainText second minds.red
  pub is_black : IsBrainText third minds.black
  pub rules : minds.sheet ≡ asked.sheet
  pub written : IsWritten before.out after.out (run_text minds asked.seed asked.rounds asked.dumps (world_of grid))

-- the errors got this line, or a prefix of it if they failed
abbrev pub HasLine : SinkState → SinkState → List ℕ → Type 0
HasLine err new_err line = PushedAll err new_err line ⊎ PushedFront err new_err line

-- 0: the whole text was written. If the output reports what waits, all of it was flushed. The errors got nothing
pub record IsPrinted (asked : RunAsked) (before after : Outside) : Type 0 where
  pub plays : Plays PushedAll asked before after
  pub flushed : NothingWaits after.out.waiting
  pub silent : after.err ≡ before.err

-- 3: a file wasn't read: its fetch failed
pub record IsNotRead (asked : RunAsked) (before after : Outside) : Type 0 where
  pub kind : TextKind
  pub name : List ℕ
  pub stopped : StopsAtFile asked before after kind name (Err Failed)
  pub line : HasLine before.err after.err (codes "ants: " +++ name +++ codes ": not read\n")

-- 4: the output failed after a prefix of the text
pub record IsCutOff (asked : RunAsked) (before after : Outside) : Type 0 where
  pub plays : Plays PushedFront asked before after
  pub line : HasLine before.err after.err (codes "ants: output failed\n")

-- Either the bytes that were fetched are not such a text, and `says` may be any text. Or the fetch returned that the
-- file is too long, and `says` is `too long`.
abbrev pub IsUnfit : TextKind → Result (List ℕ) FetchFault → List ℕ → Type 0
IsUnfit kind (Ok bytes) _ = ¬ IsText kind bytes
IsUnfit kind (Err fault) says = (fault ≡ TooLong) × (says ≡ codes "too long")

-- 5: a file is not the world or the brain that it has to be, or its fetch returned that it is too long. The law
-- `headline` says which fault of a text the line names
pub record IsNotAccepted (asked : RunAsked) (before after : Outside) : Type 0 where
  pub kind : TextKind
  pub name : List ℕ
  pub answer : Result (List ℕ) FetchFault
  pub says : List ℕ
  pub stopped : StopsAtFile asked before after kind name answer
  pub unfit : IsUnfit kind answer says
  pub line : HasLine before.err after.err (codes "ants: " +++ name +++ codes ": " +++ says +++ codes "\n")

-- the text wasn't begun, and nothing was written
pub data IsNotBegun (asked : RunAsked) (before after : Outside) : Type 0 where
  -- it stopped before the first fetch
  NothingFetched : DidFetch before after [] → after.out ≡ before.out → IsNotBegun asked before after
  -- or after a file whose bytes were fetched, whether they are such a text or not
  BytesCame : (kind : TextKind) (name bytes : List ℕ) → StopsAtFile asked before after kind name (Ok bytes)
      → IsNotBegun asked before after
  -- or at a fetch that returned out of memory
  NoBytes : (kind : TextKind) (name : List ℕ)
      → StopsAtFile asked before after kind name (Err OutOfMemory) → IsNotBegun asked before after

-- 6: memory ran out, before the text or within it
pub record IsOutOfMemory (asked : RunAsked) (before after : Outside) : Type 0 where
  pub stopped : IsNotBegun asked before after ⊎ Plays PushedPart asked before after
  pub line : HasLine before.err after.err (codes "ants: out of memory\n")

-- how a run ends: with one of five statuses, and what each means
abbrev pub RunEnds : RunAsked → Outside → Outside → ℕ → Type 0
RunEnds asked before after number =
    ((number ≡ 0) × IsPrinted asked before after)
    ⊎ ((number ≡ 3) × IsNotRead asked before after)
    ⊎ ((number ≡ 4) × IsCutOff asked before after)
    ⊎ ((number ≡ 5) × IsNotAccepted asked before after)
    ⊎ ((number ≡ 6) × IsOutOfMemory asked before after)

-- The promise of a run. `IsRunOf words asked`: these words request this run. `IsRunTo words before after number`: the
-- program, called with these words, ended with this number. `kept`: a run that the words request ended as `RunEnds`
-- says. `one`: words request at most one run. `every`: the program was called with `run` and further words, without
-- `--stats`, and didn't end with 2; then `run` and these words request a run.
pub record RunPromise : Type 0 where
  pub kept : (words : List (List ℕ)) (asked : RunAsked) → IsRunOf words asked
      → (before after : Outside) (number : ℕ) → IsRunTo words before after number → RunEnds asked before after number
  pub one : (words : List (List ℕ)) (a b : RunAsked) → IsRunOf words a → IsRunOf words b → a ≡ b
  pub every : (words : List (List ℕ)) (before after : Outside) (number : ℕ)
      → IsRunTo (codes "run" ∷ words) before after number → number ≢ 2
      → ¬ Contains words (codes "--stats") → (asked : RunAsked) × IsRunOf (codes "run" ∷ words) asked

-- What a run does to its shelf. `each`: its fetches agree with what the shelf reports, contents and sureness are kept,
-- and the count of faults never falls. `unread`: at 3 the shelf wasn't sure of the file at which the run stopped, and
-- its count of faults rose.
pub record RunShelf : Type 0 where
  pub each : (words : List (List ℕ)) (asked : RunAsked) → IsRunOf words asked → (before after : Outside) (number : ℕ)
      → IsRunTo words before after number
      → (fetches : List Fetched) × FetchesEach before.shelf after.shelf fetches
  pub unread : (words : List (List ℕ)) (asked : RunAsked) → IsRunOf words asked → (before after : Outside)
      → IsRunTo words before after 3
      → (kind : TextKind) × (name : List ℕ) × StopsAtFile asked before after kind name (Err Failed)
      × (before.shelf.sure name ≡ false) × Rose before.shelf.faults after.shelf.faults

-- Words that are not a command end with status 2 at the refused word. Each `run` without `--stats` that is a command by
-- the table of commands is a run by `IsRunOf`.
pub record RefusedWords : Type 0 where
  pub refused : (words : List (List ℕ)) (before after : Outside) (number : ℕ) → IsRunTo words before after number
      → IsNoCommand words
      → (number ≡ 2) × NamesTheWord words before after
  pub accepted : (words : List (List ℕ)) (plain : PlainAsked) → IsCommand words plain → plain.kind ≡ Run
      → plain.has Stats ≡ false
      → (asked : RunAsked) × IsRunOf words asked
