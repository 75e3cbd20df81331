-- Words of a `run` and what they request, words that are no `run`, and what no status says.
use Rattle.std.proofs.Common.{◌≡◌, ◌≢◌, ◌⊎◌, inl, inr, ℕ, ◌≤◌, nat_eq, Bool, true, false, List, [], ◌∷◌, ◌++◌, length, Result, Ok, Err, codes, bytes_eq, refl, sym, ap, ◌∙◌, lit<, arith}
use Rattle.std.specs.List.{list_any}
use Rattle.std.proofs.lemmas.Bool.{false≢true}
use Rattle.ant_base.specs.Fetched.{Fetched}
use Rattle.ant_base.specs.Number.{decimal_value}
use Rattle.ant_base.specs.Sink.{NothingWaits, SinkState}
use Rattle.ant_base.specs.declared.shelf.FetchFault.{FetchFault}
use Rattle.ant_base.specs.declared.shelf.FetchFault.TheVariants.{Failed, TooLong, OutOfMemory}
use Rattle.command_words.proofs.ReadLemmas.{read-none}
use Rattle.command_words.proofs.TableLemmas.{bytes_eq-same}
use Rattle.command_words.proofs.WorkedLines.{words_of}
use Rattle.command_words.specs.Command.{asked_in, is_among, rest_after}
use Rattle.command_words.specs.Inner.Walk.{choice_of, command_kind_of, read_of}
use Rattle.command_words.specs.Slots.{dumps_of, is_dumps, is_file_name}
use Rattle.command_words.specs.declared.table.CommandKind.TheVariants.{Run}
use Rattle.ant_commands.specs.Outside.{Outside}
use Rattle.ant_commands.specs.RunPromise.{AreOptions, bare_run, ComesNext, DidFetch, IsOption, IsPrinted, IsRunOf, IsText, IsNotBegun, IsUnfit, PushedPart, RunAsked, RunEnds, StopsAtFile, TextKind, fetch}
use Rattle.ant_commands.specs.RunPromise.IsDumps.{NoRound, EveryRound, TheseRounds}
use Rattle.ant_commands.specs.RunPromise.IsOption.{Seed, Rounds, Dump, Workers, Window, Surround, Corpse, Rest, Far}
use Rattle.ant_commands.specs.RunPromise.ComesNext.{WorldFirst, RedNext, BlackLast}
use Rattle.ant_commands.specs.RunPromise.IsNotBegun.{NothingFetched, BytesCame, NoBytes}
use Rattle.ant_commands.specs.RunPromise.TextKind.{OfWorld, OfBrain}
use Rattle.ant_commands.proofs.RunWords.{table_run}

-- what is requested if no option says otherwise, and then with a seed, a number of rounds and a choice of them
abbrev bare : RunAsked
bare = record { world = codes "w"; red = codes "r"; black = codes "b"; seed = 0; rounds = 0; dumps = λ round. false; sheet = record { surround = 5; corpse = 3; rest = 14 } }

abbrev seeded : RunAsked
seeded = record bare { seed = 7 }

abbrev limited : RunAsked
limited = record seeded { rounds = 5 }

abbrev dumped : (ℕ → Bool) → RunAsked
dumped dumps = record limited { dumps = dumps }

-- the same with other numbers of the rules
abbrev ruled : ℕ → ℕ → ℕ → RunAsked
ruled surround corpse rest = record (dumped (λ round. true)) { sheet = record { surround = surround; corpse = corpse; rest = rest } }

-- what all options request, in a different order from the table's
pub all_said : AreOptions (bare_run (codes "w") (codes "r") (codes "b"))
    ((codes "--far", []) ∷ (codes "--rest", codes "1" ∷ []) ∷ (codes "--corpse", codes "2" ∷ []) ∷ (codes "--surround", codes "6" ∷ []) ∷ (codes "--window", codes "3" ∷ [])
    ∷ (codes "--workers", codes "4" ∷ []) ∷ (codes "--dump", codes "all" ∷ []) ∷ (codes "--rounds", codes "5" ∷ []) ∷ (codes "--seed", codes "7" ∷ []) ∷ [])
    (record bare { seed = 7; rounds = 5; dumps = λ round. true; sheet = record { surround = 6; corpse = 2; rest = 1 } })
unfolding decimal_value
all_said = (
  ruled 6 2 1,
  Far,
  (
    ruled 6 2 14,
    Rest 1 (codes "1") (refl, omega arith, omega arith),
    (
      ruled 6 3 14,
      Corpse 2 (codes "2") (refl, omega arith, omega arith),
      (
        dumped (λ round. true),
        Surround 6 (codes "6") (refl, omega arith, omega arith),
        (
          dumped (λ round. true),
          Window 3 (codes "3") (refl, omega arith, omega arith),
          (
            dumped (λ round. true),
            Workers 4 (codes "4") (refl, omega arith, omega arith),
            (
              limited,
              Dump (λ round. true) (codes "all") EveryRound,
              (seeded, Rounds 5 (codes "5") (refl, omega arith, omega arith), (bare, Seed 7 (codes "7") (refl, omega arith, omega arith), refl)),
            ),
          ),
        ),
      ),
    ),
  ),
)

-- what the words request without them
pub least_said : AreOptions (bare_run (codes "w") (codes "r") (codes "b")) ((codes "--rounds", codes "5" ∷ []) ∷ (codes "--seed", codes "7" ∷ []) ∷ [])
    (record bare { seed = 7; rounds = 5; dumps = λ round. false; sheet = record { surround = 5; corpse = 3; rest = 14 } })
unfolding decimal_value
least_said = (seeded, Rounds 5 (codes "5") (refl, omega arith, omega arith), (bare, Seed 7 (codes "7") (refl, omega arith, omega arith), refl))

differ : (name other : List ℕ) → bytes_eq other name ≡ false → other ≢ name
differ name other apart same = false≢true (sym apart ∙ ap (λ (n : List ℕ). bytes_eq other n) (sym same) ∙ bytes_eq-same other)

-- the rounds 0 and 10
abbrev pub two_rounds : ℕ → Bool
two_rounds round = list_any (λ number. nat_eq number round) (0 ∷ 10 ∷ [])

-- a command line with its options in a different order
pub reordered : IsRunOf (words_of (codes "run w r b --rest 1 --far --dump 0,10 --rounds 5 --seed 7"))
    (record { world = codes "w"; red = codes "r"; black = codes "b"; seed = 7; rounds = 5; dumps = two_rounds; sheet = record { surround = 5; corpse = 3; rest = 1 } })
unfolding decimal_value is_file_name
reordered = record {
  options = (codes "--rest", codes "1" ∷ []) ∷ (codes "--far", []) ∷ (codes "--dump", codes "0,10" ∷ []) ∷ (codes "--rounds", codes "5" ∷ []) ∷ (codes "--seed", codes "7" ∷ []) ∷ [];
  whole = refl;
  names = (refl, (refl, (refl, tt)));
  said = (
    dumped two_rounds,
    Rest 1 (codes "1") (refl, omega arith, omega arith),
    (
      dumped two_rounds,
      Far,
      (
        limited,
        Dump two_rounds (codes "0,10") (TheseRounds (0 ∷ 10 ∷ []) (codes "0,10") ((refl, omega arith, omega arith), ((refl, omega arith, omega arith), tt))),
        (seeded, Rounds 5 (codes "5") (refl, omega arith, omega arith), (bare, Seed 7 (codes "7") (refl, omega arith, omega arith), refl)),
      ),
    ),
  );
  once = (
    (differ (codes "--rest") (codes "--far") refl, (differ (codes "--rest") (codes "--dump") refl, (differ (codes "--rest") (codes "--rounds") refl, (differ (codes "--rest") (codes "--seed") refl, tt)))),
    (
      (differ (codes "--far") (codes "--dump") refl, (differ (codes "--far") (codes "--rounds") refl, (differ (codes "--far") (codes "--seed") refl, tt))),
      (
        (differ (codes "--dump") (codes "--rounds") refl, (differ (codes "--dump") (codes "--seed") refl, tt)),
        ((differ (codes "--rounds") (codes "--seed") refl, tt), (tt, tt)),
      ),
    ),
  );
  seeded = (4, lit< tt, refl);
  limited = (3, lit< tt, refl);
}

-- the least and the greatest number of each option, and the words of dumps
pub within_limits : (asked : RunAsked)
    → IsOption asked (codes "--seed") (codes "0" ∷ []) (record asked { seed = 0 })
    × IsOption asked (codes "--seed") (codes "4294967295" ∷ []) (record asked { seed = 4294967295 })
    × IsOption asked (codes "--rounds") (codes "0" ∷ []) (record asked { rounds = 0 })
    × IsOption asked (codes "--rounds") (codes "1000000" ∷ []) (record asked { rounds = 1000000 })
    × IsOption asked (codes "--workers") (codes "1" ∷ []) asked
    × IsOption asked (codes "--workers") (codes "16" ∷ []) asked
    × IsOption asked (codes "--window") (codes "01" ∷ []) asked
    × IsOption asked (codes "--window") (codes "16384" ∷ []) asked
    × IsOption asked (codes "--surround") (codes "4" ∷ []) (record asked { sheet = record asked.sheet { surround = 4 } })
    × IsOption asked (codes "--surround") (codes "6" ∷ []) (record asked { sheet = record asked.sheet { surround = 6 } })
    × IsOption asked (codes "--corpse") (codes "0" ∷ []) (record asked { sheet = record asked.sheet { corpse = 0 } })
    × IsOption asked (codes "--corpse") (codes "9" ∷ []) (record asked { sheet = record asked.sheet { corpse = 9 } })
    × IsOption asked (codes "--rest") (codes "0" ∷ []) (record asked { sheet = record asked.sheet { rest = 0 } })
    × IsOption asked (codes "--rest") (codes "255" ∷ []) (record asked { sheet = record asked.sheet { rest = 255 } })
    × IsOption asked (codes "--dump") (codes "none" ∷ []) (record asked { dumps = λ round. false })
    × IsOption asked (codes "--dump") (codes "all" ∷ []) (record asked { dumps = λ round. true })
unfolding decimal_value
within_limits asked = (
  Seed 0 (codes "0") (refl, omega arith, omega arith),
  Seed 4294967295 (codes "4294967295") (refl, omega arith, omega arith),
  Rounds 0 (codes "0") (refl, omega arith, omega arith),
  Rounds 1000000 (codes "1000000") (refl, omega arith, omega arith),
  Workers 1 (codes "1") (refl, omega arith, omega arith),
  Workers 16 (codes "16") (refl, omega arith, omega arith),
  Window 1 (codes "01") (refl, omega arith, omega arith),
  Window 16384 (codes "16384") (refl, omega arith, omega arith),
  Surround 4 (codes "4") (refl, omega arith, omega arith),
  Surround 6 (codes "6") (refl, omega arith, omega arith),
  Corpse 0 (codes "0") (refl, omega arith, omega arith),
  Corpse 9 (codes "9") (refl, omega arith, omega arith),
  Rest 0 (codes "0") (refl, omega arith, omega arith),
  Rest 255 (codes "255") (refl, omega arith, omega arith),
  Dump (λ round. false) (codes "none") NoRound,
  Dump (λ round. true) (codes "all") EveryRound,
)

-- no option sets a number beyond its limits
pub seed_ends : {asked new : RunAsked} {name : List ℕ} {words : List (List ℕ)} → IsOption asked name words new → new.seed ≡ 4294967296 → asked.seed ≡ 4294967296
seed_ends (Seed n word is) e = absurd (let most = is.2 in omega (arith, e))
seed_ends it e = e

pub rounds_end : {asked new : RunAsked} {name : List ℕ} {words : List (List ℕ)} → IsOption asked name words new → new.rounds ≡ 1000001 → asked.rounds ≡ 1000001
rounds_end (Rounds n word is) e = absurd (let most = is.2 in omega (arith, e))
rounds_end it e = e

-- words that are not the command line of any `run`
no_run : (words : List (List ℕ)) (number : ℕ) → read_of words ≡ Err number → (asked : RunAsked) → ¬ IsRunOf words asked
no_run words number refused asked is = read-none words number refused (asked_in Run words) (table_run words asked is).is

-- an option that is given twice
pub seed_twice : (asked : RunAsked) → ¬ IsRunOf (words_of (codes "run w r b --seed 1 --rounds 2 --seed 1")) asked
unfolding command_kind_of choice_of is_among rest_after is_file_name is_dumps dumps_of decimal_value
seed_twice = no_run (words_of (codes "run w r b --seed 1 --rounds 2 --seed 1")) 9 refl

-- a seed beyond its limit
pub seed_too_great : (asked : RunAsked) → ¬ IsRunOf (words_of (codes "run w r b --seed 4294967296 --rounds 2")) asked
unfolding command_kind_of choice_of is_among rest_after is_file_name is_dumps dumps_of decimal_value
seed_too_great = no_run (words_of (codes "run w r b --seed 4294967296 --rounds 2")) 6 refl

-- no number of rounds
pub no_rounds : (asked : RunAsked) → ¬ IsRunOf (words_of (codes "run w r b --seed 1")) asked
unfolding command_kind_of choice_of is_among rest_after is_file_name is_dumps dumps_of decimal_value
no_rounds = no_run (words_of (codes "run w r b --seed 1")) 7 refl

-- an option instead of a name, and two commas between two numbers
pub no_brain : (asked : RunAsked) → ¬ IsRunOf (words_of (codes "run w r --seed 1 --rounds 2")) asked
unfolding command_kind_of choice_of is_among rest_after is_file_name is_dumps dumps_of decimal_value
no_brain = no_run (words_of (codes "run w r --seed 1 --rounds 2")) 4 refl

pub two_commas : (asked : RunAsked) → ¬ IsRunOf (words_of (codes "run w r b --dump 1,,2 --seed 1 --rounds 2")) asked
unfolding command_kind_of choice_of is_among rest_after is_file_name is_dumps dumps_of decimal_value
two_commas = no_run (words_of (codes "run w r b --dump 1,,2 --seed 1 --rounds 2")) 6 refl

-- A failed fetch doesn't make a file unfit. A file that is too long is unfit, and the line says so.
not_unfit : (says : List ℕ) → ¬ IsUnfit OfWorld (Err Failed) says
not_unfit says is = (let no : ⊥ = (let same = is.0 in cc) in no)

pub long_is_unfit : IsUnfit OfWorld (Err TooLong) (codes "too long")
long_is_unfit = (refl, refl)

-- what is printed is flushed, and the errors got nothing
printed_alone : (asked : RunAsked) (before after : Outside) → IsPrinted asked before after → (after.err ≡ before.err) × NothingWaits after.out.waiting
printed_alone asked before after is = (is.silent, is.flushed)

-- if a run stopped at a file, nothing was written
stopped_alone : {asked : RunAsked} {before after : Outside} {kind : TextKind} {name : List ℕ} {answer : Result (List ℕ) FetchFault} → StopsAtFile asked before after kind name answer
    → after.out ≡ before.out
stopped_alone at = at.unwritten

-- the same if a run stopped before the text was begun; its fetches are known
unbegun_alone : (asked : RunAsked) (before after : Outside) → IsNotBegun asked before after → (after.out ≡ before.out) × ((fetches : List Fetched) × DidFetch before after fetches)
unbegun_alone asked before after (NothingFetched did unwritten) = (unwritten, ([], did))
unbegun_alone asked before after (BytesCame kind name bytes at) = (at.unwritten, (at.earlier ++ (fetch name (Ok bytes) ∷ []), at.fetched))
unbegun_alone asked before after (NoBytes kind name at) = (at.unwritten, (at.earlier ++ (fetch name (Err OutOfMemory) ∷ []), at.fetched))

-- if a text is given up, a part of it is left
part_left : (out new_out : SinkState) (text : List ℕ) (part : PushedPart out new_out text) → 1 ≤ length part.1
part_left out new_out text part = part.3

-- a world was fetched before a brain, and a red brain before the black one
pub read_before : {asked : RunAsked} {kind : TextKind} {name : List ℕ} {earlier : List Fetched} → ComesNext asked kind name earlier
    → ((kind ≡ OfWorld) × (name ≡ asked.world) × (earlier ≡ []))
    ⊎ ((first : List ℕ) × (kind ≡ OfBrain) × (name ≡ asked.red) × (earlier ≡ fetch asked.world (Ok first) ∷ []) × IsText OfWorld first)
    ⊎ ((first : List ℕ) × (second : List ℕ) × (kind ≡ OfBrain) × (name ≡ asked.black) × (earlier ≡ fetch asked.world (Ok first) ∷ fetch asked.red (Ok second) ∷ [])
    × IsText OfWorld first × IsText OfBrain second)
read_before WorldFirst = inl (refl, refl, refl)
read_before (RedNext first is_world) = inr (inl (first, refl, refl, refl, is_world))
read_before (BlackLast first second is_world is_brain) = inr (inr (first, second, refl, refl, refl, is_world, is_brain))

-- no other status
pub never_2 : (asked : RunAsked) (before after : Outside) → ¬ RunEnds asked before after 2
never_2 asked before after ends = elim ends [
  | inl zero ↦ (let same = zero.0 in omega arith)
  | inr (inl three) ↦ (let same = three.0 in omega arith)
  | inr (inr (inl four)) ↦ (let same = four.0 in omega arith)
  | inr (inr (inr (inl five))) ↦ (let same = five.0 in omega arith)
  | inr (inr (inr (inr six))) ↦ (let same = six.0 in omega arith)
]
