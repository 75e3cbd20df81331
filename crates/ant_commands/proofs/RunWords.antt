-- The words of a `run` are those that the table of commands has, and they request the same.
use Rattle.std.proofs.Common.{◌≡◌, ◌≢◌, inl, inr, ℕ, nat_le, Bool, true, false, ◌&&◌, cond, List, [], ◌∷◌, ◌++◌, map, Option, Some, None, is_some, option_map, unwrap_or, codes, bytes_eq, refl, sym, ap, ◌∙◌, subst, lit<}
use Rattle.std.specs.List.{AllByRecursion, AllZip, Contains, flat_map}
use Rattle.std.proofs.lemmas.Bool.{and_from, and_parts, false≢true, le-leb, leb-true}
use Rattle.std.proofs.lemmas.List.Elements.{Contains-append_right}
use Rattle.std.proofs.lemmas.Slice.Eq.{bytes_eq-Decides}
use Rattle.ant_base.specs.Number.{decimal_value, number_within, within}
use Rattle.command_words.specs.Command.{FitAll, Given, IsCommand, IsCommandOf, IsGiven, IsOptionOf, NoneTwice, PlainAsked, asked_in, asked_of, dumps_said, first_word, given_words, joined, said}
use Rattle.command_words.specs.Limits.{least_of, most_of, number_in}
use Rattle.command_words.specs.Slots.{AllDiffer, DumpChoice, dumps_of, fits, is_dumps, is_file_name, numbers_of, pieces_of, with_number}
use Rattle.command_words.specs.Slots.DumpChoice.{NoDump, EveryDump, ChosenDumps}
use Rattle.command_words.specs.Table.{choices_of, is_needed, option_of, places_of, values_of, word_of}
use Rattle.command_words.specs.declared.limits.NumberKind.{NumberKind}
use Rattle.command_words.specs.declared.limits.NumberKind.TheVariants.{SeedNumber, RoundCount, WorkerCount, WindowSize, FoeCount, CorpseFood, RestRounds}
use Rattle.command_words.specs.declared.slot.Slot.TheVariants.{Number, Dumps}
use Rattle.command_words.specs.declared.slot.Place.TheVariants.{Word}
use Rattle.command_words.specs.declared.table.CommandKind.TheVariants.{Run}
use Rattle.command_words.specs.declared.table.Choice.{Choice}
use Rattle.command_words.specs.declared.table.Choice.TheVariants as choice
use Rattle.command_words.proofs.AnswersLemmas.{answers_in-of, answers_of, has_given, value_given, words_of}
use Rattle.command_words.proofs.TableLemmas.{bytes_eq-same, same_option}
use Rattle.list_lemmas.proofs.AllElements.{AllByRecursion-at}
use Rattle.list_lemmas.proofs.Elements.{Contains-cases, Contains-first, Contains-later, Contains-none}
use Rattle.ant_commands.specs.Outputs.{chosen_rounds}
use Rattle.ant_commands.specs.RunPromise.{AreOptions, bare_run, IsDumps, IsNumber, IsOption, IsRunOf, RunAsked}
use Rattle.ant_commands.specs.RunPromise.IsDumps.{NoRound, EveryRound, TheseRounds}
use Rattle.ant_commands.specs.RunPromise.IsOption.{Seed, Rounds, Dump, Workers, Window, Surround, Corpse, Rest, Far}

-- an option of a `run`, as the table has it
abbrev pub in_table : {asked new : RunAsked} {name : List ℕ} {words : List (List ℕ)} → IsOption asked name words new → Choice
in_table (Seed n word is) = choice.Seed
in_table (Rounds n word is) = choice.Rounds
in_table (Dump dumps word is) = choice.Dump
in_table (Workers n word is) = choice.Workers
in_table (Window n word is) = choice.Window
in_table (Surround n word is) = choice.Surround
in_table (Corpse n word is) = choice.Corpse
in_table (Rest n word is) = choice.Rest
in_table Far = choice.Far

-- it has the same name
name_in_table : {asked new : RunAsked} {name : List ℕ} {words : List (List ℕ)} (is : IsOption asked name words new) → name ≡ option_of (in_table is)
name_in_table (Seed n word is) = refl
name_in_table (Rounds n word is) = refl
name_in_table (Dump dumps word is) = refl
name_in_table (Workers n word is) = refl
name_in_table (Window n word is) = refl
name_in_table (Surround n word is) = refl
name_in_table (Corpse n word is) = refl
name_in_table (Rest n word is) = refl
name_in_table Far = refl

-- and is an option of `run`
known_in_table : {asked new : RunAsked} {name : List ℕ} {words : List (List ℕ)} (is : IsOption asked name words new) → Contains (choices_of Run) (in_table is)
known_in_table (Seed n word is) = (0, lit< tt, refl)
known_in_table (Rounds n word is) = (1, lit< tt, refl)
known_in_table (Dump dumps word is) = (2, lit< tt, refl)
known_in_table (Workers n word is) = (3, lit< tt, refl)
known_in_table (Window n word is) = (4, lit< tt, refl)
known_in_table (Surround n word is) = (5, lit< tt, refl)
known_in_table (Corpse n word is) = (6, lit< tt, refl)
known_in_table (Rest n word is) = (7, lit< tt, refl)
known_in_table Far = (9, lit< tt, refl)

-- Numbers.

number_said : (least greatest number : ℕ) (word : List ℕ) → IsNumber least greatest number word → number_within least greatest word ≡ Some number
number_said least greatest number word is =
    ap (within least greatest) is.0
    ∙ ap (λ b. cond b (Some number) None) (and_from (nat_le least number) (nat_le number greatest) (le-leb least number is.1) (le-leb number greatest is.2))

number_read : (least greatest number : ℕ) (word : List ℕ) → number_within least greatest word ≡ Some number → IsNumber least greatest number word
number_read least greatest number word e = go (decimal_value word) refl e where
  inside : (n : ℕ) (b : Bool) → (nat_le least n && nat_le n greatest) ≡ b → decimal_value word ≡ Some n → cond b (Some n) None ≡ Some number → IsNumber least greatest number word
  inside n true test is e =
      let same : n ≡ number = cc in
      let parts = and_parts (nat_le least n) (nat_le n greatest) test in
      subst (λ m. IsNumber least greatest m word) same (is, leb-true least n parts.0, leb-true n greatest parts.1)
  inside n false test is e = (let no : ⊥ = cc in absurd no)

  go : (o : Option ℕ) → decimal_value word ≡ o → within least greatest o ≡ Some number → IsNumber least greatest number word
  go None is e = (let no : ⊥ = cc in absurd no)
  go (Some n) is e = inside n (nat_le least n && nat_le n greatest) refl is e

-- Choices of rounds.

numbers_said : (rounds : List ℕ) (pieces : List (List ℕ)) → AllZip (IsNumber 0 1000000) rounds pieces → numbers_of pieces ≡ Some rounds
numbers_said [] [] are = refl
numbers_said [] (piece ∷ pieces) are = absurd are
numbers_said (number ∷ rounds) [] are = absurd are
numbers_said (number ∷ rounds) (piece ∷ pieces) are =
    ap (λ o. with_number o (numbers_of pieces)) (number_said 0 1000000 number piece are.0)
    ∙ ap (with_number (Some number)) (numbers_said rounds pieces are.1)

numbers_read : (pieces : List (List ℕ)) (rounds : List ℕ) → numbers_of pieces ≡ Some rounds → AllZip (IsNumber 0 1000000) rounds pieces
numbers_read [] [] e = tt
numbers_read [] (number ∷ rounds) e = (let no : ⊥ = cc in absurd no)
numbers_read (piece ∷ pieces) rounds e = go (number_in RoundCount piece) refl (numbers_of pieces) (λ others. numbers_read pieces others) rounds e where
  go : (o : Option ℕ) → number_in RoundCount piece ≡ o → (more : Option (List ℕ)) → ((others : List ℕ) → more ≡ Some others → AllZip (IsNumber 0 1000000) others pieces)
      → (rounds : List ℕ) → with_number o more ≡ Some rounds → AllZip (IsNumber 0 1000000) rounds (piece ∷ pieces)
  go None is more read rounds e = (let no : ⊥ = cc in absurd no)
  go (Some number) is None read rounds e = (let no : ⊥ = cc in absurd no)
  go (Some number) is (Some others) read [] e = (let no : ⊥ = cc in absurd no)
  go (Some number) is (Some others) read (first ∷ rounds) e =
      let one : number ≡ first = cc in
      let rest : others ≡ rounds = cc in
      (number_read 0 1000000 first piece (is ∙ ap Some one), read rounds (ap Some rest))

-- neither word is a list of numbers
no_number : (word : List ℕ) → pieces_of word ≡ word ∷ [] → decimal_value word ≡ None → (rounds : List ℕ) → AllZip (IsNumber 0 1000000) rounds (pieces_of word) → ⊥
no_number word one none rounds are = go rounds (subst (AllZip (IsNumber 0 1000000) rounds) one are) where
  go : (rounds : List ℕ) → AllZip (IsNumber 0 1000000) rounds (word ∷ []) → ⊥
  go [] are = are
  go (number ∷ rounds) are =
      let some : None ≡ Some number = sym none ∙ are.0.0 in
      let no : ⊥ = cc in
      no

none_no_number : (rounds : List ℕ) → AllZip (IsNumber 0 1000000) rounds (pieces_of (codes "none")) → ⊥
unfolding decimal_value
none_no_number rounds are = no_number (codes "none") refl refl rounds are

all_no_number : (rounds : List ℕ) → AllZip (IsNumber 0 1000000) rounds (pieces_of (codes "all")) → ⊥
unfolding decimal_value
all_no_number rounds are = no_number (codes "all") refl refl rounds are

-- a word is a choice of the table that chooses these rounds
record IsChoice (dumps : ℕ → Bool) (word : List ℕ) : Type 0 where
  chosen : DumpChoice
  is : dumps_of word ≡ Some chosen
  rounds : chosen_rounds chosen ≡ dumps

dumps_spelled : {dumps : ℕ → Bool} {word : List ℕ} → IsDumps dumps word → IsChoice dumps word
unfolding dumps_of
dumps_spelled NoRound = record { chosen = NoDump; is = refl; rounds = refl }
dumps_spelled EveryRound = record { chosen = EveryDump; is = refl; rounds = refl }
dumps_spelled (TheseRounds rounds word are) = record {
  chosen = ChosenDumps rounds;
  is = go (bytes_eq word (codes "none")) refl (bytes_eq word (codes "all")) refl;
  rounds = refl;
} where
  go : (b : Bool) → bytes_eq word (codes "none") ≡ b → (c : Bool) → bytes_eq word (codes "all") ≡ c
      → cond b (Some NoDump) (cond c (Some EveryDump) (option_map ChosenDumps (numbers_of (pieces_of word)))) ≡ Some (ChosenDumps rounds)
  go true e c f = absurd (none_no_number rounds (subst (λ w. AllZip (IsNumber 0 1000000) rounds (pieces_of w)) ((bytes_eq-Decides word (codes "none")).0 e) are))
  go false e true f = absurd (all_no_number rounds (subst (λ w. AllZip (IsNumber 0 1000000) rounds (pieces_of w)) ((bytes_eq-Decides word (codes "all")).0 f) are))
  go false e false f = ap (option_map ChosenDumps) (numbers_said rounds (pieces_of word) are)

dumps_read : (word : List ℕ) (dumps : DumpChoice) → dumps_of word ≡ Some dumps → IsDumps (chosen_rounds dumps) word
unfolding dumps_of
dumps_read word dumps e =
    go (bytes_eq word (codes "none")) refl (bytes_eq word (codes "all")) refl (numbers_of (pieces_of word)) refl dumps e
  where
    go : (b : Bool) → bytes_eq word (codes "none") ≡ b → (c : Bool) → bytes_eq word (codes "all") ≡ c
        → (o : Option (List ℕ)) → numbers_of (pieces_of word) ≡ o → (dumps : DumpChoice)
        → cond b (Some NoDump) (cond c (Some EveryDump) (option_map ChosenDumps o)) ≡ Some dumps → IsDumps (chosen_rounds dumps) word
    go true e c f o is dumps same = (let one : NoDump ≡ dumps = cc in subst (λ d. IsDumps (chosen_rounds d) word) one (subst (IsDumps (λ round. false)) (sym ((bytes_eq-Decides word (codes "none")).0 e)) NoRound))
    go false e true f o is dumps same = (let one : EveryDump ≡ dumps = cc in subst (λ d. IsDumps (chosen_rounds d) word) one (subst (IsDumps (λ round. true)) (sym ((bytes_eq-Decides word (codes "all")).0 f)) EveryRound))
    go false e false f None is dumps same = (let no : ⊥ = cc in absurd no)
    go false e false f (Some rounds) is dumps same =
        (let one : ChosenDumps rounds ≡ dumps = cc in subst (λ d. IsDumps (chosen_rounds d) word) one (TheseRounds rounds word (numbers_read (pieces_of word) rounds is)))

-- what a command line of `run` requests
abbrev pub run_said : PlainAsked → RunAsked
run_said plain = record {
  world = plain.file 0;
  red = plain.file 1;
  black = plain.file 2;
  seed = plain.option choice.Seed;
  rounds = plain.option choice.Rounds;
  dumps = chosen_rounds plain.dumps;
  sheet = record { surround = plain.option choice.Surround; corpse = plain.option choice.Corpse; rest = plain.option choice.Rest };
}

-- what the options that are given request of these files
abbrev heard : RunAsked → List Given → RunAsked
heard asked given = record asked {
  seed = said SeedNumber 0 (value_given choice.Seed given);
  rounds = said RoundCount 0 (value_given choice.Rounds given);
  dumps = chosen_rounds (dumps_said (value_given choice.Dump given));
  sheet = record {
    surround = said FoeCount 5 (value_given choice.Surround given);
    corpse = said CorpseFood 3 (value_given choice.Corpse given);
    rest = said RestRounds 14 (value_given choice.Rest given);
  };
}

-- the option of a name with these values
abbrev given_as : Choice → List (List (List ℕ)) → Given
given_as of values = record { choice = of; values = values }

-- a number that is said by an option's one word
said_by : (kind : NumberKind) (default number : ℕ) (word : List ℕ) (values : List (List (List ℕ))) → joined values ≡ word ∷ [] → number_in kind word ≡ Some number
    → said kind default (first_word (joined values)) ≡ number
said_by kind default number word values are is = ap (λ ws. said kind default (first_word ws)) are ∙ ap (λ o. unwrap_or o default) is

-- rounds that are chosen by its one word
chosen_by : {dumps : ℕ → Bool} {word : List ℕ} (values : List (List (List ℕ))) → joined values ≡ word ∷ [] → IsDumps dumps word
    → chosen_rounds (dumps_said (first_word (joined values))) ≡ dumps
chosen_by values are is =
    let it = dumps_spelled is in
    ap (λ ws. chosen_rounds (dumps_said (first_word ws))) are ∙ ap (λ o. chosen_rounds (unwrap_or o NoDump)) it.is ∙ it.rounds

-- what one more option says
says : {asked new : RunAsked} {name : List ℕ} {words : List (List ℕ)} (is : IsOption asked name words new) (values : List (List (List ℕ))) (given : List Given) → joined values ≡ words
    → heard asked given ≡ asked → heard new (given_as (in_table is) values ∷ given) ≡ new
says {asked} (Seed n word is) values given are e =
    ap (λ n. record (heard asked given) { seed = n }) (said_by SeedNumber 0 n word values are (number_said 0 4294967295 n word is)) ∙ ap (λ (a : RunAsked). record a { seed = n }) e
says {asked} (Rounds n word is) values given are e =
    ap (λ n. record (heard asked given) { rounds = n }) (said_by RoundCount 0 n word values are (number_said 0 1000000 n word is)) ∙ ap (λ (a : RunAsked). record a { rounds = n }) e
says {asked} (Dump dumps word is) values given are e =
    ap (λ d. record (heard asked given) { dumps = d }) (chosen_by values are is) ∙ ap (λ (a : RunAsked). record a { dumps = dumps }) e
says {asked} (Workers n word is) values given are e = e
says {asked} (Window n word is) values given are e = e
says {asked} (Surround n word is) values given are e =
    ap (λ n. record (heard asked given) { sheet = record (heard asked given).sheet { surround = n } }) (said_by FoeCount 5 n word values are (number_said 4 6 n word is))
    ∙ ap (λ (a : RunAsked). record a { sheet = record a.sheet { surround = n } }) e
says {asked} (Corpse n word is) values given are e =
    ap (λ n. record (heard asked given) { sheet = record (heard asked given).sheet { corpse = n } }) (said_by CorpseFood 3 n word values are (number_said 0 9 n word is))
    ∙ ap (λ (a : RunAsked). record a { sheet = record a.sheet { corpse = n } }) e
says {asked} (Rest n word is) values given are e =
    ap (λ n. record (heard asked given) { sheet = record (heard asked given).sheet { rest = n } }) (said_by RestRounds 14 n word values are (number_said 0 255 n word is))
    ∙ ap (λ (a : RunAsked). record a { sheet = record a.sheet { rest = n } }) e
says Far values given are e = e

-- From the words of a run to the table.

-- a place for each word
abbrev parts_of : List (List ℕ) → List (List (List ℕ))
parts_of words = map (λ word. word ∷ []) words

joined-parts : (words : List (List ℕ)) → joined (parts_of words) ≡ words
joined-parts [] = refl
joined-parts (word ∷ words) = ap (λ more. word ∷ more) (joined-parts words)

-- a number's word fits
number_fits : (kind : NumberKind) (number : ℕ) (word : List ℕ) → IsNumber (least_of kind) (most_of kind) number word → fits (Number kind) word ≡ true
number_fits kind number word is = ap is_some (number_said (least_of kind) (most_of kind) number word is)

dumps_fit : {dumps : ℕ → Bool} {word : List ℕ} → IsDumps dumps word → fits Dumps word ≡ true
unfolding is_dumps
dumps_fit is = ap is_some (dumps_spelled is).is

-- the words after an option's name fit its places
words_fit : {asked new : RunAsked} {name : List ℕ} {words : List (List ℕ)} (is : IsOption asked name words new) → FitAll (values_of (in_table is)) (parts_of words)
words_fit (Seed n word is) = (number_fits SeedNumber n word is, tt)
words_fit (Rounds n word is) = (number_fits RoundCount n word is, tt)
words_fit (Dump dumps word is) = (dumps_fit is, tt)
words_fit (Workers n word is) = (number_fits WorkerCount n word is, tt)
words_fit (Window n word is) = (number_fits WindowSize n word is, tt)
words_fit (Surround n word is) = (number_fits FoeCount n word is, tt)
words_fit (Corpse n word is) = (number_fits CorpseFood n word is, tt)
words_fit (Rest n word is) = (number_fits RestRounds n word is, tt)
words_fit Far = tt

-- options are pairs of a name and the words after it
abbrev pub Named : Type 0
Named = List ℕ × List (List ℕ)

abbrev pub names_of : List Named → List (List ℕ)
names_of options = map (λ (option : Named). option.0) options

abbrev pub spelled_by : List Named → List (List ℕ)
spelled_by options = flat_map (λ (option : Named). option.0 ∷ option.1) options

-- as the table has them
abbrev given_of : (start : RunAsked) (options : List Named) (asked : RunAsked) → AreOptions start options asked → List Given
given_of start [] asked are = []
given_of start (option ∷ options) asked are = given_as (in_table are.1) (parts_of option.1) ∷ given_of start options are.0 are.2

given_whole : (start : RunAsked) (options : List Named) (asked : RunAsked) (are : AreOptions start options asked) → spelled_by options ≡ flat_map given_words (given_of start options asked are)
given_whole start [] asked are = refl
given_whole start (option ∷ options) asked are =
    ap (λ (name : List ℕ). name ∷ (option.1 ++ spelled_by options)) (name_in_table are.1)
    ∙ ap (λ (words : List (List ℕ)). option_of (in_table are.1) ∷ (words ++ spelled_by options)) (sym (joined-parts option.1))
    ∙ ap (λ (more : List (List ℕ)). option_of (in_table are.1) ∷ (joined (parts_of option.1) ++ more)) (given_whole start options are.0 are.2)

given_options : (start : RunAsked) (options : List Named) (asked : RunAsked) (are : AreOptions start options asked) → AllByRecursion (IsOptionOf Run) (given_of start options asked are)
given_options start [] asked are = tt
given_options start (option ∷ options) asked are = (record { known = known_in_table are.1; fit = words_fit are.1 }, given_options start options are.0 are.2)

given_heard : (world red black : List ℕ) (options : List Named) (asked : RunAsked) (are : AreOptions (bare_run world red black) options asked) → heard asked (given_of (bare_run world red black) options asked are) ≡ asked
given_heard world red black [] asked are = ap (λ (a : RunAsked). bare_run a.world a.red a.black) are ∙ sym are
given_heard world red black (option ∷ options) asked are =
    says are.1 (parts_of option.1) (given_of (bare_run world red black) options are.0 are.2) (joined-parts option.1) (given_heard world red black options are.0 are.2)

-- a name that is different from each of theirs is the name of none of them
given_others : (start : RunAsked) (options : List Named) (asked : RunAsked) (are : AreOptions start options asked) (of : Choice)
    → AllByRecursion (λ other. other ≢ option_of of) (names_of options) → AllByRecursion (λ other. other.choice ≢ of) (given_of start options asked are)
given_others start [] asked are of differ = tt
given_others start (option ∷ options) asked are of differ =
    (λ same. differ.0 (name_in_table are.1 ∙ ap option_of same), given_others start options are.0 are.2 of differ.1)

given_once : (start : RunAsked) (options : List Named) (asked : RunAsked) (are : AreOptions start options asked) → AllDiffer (names_of options) → NoneTwice (given_of start options asked are)
given_once start [] asked are once = tt
given_once start (option ∷ options) asked are once = (
  given_others start options are.0 are.2 (in_table are.1) (subst (λ (name : List ℕ). AllByRecursion (λ other. other ≢ name) (names_of options)) (name_in_table are.1) once.0),
  given_once start options are.0 are.2 once.1,
)

-- a name is that of one option of the table
one_of_name : (of other : Choice) → option_of of ≡ option_of other → of ≡ other
one_of_name of other same = same_option of other (subst (λ (name : List ℕ). bytes_eq name (option_of other) ≡ true) (sym same) (bytes_eq-same (option_of other)))

-- what is named is given
given_named : (start : RunAsked) (options : List Named) (asked : RunAsked) (are : AreOptions start options asked) (of : Choice) → Contains (names_of options) (option_of of)
    → IsGiven of (given_of start options asked are)
given_named start [] asked are of has = absurd (Contains-none (option_of of) has)
given_named start (option ∷ options) asked are of has = elim (Contains-cases option.0 (option_of of) (names_of options) has) [
  | inl here ↦ subst (λ (o : Choice). Contains (in_table are.1 ∷ map (λ g. g.choice) (given_of start options are.0 are.2)) o) (one_of_name (in_table are.1) of (sym (name_in_table are.1) ∙ here))
      (Contains-first (in_table are.1) (map (λ g. g.choice) (given_of start options are.0 are.2)))
  | inr later ↦ Contains-later (in_table are.1) of (map (λ g. g.choice) (given_of start options are.0 are.2)) (given_named start options are.0 are.2 of later)
]

-- none of them is `--stats`
not_counts : {asked new : RunAsked} {name : List ℕ} {words : List (List ℕ)} (is : IsOption asked name words new) → bytes_eq (option_of (in_table is)) (option_of choice.Stats) ≡ false
not_counts (Seed n word is) = refl
not_counts (Rounds n word is) = refl
not_counts (Dump dumps word is) = refl
not_counts (Workers n word is) = refl
not_counts (Window n word is) = refl
not_counts (Surround n word is) = refl
not_counts (Corpse n word is) = refl
not_counts (Rest n word is) = refl
not_counts Far = refl

given_uncounted : (start : RunAsked) (options : List Named) (asked : RunAsked) (are : AreOptions start options asked) → has_given choice.Stats (given_of start options asked are) ≡ false
given_uncounted start [] asked are = refl
given_uncounted start (option ∷ options) asked are =
    ap (λ b. cond b true (has_given choice.Stats (given_of start options are.0 are.2))) (not_counts are.1) ∙ given_uncounted start options are.0 are.2

never : {P : Type 0} → false ≡ true → P
never e = absurd (false≢true e)

-- the options that a `run` needs are the seed and the rounds
needs_two : (given : List Given) → IsGiven choice.Seed given → IsGiven choice.Rounds given → (of : Choice) → Contains (choices_of Run) of → is_needed of ≡ true → IsGiven of given
needs_two given seed rounds of known =
    AllByRecursion-at (λ of. is_needed of ≡ true → IsGiven of given) (choices_of Run) of
    (λ e. seed, (λ e. rounds, (never, (never, (never, (never, (never, (never, (never, (never, tt)))))))))) known

-- the words are a command that requests this, without counts
pub record IsTableRun (words : List (List ℕ)) (asked : RunAsked) : Type 0 where
  pub is : IsCommand words (asked_in Run words)
  pub uncounted : (asked_in Run words).has choice.Stats ≡ false
  pub said : run_said (asked_in Run words) ≡ asked

-- the names at the places of a run
abbrev front_of : RunAsked → List (List (List ℕ))
front_of asked = (asked.world ∷ []) ∷ (asked.red ∷ []) ∷ (asked.black ∷ []) ∷ []

pub table_run : (words : List (List ℕ)) (asked : RunAsked) → IsRunOf words asked → IsTableRun words asked
table_run words asked is =
    let start : RunAsked = bare_run asked.world asked.red asked.black in
    let given : List Given = given_of start is.options asked is.said in
    let front : List (List (List ℕ)) = front_of asked in
    let fit : FitAll (places_of Run) front = (is.names.0, (is.names.1.0, (is.names.1.1.0, tt))) in
    let options : AllByRecursion (IsOptionOf Run) given = given_options start is.options asked is.said in
    let whole : words ≡ words_of Run front given =
    is.whole ∙ ap (λ (behind : List (List ℕ)). codes "run" ∷ asked.world ∷ asked.red ∷ asked.black ∷ behind) (given_whole start is.options asked is.said) in
    let form : IsCommandOf Run front given words = record {
      known = (0, lit< tt, refl);
      whole = whole;
      places = fit;
      options = options;
      once = given_once start is.options asked is.said is.once;
      needed = λ of known need. needs_two given (given_named start is.options asked is.said choice.Seed is.seeded) (given_named start is.options asked is.said choice.Rounds is.limited) of known need;
    } in
    let asks : asked_in Run words ≡ asked_of Run (answers_of Run front given) = ap (asked_in Run) whole ∙ ap (asked_of Run) (answers_in-of Run front given fit options) in
    record {
      is = record { kind = Run; front = front; given = given; form = form; says = refl };
      uncounted = ap (λ (plain : PlainAsked). plain.has choice.Stats) asks ∙ given_uncounted start is.options asked is.said;
      said = ap run_said asks ∙ given_heard asked.world asked.red asked.black is.options asked is.said;
    }

-- From the table to the words of a run.

-- a number that is at an option's place
record HasNumber (kind : NumberKind) (values : List (List (List ℕ))) : Type 0 where
  word : List ℕ
  number : ℕ
  one : values ≡ (word ∷ []) ∷ []
  is : IsNumber (least_of kind) (most_of kind) number word

number_there : (kind : NumberKind) (values : List (List (List ℕ))) → FitAll (Word (Number kind) ∷ []) values → HasNumber kind values
number_there kind [] fit = absurd fit
number_there kind ([] ∷ values) fit = absurd fit.0
number_there kind ((word ∷ other ∷ more) ∷ values) fit = absurd fit.0
number_there kind ((word ∷ []) ∷ part ∷ values) fit = absurd fit.1
number_there kind ((word ∷ []) ∷ []) fit = go (number_in kind word) refl fit.0 where
  go : (o : Option ℕ) → number_in kind word ≡ o → is_some o ≡ true → HasNumber kind ((word ∷ []) ∷ [])
  go None e some = absurd (false≢true some)
  go (Some number) e some = record { word = word; number = number; one = refl; is = number_read (least_of kind) (most_of kind) number word e }

-- a choice of rounds that is there
record HasDumps (values : List (List (List ℕ))) : Type 0 where
  word : List ℕ
  dumps : ℕ → Bool
  one : values ≡ (word ∷ []) ∷ []
  is : IsDumps dumps word

dumps_there : (values : List (List (List ℕ))) → FitAll (Word Dumps ∷ []) values → HasDumps values
unfolding is_dumps
dumps_there [] fit = absurd fit
dumps_there ([] ∷ values) fit = absurd fit.0
dumps_there ((word ∷ other ∷ more) ∷ values) fit = absurd fit.0
dumps_there ((word ∷ []) ∷ part ∷ values) fit = absurd fit.1
dumps_there ((word ∷ []) ∷ []) fit = go (dumps_of word) refl fit.0 where
  go : (o : Option DumpChoice) → dumps_of word ≡ o → is_some o ≡ true → HasDumps ((word ∷ []) ∷ [])
  go None e some = absurd (false≢true some)
  go (Some dumps) e some = record { word = word; dumps = chosen_rounds dumps; one = refl; is = dumps_read word dumps e }

nothing_there : (values : List (List (List ℕ))) → FitAll [] values → values ≡ []
nothing_there [] fit = refl
nothing_there (part ∷ values) fit = absurd fit

-- An option of the table is an option of a run: it turns what the given options request into what they request together
-- with it.
abbrev IsOfRun : RunAsked → Choice → List (List (List ℕ)) → List Given → Type 0
IsOfRun asked of values given = IsOption (heard asked given) (option_of of) (joined values) (heard asked (given_as of values ∷ given))

moved : (asked : RunAsked) (of : Choice) (values : List (List (List ℕ))) (given : List Given) (words : List (List ℕ)) (new : RunAsked) → joined values ≡ words → heard asked (given_as of values ∷ given) ≡ new
    → IsOption (heard asked given) (option_of of) words new → IsOfRun asked of values given
moved asked of values given words new spelled heard_is is =
    subst (λ (ws : List (List ℕ)). IsOption (heard asked given) (option_of of) ws (heard asked (given_as of values ∷ given))) (sym spelled)
    (subst (λ (a : RunAsked). IsOption (heard asked given) (option_of of) words a) (sym heard_is) is)

-- one whose value is a number
number_of_run : (asked : RunAsked) (kind : NumberKind) (default : ℕ) (of : Choice) (values : List (List (List ℕ))) (given : List Given) (new : ℕ → RunAsked)
    → ((n : ℕ) (word : List ℕ) → IsNumber (least_of kind) (most_of kind) n word → IsOption (heard asked given) (option_of of) (word ∷ []) (new n))
    → heard asked (given_as of values ∷ given) ≡ new (said kind default (first_word (joined values))) → FitAll (Word (Number kind) ∷ []) values → IsOfRun asked of values given
number_of_run asked kind default of values given new row heard_is fit =
    let there = number_there kind values fit in
    let spelled : joined values ≡ there.word ∷ [] = ap joined there.one in
    moved asked of values given (there.word ∷ []) (new there.number) spelled
    (heard_is ∙ ap new (said_by kind default there.number there.word values spelled (number_said (least_of kind) (most_of kind) there.number there.word there.is)))
    (row there.number there.word there.is)

dumps_of_run : (asked : RunAsked) (values : List (List (List ℕ))) (given : List Given) → FitAll (Word Dumps ∷ []) values → IsOfRun asked choice.Dump values given
dumps_of_run asked values given fit =
    let there = dumps_there values fit in
    let spelled : joined values ≡ there.word ∷ [] = ap joined there.one in
    moved asked choice.Dump values given (there.word ∷ []) (record (heard asked given) { dumps = there.dumps }) spelled
    (ap (λ d. record (heard asked given) { dumps = d }) (chosen_by values spelled there.is))
    (Dump there.dumps there.word there.is)

far_of_run : (asked : RunAsked) (values : List (List (List ℕ))) (given : List Given) → FitAll [] values → IsOfRun asked choice.Far values given
far_of_run asked values given fit = moved asked choice.Far values given [] (heard asked given) (ap joined (nothing_there values fit)) refl Far

of_run : (asked : RunAsked) (of : Choice) (values : List (List (List ℕ))) (given : List Given) → Contains (choices_of Run) of → FitAll (values_of of) values → of ≢ choice.Stats → IsOfRun asked of values given
of_run asked of values given known =
    AllByRecursion-at (λ of. FitAll (values_of of) values → of ≢ choice.Stats → IsOfRun asked of values given) (choices_of Run) of (
      λ fit other. number_of_run asked SeedNumber 0 choice.Seed values given (λ n. record (heard asked given) { seed = n }) Seed refl fit,
      (
        λ fit other. number_of_run asked RoundCount 0 choice.Rounds values given (λ n. record (heard asked given) { rounds = n }) Rounds refl fit,
        (
          λ fit other. dumps_of_run asked values given fit,
          (
            λ fit other. number_of_run asked WorkerCount 0 choice.Workers values given (λ n. heard asked given) Workers refl fit,
            (
              λ fit other. number_of_run asked WindowSize 0 choice.Window values given (λ n. heard asked given) Window refl fit,
              (
                λ fit other. number_of_run asked FoeCount 5 choice.Surround values given (λ n. record (heard asked given) { sheet = record (heard asked given).sheet { surround = n } }) Surround refl fit,
                (
                  λ fit other. number_of_run asked CorpseFood 3 choice.Corpse values given (λ n. record (heard asked given) { sheet = record (heard asked given).sheet { corpse = n } }) Corpse refl fit,
                  (
                    λ fit other. number_of_run asked RestRounds 14 choice.Rest values given (λ n. record (heard asked given) { sheet = record (heard asked given).sheet { rest = n } }) Rest refl fit,
                    (λ fit other. absurd (other refl), (λ fit other. far_of_run asked values given fit, tt)),
                  ),
                ),
              ),
            ),
          ),
        ),
      ),
    ) known

-- options that are given, as those of a run
abbrev named_in : List Given → List Named
named_in given = map (λ (g : Given). (option_of g.choice, joined g.values)) given

are_of_run : (asked : RunAsked) (given : List Given) → AllByRecursion (IsOptionOf Run) given → AllByRecursion (λ g. g.choice ≢ choice.Stats) given → AreOptions (bare_run asked.world asked.red asked.black) (named_in given) (heard asked given)
are_of_run asked [] are no_counts = refl
are_of_run asked (g ∷ given) are no_counts = (heard asked given, of_run asked g.choice g.values given are.0.known are.0.fit no_counts.0, are_of_run asked given are.1 no_counts.1)

spelled_in : (given : List Given) → flat_map given_words given ≡ spelled_by (named_in given)
spelled_in [] = refl
spelled_in (g ∷ given) = ap (λ (more : List (List ℕ)). option_of g.choice ∷ (joined g.values ++ more)) (spelled_in given)

others_in : (given : List Given) (of : Choice) → AllByRecursion (λ other. other.choice ≢ of) given → AllByRecursion (λ name. name ≢ option_of of) (names_of (named_in given))
others_in [] of differ = tt
others_in (g ∷ given) of differ = (λ same. differ.0 (one_of_name g.choice of same), others_in given of differ.1)

once_in : (given : List Given) → NoneTwice given → AllDiffer (names_of (named_in given))
once_in [] once = tt
once_in (g ∷ given) once = (others_in given g.choice once.0, once_in given once.1)

has_in : (given : List Given) (of : Choice) → IsGiven of given → Contains (names_of (named_in given)) (option_of of)
has_in [] of has = absurd (Contains-none of has)
has_in (g ∷ given) of has = elim (Contains-cases g.choice of (map (λ h. h.choice) given) has) [
  | inl here ↦ subst (λ (name : List ℕ). Contains (option_of g.choice ∷ names_of (named_in given)) name) (ap option_of here) (Contains-first (option_of g.choice) (names_of (named_in given)))
  | inr later ↦ Contains-later (option_of g.choice) (option_of of) (names_of (named_in given)) (has_in given of later)
]

-- the three names of a run, with nothing said yet
record HasNames (front : List (List (List ℕ))) : Type 0 where
  named : RunAsked
  are : front ≡ front_of named
  names : AllByRecursion (λ name. is_file_name name ≡ true) (named.world ∷ named.red ∷ named.black ∷ [])

names_there : (front : List (List (List ℕ))) → FitAll (places_of Run) front → HasNames front
names_there [] fit = absurd fit
names_there ([] ∷ front) fit = absurd fit.0
names_there ((w ∷ x ∷ ws) ∷ front) fit = absurd fit.0
names_there ((w ∷ []) ∷ []) fit = absurd fit.1
names_there ((w ∷ []) ∷ [] ∷ front) fit = absurd fit.1.0
names_there ((w ∷ []) ∷ (r ∷ x ∷ rs) ∷ front) fit = absurd fit.1.0
names_there ((w ∷ []) ∷ (r ∷ []) ∷ []) fit = absurd fit.1.1
names_there ((w ∷ []) ∷ (r ∷ []) ∷ [] ∷ front) fit = absurd fit.1.1.0
names_there ((w ∷ []) ∷ (r ∷ []) ∷ (b ∷ x ∷ bs) ∷ front) fit = absurd fit.1.1.0
names_there ((w ∷ []) ∷ (r ∷ []) ∷ (b ∷ []) ∷ part ∷ front) fit = absurd fit.1.1.1
names_there ((w ∷ []) ∷ (r ∷ []) ∷ (b ∷ []) ∷ []) fit = record {
  named = bare_run w r b;
  are = refl;
  names = (fit.0, (fit.1.0, (fit.1.1.0, tt)));
}

-- a command of the table that is a run, without its counts
pub run_of_form : (front : List (List (List ℕ))) (given : List Given) (words : List (List ℕ)) → IsCommandOf Run front given words → ¬ IsGiven choice.Stats given
    → (asked : RunAsked) × IsRunOf words asked
run_of_form front given words form none =
    let names : HasNames front = names_there front form.places in
    let asked : RunAsked = heard names.named given in
    let is : IsRunOf words asked = record {
      options = named_in given;
      whole = form.whole ∙ ap (λ (f : List (List (List ℕ))). word_of Run ∷ (joined f ++ flat_map given_words given)) names.are
          ∙ ap (λ (behind : List (List ℕ)). word_of Run ∷ (joined (front_of names.named) ++ behind)) (spelled_in given);
      names = names.names;
      said = are_of_run names.named given form.options (none_is given none);
      once = once_in given form.once;
      seeded = has_in given choice.Seed (form.needed choice.Seed (0, lit< tt, refl) refl);
      limited = has_in given choice.Rounds (form.needed choice.Rounds (1, lit< tt, refl) refl);
    } in
    (asked, is)
  where
    none_is : (given : List Given) → ¬ IsGiven choice.Stats given → AllByRecursion (λ g. g.choice ≢ choice.Stats) given
    none_is [] none = tt
    none_is (g ∷ given) none = (
      λ same. none (subst (λ (of : Choice). Contains (of ∷ map (λ h. h.choice) given) choice.Stats) (sym same) (Contains-first choice.Stats (map (λ h. h.choice) given))),
      none_is given (λ has. none (Contains-later g.choice choice.Stats (map (λ h. h.choice) given) has)),
    )

-- the name of an option that is given is among the words
pub among_words : (front : List (List ℕ)) (given : List Given) (of : Choice) → IsGiven of given → Contains (front ++ flat_map given_words given) (option_of of)
among_words front given of has = Contains-append_right front (flat_map given_words given) (option_of of) (behind given has) where
  behind : (given : List Given) → IsGiven of given → Contains (flat_map given_words given) (option_of of)
  behind [] has = absurd (Contains-none of has)
  behind (g ∷ given) has = elim (Contains-cases g.choice of (map (λ h. h.choice) given) has) [
    | inl here ↦ subst (λ (o : Choice). Contains (option_of g.choice ∷ (joined g.values ++ flat_map given_words given)) (option_of o)) here
        (Contains-first (option_of g.choice) (joined g.values ++ flat_map given_words given))
    | inr later ↦ Contains-append_right (given_words g) (flat_map given_words given) (option_of of) (behind given later)
  ]
