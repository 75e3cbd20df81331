-- What a command's words answer: the words at its places, and what its options say, in whatever order they stand.
use Rattle.std.proofs.Common.{◌≡◌, ◌≢◌, ℕ, zero, suc, ◌<◌, ◌≤◌, Bool, true, false, not, ◌||◌, cond, nat_le, List, [], ◌∷◌, ◌++◌, length, map, Option, Some, None, bytes_eq, slice_get, refl, sym, ap, ◌∙◌, subst, ◌⊎◌, inl, inr, arith}
use Rattle.std.specs.List.{Contains, flat_map, AllByRecursion}
use Rattle.std.proofs.lemmas.Bool.{false≢true, false_from_ne_true, le-leb, leb-true, not-true, or_from}
use Rattle.std.proofs.lemmas.List.{length-append}
use Rattle.std.proofs.lemmas.Slice.Eq.{bytes_eq-Decides}
use Rattle.command_words.specs.declared.table.NameList.{NameList}
use Rattle.command_words.specs.declared.table.NameList.TheVariants.{Worlds, Brains}
use Rattle.command_words.specs.declared.slot.Slot.{Slot}
use Rattle.command_words.specs.declared.slot.Place.{Place}
use Rattle.command_words.specs.declared.slot.Place.TheVariants.{Word, Names}
use Rattle.command_words.specs.declared.table.CommandKind.{CommandKind}
use Rattle.command_words.specs.declared.table.Choice.{Choice}
use Rattle.command_words.specs.Slots.{FitsPlace, fits, is_file_name}
use Rattle.command_words.specs.Table.{word_of, places_of, choices_of, fewest_names, option_of, values_of, is_needed, keyword_of}
use Rattle.command_words.specs.Command.{Answers, Given, given_words, joined, FitAll, IsOptionOf, IsGiven, IsCommandOf, NoneTwice, answers_in, first_word, is_among, names_front, rest_after, value_of}
use Rattle.command_words.specs.Inner.Walk.{has_needed, names_of, word_after}
use Rattle.list_lemmas.proofs.Elements.{Contains-none, Contains-first, Contains-later, Contains-cases}
use Rattle.command_words.proofs.ListLemmas.{list_all-at, list_all-each}
use Rattle.command_words.proofs.TableLemmas.{bytes_eq-same, is_keyword, is_short, keyword-not_option, keyword-unfit, option-not_first, same_option, same_option-differs, values-short}
use Rattle.command_words.proofs.WalkSearch.{NoName, Unlike, is_among-append, is_among-none, is_among-one, is_among-cons, names_front-none, rest_after-none, rest_after-cons, rest_after-next, rest_after-unlike}
use Rattle.command_words.proofs.WalkAmong.{is_among-neither, is_among-fit, is_among-given, given-among, parts-unlike}
use Rattle.command_words.proofs.WalkNames.{given-no_name}
use Rattle.list_lemmas.proofs.AllElements.{AllByRecursion-append}

-- a command's words
abbrev pub words_of : CommandKind → List (List (List ℕ)) → List Given → List (List ℕ)
words_of kind front given = word_of kind ∷ (joined front ++ flat_map given_words given)

-- the word after an option's own, if the option is given
abbrev pub value_given : Choice → List Given → Option (List ℕ)
value_given choice [] = None
value_given choice (given ∷ more) = cond (bytes_eq (option_of given.choice) (option_of choice)) (first_word (joined given.values)) (value_given choice more)

-- whether an option is given
abbrev pub has_given : Choice → List Given → Bool
has_given choice [] = false
has_given choice (given ∷ more) = cond (bytes_eq (option_of given.choice) (option_of choice)) true (has_given choice more)

-- the word after an option's is the first of its values
first-value : (slot : Slot) (values : List (List (List ℕ))) (more : List (List ℕ)) → FitAll (Word slot ∷ []) values
    → first_word (joined values ++ more) ≡ first_word (joined values)
first-value slot [] more fit = elim fit [ ]
first-value slot ([] ∷ values) more fit = elim fit.0 [ ]
first-value slot ((word ∷ []) ∷ values) more fit = refl
first-value slot ((word ∷ other ∷ others) ∷ values) more fit = elim fit.0 [ ]

-- an option's places are those of any option with its word
places-same : (g : Given) (choice : Choice) (places : List Place) → values_of choice ≡ places → bytes_eq (option_of g.choice) (option_of choice) ≡ true
    → FitAll (values_of g.choice) g.values → FitAll places g.values
places-same g choice places has same fit = subst (λ places. FitAll places g.values) (ap values_of (same_option g.choice choice same) ∙ has) fit

-- among the options the word after an option's is its value
after-given : (kind : CommandKind) (given : List Given) (choice : Choice) (slot : Slot) → values_of choice ≡ Word slot ∷ [] → AllByRecursion (IsOptionOf kind) given
    → word_after choice (flat_map given_words given) ≡ value_given choice given
after-given kind [] choice slot has options = ap first_word (rest_after-none (option_of choice))
after-given kind (g ∷ given) choice slot has options =
    ap first_word (rest_after-cons (option_of choice) (option_of g.choice) (joined g.values ++ flat_map given_words given))
    ∙ go (bytes_eq (option_of g.choice) (option_of choice)) refl
    (ap first_word (rest_after-unlike (option_of choice) (joined g.values) (flat_map given_words given)
    (parts-unlike (values_of g.choice) g.values choice options.0.fit))
    ∙ after-given kind given choice slot has options.1)
  where
    go : (b : Bool) → bytes_eq (option_of g.choice) (option_of choice) ≡ b
        → word_after choice (joined g.values ++ flat_map given_words given) ≡ value_given choice given
        → first_word (cond b (joined g.values ++ flat_map given_words given) (rest_after (option_of choice) (joined g.values ++ flat_map given_words given)))
        ≡ cond b (first_word (joined g.values)) (value_given choice given)
    go true e rest = first-value slot g.values (flat_map given_words given) (places-same g choice (Word slot ∷ []) has e options.0.fit)
    go false e rest = rest

-- a flag has no value
flag-given : (kind : CommandKind) (given : List Given) (choice : Choice) → values_of choice ≡ [] → AllByRecursion (IsOptionOf kind) given → value_given choice given ≡ None
flag-given kind [] choice has options = refl
flag-given kind (g ∷ given) choice has options = go (bytes_eq (option_of g.choice) (option_of choice)) refl (flag-given kind given choice has options.1) where
  empty : (values : List (List (List ℕ))) → FitAll [] values → first_word (joined values) ≡ None
  empty [] fit = refl
  empty (part ∷ values) fit = elim fit [ ]

  go : (b : Bool) → bytes_eq (option_of g.choice) (option_of choice) ≡ b → value_given choice given ≡ None
      → cond b (first_word (joined g.values)) (value_given choice given) ≡ None
  go true e rest = empty g.values (places-same g choice [] has e options.0.fit)
  go false e rest = rest

-- in a command's words the word after an option's is its value
word_after-given : (kind : CommandKind) (front : List (List (List ℕ))) (given : List Given) (choice : Choice) (slot : Slot) → values_of choice ≡ Word slot ∷ []
    → FitAll (places_of kind) front → AllByRecursion (IsOptionOf kind) given
    → word_after choice (words_of kind front given) ≡ value_given choice given
word_after-given kind front given choice slot has fit options =
    ap first_word
    (rest_after-next (option_of choice) (word_of kind) (joined front ++ flat_map given_words given) (option-not_first kind choice)
    ∙ rest_after-unlike (option_of choice) (joined front) (flat_map given_words given) (parts-unlike (places_of kind) front choice fit))
    ∙ after-given kind given choice slot has options

value-given : (kind : CommandKind) (front : List (List (List ℕ))) (given : List Given) (choice : Choice) → FitAll (places_of kind) front
    → AllByRecursion (IsOptionOf kind) given → value_of (values_of choice) (rest_after (option_of choice) (words_of kind front given)) ≡ value_given choice given
value-given kind front given choice fit options = go (values_of choice) refl (values-short choice) where
  go : (places : List Place) → values_of choice ≡ places → is_short places ≡ true
      → value_of places (rest_after (option_of choice) (words_of kind front given)) ≡ value_given choice given
  go [] has short = sym (flag-given kind given choice has options)
  go (Word slot ∷ []) has short = word_after-given kind front given choice slot has fit options
  go (Word slot ∷ place ∷ places) has short = absurd (false≢true short)
  go (Names list ∷ places) has short = absurd (false≢true short)

-- before the options no option's word stands
front-free : (kind : CommandKind) (front : List (List (List ℕ))) (choice : Choice) → FitAll (places_of kind) front
    → is_among (option_of choice) (word_of kind ∷ joined front) ≡ false
front-free kind front choice fit =
    is_among-neither (option_of choice) (word_of kind ∷ []) (joined front)
    (is_among-one (option_of choice) (word_of kind) ∙ or_from (bytes_eq (word_of kind) (option_of choice)) false (option-not_first kind choice) refl)
    (is_among-fit (places_of kind) front choice fit)

-- an option's word is among a command's words where it is among its options
among-options : (kind : CommandKind) (front : List (List (List ℕ))) (given : List Given) (choice : Choice) → FitAll (places_of kind) front
    → is_among (option_of choice) (words_of kind front given) ≡ is_among (option_of choice) (flat_map given_words given)
among-options kind front given choice fit =
    is_among-append (option_of choice) (word_of kind ∷ joined front) (flat_map given_words given)
    ∙ ap (λ b. b || is_among (option_of choice) (flat_map given_words given)) (front-free kind front choice fit)

-- an option's word is among the options where the option is given
among-given : (kind : CommandKind) (given : List Given) (choice : Choice) → AllByRecursion (IsOptionOf kind) given
    → is_among (option_of choice) (flat_map given_words given) ≡ has_given choice given
among-given kind [] choice options = is_among-none (option_of choice)
among-given kind (g ∷ given) choice options =
    is_among-cons (option_of choice) (option_of g.choice) (joined g.values ++ flat_map given_words given)
    ∙ go (bytes_eq (option_of g.choice) (option_of choice))
    (is_among-append (option_of choice) (joined g.values) (flat_map given_words given)
    ∙ ap (λ b. b || is_among (option_of choice) (flat_map given_words given)) (is_among-fit (values_of g.choice) g.values choice options.0.fit)
    ∙ among-given kind given choice options.1)
  where
    go : (b : Bool) → is_among (option_of choice) (joined g.values ++ flat_map given_words given) ≡ has_given choice given
        → (b || is_among (option_of choice) (joined g.values ++ flat_map given_words given)) ≡ cond b true (has_given choice given)
    go true rest = refl
    go false rest = rest

-- what is at a place depends on the words before the options alone
slice_get-front : (front back : List (List ℕ)) (number : ℕ) → number < length front → slice_get (front ++ back) number ≡ slice_get front number
slice_get-front [] back number less = absurd (omega arith)
slice_get-front (word ∷ front) back zero less = refl
slice_get-front (word ∷ front) back (suc number) less = slice_get-front front back number (omega arith)

-- each place has a word
joined-long : (places : List Place) (front : List (List (List ℕ))) → FitAll places front → length places ≤ length (joined front)
joined-long [] front fit = omega arith
joined-long (place ∷ places) [] fit = elim fit [ ]
joined-long (place ∷ places) (part ∷ front) fit =
    let some : 1 ≤ length part = part-some place part fit.0 in
    let rest = joined-long places front fit.1 in
    let all = length-append part (joined front) in
    omega arith
  where
    fewest-some : (list : NameList) → 1 ≤ fewest_names list
    fewest-some Worlds = omega arith
    fewest-some Brains = omega arith

    part-some : (place : Place) (part : List (List ℕ)) → FitsPlace place part → 1 ≤ length part
    part-some (Word slot) [] fit = elim fit [ ]
    part-some (Word slot) (word ∷ part) fit = omega arith
    part-some (Names list) part fit = (let enough = fit.enough in let some = fewest-some list in omega arith)

place-front : (kind : CommandKind) (front : List (List (List ℕ))) (given : List Given) (number : ℕ) → FitAll (places_of kind) front
    → (answers_in kind (words_of kind front given)).place number ≡ cond (nat_le number (length (places_of kind))) (slice_get (word_of kind ∷ joined front) number) None
place-front kind front given number fit = go (nat_le number (length (places_of kind))) refl where
  go : (b : Bool) → nat_le number (length (places_of kind)) ≡ b
      → cond b (slice_get (words_of kind front given) number) None ≡ cond b (slice_get (word_of kind ∷ joined front) number) None
  go true within =
      slice_get-front (word_of kind ∷ joined front) (flat_map given_words given) number
      (let low = leb-true number (length (places_of kind)) within in let long = joined-long (places_of kind) front fit in omega arith)
  go false past = refl

-- so do the names of a list
names_front-append : (names words : List (List ℕ)) → NoName words → names_front (names ++ words) ≡ names_front names
names_front-append [] words no_name = names_front-none words no_name
names_front-append (name ∷ names) words no_name = go (is_file_name name) (names_front-append names words no_name) where
  go : (b : Bool) → names_front (names ++ words) ≡ names_front names → cond b (name ∷ names_front (names ++ words)) [] ≡ cond b (name ∷ names_front names) []
  go true rest = ap (λ ns. name ∷ ns) rest
  go false rest = refl

names-front : (text : List ℕ) (front back : List (List ℕ)) → Unlike text back → NoName back → names_front (rest_after text (front ++ back)) ≡ names_front (rest_after text front)
names-front text [] back unlike no_name = ap names_front (none back unlike ∙ sym (rest_after-none text)) where
  none : (words : List (List ℕ)) → Unlike text words → rest_after text words ≡ []
  none [] unlike = rest_after-none text
  none (word ∷ words) unlike = rest_after-next text word words unlike.0 ∙ none words unlike.1
names-front text (word ∷ front) back unlike no_name =
    ap names_front (rest_after-cons text word (front ++ back))
    ∙ go (bytes_eq word text) (names-front text front back unlike no_name)
    ∙ ap names_front (sym (rest_after-cons text word front))
  where
    go : (b : Bool) → names_front (rest_after text (front ++ back)) ≡ names_front (rest_after text front)
        → names_front (cond b (front ++ back) (rest_after text (front ++ back))) ≡ names_front (cond b front (rest_after text front))
    go true rest = names_front-append front back no_name
    go false rest = rest

-- a list's word is none of an option's
values-unlike : (list : NameList) (places : List Place) (values : List (List (List ℕ))) → is_short places ≡ true → FitAll places values → Unlike (keyword_of list) (joined values)
values-unlike list [] [] short fit = tt
values-unlike list [] (part ∷ values) short fit = elim fit [ ]
values-unlike list (place ∷ places) [] short fit = elim fit [ ]
values-unlike list (Word slot ∷ []) ([] ∷ values) short fit = elim fit.0 [ ]
values-unlike list (Word slot ∷ []) ((word ∷ []) ∷ []) short fit = (
  false_from_ne_true (bytes_eq word (keyword_of list))
      (λ e. false≢true (sym (keyword-unfit list slot (not-true (is_keyword slot) short)) ∙ ap (fits slot) (sym ((bytes_eq-Decides word (keyword_of list)).0 e)) ∙ fit.0)),
  tt,
)
values-unlike list (Word slot ∷ []) ((word ∷ []) ∷ part ∷ values) short fit = elim fit.1 [ ]
values-unlike list (Word slot ∷ []) ((word ∷ other ∷ more) ∷ values) short fit = elim fit.0 [ ]
values-unlike list (Word slot ∷ place ∷ places) (part ∷ values) short fit = absurd (false≢true short)
values-unlike list (Names other ∷ places) (part ∷ values) short fit = absurd (false≢true short)

given-unlike : (kind : CommandKind) (list : NameList) (given : List Given) → AllByRecursion (IsOptionOf kind) given → Unlike (keyword_of list) (flat_map given_words given)
given-unlike kind list [] options = tt
given-unlike kind list (g ∷ given) options =
    AllByRecursion-append (λ word. bytes_eq word (keyword_of list) ≡ false) (given_words g) (flat_map given_words given)
    (keyword-not_option list g.choice, values-unlike list (values_of g.choice) g.values (values-short g.choice) options.0.fit)
    (given-unlike kind list given options.1)

pub names-same : (kind : CommandKind) (front : List (List (List ℕ))) (given : List Given) (list : NameList) → AllByRecursion (IsOptionOf kind) given
    → names_of list (words_of kind front given) ≡ names_of list (word_of kind ∷ joined front)
names-same kind front given list options =
    names-front (keyword_of list) (word_of kind ∷ joined front) (flat_map given_words given) (given-unlike kind list given options) (given-no_name given)

-- what a command's words answer, by the words at its places and the options that are given
abbrev pub answers_of : CommandKind → List (List (List ℕ)) → List Given → Answers
answers_of kind front given = record {
  place = λ number. cond (nat_le number (length (places_of kind))) (slice_get (word_of kind ∷ joined front) number) None;
  names = λ list. names_of list (word_of kind ∷ joined front);
  value = λ choice. value_given choice given;
  has = λ choice. has_given choice given;
}

pub answers_in-of : (kind : CommandKind) (front : List (List (List ℕ))) (given : List Given) → FitAll (places_of kind) front → AllByRecursion (IsOptionOf kind) given
    → answers_in kind (words_of kind front given) ≡ answers_of kind front given
answers_in-of kind front given fit options = λ i. record {
  place = λ number. place-front kind front given number fit i;
  names = λ list. names-same kind front given list options i;
  value = λ choice. value-given kind front given choice fit options i;
  has = λ choice. (among-options kind front given choice fit ∙ among-given kind given choice options) i;
}

-- another option than each of some isn't among them
another : (given : List Given) (g : Given) → Contains given g → (choice : Choice) → AllByRecursion (λ other. other.choice ≢ choice) given → g.choice ≢ choice
another [] g has choice differ = absurd (Contains-none g has)
another (next ∷ given) g has choice differ = elim (Contains-cases next g given has) [
  | inl here ↦ (λ same. differ.0 (ap (λ other. other.choice) here ∙ same))
  | inr later ↦ another given g later choice differ.1
]

-- an option among some, none of which is given twice, says its first word
pub value_given-here : (given : List Given) (g : Given) → NoneTwice given → Contains given g → value_given g.choice given ≡ first_word (joined g.values)
value_given-here [] g once has = absurd (Contains-none g has)
value_given-here (first ∷ given) g once has = elim (Contains-cases first g given has) [
  | inl here ↦
      ap (λ b. cond b (first_word (joined first.values)) (value_given g.choice given))
      (ap (λ other. bytes_eq (option_of other.choice) (option_of g.choice)) here ∙ bytes_eq-same (option_of g.choice))
      ∙ ap (λ other. first_word (joined other.values)) here
  | inr later ↦
      ap (λ b. cond b (first_word (joined first.values)) (value_given g.choice given))
      (same_option-differs first.choice g.choice (λ same. another given g later first.choice once.0 (sym same)))
      ∙ value_given-here given g once.1 later
]

-- an option among some is given
has_given-here : (given : List Given) (g : Given) → Contains given g → has_given g.choice given ≡ true
has_given-here [] g has = absurd (Contains-none g has)
has_given-here (first ∷ given) g has = elim (Contains-cases first g given has) [
  | inl here ↦ ap (λ b. cond b true (has_given g.choice given))
      (ap (λ other. bytes_eq (option_of other.choice) (option_of g.choice)) here ∙ bytes_eq-same (option_of g.choice))
  | inr later ↦ whichever (bytes_eq (option_of first.choice) (option_of g.choice)) (has_given-here given g later)
]
  where
    whichever : (b : Bool) → has_given g.choice given ≡ true → cond b true (has_given g.choice given) ≡ true
    whichever true rest = refl
    whichever false rest = rest

-- an option that isn't given says nothing
record IsAbsent (choice : Choice) (given : List Given) : Type 0 where
  none : (g : Given) → Contains given g → g.choice ≢ choice
  value : value_given choice given ≡ None
  has : has_given choice given ≡ false

-- an option is given somewhere, or isn't given
given_or_not : (given : List Given) (choice : Choice) → ((g : Given) × Contains given g × (g.choice ≡ choice)) ⊎ IsAbsent choice given
given_or_not [] choice = inr (record { none = λ g has. absurd (Contains-none g has); value = refl; has = refl })
given_or_not (first ∷ given) choice = go (bytes_eq (option_of first.choice) (option_of choice)) refl (given_or_not given choice) where
  later_absent : bytes_eq (option_of first.choice) (option_of choice) ≡ false → IsAbsent choice given → IsAbsent choice (first ∷ given)
  later_absent differs absent = record {
    none = λ g has. elim (Contains-cases first g given has) [
      | inl here ↦
          (λ same. false≢true (sym differs ∙ ap (λ c. bytes_eq (option_of c) (option_of choice)) (ap (λ other. other.choice) here ∙ same)
          ∙ bytes_eq-same (option_of choice)))
      | inr later ↦ absent.none g later
    ];
    value = ap (λ b. cond b (first_word (joined first.values)) (value_given choice given)) differs ∙ absent.value;
    has = ap (λ b. cond b true (has_given choice given)) differs ∙ absent.has;
  }

  go : (b : Bool) → bytes_eq (option_of first.choice) (option_of choice) ≡ b → ((g : Given) × Contains given g × (g.choice ≡ choice)) ⊎ IsAbsent choice given
      → ((g : Given) × Contains (first ∷ given) g × (g.choice ≡ choice)) ⊎ IsAbsent choice (first ∷ given)
  go true same rest = inl (first, Contains-first first given, same_option first.choice choice same)
  go false differs (inl later) = inl (later.0, Contains-later first later.0 given later.1, later.2)
  go false differs (inr absent) = inr (later_absent differs absent)

-- an option that is said to be given is
pub given_has : (given : List Given) (choice : Choice) → has_given choice given ≡ true → IsGiven choice given
given_has given choice e = elim (given_or_not given choice) [
  | inl there ↦ subst (λ c. IsGiven c given) there.2 (mapped given there.0 there.1)
  | inr absent ↦ absurd (false≢true (sym absent.has ∙ e))
]
  where
    mapped : (given : List Given) (g : Given) → Contains given g → IsGiven g.choice given
    mapped [] g has = absurd (Contains-none g has)
    mapped (first ∷ given) g has = elim (Contains-cases first g given has) [
      | inl here ↦ subst (λ other. IsGiven other.choice (first ∷ given)) here (Contains-first first.choice (map (λ g. g.choice) given))
      | inr later ↦ Contains-later first.choice g.choice (map (λ g. g.choice) given) (mapped given g later)
    ]

-- one that is given has its place among them
pub given-there : (given : List Given) (choice : Choice) → IsGiven choice given → (g : Given) × Contains given g × (g.choice ≡ choice)
given-there [] choice has = absurd (Contains-none choice has)
given-there (first ∷ given) choice has = elim (Contains-cases first.choice choice (map (λ g. g.choice) given) has) [
  | inl here ↦ (first, Contains-first first given, here)
  | inr later ↦ (let rest = given-there given choice later in (rest.0, Contains-later first rest.0 given rest.1, rest.2))
]

pub given-has : (given : List Given) (choice : Choice) → IsGiven choice given → has_given choice given ≡ true
given-has given choice has = (let there = given-there given choice has in ap (λ c. has_given c given) (sym there.2) ∙ has_given-here given there.0 there.1)

-- and one that isn't has no value
pub value-absent : (given : List Given) (choice : Choice) → ¬ IsGiven choice given → value_given choice given ≡ None
value-absent given choice none = elim (given_or_not given choice) [
  | inl there ↦ absurd (none (given_has given choice (ap (λ c. has_given c given) (sym there.2) ∙ has_given-here given there.0 there.1)))
  | inr absent ↦ absent.value
]

-- the same options say the same
module _ (given others : List Given) (once : NoneTwice given) (once_others : NoneTwice others) (to : (g : Given) → Contains given g → Contains others g)
    (from : (g : Given) → Contains others g → Contains given g) where
  pub value-same : (choice : Choice) → value_given choice others ≡ value_given choice given
  value-same choice = elim (given_or_not given choice) [
    | inl here ↦ subst (λ c. value_given c others ≡ value_given c given) here.2
        (value_given-here others here.0 once_others (to here.0 here.1) ∙ sym (value_given-here given here.0 once here.1))
    | inr absent ↦ elim (given_or_not others choice) [
      | inl there ↦ absurd (absent.none there.0 (from there.0 there.1) there.2)
      | inr absent_there ↦ absent_there.value
          ∙ sym absent.value
    ]
  ]

  pub has-same : (choice : Choice) → has_given choice others ≡ has_given choice given
  has-same choice = elim (given_or_not given choice) [
    | inl here ↦ subst (λ c. has_given c others ≡ has_given c given) here.2 (has_given-here others here.0 (to here.0 here.1) ∙ sym (has_given-here given here.0 here.1))
    | inr absent ↦ elim (given_or_not others choice) [
      | inl there ↦ absurd (absent.none there.0 (from there.0 there.1) there.2)
      | inr absent_there ↦ absent_there.has
          ∙ sym absent.has
    ]
  ]

pub answers-same : (kind : CommandKind) (front : List (List (List ℕ))) (given others : List Given) → NoneTwice given → NoneTwice others
    → ((g : Given) → Contains given g → Contains others g) → ((g : Given) → Contains others g → Contains given g)
    → answers_of kind front others ≡ answers_of kind front given
answers-same kind front given others once once_others to from = λ i. record {
  place = (answers_of kind front given).place;
  names = (answers_of kind front given).names;
  value = λ choice. value-same given others once once_others to from choice i;
  has = λ choice. has-same given others once once_others to from choice i;
}

-- a command's words have the options that it needs
pub has_needed-command : (kind : CommandKind) (front : List (List (List ℕ))) (given : List Given) (words : List (List ℕ)) → IsCommandOf kind front given words
    → has_needed kind (words_of kind front given) ≡ true
has_needed-command kind front given words form =
    list_all-each (λ choice. not (is_needed choice) || is_among (option_of choice) (words_of kind front given)) (choices_of kind)
    (λ choice has. go choice has (is_needed choice) refl)
  where
    go : (choice : Choice) → Contains (choices_of kind) choice → (b : Bool) → is_needed choice ≡ b
        → (not b || is_among (option_of choice) (words_of kind front given)) ≡ true
    go choice has false e = refl
    go choice has true e = among-options kind front given choice form.places ∙ is_among-given given choice (form.needed choice has e)

-- words that have the options that a command needs give them
pub needed-given : (kind : CommandKind) (front : List (List (List ℕ))) (given : List Given) → FitAll (places_of kind) front → AllByRecursion (IsOptionOf kind) given
    → has_needed kind (words_of kind front given) ≡ true
    → (choice : Choice) → Contains (choices_of kind) choice → is_needed choice ≡ true → IsGiven choice given
needed-given kind front given fit options all choice has need =
    given-among kind given choice options
    (sym (among-options kind front given choice fit)
    ∙ ap (λ b. not b || is_among (option_of choice) (words_of kind front given)) (sym need)
    ∙ list_all-at (λ choice. not (is_needed choice) || is_among (option_of choice) (words_of kind front given)) (choices_of kind) choice all has)

-- the slot of a place, if only places of one word are before it
abbrev pub slot_at : List Place → ℕ → Option Slot
slot_at [] number = None
slot_at (Names list ∷ places) number = None
slot_at (Word slot ∷ places) zero = Some slot
slot_at (Word slot ∷ places) (suc number) = slot_at places number

pub slot_at-within : (places : List Place) (number : ℕ) (slot : Slot) → slot_at places number ≡ Some slot → nat_le (suc number) (length places) ≡ true
slot_at-within places number slot e = le-leb (suc number) (length places) (below places number e) where
  below : (places : List Place) (number : ℕ) → slot_at places number ≡ Some slot → suc number ≤ length places
  below [] number e = (let no : ⊥ = cc in absurd no)
  below (Names list ∷ places) number e = (let no : ⊥ = cc in absurd no)
  below (Word here ∷ places) zero e = omega arith
  below (Word here ∷ places) (suc number) e = (let rest = below places number e in omega arith)

-- the word at a place fits its slot
pub word-there : (places : List Place) (front : List (List (List ℕ))) (number : ℕ) (slot : Slot) → FitAll places front → slot_at places number ≡ Some slot
    → (word : List ℕ) × (slice_get (joined front) number ≡ Some word) × (fits slot word ≡ true)
word-there [] front number slot fit e = (let no : ⊥ = cc in absurd no)
word-there (Names list ∷ places) front number slot fit e = (let no : ⊥ = cc in absurd no)
word-there (Word here ∷ places) [] number slot fit e = elim fit [ ]
word-there (Word here ∷ places) ([] ∷ front) number slot fit e = elim fit.0 [ ]
word-there (Word here ∷ places) ((word ∷ other ∷ more) ∷ front) number slot fit e = elim fit.0 [ ]
word-there (Word here ∷ places) ((word ∷ []) ∷ front) zero slot fit e =
    let same : here ≡ slot = cc in
    (word, refl, subst (λ s. fits s word ≡ true) same fit.0)
word-there (Word here ∷ places) ((word ∷ []) ∷ front) (suc number) slot fit e = word-there places front number slot fit.1 e
