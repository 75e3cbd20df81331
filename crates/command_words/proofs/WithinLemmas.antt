-- What a command line asks for is within the limits, by the table.
use Rattle.std.proofs.Common.{◌≡◌, ℕ, ◌+◌, ◌≤◌, Bool, true, false, not, ◌&&◌, ◌||◌, cond, nat_le, codes, List, [], ◌∷◌, Option, Some, None, unwrap_or, option_map, bytes_eq, refl, sym, ap, ◌∙◌, subst, inl, inr, arith}
use Rattle.std.specs.List.{AllByRecursion, Contains}
use Rattle.std.proofs.lemmas.Bool.{and_parts, cases_Bool, false≢true, leb-true}
use Rattle.std.proofs.lemmas.Slice.Eq.{bytes_eq-Decides}
use Rattle.ant_base.specs.Number.{decimal_value, within}
use Rattle.command_words.specs.declared.limits.NumberKind.{NumberKind}
use Rattle.command_words.specs.declared.limits.NumberKind.TheVariants.{RoundCount}
use Rattle.command_words.specs.declared.table.NameList.{NameList}
use Rattle.command_words.specs.declared.slot.Slot.{Slot}
use Rattle.command_words.specs.declared.slot.Slot.TheVariants.{FileName, Number, Dumps, Keyword}
use Rattle.command_words.specs.declared.slot.Place.{Place}
use Rattle.command_words.specs.declared.slot.Place.TheVariants.{Word, Names}
use Rattle.command_words.specs.declared.table.CommandKind.{CommandKind}
use Rattle.command_words.specs.declared.table.Choice.{Choice}
use Rattle.command_words.specs.declared.table.Choice.TheVariants.{Dump}
use Rattle.command_words.specs.Limits.{IsWithin, least_of, most_of, number_in}
use Rattle.command_words.specs.Slots.{AreNames, DumpChoice, dumps_of, fits, is_file_name, numbers_of, pieces_of, with_number}
use Rattle.command_words.specs.Slots.DumpChoice.{NoDump, EveryDump, ChosenDumps}
use Rattle.command_words.specs.Table.{default_of, keyword_of, places_of, values_of, word_of}
use Rattle.command_words.specs.Command.{AreWithin, AskedWithin, FitAll, Given, IsCommandOf, answers_in, asked_in, dumps_said, most_for, joined, names_front, rest_after, said, said_at, said_for}
use Rattle.command_words.specs.Inner.Walk.{names_of}
use Rattle.list_lemmas.proofs.Elements.{Contains-none, Contains-cases}
use Rattle.command_words.proofs.TableLemmas.{begins_with, default-fits, default-small, default_fits, follows, has_names, is_keyword, keyword-no_name, keyword-not_first, keyword-unfit, keywords-apart, least-most, names-follow, same_list, same_list-self, stops}
use Rattle.command_words.proofs.WalkSearch.{NoName, names_front-run, rest_after-first, rest_after-next, rest_after-unlike}
use Rattle.command_words.proofs.WalkAmong.{names-unlike}
use Rattle.command_words.proofs.AnswersLemmas.{names-same}
use Rattle.command_words.specs.contracts.table.NameList as list_of
use denote.Enum.Bare.{sameb}

-- a number within bounds is none below the least and none above the greatest
within-both : (least most n : ℕ) (o : Option ℕ) → within least most o ≡ Some n → (least ≤ n) × (n ≤ most)
within-both least most n None e = (let no : ⊥ = cc in absurd no)
within-both least most n (Some m) e = go (nat_le least m && nat_le m most) refl e where
  go : (b : Bool) → (nat_le least m && nat_le m most) ≡ b → cond b (Some m) None ≡ Some n → (least ≤ n) × (n ≤ most)
  go true is e =
      let same : m ≡ n = cc in
      let parts = and_parts (nat_le least m) (nat_le m most) is in
      let above : least ≤ m = leb-true least m parts.0 in
      let below : m ≤ most = leb-true m most parts.1 in
      (omega arith, omega arith)
  go false is e = (let no : ⊥ = cc in absurd no)

-- what a word says is within the limits
said-within : (kind : NumberKind) (word : List ℕ) (n : ℕ) → number_in kind word ≡ Some n → IsWithin kind n
said-within kind word n e = within-both (least_of kind) (most_of kind) n (decimal_value word) e

-- the rounds of a list are within the limits
numbers-within : (pieces : List (List ℕ)) (rounds : List ℕ) → numbers_of pieces ≡ Some rounds → AllByRecursion (IsWithin RoundCount) rounds
numbers-within [] rounds e = (let none : [] ≡ rounds = cc in subst (AllByRecursion (IsWithin RoundCount)) none tt)
numbers-within (piece ∷ pieces) rounds e = go (number_in RoundCount piece) refl (numbers_of pieces) (λ others. numbers-within pieces others) e where
  go : (o : Option ℕ) → number_in RoundCount piece ≡ o → (more : Option (List ℕ))
      → ((others : List ℕ) → more ≡ Some others → AllByRecursion (IsWithin RoundCount) others)
      → with_number o more ≡ Some rounds → AllByRecursion (IsWithin RoundCount) rounds
  go None is more rest e = (let no : ⊥ = cc in absurd no)
  go (Some n) is None rest e = (let no : ⊥ = cc in absurd no)
  go (Some n) is (Some others) rest e =
      let all : n ∷ others ≡ rounds = cc in
      subst (AllByRecursion (IsWithin RoundCount)) all (said-within RoundCount piece n is, rest others refl)

-- a list is said where the word is neither `none` nor `all`
list-said : (none all : Bool) (o : Option (List ℕ)) (rounds : List ℕ)
    → cond none (Some NoDump) (cond all (Some EveryDump) (option_map ChosenDumps o)) ≡ Some (ChosenDumps rounds) → o ≡ Some rounds
list-said true all o rounds e = (let no : ⊥ = cc in absurd no)
list-said false false (Some others) rounds e = cc
list-said none all o rounds e = (let no : ⊥ = cc in absurd no)

chosen-said : (word : List ℕ) (rounds : List ℕ) → dumps_of word ≡ Some (ChosenDumps rounds) → numbers_of (pieces_of word) ≡ Some rounds
unfolding dumps_of
chosen-said word rounds e = list-said (bytes_eq word (codes "none")) (bytes_eq word (codes "all")) (numbers_of (pieces_of word)) rounds e

dumps-within : (word : List ℕ) (dumps : DumpChoice) → dumps_of word ≡ Some dumps → AreWithin dumps
dumps-within word NoDump e = tt
dumps-within word EveryDump e = tt
dumps-within word (ChosenDumps rounds) e = numbers-within (pieces_of word) rounds (chosen-said word rounds e)

-- with a default within the limits, what is said is within them
said-in : (kind : NumberKind) (default : ℕ) → IsWithin kind default → (o : Option (List ℕ)) → IsWithin kind (said kind default o)
said-in kind default fine None = fine
said-in kind default fine (Some word) = go (number_in kind word) refl where
  go : (o : Option ℕ) → number_in kind word ≡ o → IsWithin kind (unwrap_or o default)
  go None is = fine
  go (Some n) is = said-within kind word n is

least-within : (kind : NumberKind) → IsWithin kind (least_of kind)
least-within kind = (omega arith, leb-true (least_of kind) (most_of kind) (least-most kind))

default-within : (choice : Choice) (kind : NumberKind) → values_of choice ≡ Word (Number kind) ∷ [] → IsWithin kind (default_of choice)
default-within choice kind has =
    let parts = and_parts (nat_le (least_of kind) (default_of choice)) (nat_le (default_of choice) (most_of kind))
    (ap (λ places. default_fits places (default_of choice)) (sym has) ∙ default-fits choice) in
    (leb-true (least_of kind) (default_of choice) parts.0, leb-true (default_of choice) (most_of kind) parts.1)

-- no option says more than it may
pub option_most : (choice : Choice) (o : Option (List ℕ)) → said_for (values_of choice) (default_of choice) o ≤ most_for (values_of choice)
option_most choice o = go (values_of choice) refl where
  small : default_of choice ≤ 4294967295
  small = leb-true (default_of choice) 4294967295 (default-small choice)

  go : (places : List Place) → values_of choice ≡ places → said_for places (default_of choice) o ≤ most_for places
  go [] has = small
  go (Word (Number kind) ∷ []) has = (said-in kind (default_of choice) (default-within choice kind has) o).1
  go places has = small

dumps-in : (o : Option (List ℕ)) → AreWithin (dumps_said o)
dumps-in None = tt
dumps-in (Some word) = go (dumps_of word) refl where
  go : (o : Option DumpChoice) → dumps_of word ≡ o → AreWithin (unwrap_or o NoDump)
  go None is = tt
  go (Some dumps) is = dumps-within word dumps is

-- names that have a place have one among the places
names-have : (list : NameList) (places : List Place) → Contains places (Names list) → has_names list places ≡ true
names-have list [] has = absurd (Contains-none (Names list) has)
names-have list (Word slot ∷ places) has = elim (Contains-cases (Word slot) (Names list) places has) [
  | inl here ↦ (let no : ⊥ = cc in absurd no)
  | inr later ↦ names-have list places later
]
names-have list (Names other ∷ places) has = elim (Contains-cases (Names other) (Names list) places has) [
  | inl here ↦
      let same : other ≡ list = cc in
      or-first (sameb list_of.the_type other list) (ap (λ l. sameb list_of.the_type l list) same ∙ same_list-self list)
  | inr later ↦ or-later (sameb list_of.the_type other list) (names-have list places later)
]
  where
    or-first : (b : Bool) → b ≡ true → (b || has_names list places) ≡ true
    or-first true e = refl
    or-first false e = absurd (false≢true e)

    or-later : (b : Bool) → has_names list places ≡ true → (b || has_names list places) ≡ true
    or-later true rest = refl
    or-later false rest = rest

-- no name is after names
after-names : (places : List Place) (front : List (List (List ℕ))) → stops places ≡ true → FitAll places front → NoName (joined front)
after-names [] [] end fit = tt
after-names [] (part ∷ front) end fit = absurd fit
after-names (place ∷ places) [] end fit = absurd fit
after-names (Word slot ∷ places) ([] ∷ front) end fit = absurd fit.0
after-names (Word slot ∷ places) ((word ∷ other ∷ more) ∷ front) end fit = absurd fit.0
after-names (Word (Keyword list) ∷ places) ((word ∷ []) ∷ front) end fit =
    ap is_file_name ((bytes_eq-Decides word (keyword_of list)).0 fit.0) ∙ keyword-no_name list
after-names (Word FileName ∷ places) ((word ∷ []) ∷ front) end fit = absurd (false≢true end)
after-names places front end fit = absurd (false≢true end)

-- the names that stand first are those of the list
first-names : (list : NameList) (places : List Place) (front : List (List (List ℕ))) → begins_with list places ≡ true → FitAll places front
    → AreNames list (names_front (joined front))
first-names list [] front e fit = absurd (false≢true e)
first-names list (Word slot ∷ places) front e fit = absurd (false≢true e)
first-names list (Names other ∷ places) [] e fit = absurd fit
first-names list (Names other ∷ places) (names ∷ front) e fit =
    let parts = and_parts (sameb list_of.the_type other list) (stops places) e in
    subst (AreNames list) (sym (names_front-run names (joined front) fit.0.each (after-names places front parts.1 fit.1)))
    (subst (λ l. AreNames l names) (same_list other list parts.0) fit.0)

-- a word that fits another slot is none of a list
past : (list : NameList) (slot : Slot) (word : List ℕ) (words : List (List ℕ)) → is_keyword slot ≡ false → fits slot word ≡ true
    → AreNames list (names_front (rest_after (keyword_of list) words)) → AreNames list (names_front (rest_after (keyword_of list) (word ∷ words)))
past list slot word words other fit are = elim (cases_Bool (bytes_eq word (keyword_of list))) [
  | inl same ↦ absurd (false≢true (sym (keyword-unfit list slot other) ∙ ap (fits slot) (sym ((bytes_eq-Decides word (keyword_of list)).0 same)) ∙ fit))
  | inr differs ↦ subst (λ ws. AreNames list (names_front ws)) (sym (rest_after-next (keyword_of list) word words differs)) are
]

-- the names after a list's word are those of the list
names-there : (list : NameList) (places : List Place) (front : List (List (List ℕ))) → follows list places ≡ true → FitAll places front
    → AreNames list (names_front (rest_after (keyword_of list) (joined front)))
names-there list [] front e fit = absurd (false≢true e)
names-there list (place ∷ places) [] e fit = absurd fit
names-there list (Names other ∷ places) (names ∷ front) e fit =
    subst (λ ws. AreNames list (names_front ws)) (sym (rest_after-unlike (keyword_of list) names (joined front) (names-unlike names (keyword_of list) (keyword-no_name list) fit.0.each)))
    (names-there list places front e fit.1)
names-there list (Word slot ∷ places) ([] ∷ front) e fit = absurd fit.0
names-there list (Word slot ∷ places) ((word ∷ other ∷ more) ∷ front) e fit = absurd fit.0
names-there list (Word FileName ∷ places) ((word ∷ []) ∷ front) e fit = past list FileName word (joined front) refl fit.0 (names-there list places front e fit.1)
names-there list (Word (Number kind) ∷ places) ((word ∷ []) ∷ front) e fit = past list (Number kind) word (joined front) refl fit.0 (names-there list places front e fit.1)
names-there list (Word Dumps ∷ places) ((word ∷ []) ∷ front) e fit = past list Dumps word (joined front) refl fit.0 (names-there list places front e fit.1)
names-there list (Word (Keyword other) ∷ places) ((word ∷ []) ∷ front) e fit =
    subst (λ w. AreNames list (names_front (rest_after (keyword_of list) (w ∷ joined front)))) (sym ((bytes_eq-Decides word (keyword_of other)).0 fit.0))
    (go (sameb list_of.the_type other list) refl e (names-there list places front))
  where
    go : (b : Bool) → sameb list_of.the_type other list ≡ b → cond b (begins_with list places) (follows list places) ≡ true
        → (follows list places ≡ true → FitAll places front → AreNames list (names_front (rest_after (keyword_of list) (joined front))))
        → AreNames list (names_front (rest_after (keyword_of list) (keyword_of other ∷ joined front)))
    go true same e rest =
        subst (λ ws. AreNames list (names_front ws))
        (sym (rest_after-first (keyword_of list) (keyword_of other) (joined front)
        (ap (λ l. bytes_eq (keyword_of l) (keyword_of list)) (same_list other list same) ∙ (bytes_eq-Decides (keyword_of list) (keyword_of list)).1 refl)))
        (first-names list places front e fit.1)
    go false differs e rest =
        subst (λ ws. AreNames list (names_front ws)) (sym (rest_after-next (keyword_of list) (keyword_of other) (joined front) (keywords-apart other list differs)))
        (rest e fit.1)

names-of : (kind : CommandKind) (front : List (List (List ℕ))) (given : List Given) (words : List (List ℕ)) → IsCommandOf kind front given words
    → (list : NameList) → Contains (places_of kind) (Names list) → AreNames list (names_of list words)
names-of kind front given words form list has =
    let there = names-have list (places_of kind) has in
    let behind : follows list (places_of kind) ≡ true = ap (λ b. not b || follows list (places_of kind)) (sym there) ∙ names-follow list kind in
    subst (AreNames list)
    (sym (ap (names_of list) form.whole ∙ names-same kind front given list form.options
    ∙ ap names_front (rest_after-next (keyword_of list) (word_of kind) (joined front) (keyword-not_first list kind))))
    (names-there list (places_of kind) front behind form.places)

pub asked-within : (kind : CommandKind) (front : List (List (List ℕ))) (given : List Given) (words : List (List ℕ)) → IsCommandOf kind front given words
    → AskedWithin (asked_in kind words)
asked-within kind front given words form =
    let a = answers_in kind words in
    record {
      number = λ place n is. subst (λ o. IsWithin n (said_at o (a.place (place + 1)))) (sym is) (said-in n (least_of n) (least-within n) (a.place (place + 1)));
      option = λ choice n has.
          subst (λ places. IsWithin n (said_for places (default_of choice) (a.value choice))) (sym has) (said-in n (default_of choice) (default-within choice n has) (a.value choice));
      dumps = dumps-in (a.value Dump);
      names = names-of kind front given words form;
    }
