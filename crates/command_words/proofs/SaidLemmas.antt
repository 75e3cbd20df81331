-- What is requested is among the words.
use Rattle.std.proofs.Common.{◌≡◌, ℕ, zero, suc, ◌+◌, true, false, cond, nat_le, List, [], ◌∷◌, length, Option, Some, None, is_some, unwrap_or, slice_get, refl, sym, ap, ◌∙◌, subst, inl, inr, arith}
use Rattle.std.specs.List.{AllByRecursion, Contains}
use Rattle.std.proofs.lemmas.Bool.{and_parts, false≢true}
use Rattle.command_words.specs.declared.limits.NumberKind.{NumberKind}
use Rattle.command_words.specs.declared.slot.Slot.{Slot}
use Rattle.command_words.specs.declared.slot.Slot.TheVariants.{FileName, Number}
use Rattle.command_words.specs.declared.slot.Place.{Place}
use Rattle.command_words.specs.declared.slot.Place.TheVariants.{Word, Names}
use Rattle.command_words.specs.declared.table.CommandKind.{CommandKind}
use Rattle.command_words.specs.declared.table.Choice.{Choice}
use Rattle.command_words.specs.Limits.{least_of, number_in}
use Rattle.command_words.specs.Slots.{fits}
use Rattle.command_words.specs.Table.{default_of, places_of, values_of}
use Rattle.command_words.specs.Command.{FitAll, Given, IsCommandOf, IsOptionOf, answers_in, first_word, joined, said, said_at, said_for}
use Rattle.command_words.specs.Laws.{SaysItsWords}
use Rattle.list_lemmas.proofs.Elements.{Contains-none, Contains-cases}
use Rattle.command_words.proofs.TableLemmas.{indexed, is_keyword, none_is_read, places-indexed}
use Rattle.command_words.proofs.AnswersLemmas.{answers_in-of, answers_of, given-has, given_has, has_given, slot_at, slot_at-within, value-absent, value_given, value_given-here, word-there}

-- a word that is a number is said as it
said-there : (kind : NumberKind) (default : ℕ) (word : List ℕ) → fits (Number kind) word ≡ true → number_in kind word ≡ Some (said kind default (Some word))
said-there kind default word fit = go (number_in kind word) fit where
  go : (o : Option ℕ) → is_some o ≡ true → o ≡ Some (unwrap_or o default)
  go None fit = absurd (false≢true fit)
  go (Some n) fit = refl

-- no place that is read is after names
none-read : (places : List Place) (place : ℕ) (slot : Slot) → none_is_read places ≡ true → slice_get places place ≡ Some (Word slot) → is_keyword slot ≡ true
none-read [] place slot none e = (let no : ⊥ = cc in absurd no)
none-read (Word other ∷ places) zero slot none e =
    let same : other ≡ slot = cc in
    ap is_keyword (sym same) ∙ (and_parts (is_keyword other) (none_is_read places) none).0
none-read (Word other ∷ places) (suc place) slot none e = none-read places place slot (and_parts (is_keyword other) (none_is_read places) none).1 e
none-read (Names list ∷ places) zero slot none e = (let no : ⊥ = cc in absurd no)
none-read (Names list ∷ places) (suc place) slot none e = none-read places place slot none e

-- so a place that is read has its number
slot-there : (places : List Place) (place : ℕ) (slot : Slot) → indexed places ≡ true → is_keyword slot ≡ false → slice_get places place ≡ Some (Word slot) → slot_at places place ≡ Some slot
slot-there [] place slot all read e = (let no : ⊥ = cc in absurd no)
slot-there (Word other ∷ places) zero slot all read e = (let same : other ≡ slot = cc in ap Some same)
slot-there (Word other ∷ places) (suc place) slot all read e = slot-there places place slot all read e
slot-there (Names list ∷ places) zero slot all read e = (let no : ⊥ = cc in absurd no)
slot-there (Names list ∷ places) (suc place) slot all read e = absurd (false≢true (sym read ∙ none-read places place slot all e))

-- the word at a place that is read
record WordAt (kind : CommandKind) (words : List (List ℕ)) (place : ℕ) (slot : Slot) : Type 0 where
  word : List ℕ
  answer : (answers_in kind words).place (place + 1) ≡ Some word
  stands : slice_get words (place + 1) ≡ Some word
  fit : fits slot word ≡ true

word-at : (kind : CommandKind) (front : List (List (List ℕ))) (given : List Given) (words : List (List ℕ)) → IsCommandOf kind front given words
    → (place : ℕ) (slot : Slot) → is_keyword slot ≡ false → slice_get (places_of kind) place ≡ Some (Word slot) → WordAt kind words place slot
word-at kind front given words form place slot read e =
    let at = slot-there (places_of kind) place slot (places-indexed kind) read e in
    let there = word-there (places_of kind) front place slot form.places at in
    let next : suc place ≡ place + 1 = omega arith in
    let within : nat_le (place + 1) (length (places_of kind)) ≡ true = ap (λ n. nat_le n (length (places_of kind))) (sym next) ∙ slot_at-within (places_of kind) place slot at in
    let answer : (answers_in kind words).place (place + 1) ≡ Some there.0 =
    ap (λ a. a.place (place + 1)) (ap (answers_in kind) form.whole ∙ answers_in-of kind front given form.places form.options)
    ∙ ap (λ n. (answers_of kind front given).place n) (sym next)
    ∙ ap (λ b. cond b (slice_get (joined front) place) None) (ap (λ n. nat_le n (length (places_of kind))) next ∙ within)
    ∙ there.1 in
    record {
      word = there.0;
      answer = answer;
      stands = sym (ap (λ b. cond b (slice_get words (place + 1)) None) within) ∙ answer;
      fit = there.2;
    }

-- an option that is given is one of the command's
option-of : (kind : CommandKind) (given : List Given) (g : Given) → AllByRecursion (IsOptionOf kind) given → Contains given g → IsOptionOf kind g
option-of kind [] g options has = absurd (Contains-none g has)
option-of kind (first ∷ given) g options has = elim (Contains-cases first g given has) [
  | inl here ↦ subst (IsOptionOf kind) here options.0
  | inr later ↦ option-of kind given g options.1 later
]

-- the one word of an option
one-word : (slot : Slot) (values : List (List (List ℕ))) → FitAll (Word slot ∷ []) values → (word : List ℕ) × (values ≡ (word ∷ []) ∷ []) × (fits slot word ≡ true)
one-word slot [] fit = absurd fit
one-word slot ([] ∷ values) fit = absurd fit.0
one-word slot ((word ∷ []) ∷ []) fit = (word, refl, fit.0)
one-word slot ((word ∷ []) ∷ part ∷ values) fit = absurd fit.1
one-word slot ((word ∷ other ∷ more) ∷ values) fit = absurd fit.0

-- what a command's words answer for an option
value-is : (kind : CommandKind) (front : List (List (List ℕ))) (given : List Given) (words : List (List ℕ)) → IsCommandOf kind front given words
    → (choice : Choice) → (answers_in kind words).value choice ≡ value_given choice given
value-is kind front given words form choice =
    ap (λ a. a.value choice) (ap (answers_in kind) form.whole ∙ answers_in-of kind front given form.places form.options)

has-is : (kind : CommandKind) (front : List (List (List ℕ))) (given : List Given) (words : List (List ℕ)) → IsCommandOf kind front given words
    → (choice : Choice) → (answers_in kind words).has choice ≡ has_given choice given
has-is kind front given words form choice =
    ap (λ a. a.has choice) (ap (answers_in kind) form.whole ∙ answers_in-of kind front given form.places form.options)

-- without a word the default is said
said-none : (places : List Place) (default : ℕ) → said_for places default None ≡ default
said-none (Word (Number kind) ∷ []) default = refl
said-none places default = refl

pub says_its_words : SaysItsWords
says_its_words = record {
  file = λ words asked is place.
      subst (λ asked. slice_get (places_of asked.kind) place ≡ Some (Word FileName) → slice_get words (place + 1) ≡ Some (asked.file place)) is.says
      (λ e. let there = word-at is.kind is.front is.given words is.form place FileName refl e in
      there.stands ∙ ap Some (sym (ap (λ o. unwrap_or o []) there.answer)));
  number = λ words asked is place kind.
      subst (λ asked. slice_get (places_of asked.kind) place ≡ Some (Word (Number kind))
      → (word : List ℕ) × (slice_get words (place + 1) ≡ Some word) × (number_in kind word ≡ Some (asked.number place))) is.says
      (λ e. let there = word-at is.kind is.front is.given words is.form place (Number kind) refl e in (
        there.word,
        there.stands,
        said-there kind (least_of kind) there.word there.fit
            ∙ ap Some (sym (ap (λ o. said_at o ((answers_in is.kind words).place (place + 1))) e ∙ ap (said kind (least_of kind)) there.answer)),
      ));
  option = λ words asked is g has kind e.
      let fit = (option-of is.kind is.given g is.form.options has).fit in
      let there = one-word (Number kind) g.values (subst (λ places. FitAll places g.values) e fit) in
      let value : (answers_in is.kind words).value g.choice ≡ Some there.0 =
      value-is is.kind is.front is.given words is.form g.choice ∙ value_given-here is.given g is.form.once has ∙ ap (λ values. first_word (joined values)) there.1 in (
        there.0,
        there.1,
        said-there kind (default_of g.choice) there.0 there.2
            ∙ ap Some (sym (ap (said kind (default_of g.choice)) value) ∙ sym (ap (λ places. said_for places (default_of g.choice) ((answers_in is.kind words).value g.choice)) e)
            ∙ ap (λ asked. asked.option g.choice) is.says),
      );
  default = λ words asked is choice none.
      sym (ap (λ asked. asked.option choice) is.says)
      ∙ ap (said_for (values_of choice) (default_of choice)) (value-is is.kind is.front is.given words is.form choice ∙ value-absent is.given choice none)
      ∙ said-none (values_of choice) (default_of choice);
  has = λ words asked is choice e.
      given_has is.given choice (sym (has-is is.kind is.front is.given words is.form choice) ∙ ap (λ asked. asked.has choice) is.says ∙ e);
  given = λ words asked is choice there.
      sym (ap (λ asked. asked.has choice) is.says) ∙ has-is is.kind is.front is.given words is.form choice ∙ given-has is.given choice there;
}
