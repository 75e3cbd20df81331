-- The words of a run to a reader that doesn't know `--far`: none of a command's is empty.
use Rattle.std.proofs.Common.{◌≡◌, ℕ, suc, ◌+◌, ◌<◌, ◌≤◌, Bool, true, false, cond, ◌||◌, List, [], ◌∷◌, ◌++◌, length, map, take, drop, refl, sym, ap, ◌∙◌, subst, arith, String, string_bytes, get_or, inl, inr, leb, leb-true, leb-false}
use Rattle.std.specs.Prelude.{min}
use Rattle.std.specs.declared.alloc.Global.{Global}
use Rattle.std.specs.List.{flat_map, list_any, take-map, AllByRecursion}
use Rattle.std.specs.Str.{bytes_eq}
use Rattle.std.proofs.lemmas.Bool.{cases_Bool, and_parts, cond-true, cond-false, false≢true}
use Rattle.std.proofs.lemmas.List.{append-nil, append_assoc, length-append, length-map, take-append-le, take_all}
use Rattle.std.proofs.lemmas.Slice.Eq.{bytes_eq-Decides}
use Rattle.command_words.specs.declared.slot.Slot.{Slot}
use Rattle.command_words.specs.declared.slot.Slot.TheVariants.{FileName}
use Rattle.command_words.specs.declared.slot.Place.{Place}
use Rattle.command_words.specs.declared.slot.Place.TheVariants.{Word, Names}
use Rattle.command_words.specs.declared.table.CommandKind.{CommandKind}
use Rattle.command_words.specs.declared.table.CommandKind.TheVariants.{Run}
use Rattle.command_words.specs.declared.table.Choice.TheVariants.{Far}
use Rattle.command_words.specs.Command.{FitAll, Given, IsBeginning, IsCommand, IsOptionOf, IsRefusedAt, PlainAsked, given_words, joined}
use Rattle.command_words.specs.Far.{RefusesFar, is_far_run, word_without_far, words_without_far}
use Rattle.command_words.specs.Slots.{FitsPlace, fits, is_file_name}
use Rattle.command_words.specs.Table.{option_of, places_of, values_of, word_of}
use Rattle.command_words.specs.Words.{texts}
use Rattle.command_words.specs.Inner.Fronts.{words_before}
use Rattle.list_lemmas.proofs.AllElements.{AllByRecursion-append}
use Rattle.command_words.proofs.TableLemmas.{command-byte, empty-unfit, has_byte, option-byte}
use Rattle.command_words.proofs.ReadLemmas.{IsBeginning-take}
use Rattle.command_words.proofs.WalkSteps.{texts-front, texts-past, texts-rest}
use Rattle.command_words.proofs.WalkNames.{all-between}

-- a word has a byte
abbrev IsSome : List ℕ → Type 0
IsSome word = has_byte word ≡ true

fits-some : (slot : Slot) (word : List ℕ) → fits slot word ≡ true → IsSome word
fits-some slot [] fit = absurd (false≢true (sym (empty-unfit slot) ∙ fit))
fits-some slot (byte ∷ word) fit = refl

name-some : (name : List ℕ) → is_file_name name ≡ true → IsSome name
name-some name is = fits-some FileName name is

names-some : (names : List (List ℕ)) → AllByRecursion (λ name. is_file_name name ≡ true) names → AllByRecursion IsSome names
names-some [] each = tt
names-some (name ∷ names) each = (name-some name each.0, names-some names each.1)

place-some : (place : Place) (words : List (List ℕ)) → FitsPlace place words → AllByRecursion IsSome words
place-some (Word slot) [] fit = absurd fit
place-some (Word slot) (word ∷ []) fit = (fits-some slot word fit, tt)
place-some (Word slot) (word ∷ other ∷ more) fit = absurd fit
place-some (Names list) names fit = names-some names fit.each

joined-some : (places : List Place) (parts : List (List (List ℕ))) → FitAll places parts → AllByRecursion IsSome (joined parts)
joined-some [] [] fit = tt
joined-some [] (part ∷ parts) fit = absurd fit
joined-some (place ∷ places) [] fit = absurd fit
joined-some (place ∷ places) (part ∷ parts) fit = AllByRecursion-append IsSome part (joined parts) (place-some place part fit.0) (joined-some places parts fit.1)

given-some : (kind : CommandKind) (given : List Given) → AllByRecursion (IsOptionOf kind) given → AllByRecursion IsSome (flat_map given_words given)
given-some kind [] options = tt
given-some kind (one ∷ more) options =
    AllByRecursion-append IsSome (given_words one) (flat_map given_words more) (option-byte one.choice, joined-some (values_of one.choice) one.values options.0.fit) (given-some kind more options.1)

-- no word of a command is empty
command-some : (words : List (List ℕ)) (command : PlainAsked) → IsCommand words command → AllByRecursion IsSome words
command-some words command is =
    subst (AllByRecursion IsSome) (sym is.form.whole) (
      command-byte is.kind,
      AllByRecursion-append IsSome (joined is.front) (flat_map given_words is.given)
          (joined-some (places_of is.kind) is.front is.form.places) (given-some is.kind is.given is.form.options),
    )

no_empty : (front back : List (List ℕ)) (command : PlainAsked) → ¬ IsCommand (front ++ [] ∷ back) command
no_empty front back command is = false≢true (all-between IsSome front [] back (command-some (front ++ [] ∷ back) command is))

not_begun : (front : List (List ℕ)) → ¬ IsBeginning (front ++ [] ∷ [])
not_begun front is = no_empty front is.more is.asked (subst (λ (words : List (List ℕ)). IsCommand words is.asked) (append_assoc front ([] ∷ []) is.more) is.whole)

-- the words before `--far` are kept, and it is the empty one
cut-far : (words : List (List ℕ)) → list_any (λ other. bytes_eq other (option_of Far)) words ≡ true
    → (back : List (List ℕ)) × (map word_without_far words ≡ words_before (option_of Far) words ++ [] ∷ back)
cut-far [] among = absurd (false≢true among)
cut-far (word ∷ words) among = elim (cases_Bool (bytes_eq word (option_of Far))) [
  | inl here ↦ (
    map word_without_far words,
    ap (λ (b : Bool). cond b [] word ∷ map word_without_far words) here ∙ ap (λ (b : Bool). cond b [] (word ∷ words_before (option_of Far) words) ++ [] ∷ map word_without_far words) (sym here),
  )
  | inr other ↦
      let rest = cut-far words (sym (ap (λ (b : Bool). b || list_any (λ other. bytes_eq other (option_of Far)) words) other) ∙ among) in (
        rest.0,
        ap (λ (b : Bool). cond b [] word ∷ map word_without_far words) other
            ∙ ap (λ (ws : List (List ℕ)). word ∷ ws) rest.1
            ∙ ap (λ (b : Bool). cond b [] (word ∷ words_before (option_of Far) words) ++ [] ∷ rest.0) (sym other),
      )
]

-- `--far` is among the words of a far run
far_among : (words : List (List ℕ)) → is_far_run words ≡ true → list_any (λ other. bytes_eq other (option_of Far)) words ≡ true
far_among [] far = absurd (false≢true far)
far_among (word ∷ words) far =
    let parts = and_parts (bytes_eq word (word_of Run)) (list_any (λ other. bytes_eq other (option_of Far)) words) far in
    let first : word ≡ word_of Run = (bytes_eq-Decides word (word_of Run)).0 parts.0 in
    subst (λ (w : List ℕ). list_any (λ other. bytes_eq other (option_of Far)) (w ∷ words) ≡ true) (sym first) parts.1

cut : (words : List (List ℕ)) → is_far_run words ≡ true → (back : List (List ℕ)) × (words_without_far words ≡ words_before (option_of Far) words ++ [] ∷ back)
cut words far =
    let there = cut-far words (far_among words far) in
    (there.0, cond-true (is_far_run words) (map word_without_far words) words far ∙ there.1)

pub refuses_far : RefusesFar
refuses_far = record {
  refused = λ words command far is.
      let there = cut words far in
      no_empty (words_before (option_of Far) words) there.0 command (subst (λ (ws : List (List ℕ)). IsCommand ws command) there.1 is);
  others = λ words other. cond-false (is_far_run words) (map word_without_far words) words other;
}

take_next : (front back : List (List ℕ)) (word : List ℕ) → take (suc (length front)) (front ++ word ∷ back) ≡ front ++ word ∷ []
take_next [] back word = refl
take_next (first ∷ front) back word = ap (λ (ws : List (List ℕ)). first ∷ ws) (take_next front back word)

-- a word before the empty one is refused
refused-before : (front back : List (List ℕ)) (word : ℕ) → IsRefusedAt front word → word ≤ length front → IsRefusedAt (front ++ [] ∷ back) word
refused-before front back word is within =
    let long : length (front ++ [] ∷ back) ≡ length front + length ([] ∷ back) = length-append front ([] ∷ back) in
    record {
      counted = is.counted;
      no_further = omega (arith, long, within);
      before = λ count less. subst IsBeginning (sym (take-append-le count front ([] ∷ back) (omega (arith, less, within)))) (is.before count less);
      refused = λ inside. subst (λ (ws : List (List ℕ)). ¬ IsBeginning ws) (sym (take-append-le word front ([] ∷ back) within)) (is.refused within);
      unfinished = λ last. absurd (omega (arith, long, last, within));
    }

-- or the empty one
refused-there : (front back : List (List ℕ)) → ((count : ℕ) → count ≤ length front → IsBeginning (take count front)) → IsRefusedAt (front ++ [] ∷ back) (length front + 1)
refused-there front back begins =
    let long : length (front ++ [] ∷ back) ≡ length front + length ([] ∷ back) = length-append front ([] ∷ back) in
    record {
      counted = omega arith;
      no_further = omega (arith, long);
      before = λ count less. let few : count ≤ length front = omega (arith, less) in subst IsBeginning (sym (take-append-le count front ([] ∷ back) few)) (begins count few);
      refused = λ inside. subst (λ (n : ℕ). ¬ IsBeginning (take n (front ++ [] ∷ back))) (let next : suc (length front) ≡ length front + 1 = omega arith in next)
          (subst (λ (ws : List (List ℕ)). ¬ IsBeginning ws) (sym (take_next front back [])) (not_begun front));
      unfinished = λ last. absurd (omega (arith, long, last));
    }

module _ (words : List (List ℕ)) (far : is_far_run words ≡ true) where
  abbrev front : List (List ℕ)
  front = words_before (option_of Far) words

  -- the words before it are a command
  pub refused-after_command : (command : PlainAsked) → IsCommand front command → IsRefusedAt (words_without_far words) (length front + 1)
  refused-after_command command is =
      let there = cut words far in
      subst (λ (ws : List (List ℕ)). IsRefusedAt ws (length front + 1)) (sym there.1)
      (refused-there front there.0 (λ count few. IsBeginning-take count front (record { more = []; asked = command; whole = subst (λ (ws : List (List ℕ)). IsCommand ws command) (sym (append-nil front)) is })))

  -- or are refused
  pub refused-earlier : (word : ℕ) → IsRefusedAt front word → IsRefusedAt (words_without_far words) (min word (length front + 1))
  refused-earlier word is =
      let there = cut words far in
      subst (λ (ws : List (List ℕ)). IsRefusedAt ws (min word (length front + 1))) (sym there.1)
      (elim (cases_Bool (leb word (length front))) [
        | inl few ↦ let within = leb-true word (length front) few in subst (IsRefusedAt (front ++ [] ∷ there.0)) (let least : word ≡ min word (length front + 1) = omega (arith, within) in least) (refused-before front there.0 word is within)
        | inr many ↦ let past = leb-false word (length front) many in subst (IsRefusedAt (front ++ [] ∷ there.0)) (let least : length front + 1 ≡ min word (length front + 1) = omega (arith, past) in least)
            (refused-there front there.0 (λ count few. is.before count (omega (arith, few, past))))
      ])

  pub far-none : (command : PlainAsked) → ¬ IsCommand (words_without_far words) command
  far-none command is = refuses_far.refused words command far is

-- this word is the one, and the words end before it
pub words_before-here : (text : List ℕ) (words : List (String Global)) (i : ℕ) (word : String Global) → i < length words → word ≡ get_or words i word
    → bytes_eq (string_bytes word) text ≡ true → take i (texts words) ++ words_before text (drop i (texts words)) ≡ texts (take i words)
words_before-here text words i word within is same =
    ap (λ rest. take i (texts words) ++ words_before text rest) (texts-rest words i word within is)
    ∙ ap (λ b. take i (texts words) ++ cond b [] (string_bytes word ∷ words_before text (drop (i + 1) (texts words)))) same
    ∙ append-nil (take i (texts words))
    ∙ take-map string_bytes i words

-- this word is another, and they continue
pub words_before-more : (text : List ℕ) (words : List (String Global)) (i : ℕ) (word : String Global) → i < length words → word ≡ get_or words i word
    → bytes_eq (string_bytes word) text ≡ false
    → take i (texts words) ++ words_before text (drop i (texts words)) ≡ take (i + 1) (texts words) ++ words_before text (drop (i + 1) (texts words))
words_before-more text words i word within is differs =
    ap (λ rest. take i (texts words) ++ words_before text rest) (texts-rest words i word within is)
    ∙ ap (λ b. take i (texts words) ++ cond b [] (string_bytes word ∷ words_before text (drop (i + 1) (texts words)))) differs
    ∙ sym (append_assoc (take i (texts words)) (string_bytes word ∷ []) (words_before text (drop (i + 1) (texts words))))
    ∙ ap (λ front. front ++ words_before text (drop (i + 1) (texts words))) (sym (texts-front words i word within is))

-- no word is left
pub words_before-past : (text : List ℕ) (words : List (String Global)) (i : ℕ) → length words ≤ i → take i (texts words) ++ words_before text (drop i (texts words)) ≡ texts words
words_before-past text words i past =
    ap (λ rest. take i (texts words) ++ words_before text rest) (texts-past words i past)
    ∙ append-nil (take i (texts words))
    ∙ take_all i (texts words) (rw length-map past)
