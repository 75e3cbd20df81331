-- What is read is the command, or the refused word.
use Rattle.std.proofs.Common.{◌≡◌, ℕ, ◌+◌, ◌≤◌, suc, Bool, true, false, cond, List, [], ◌∷◌, ◌++◌, length, take, drop, Option, Some, None, Result, Ok, Err, IfOk, IfErr, refl, sym, ap, ◌∙◌, subst, ◌⊎◌, inl, inr, arith, lit<}
use Rattle.std.specs.List.{flat_map, Contains}
use Rattle.std.proofs.lemmas.List.{append-nil, append_assoc, take-take, take-append-drop}
use Rattle.command_words.specs.declared.slot.Place.{Place}
use Rattle.command_words.specs.declared.table.CommandKind.{CommandKind}
use Rattle.command_words.specs.declared.table.CommandKind.TheVariants.{Run}
use Rattle.command_words.specs.declared.asked.Asked.{Asked}
use Rattle.command_words.specs.declared.asked.Refused.{Refused}
use Rattle.command_words.specs.Table.{kinds, word_of, places_of}
use Rattle.command_words.specs.Command.{Given, given_words, joined, IsCommandOf, PlainAsked, IsCommand, IsBeginning, IsRefusedAt, asked_in, plain}
use Rattle.command_words.specs.Inner.Walk.{command_kind_of, walk, has_needed, is_finished, finish, read_kind, read_of, plain_result}
use Rattle.command_words.proofs.TableLemmas.{command_kind_of-word, command_kind_of-found, command_kind_of-known}
use Rattle.command_words.proofs.WalkNames.{open-none, all-from_rest, places-run}
use Rattle.command_words.proofs.WalkShapes.{walk-accepts, walk-front, walk-stops}
use Rattle.command_words.proofs.WalkCompletions.{Extends, walk-extends, command-walks}
use Rattle.command_words.proofs.AnswersLemmas.{has_needed-command, needed-given, words_of}

-- words that are a command are read as it
pub read-command : (words : List (List ℕ)) (command : PlainAsked) → IsCommand words command → read_of words ≡ Ok command
read-command words command is =
    let kind = is.kind in
    let all = words_of kind is.front is.given in
    ap read_of is.form.whole
    ∙ ap (read_kind all) (command_kind_of-word kind is.form.known)
    ∙ ap (finish kind all) (command-walks kind is.front is.given words is.form)
    ∙ ap (λ b. cond b (Ok (asked_in kind all)) (Err (length all + 1))) (has_needed-command kind is.front is.given words is.form)
    ∙ ap Ok (ap (asked_in kind) (sym is.form.whole) ∙ is.says)

-- words of a command's form are a command
record SomeCommand (words : List (List ℕ)) : Type 0 where
  command : PlainAsked
  is : IsCommand words command

of_form : (kind : CommandKind) (front : List (List (List ℕ))) (given : List Given) (words : List (List ℕ)) → IsCommandOf kind front given words → SomeCommand words
of_form kind front given words form =
    record { command = asked_in kind words; is = record { kind = kind; front = front; given = given; form = form; says = refl } }

-- words that the walk accepts whole, with each option that is needed, are a command
accepted : (kind : CommandKind) → Contains kinds kind → (rest : List (List ℕ)) → walk kind rest (places_of kind) [] (word_of kind ∷ []) ≡ Ok []
    → has_needed kind (word_of kind ∷ rest) ≡ true
    → SomeCommand (word_of kind ∷ rest)
accepted kind known rest walked has =
    let ext = walk-accepts kind rest (places_of kind) [] (word_of kind ∷ []) [] (places-run kind) (open-none (places_of kind)) walked in
    let shape = ext.rest in
    let fit = all-from_rest (places_of kind) shape.front shape.places in
    let eq : rest ≡ joined shape.front ++ flat_map given_words shape.given =
    sym (append-nil rest) ∙ ap (λ more. rest ++ more) (sym (ext.finished refl)) ∙ shape.whole in
    of_form kind shape.front shape.given (word_of kind ∷ rest) (record {
      known = known;
      whole = ap (λ ws. word_of kind ∷ ws) eq;
      places = fit;
      options = shape.options;
      once = shape.once;
      needed = needed-given kind shape.front shape.given fit shape.options (sym (ap (λ ws. has_needed kind (word_of kind ∷ ws)) eq) ∙ has);
    })

-- what was read of the words of a kind
kind-read : (words : List (List ℕ)) (o : Option CommandKind) (command : PlainAsked) → read_kind words o ≡ Ok command
    → (kind : CommandKind) × (o ≡ Some kind) × (finish kind words (walk kind (drop 1 words) (places_of kind) [] (take 1 words)) ≡ Ok command)
kind-read words None command e = (let no : ⊥ = cc in absurd no)
kind-read words (Some kind) command e = (kind, refl, e)

all-said : (b : Bool) (asked : PlainAsked) (number : ℕ) (command : PlainAsked) → cond b (Ok asked) (Err number) ≡ Ok command → b ≡ true
all-said true asked number command e = refl
all-said false asked number command e = (let no : ⊥ = cc in absurd no)

finish-read : (kind : CommandKind) (words : List (List ℕ)) (r : Result (List Place) ℕ) (command : PlainAsked) → finish kind words r ≡ Ok command
    → (r ≡ Ok []) × (has_needed kind words ≡ true)
finish-read kind words (Err number) command e = (let no : ⊥ = cc in absurd no)
finish-read kind words (Ok []) command e = (refl, all-said (has_needed kind words) (asked_in kind words) (length words + 1) command e)
finish-read kind words (Ok (place ∷ places)) command e = (let no : ⊥ = cc in absurd no)

-- what is read is the command
pub read-accepts : (words : List (List ℕ)) (command : PlainAsked) → read_of words ≡ Ok command → IsCommand words command
read-accepts [] command e = (let no : ⊥ = cc in absurd no)
read-accepts (word ∷ rest) command e =
    let o = kind-read (word ∷ rest) (command_kind_of word) command e in
    let f = finish-read o.0 (word ∷ rest) (walk o.0 rest (places_of o.0) [] (word ∷ [])) command o.2 in
    let here = command_kind_of-found word o.0 o.1 in
    let some = subst (λ w. SomeCommand (w ∷ rest)) (sym here)
    (accepted o.0 (command_kind_of-known word o.0 o.1) rest
    (sym (ap (λ w. walk o.0 rest (places_of o.0) [] (w ∷ [])) here) ∙ f.0)
    (sym (ap (λ w. has_needed o.0 (w ∷ rest)) here) ∙ f.1)) in
    let both : Ok some.command ≡ Ok command = sym (read-command (word ∷ rest) some.command some.is) ∙ e in
    let same : some.command ≡ command = cc in
    subst (IsCommand (word ∷ rest)) same some.is

-- what is refused is not a command
pub read-none : (words : List (List ℕ)) (number : ℕ) → read_of words ≡ Err number → (command : PlainAsked) → ¬ IsCommand words command
read-none words number e command is = (let both : Ok command ≡ Err number = sym (read-command words command is) ∙ e in let no : ⊥ = cc in no)

-- the front of a beginning is a beginning
pub IsBeginning-front : (front back : List (List ℕ)) → IsBeginning (front ++ back) → IsBeginning front
IsBeginning-front front back is = record {
  more = back ++ is.more;
  asked = is.asked;
  whole = subst (λ ws. IsCommand ws is.asked) (append_assoc front back is.more) is.whole;
}

pub IsBeginning-take : (n : ℕ) (words : List (List ℕ)) → IsBeginning words → IsBeginning (take n words)
IsBeginning-take n words is = IsBeginning-front (take n words) (drop n words) (subst IsBeginning (sym (take-append-drop n words)) is)

extends-begins : (kind : CommandKind) (words : List (List ℕ)) → Extends kind words → IsBeginning words
extends-begins kind words extended =
    let some = of_form kind extended.front extended.given (words ++ extended.more) extended.form in
    record { more = extended.more; asked = some.command; whole = some.is }

walk-begins : (kind : CommandKind) → Contains kinds kind → (words : List (List ℕ)) (later : List Place)
    → walk kind words (places_of kind) [] (word_of kind ∷ []) ≡ Ok later → IsBeginning (word_of kind ∷ words)
walk-begins kind known words later e = extends-begins kind (word_of kind ∷ words) (walk-extends kind known words later e)

IsBeginning-none : IsBeginning []
IsBeginning-none = IsBeginning-front [] (word_of Run ∷ []) (walk-begins Run (0, lit< tt, refl) [] (places_of Run) refl)

-- a beginning has a known command's first word, and the walk accepts the others
record BeginsAs (word : List ℕ) (rest : List (List ℕ)) : Type 0 where
  kind : CommandKind
  known : Contains kinds kind
  first : word ≡ word_of kind
  later : List Place
  walked : walk kind rest (places_of kind) [] (word_of kind ∷ []) ≡ Ok later

begins-walks : (word : List ℕ) (rest : List (List ℕ)) → IsBeginning (word ∷ rest) → BeginsAs word rest
begins-walks word rest is =
    let form = is.whole.form in
    let kind = is.whole.kind in
    let others = joined is.whole.front ++ flat_map given_words is.whole.given in
    let whole : word ∷ (rest ++ is.more) ≡ word_of kind ∷ others = form.whole in
    let same : word ≡ word_of kind = cc in
    let more : rest ++ is.more ≡ others = cc in
    let walks = walk-front kind rest is.more (places_of kind) [] (word_of kind ∷ []) []
    (ap (λ ws. walk kind ws (places_of kind) [] (word_of kind ∷ [])) more ∙ command-walks kind is.whole.front is.whole.given ((word ∷ rest) ++ is.more) form) in
    record { kind = kind; known = form.known; first = same; later = walks.0; walked = walks.1 }

-- the first word is that of no command
refused-first : (words : List (List ℕ)) → ((command : PlainAsked) → ¬ IsCommand words command) → (1 ≤ length words → ¬ IsBeginning (take 1 words))
    → IsRefusedAt words 1
refused-first words none no_word = record {
  counted = omega arith;
  no_further = omega arith;
  before = λ count less. subst (λ n. IsBeginning (take n words)) (let none : 0 ≡ count = omega arith in none) IsBeginning-none;
  refused = no_word;
  unfinished = λ last. none;
}

no_kind : (word : List ℕ) → command_kind_of word ≡ None → ¬ IsBeginning (word ∷ [])
no_kind word e is =
    let begins = begins-walks word [] is in
    let both : None ≡ Some begins.kind = sym e ∙ ap command_kind_of begins.first ∙ command_kind_of-word begins.kind begins.known in
    let no : ⊥ = cc in no

-- the walk stops at the word
refused-within : (kind : CommandKind) → Contains kinds kind → (rest : List (List ℕ)) (number : ℕ)
    → ((command : PlainAsked) → ¬ IsCommand (word_of kind ∷ rest) command)
    → walk kind rest (places_of kind) [] (word_of kind ∷ []) ≡ Err number → IsRefusedAt (word_of kind ∷ rest) number
refused-within kind known rest number none e =
    let stop = walk-stops kind rest (places_of kind) [] (word_of kind ∷ []) number e in
    let inside = stop.within in
    let at : number ≡ suc (suc stop.taken) = stop.here ∙ (let two : length (word_of kind ∷ []) + stop.taken + 1 ≡ suc (suc stop.taken) = omega arith in two) in
    record {
      counted = omega arith;
      no_further = omega arith;
      before = λ count less. fewer count (suc stop.taken) (omega arith) (walk-begins kind known (take stop.taken rest) stop.later stop.accepted);
      refused = λ within is. no_walk stop.taken stop.refused (subst (λ n. IsBeginning (take n (word_of kind ∷ rest))) at is);
      unfinished = λ last. none;
    }
  where
    fewer : (count taken : ℕ) → count ≤ taken → IsBeginning (take taken (word_of kind ∷ rest)) → IsBeginning (take count (word_of kind ∷ rest))
    fewer count taken le is = subst IsBeginning (take-take count taken (word_of kind ∷ rest) le) (IsBeginning-take count (take taken (word_of kind ∷ rest)) is)

    no_walk : (taken : ℕ) → walk kind (take (suc taken) rest) (places_of kind) [] (word_of kind ∷ []) ≡ Err number
        → ¬ IsBeginning (word_of kind ∷ take (suc taken) rest)
    no_walk taken refused is =
        let begins = begins-walks (word_of kind) (take (suc taken) rest) is in
        let same : Some begins.kind ≡ Some kind = sym (command_kind_of-word begins.kind begins.known) ∙ ap command_kind_of (sym begins.first) ∙ command_kind_of-word kind known in
        let one_kind : begins.kind ≡ kind = cc in
        let both : Ok begins.later ≡ Err number =
        sym (subst (λ k. walk k (take (suc taken) rest) (places_of k) [] (word_of k ∷ []) ≡ Ok begins.later) one_kind begins.walked) ∙ refused in
        let no : ⊥ = cc in no

-- the walk accepts the words, and they are not a command
refused-after : (words : List (List ℕ)) → ((command : PlainAsked) → ¬ IsCommand words command) → IsBeginning words → IsRefusedAt words (length words + 1)
refused-after words none is = record {
  counted = omega arith;
  no_further = omega arith;
  before = λ count less. IsBeginning-take count words is;
  refused = λ within. absurd (omega arith);
  unfinished = λ last. none;
}

-- how the words of a kind are refused
kind-refused : (words : List (List ℕ)) (o : Option CommandKind) (number : ℕ) → read_kind words o ≡ Err number
    → ((o ≡ None) × (1 ≡ number)) ⊎
    ((kind : CommandKind) × (o ≡ Some kind) × (finish kind words (walk kind (drop 1 words) (places_of kind) [] (take 1 words)) ≡ Err number))
kind-refused words None number e = inl (refl, cc)
kind-refused words (Some kind) number e = inr (kind, refl, e)

last-refused : (b : Bool) (asked : PlainAsked) (last number : ℕ) → cond b (Ok asked) (Err last) ≡ Err number → last ≡ number
last-refused true asked last number e = (let no : ⊥ = cc in absurd no)
last-refused false asked last number e = cc

finish-refused : (kind : CommandKind) (words : List (List ℕ)) (r : Result (List Place) ℕ) (number : ℕ) → finish kind words r ≡ Err number
    → (r ≡ Err number) ⊎ ((due : List Place) × (r ≡ Ok due) × (length words + 1 ≡ number))
finish-refused kind words (Err other) number e = (let same : other ≡ number = cc in inl (ap Err same))
finish-refused kind words (Ok due) number e = inr (due, refl, last-refused (is_finished kind due words) (asked_in kind words) (length words + 1) number e)

-- the number that is read is that of the refused word
pub read-refuses : (words : List (List ℕ)) (number : ℕ) → read_of words ≡ Err number → IsRefusedAt words number
read-refuses [] number e =
    let one : 1 ≡ number = cc in
    subst (IsRefusedAt []) one (refused-first [] (read-none [] number e) (λ within. absurd (omega arith)))
read-refuses (word ∷ rest) number e =
    elim (kind-refused (word ∷ rest) (command_kind_of word) number e) [
      | inl none ↦ subst (IsRefusedAt (word ∷ rest)) none.1 (refused-first (word ∷ rest) (read-none (word ∷ rest) number e) (λ within. no_kind word none.0))
      | inr some ↦ of_kind some.0 (command_kind_of-known word some.0 some.1) (command_kind_of-found word some.0 some.1) (read-none (word ∷ rest) number e) some.2
    ]
  where
    of_kind : (kind : CommandKind) → Contains kinds kind → word ≡ word_of kind → ((command : PlainAsked) → ¬ IsCommand (word ∷ rest) command)
        → finish kind (word ∷ rest) (walk kind rest (places_of kind) [] (word ∷ [])) ≡ Err number → IsRefusedAt (word ∷ rest) number
    of_kind kind known here none f =
        subst (λ w. IsRefusedAt (w ∷ rest) number) (sym here)
        (elim (finish-refused kind (word ∷ rest) (walk kind rest (places_of kind) [] (word ∷ [])) number f) [
          | inl stopped ↦
              refused-within kind known rest number (subst (λ w. (command : PlainAsked) → ¬ IsCommand (w ∷ rest) command) here none)
              (subst (λ w. walk kind rest (places_of kind) [] (w ∷ []) ≡ Err number) here stopped)
          | inr walked ↦ subst (IsRefusedAt (word_of kind ∷ rest)) walked.2
              (refused-after (word_of kind ∷ rest) (subst (λ w. (command : PlainAsked) → ¬ IsCommand (w ∷ rest) command) here none)
              (walk-begins kind known rest walked.0 (subst (λ w. walk kind rest (places_of kind) [] (w ∷ []) ≡ Ok walked.0) here walked.1)))
        ])

-- what the reader's answer says
pub result_command : (words : List (List ℕ)) (result : Result Asked Refused) → plain_result result ≡ read_of words
    → IfOk result (λ command. IsCommand words (plain command))
result_command words (Ok command) e = read-accepts words (plain command) (sym e)
result_command words (Err refused) e = tt

pub result_refused : (words : List (List ℕ)) (result : Result Asked Refused) → plain_result result ≡ read_of words
    → IfErr result (λ refused. IsRefusedAt words refused.word)
result_refused words (Ok command) e = tt
result_refused words (Err refused) e = read-refuses words refused.word (sym e)

pub result_none : (words : List (List ℕ)) (result : Result Asked Refused) → plain_result result ≡ read_of words
    → IfErr result (λ _. (command : PlainAsked) → ¬ IsCommand words command)
result_none words (Ok command) e = tt
result_none words (Err refused) e = read-none words refused.word (sym e)
