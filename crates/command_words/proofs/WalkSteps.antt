-- One word further in the loops over the words.
use Rattle.std.proofs.Common.{◌≡◌, ℕ, ◌+◌, ◌-◌, ◌<◌, ◌≤◌, Bool, true, false, cond, List, [], ◌∷◌, ◌++◌, length, get_or, take, drop, Option, String, string_bytes, bytes_eq, sym, ap, ◌∙◌, arith}
use Rattle.std.specs.declared.alloc.Global.{Global}
use Rattle.std.specs.List.{drop-map, take-map}
use Rattle.std.proofs.lemmas.List.{drop_more, drop-take, take_more, get_or-map, drop_all, length-map, length-take-le, drop-append-le, append-nil, append_assoc, take_all, take_rest}
use Rattle.command_words.specs.declared.slot.Place.{Place}
use Rattle.command_words.specs.declared.slot.Place.TheVariants.{Word, Names}
use Rattle.command_words.specs.declared.table.CommandKind.{CommandKind}
use Rattle.command_words.specs.Slots.{is_file_name}
use Rattle.command_words.specs.Command.{is_among, rest_after, names_front}
use Rattle.command_words.specs.Inner.Walk.{reached, due_after, names_after, takes_names, go_on, walk}
use Rattle.command_words.specs.Words.{texts}
use Rattle.command_words.proofs.WalkSearch.{is_among-none, is_among-first, is_among-next, rest_after-none, rest_after-first, rest_after-next}

-- the bytes of the word at a place
texts-at : (words : List (String Global)) (i : ℕ) (word : String Global) → i < length words → word ≡ get_or words i word
    → get_or (texts words) i (string_bytes word) ≡ string_bytes word
texts-at words i word within is = get_or-map string_bytes words i word (string_bytes word) within ∙ ap string_bytes (sym is)

inside : (words : List (String Global)) (i : ℕ) → i < length words → i < length (texts words)
inside words i within = rw length-map within

-- the words from a place on begin with the word there
pub texts-rest : (words : List (String Global)) (i : ℕ) (word : String Global) → i < length words → word ≡ get_or words i word
    → drop i (texts words) ≡ string_bytes word ∷ drop (i + 1) (texts words)
texts-rest words i word within is =
    drop_more (texts words) i (string_bytes word) (inside words i within)
    ∙ ap (λ text. text ∷ drop (i + 1) (texts words)) (texts-at words i word within is)

-- the words up to a place and with it end with the word there
pub texts-front : (words : List (String Global)) (i : ℕ) (word : String Global) → i < length words → word ≡ get_or words i word
    → take (i + 1) (texts words) ≡ take i (texts words) ++ string_bytes word ∷ []
texts-front words i word within is =
    take_more (texts words) i (string_bytes word) (inside words i within)
    ∙ ap (λ text. take i (texts words) ++ text ∷ []) (texts-at words i word within is)

-- no word is left
pub texts-past : (words : List (String Global)) (i : ℕ) → length words ≤ i → drop i (texts words) ≡ []
texts-past words i past = drop_all i (texts words) (rw length-map past)

-- this word is the one
pub is_among-here : (text : List ℕ) (words : List (String Global)) (i : ℕ) (word : String Global) → i < length words → word ≡ get_or words i word
    → bytes_eq (string_bytes word) text ≡ true → is_among text (drop i (texts words)) ≡ true
is_among-here text words i word within is same =
    ap (is_among text) (texts-rest words i word within is) ∙ is_among-first text (string_bytes word) (drop (i + 1) (texts words)) same

-- this word isn't the one
pub is_among-more : (text : List ℕ) (words : List (String Global)) (i : ℕ) (word : String Global) → i < length words → word ≡ get_or words i word
    → bytes_eq (string_bytes word) text ≡ false → is_among text (drop i (texts words)) ≡ is_among text (drop (i + 1) (texts words))
is_among-more text words i word within is differs =
    ap (is_among text) (texts-rest words i word within is) ∙ is_among-next text (string_bytes word) (drop (i + 1) (texts words)) differs

-- no word is left to be the one
pub is_among-past : (text : List ℕ) (words : List (String Global)) (i : ℕ) → length words ≤ i → is_among text (drop i (texts words)) ≡ false
is_among-past text words i past = rw (texts-past words i past) (is_among-none text)

-- this word is the one, and the words after it are the answer
pub rest_after-here : (text : List ℕ) (words : List (String Global)) (i : ℕ) (word : String Global) → i < length words → word ≡ get_or words i word
    → bytes_eq (string_bytes word) text ≡ true → rest_after text (drop i (texts words)) ≡ texts (drop (i + 1) words)
rest_after-here text words i word within is same =
    ap (rest_after text) (texts-rest words i word within is)
    ∙ rest_after-first text (string_bytes word) (drop (i + 1) (texts words)) same
    ∙ drop-map string_bytes (i + 1) words

-- this word isn't the one
pub rest_after-more : (text : List ℕ) (words : List (String Global)) (i : ℕ) (word : String Global) → i < length words → word ≡ get_or words i word
    → bytes_eq (string_bytes word) text ≡ false → rest_after text (drop i (texts words)) ≡ rest_after text (drop (i + 1) (texts words))
rest_after-more text words i word within is differs =
    ap (rest_after text) (texts-rest words i word within is) ∙ rest_after-next text (string_bytes word) (drop (i + 1) (texts words)) differs

-- no word is left to be the one
pub rest_after-past : (text : List ℕ) (words : List (String Global)) (i : ℕ) → length words ≤ i → rest_after text (drop i (texts words)) ≡ []
rest_after-past text words i past = rw (texts-past words i past) (rest_after-none text)

-- this word is not a name, and the names end before it
pub names_front-here : (words : List (String Global)) (i : ℕ) (word : String Global) → i < length words → word ≡ get_or words i word
    → is_file_name (string_bytes word) ≡ false → take i (texts words) ++ names_front (drop i (texts words)) ≡ texts (take i words)
names_front-here words i word within is no_name =
    ap (λ rest. take i (texts words) ++ names_front rest) (texts-rest words i word within is)
    ∙ ap (λ b. take i (texts words) ++ cond b (string_bytes word ∷ names_front (drop (i + 1) (texts words))) []) no_name
    ∙ append-nil (take i (texts words))
    ∙ take-map string_bytes i words

-- this word is a name, and the names continue
pub names_front-more : (words : List (String Global)) (i : ℕ) (word : String Global) → i < length words → word ≡ get_or words i word
    → is_file_name (string_bytes word) ≡ true
    → take i (texts words) ++ names_front (drop i (texts words)) ≡ take (i + 1) (texts words) ++ names_front (drop (i + 1) (texts words))
names_front-more words i word within is is_name =
    ap (λ rest. take i (texts words) ++ names_front rest) (texts-rest words i word within is)
    ∙ ap (λ b. take i (texts words) ++ cond b (string_bytes word ∷ names_front (drop (i + 1) (texts words))) []) is_name
    ∙ sym (append_assoc (take i (texts words)) (string_bytes word ∷ []) (names_front (drop (i + 1) (texts words))))
    ∙ ap (λ front. front ++ names_front (drop (i + 1) (texts words))) (sym (texts-front words i word within is))

-- no word is left to be a name
pub names_front-past : (words : List (String Global)) (i : ℕ) → length words ≤ i → take i (texts words) ++ names_front (drop i (texts words)) ≡ texts words
names_front-past words i past =
    ap (λ rest. take i (texts words) ++ names_front rest) (texts-past words i past)
    ∙ append-nil (take i (texts words))
    ∙ take_all i (texts words) (rw length-map past)

none_left : (words : List (String Global)) (i : ℕ) → drop (i + 1) (take (i + 1) (texts words)) ≡ []
none_left words i =
    let all : i + 1 ≡ i + 1 + 0 = omega arith in
    ap (λ n. drop (i + 1) (take n (texts words))) all ∙ drop-take (i + 1) 0 (texts words)

-- the names at the place that is due, one word further
pub names-further : (due : List Place) (words : List (String Global)) (from i : ℕ) (word : String Global) → i < length words → from ≤ i → word ≡ get_or words i word
    → drop (cond (takes_names due) from (i + 1)) (take (i + 1) (texts words)) ≡ names_after due (drop from (take i (texts words))) (string_bytes word)
names-further [] words from i word within low is = none_left words i
names-further (Word slot ∷ places) words from i word within low is = none_left words i
names-further (Names list ∷ places) words from i word within low is =
    ap (drop from) (texts-front words i word within is)
    ∙ drop-append-le from (take i (texts words)) (string_bytes word ∷ [])
    (let long = length-take-le i (texts words) (let more = inside words i within in omega arith) in omega arith)

-- one word further
pub walk-more : (kind : CommandKind) (due : List Place) (words : List (String Global)) (from i : ℕ) (word : String Global) → i < length words → from ≤ i
    → word ≡ get_or words i word
    → walk kind (drop i (texts words)) due (drop from (take i (texts words))) (take i (texts words))
    ≡ go_on (due_after kind (reached due (drop from (take i (texts words))) (string_bytes word)) (drop from (take i (texts words))) (take i (texts words))
    (string_bytes word)) (i + 1)
    (λ later. walk kind (drop (i + 1) (texts words)) later
    (drop (cond (takes_names (reached due (drop from (take i (texts words))) (string_bytes word))) from (i + 1)) (take (i + 1) (texts words)))
    (take (i + 1) (texts words)))
walk-more kind due words from i word within low is =
    let short : i ≤ length (texts words) = (let within' = inside words i within in omega arith) in
    let names = drop from (take i (texts words)) in
    let here = reached due names (string_bytes word) in
    ap (λ rest. walk kind rest due names (take i (texts words))) (texts-rest words i word within is)
    ∙ ap (λ number. go_on (due_after kind here names (take i (texts words)) (string_bytes word)) (number + 1)
    (λ later. walk kind (drop (i + 1) (texts words)) later (names_after here names (string_bytes word)) (take i (texts words) ++ string_bytes word ∷ [])))
    (length-take-le i (texts words) short)
    ∙ ap (λ front. go_on (due_after kind here names (take i (texts words)) (string_bytes word)) (i + 1)
    (λ later. walk kind (drop (i + 1) (texts words)) later (names_after here names (string_bytes word)) front)) (sym (texts-front words i word within is))
    ∙ ap (λ run. go_on (due_after kind here names (take i (texts words)) (string_bytes word)) (i + 1)
    (λ later. walk kind (drop (i + 1) (texts words)) later run (take (i + 1) (texts words)))) (sym (names-further here words from i word within low is))

-- a part of the words, and the bytes of its words
pub names-texts : (words : List (String Global)) (from i : ℕ)
    → texts (take (length (take i words) - from) (drop from (take i words))) ≡ drop from (take i (texts words))
names-texts words from i =
    ap texts (take_rest (take i words) from)
    ∙ sym (drop-map string_bytes from (take i words))
    ∙ ap (drop from) (sym (take-map string_bytes i words))

-- what the parts of the words say of the walk
pub walk-step : (kind : CommandKind) (due : List Place) (words : List (String Global)) (from i : ℕ) (word : String Global) (text : List ℕ) (here : List Place)
    (later : Option (List Place))
    → i < length words → from ≤ i → word ≡ get_or words i word → text ≡ string_bytes word
    → here ≡ reached due (texts (take (length (take i words) - from) (drop from (take i words)))) text
    → later ≡ due_after kind here (texts (take (length (take i words) - from) (drop from (take i words)))) (texts (take i words)) text
    → walk kind (drop i (texts words)) due (drop from (take i (texts words))) (take i (texts words))
    ≡ go_on later (i + 1) (λ due. walk kind (drop (i + 1) (texts words)) due (drop (cond (takes_names here) from (i + 1)) (take (i + 1) (texts words)))
    (take (i + 1) (texts words)))
walk-step kind due words from i word text here later within low is bytes reaches says =
    let names = drop from (take i (texts words)) in
    let same : here ≡ reached due names (string_bytes word) =
    reaches ∙ ap (λ ns. reached due ns text) (names-texts words from i) ∙ ap (reached due names) bytes in
    let next : later ≡ due_after kind here names (take i (texts words)) (string_bytes word) =
    says
    ∙ ap (λ ns. due_after kind here ns (texts (take i words)) text) (names-texts words from i)
    ∙ ap (λ front. due_after kind here names front text) (sym (take-map string_bytes i words))
    ∙ ap (due_after kind here names (take i (texts words))) bytes in
    let rest = λ (h : List Place) (due : List Place). walk kind (drop (i + 1) (texts words)) due (drop (cond (takes_names h) from (i + 1)) (take (i + 1) (texts words)))
    (take (i + 1) (texts words)) in
    walk-more kind due words from i word within low is
    ∙ ap (λ h. go_on (due_after kind h names (take i (texts words)) (string_bytes word)) (i + 1) (rest h)) (sym same)
    ∙ ap (λ o. go_on o (i + 1) (rest here)) (sym next)

-- the names that are due begin within the words that stood
pub low-next : (takes : Bool) (from i next : ℕ) → from ≤ i → next ≡ cond takes from (i + 1) → next ≤ i + 1
low-next true from i next low is = omega arith
low-next false from i next low is = omega arith
