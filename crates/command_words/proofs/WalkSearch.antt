-- Looking for a word, one word after another.
use Rattle.std.proofs.Common.{◌≡◌, ℕ, true, false, ◌||◌, List, [], ◌∷◌, ◌++◌, cond, bytes_eq, refl, ap, ◌∙◌}
use Rattle.std.specs.List.{AllByRecursion}
use Rattle.std.proofs.lemmas.List.Folds.{list_any-append}
use Rattle.command_words.specs.Slots.{is_file_name}
use Rattle.command_words.specs.Command.{is_among, rest_after, names_front}

-- a word among two lists is among one of them
pub is_among-append : (word : List ℕ) (front back : List (List ℕ)) → is_among word (front ++ back) ≡ (is_among word front || is_among word back)
unfolding is_among
is_among-append word front back = list_any-append (λ other. bytes_eq other word) front back

pub is_among-none : (word : List ℕ) → is_among word [] ≡ false
unfolding is_among
is_among-none word = refl

pub is_among-one : (word other : List ℕ) → is_among word (other ∷ []) ≡ (bytes_eq other word || false)
unfolding is_among
is_among-one word other = refl

pub is_among-cons : (word other : List ℕ) (words : List (List ℕ)) → is_among word (other ∷ words) ≡ (bytes_eq other word || is_among word words)
unfolding is_among
is_among-cons word other words = refl

-- the first word is the one
pub is_among-first : (word other : List ℕ) (words : List (List ℕ)) → bytes_eq other word ≡ true → is_among word (other ∷ words) ≡ true
is_among-first word other words same = is_among-cons word other words ∙ ap (λ b. b || is_among word words) same

-- the first word is another
pub is_among-next : (word other : List ℕ) (words : List (List ℕ)) → bytes_eq other word ≡ false → is_among word (other ∷ words) ≡ is_among word words
is_among-next word other words differs = is_among-cons word other words ∙ ap (λ b. b || is_among word words) differs

pub rest_after-none : (text : List ℕ) → rest_after text [] ≡ []
unfolding rest_after
rest_after-none text = refl

pub rest_after-cons : (text word : List ℕ) (words : List (List ℕ)) → rest_after text (word ∷ words) ≡ cond (bytes_eq word text) words (rest_after text words)
unfolding rest_after
rest_after-cons text word words = refl

-- the first word is the one
pub rest_after-first : (text word : List ℕ) (words : List (List ℕ)) → bytes_eq word text ≡ true → rest_after text (word ∷ words) ≡ words
rest_after-first text word words same = rest_after-cons text word words ∙ ap (λ b. cond b words (rest_after text words)) same

-- the first word is another
pub rest_after-next : (text word : List ℕ) (words : List (List ℕ)) → bytes_eq word text ≡ false → rest_after text (word ∷ words) ≡ rest_after text words
rest_after-next text word words differs = rest_after-cons text word words ∙ ap (λ b. cond b words (rest_after text words)) differs

-- none of the words is the one
abbrev pub Unlike : List ℕ → List (List ℕ) → Type 0
Unlike text words = AllByRecursion (λ word. bytes_eq word text ≡ false) words

pub is_among-unlike : (text : List ℕ) (words : List (List ℕ)) → Unlike text words → is_among text words ≡ false
is_among-unlike text [] unlike = is_among-none text
is_among-unlike text (word ∷ words) unlike = is_among-next text word words unlike.0 ∙ is_among-unlike text words unlike.1

pub rest_after-unlike : (text : List ℕ) (words more : List (List ℕ)) → Unlike text words → rest_after text (words ++ more) ≡ rest_after text more
rest_after-unlike text [] more unlike = refl
rest_after-unlike text (word ∷ words) more unlike = rest_after-next text word (words ++ more) unlike.0 ∙ rest_after-unlike text words more unlike.1

-- the words begin with no file name
abbrev pub NoName : List (List ℕ) → Type 0
NoName [] = Unit {0}
NoName (word ∷ words) = is_file_name word ≡ false

pub names_front-none : (words : List (List ℕ)) → NoName words → names_front words ≡ []
names_front-none [] no_name = refl
names_front-none (word ∷ words) no_name = ap (λ b. cond b (word ∷ names_front words) []) no_name

-- names, and then no name
pub names_front-run : (names words : List (List ℕ)) → AllByRecursion (λ name. is_file_name name ≡ true) names → NoName words → names_front (names ++ words) ≡ names
names_front-run [] words each no_name = names_front-none words no_name
names_front-run (name ∷ names) words each no_name =
    ap (λ b. cond b (name ∷ names_front (names ++ words)) []) each.0 ∙ ap (λ ns. name ∷ ns) (names_front-run names words each.1 no_name)
