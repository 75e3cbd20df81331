-- Words for a reader that doesn't know the option `--far` of `run`.
use Rattle.std.specs.Prelude.{◌≡◌, ℕ, Bool, true, false, ◌&&◌, if◌then◌else◌, List, [], ◌∷◌, map}
use Rattle.std.specs.List.{list_any}
use Rattle.std.specs.Str.{bytes_eq}
use Rattle.command_words.specs.declared.table.CommandKind.TheVariants.{Run}
use Rattle.command_words.specs.declared.table.Choice.TheVariants.{Far}
use Rattle.command_words.specs.Command.{PlainAsked, IsCommand}
use Rattle.command_words.specs.Table.{option_of, word_of}

-- whether the first word is `run`, and `--far` is among them, rightly or wrongly
abbrev pub is_far_run : List (List ℕ) → Bool
is_far_run [] = false
is_far_run (word ∷ words) = bytes_eq word (word_of Run) && list_any (λ other. bytes_eq other (option_of Far)) words

-- a word, if no command has `--far`: it is treated as the empty word, which no command has either
abbrev pub word_without_far : List ℕ → List ℕ
word_without_far word = if bytes_eq word (option_of Far) then [] else word

-- the words, if `--far` isn't an option of `run`; for other commands it never is
abbrev pub words_without_far : List (List ℕ) → List (List ℕ)
words_without_far words = if is_far_run words then map word_without_far words else words

-- such a reader refuses each command that has the option, and reads all others unchanged
pub record RefusesFar : Type 0 where
  pub refused : (words : List (List ℕ)) (asked : PlainAsked) → is_far_run words ≡ true
      → ¬ IsCommand (words_without_far words) asked
  pub others : (words : List (List ℕ)) → is_far_run words ≡ false → words_without_far words ≡ words
