-- Tokens of single lines and of small texts, worked out.
use Rattle.std.proofs.Common.{◌≡◌, true, false, [], ◌∷◌, ◌++◌, map, Some, None, Ok, Err, codes, refl, arith}
use Rattle.std.proofs.lemmas.Fmt.{decimal_digit}
use Rattle.ant_base.specs.Number.{decimal_value}
use Rattle.line_tokens.specs.declared.refusal.LineFault.TheVariants.{UnknownWord, MissingToken, BadNumber, ExtraToken}
use Rattle.line_tokens.specs.Tokens.{is_bad_byte, has_bad_byte, tokens_of}
use Rattle.line_tokens.specs.Fields.{named, SpellsAll, line_text}
use Rattle.line_tokens.specs.Fields.LineField.{Word, Number}
use Rattle.line_tokens.specs.TokenLines.{lines_with_tokens}
use Rattle.line_tokens.specs.Faulty.{too_many}
use Rattle.line_tokens.specs.Steps.{take_word, take_number, take_end}
use Rattle.line_tokens.specs.FaultText.{refusal_text}

-- a comment begins at any `;`; lines are counted from 1 with those that have no token
lines_of_tokens : lines_with_tokens (codes "drop 0;x\n\n ; Move 0 0\n\tMove\t1 0 ; y")
    ≡ record { number = 1; tokens = codes "drop" ∷ codes "0" ∷ [] } ∷ record { number = 4; tokens = codes "Move" ∷ codes "1" ∷ codes "0" ∷ [] } ∷ []
lines_of_tokens = refl

-- a CR parts tokens, and a vertical tab doesn't
tokens_parted : map tokens_of ((codes "Drop" ++ 13 ∷ codes "0") ∷ (codes "Drop" ++ 11 ∷ codes "0") ∷ []) ≡ (codes "Drop" ∷ codes "0" ∷ []) ∷ ((codes "Drop" ++ 11 ∷ codes "0") ∷ []) ∷ []
tokens_parted = refl

-- good bytes are tab, LF, CR and 32 to 126
bytes_judged : map is_bad_byte (0 ∷ 8 ∷ 9 ∷ 10 ∷ 11 ∷ 12 ∷ 13 ∷ 14 ∷ 31 ∷ 32 ∷ 126 ∷ 127 ∷ 128 ∷ 255 ∷ [])
    ≡ true ∷ true ∷ false ∷ false ∷ true ∷ true ∷ false ∷ true ∷ true ∷ false ∷ false ∷ true ∷ true ∷ true ∷ []
bytes_judged = refl

-- one bad byte makes a token bad, wherever it stands
tokens_judged : map has_bad_byte ([] ∷ codes "ab~" ∷ (127 ∷ codes "ab") ∷ (codes "a" ++ 200 ∷ codes "b") ∷ (codes "ab" ++ 7 ∷ []) ∷ []) ≡ false ∷ false ∷ true ∷ true ∷ true ∷ []
tokens_judged = refl

-- a word is found in any ASCII case, the first of two that are alike, and no prefix of it
words_named : map (named (λ word. word) (codes "Left" ∷ codes "left" ∷ codes "Right" ∷ [])) (codes "LEFT" ∷ codes "right" ∷ codes "Righ" ∷ codes "" ∷ [])
    ≡ Some (codes "Left") ∷ Some (codes "Right") ∷ None ∷ None ∷ []
words_named = refl

-- a step takes one token, or says why not
word_taken : take_word (codes "Left" ∷ codes "Right" ∷ []) (codes "rIGHT" ∷ codes "x" ∷ []) ≡ Ok (1, codes "x" ∷ [])
word_taken = refl

no_word : take_word (codes "Left" ∷ codes "Right" ∷ []) (codes "up" ∷ codes "x" ∷ []) ≡ Err (record { fault = UnknownWord; bad_byte = false })
no_word = refl

no_token : take_number 0 9 [] ≡ Err (record { fault = MissingToken; bad_byte = false })
no_token = refl

numbers_taken : map (λ token. take_number 2 12 (token ∷ [])) (codes "2" ∷ codes "0000000012" ∷ [])
    ≡ Ok (2, []) ∷ Ok (12, []) ∷ []
unfolding decimal_value
numbers_taken = refl

numbers_refused : map (λ token. take_number 2 12 (token ∷ [])) (codes "1" ∷ codes "13" ∷ codes "00000000012" ∷ codes "2x" ∷ (50 ∷ 128 ∷ []) ∷ [])
    ≡ Err (record { fault = BadNumber; bad_byte = false }) ∷ Err (record { fault = BadNumber; bad_byte = false }) ∷ Err (record { fault = BadNumber; bad_byte = false })
    ∷ Err (record { fault = BadNumber; bad_byte = false }) ∷ Err (record { fault = BadNumber; bad_byte = true }) ∷ []
unfolding decimal_value
numbers_refused = refl

not_ended : take_end (codes "x" ∷ []) ≡ Err (record { fault = ExtraToken; bad_byte = false })
not_ended = refl

-- the line that has as many items before it as there may be is one too many
at_most_two : map (λ before. too_many 2 (λ line. line) before 7) (0 ∷ 1 ∷ 2 ∷ 3 ∷ []) ≡ None ∷ None ∷ Some 7 ∷ Some 7 ∷ []
at_most_two = refl

-- what is printed of fields: one space between them, numbers without leading zeros, LF at the end
line_printed : line_text (Word (codes "Turn") ∷ Word (codes "Left") ∷ Number 7 ∷ []) ≡ codes "Turn Left 7\n"
line_printed = rw (decimal_digit 7 (omega arith)) refl

-- a line spells its fields in any ASCII case and with leading zeros
line_spelled : SpellsAll (Word (codes "Turn") ∷ Word (codes "Left") ∷ Number 7 ∷ []) (codes "tURN" ∷ codes "LEFT" ∷ codes "0007" ∷ [])
unfolding decimal_value
line_spelled = (refl, (refl, (refl, tt)))

-- what is said of a line is its fault, or that its token has a bad byte
refusals_say : map (λ fault. refusal_text (record { fault = fault; bad_byte = false })) (UnknownWord ∷ MissingToken ∷ BadNumber ∷ ExtraToken ∷ [])
    ≡ codes "unknown word" ∷ codes "missing token" ∷ codes "bad number" ∷ codes "extra token" ∷ []
refusals_say = refl

bad_bytes_say : map (λ fault. refusal_text (record { fault = fault; bad_byte = true })) (UnknownWord ∷ BadNumber ∷ []) ≡ codes "bad byte" ∷ codes "bad byte" ∷ []
bad_bytes_say = refl
