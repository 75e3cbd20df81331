-- Comments, tokens and bad bytes of a line, as the clauses of the public calls use them (the task's neurology, as this
-- project spells its files).
use Rattle.std.specs.Prelude.{ℕ, Bool, true, false, not, ◌||◌, ◌&&◌, ◌==◌, nat_le, List, [], ◌∷◌, filter, if◌then◌else◌}
use Rattle.std.specs.List.{slice_split, list_any}
use Rattle.ant_base.specs.Lines.{is_separator}

-- whether a byte begins a comment
abbrev pub begins_comment : ℕ → Bool
begins_comment byte = byte == 59

-- what precedes the comment of a line; a comment begins with `;`, the byte 59
abbrev pub before_comment : List ℕ → List ℕ
before_comment [] = []
before_comment (byte ∷ line) = if byte == 59 then [] else byte ∷ before_comment line

-- whether a list isn't empty: a token has a byte, or a line a token
abbrev pub has_any : {A : Type 0} → List A → Bool
has_any [] = false
has_any (value ∷ values) = true

-- the tokens of a line: the pieces, between separators, of what precedes its comment
abbrev pub tokens_of : List ℕ → List (List ℕ)
tokens_of line = filter has_any (slice_split is_separator (before_comment line))

-- whether there is a token
abbrev pub has_token : List (List ℕ) → Bool
has_token tokens = has_any tokens

-- whether a byte is bad: any byte except tab, LF, CR and 32 to 126
abbrev pub is_bad_byte : ℕ → Bool
is_bad_byte byte = not ((byte == 9) || (byte == 10) || (byte == 13) || (nat_le 32 byte && nat_le byte 126))

-- whether a token has a bad byte
abbrev pub has_bad_byte : List ℕ → Bool
has_bad_byte token = list_any is_bad_byte token
