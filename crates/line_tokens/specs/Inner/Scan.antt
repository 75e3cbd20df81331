-- Where a token begins and ends.
use Rattle.std.specs.Prelude.{ℕ, Bool, false, not, ◌||◌, List, [], ◌∷◌}
use Rattle.ant_base.specs.Lines.{is_separator}
use Rattle.line_tokens.specs.Tokens.{begins_comment}

-- whether a byte of a line belongs to a token: it isn't a separator and doesn't begin a comment
abbrev pub is_token_byte : ℕ → Bool
is_token_byte byte = not (is_separator byte || begins_comment byte)

-- whether a line begins with a token
abbrev pub begins_token : List ℕ → Bool
begins_token [] = false
begins_token (byte ∷ line) = is_token_byte byte
