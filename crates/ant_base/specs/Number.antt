-- Numbers in texts (the contest's files).
use Rattle.std.specs.Prelude.{ℕ, ◌&&◌, List, length, Option, Some, None, nat_le, if◌then◌else◌}
use Rattle.std.specs.Str.{all_ascii_digits}
use Rattle.std.specs.Str.Parse.{digits_value}

-- the value of 1 to 10 decimal digits, leading zeros included; any other text has none
unfoldable pub decimal_value : List ℕ → Option ℕ
decimal_value text = if nat_le 1 (length text) && nat_le (length text) 10 && all_ascii_digits text then Some (digits_value 10 text) else None

-- a number, if it is between the least and the greatest that are accepted
abbrev pub within : ℕ → ℕ → Option ℕ → Option ℕ
within least most None = None
within least most (Some n) = if nat_le least n && nat_le n most then Some n else None

-- the value of a text, if it is between them
abbrev pub number_within : ℕ → ℕ → List ℕ → Option ℕ
number_within least most text = within least most (decimal_value text)
