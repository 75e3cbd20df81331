-- How names and labels are spelled (this project's own).
use Rattle.std.specs.Prelude.{ℕ, Bool, false, not, ◌||◌, ◌&&◌, ◌==◌, nat_le, List, [], ◌∷◌, length, codes, Option, Some, None, if◌then◌else◌}
use Rattle.std.specs.List.{list_all}
use Rattle.std.specs.Str.{str_eq_ignore_ascii_case}

-- how a label is spelled: as the word `next`, or as a name
pub data Named : Type 0 where
  NextWord : Named
  Name : List ℕ → Named

-- whether a byte is an ASCII letter
abbrev pub is_letter : ℕ → Bool
is_letter byte = (nat_le 65 byte && nat_le byte 90) || (nat_le 97 byte && nat_le byte 122)

-- whether a byte may be in a name: a letter, a digit or `_`
abbrev pub is_name_byte : ℕ → Bool
is_name_byte byte = (is_letter byte || (nat_le 48 byte && nat_le byte 57)) || (byte == 95)

-- whether all bytes may be in a name
abbrev pub are_name_bytes : List ℕ → Bool
are_name_bytes bytes = list_all is_name_byte bytes

-- whether the first byte is a letter
abbrev pub begins_with_letter : List ℕ → Bool
begins_with_letter [] = false
begins_with_letter (byte ∷ bytes) = is_letter byte

-- whether a token is the word `next`, in any ASCII case
unfoldable pub is_next : List ℕ → Bool
is_next token = str_eq_ignore_ascii_case (codes "next") token

-- Whether a token is a name: 1 to 32 letters, digits and `_`. It begins with a letter, and isn't the word `next`.
unfoldable pub is_name : List ℕ → Bool
is_name token = (begins_with_letter token && nat_le (length token) 32) && (are_name_bytes token && not (is_next token))

-- the name of a token, if it is one
abbrev pub name_of : List ℕ → Option (List ℕ)
name_of token = if is_name token then Some token else None

-- the label of a token, if it is one
abbrev pub label_of : List ℕ → Option Named
label_of token = if is_next token then Some NextWord else (if is_name token then Some (Name token) else None)

-- one more byte in front
abbrev pub with_first : ℕ → Option (List ℕ) → Option (List ℕ)
with_first byte None = None
with_first byte (Some front) = Some (byte ∷ front)

-- what precedes the `:` at the end of a token, if there is one
abbrev pub before_colon : List ℕ → Option (List ℕ)
before_colon [] = None
before_colon (byte ∷ []) = if byte == 58 then Some [] else None
before_colon (byte ∷ other ∷ bytes) = with_first byte (before_colon (other ∷ bytes))

-- what precedes the `:` at the end of a token, if that is a name
abbrev pub name_if : Option (List ℕ) → Option (List ℕ)
name_if None = None
name_if (Some front) = name_of front
