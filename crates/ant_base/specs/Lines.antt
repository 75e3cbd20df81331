-- Lines of a text, and separators in a line (the contest's files).
use Rattle.std.specs.Prelude.{ℕ, ◌-◌, Bool, not, ◌||◌, List, [], ◌∷◌, length, take, drop, ◌==◌, if◌then◌else◌}
use Rattle.std.specs.Io.BufRead.{ends_with_byte}
use Rattle.std.specs.List.{list_all, prefix_len, suffix_len, onto_first}

-- whether a byte is LF
abbrev pub is_lf : ℕ → Bool
is_lf byte = byte == 10

-- whether a text ends in LF
abbrev pub ends_in_lf : List ℕ → Bool
ends_in_lf text = ends_with_byte 10 text

-- the lines of a text: its pieces between LF bytes, and no further line after a last LF; so `codes "a\nb\n"` has the
-- lines `a` and `b`
abbrev pub lines_of : List ℕ → List (List ℕ)
lines_of [] = []
lines_of (byte ∷ text) = if is_lf byte then [] ∷ lines_of text else onto_first byte (lines_of text)

-- the first line of a text, without its LF
abbrev pub first_line : List ℕ → List ℕ
first_line [] = []
first_line (byte ∷ text) = if is_lf byte then [] else byte ∷ first_line text

-- what follows the first line and its LF
abbrev pub after_line : List ℕ → List ℕ
after_line [] = []
after_line (byte ∷ text) = if is_lf byte then text else after_line text

-- whether a text has no LF, and so is within one line
abbrev pub has_no_lf : List ℕ → Bool
has_no_lf text = list_all (λ byte. not (is_lf byte)) text

-- whether a byte is a separator: a space, a tab or a CR
abbrev pub is_separator : ℕ → Bool
is_separator byte = (byte == 32) || (byte == 9) || (byte == 13)

-- whether a line has only separators
abbrev pub is_blank : List ℕ → Bool
is_blank line = list_all is_separator line

-- what follows the separators at the front of a line
abbrev pub after_separators : List ℕ → List ℕ
after_separators line = drop (prefix_len is_separator line) line

-- a line without the separators at its front and at its end
abbrev pub trimmed : List ℕ → List ℕ
trimmed line =
    let rest = drop (prefix_len is_separator line) line in take (length rest - suffix_len is_separator rest) rest
