-- Pieces of a text that are left.
use Rattle.std.specs.Prelude.{ℕ, List, [], ◌∷◌, Option, Some, None}
use Rattle.command_words.specs.Slots.{pieces_of}

-- the pieces of what is left of a text, if anything is
abbrev pub pieces_left : Option (List ℕ) → List (List ℕ)
pieces_left None = []
pieces_left (Some text) = pieces_of text

-- what follows the first byte, if there is one
abbrev pub after_byte : List ℕ → Option (List ℕ)
after_byte [] = None
after_byte (byte ∷ rest) = Some rest
