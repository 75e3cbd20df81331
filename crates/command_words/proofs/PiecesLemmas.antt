-- The first piece of a text, and the pieces after it.
use Rattle.std.proofs.Common.{◌≡◌, ℕ, ◌+◌, suc, Bool, true, false, not, cond, List, [], ◌∷◌, take, drop, ◌==◌, refl, arith}
use Rattle.std.specs.List.{prefix_len, onto_first}
use Rattle.command_words.specs.Slots.{pieces_of}
use Rattle.command_words.specs.Inner.Pieces.{pieces_left, after_byte}

-- how many bytes stand before the first comma
abbrev pub piece_length : List ℕ → ℕ
piece_length text = prefix_len (λ byte. not (byte == 44)) text

onto_cut : (byte : ℕ) (text : List ℕ) (n : ℕ) → pieces_of text ≡ take n text ∷ pieces_left (after_byte (drop n text))
    → onto_first byte (pieces_of text) ≡ take (1 + n) (byte ∷ text) ∷ pieces_left (after_byte (drop (1 + n) (byte ∷ text)))
onto_cut byte text n cut = let next : 1 + n ≡ suc n = omega arith in rw (next, cut) refl

-- a text is its first piece, and then the pieces of what follows that piece and its comma, if there is one
pub pieces_of_cut : (text : List ℕ) → pieces_of text ≡ take (piece_length text) text ∷ pieces_left (after_byte (drop (piece_length text) text))
pieces_of_cut [] = refl
pieces_of_cut (byte ∷ text) = go (byte == 44) (pieces_of_cut text) where
  go : (comma : Bool) → pieces_of text ≡ take (piece_length text) text ∷ pieces_left (after_byte (drop (piece_length text) text))
      → cond comma ([] ∷ pieces_of text) (onto_first byte (pieces_of text))
      ≡ take (cond (not comma) (1 + piece_length text) 0) (byte ∷ text) ∷ pieces_left (after_byte (drop (cond (not comma) (1 + piece_length text) 0) (byte ∷ text)))
  go true cut = refl
  go false cut = onto_cut byte text (piece_length text) cut
