-- The words of a call after its first.
use Rattle.std.proofs.Common.{◌≡◌, ℕ, List, [], ◌∷◌, drop, refl, ap, arith}
use Rattle.ant_base.specs.Lines.{after_line, lines_of}
use Rattle.ant_base.proofs.Linewise.{lines_of-first}

-- the lines after the first one are those of what follows it
pub lines_after_first : (text : List ℕ) → drop 1 (lines_of text) ≡ lines_of (after_line text)
lines_after_first [] = refl
lines_after_first (byte ∷ text) = ap (λ (lines : List (List ℕ)). drop 1 lines) (lines_of-first (byte ∷ text) (omega arith))
