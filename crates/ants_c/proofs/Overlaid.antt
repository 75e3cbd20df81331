-- Texts that are laid over a room, in one piece and in several.
use Rattle.std.proofs.Common.{◌≡◌, ◌≤◌, ◌+◌, ℕ, zero, suc, min, List, [], ◌∷◌, ◌++◌, length, take, drop, refl, sym, ap, ◌∙◌, arith, inl, inr}
use Rattle.std.proofs.lemmas.Bool.{cases_lt}
use Rattle.std.proofs.lemmas.List.{drop-append-le, length-append, length-take-le, take-append-le}
use native.Mathlib.Numerals.{unary_clauses}
use Rattle.ants_c.specs.Rooms.{IsLaid, counted, overlaid}

abbrev most : ℕ
most = 18446744073709551615

min_few : (n : ℕ) → n ≤ most → min n most ≡ n
min_few n few = omega (few, arith)

-- a text is laid over the room by a write of what fits
pub front_laid : (room piece : List ℕ) → take (min (length piece) (length room)) piece ++ drop (min (length piece) (length room)) room ≡ overlaid room piece
front_laid [] [] = refl
front_laid [] (code ∷ piece) = simp unary_clauses refl
front_laid (byte ∷ room) [] = simp unary_clauses refl
front_laid (byte ∷ room) (code ∷ piece) = simp unary_clauses (ap (λ (more : List ℕ). code ∷ more) (front_laid room piece))

-- a room keeps its length
pub overlaid-length : (room text : List ℕ) → length (overlaid room text) ≡ length room
overlaid-length [] text = refl
overlaid-length (byte ∷ room) [] = refl
overlaid-length (byte ∷ room) (code ∷ text) = ap suc (overlaid-length room text)

-- a text and then another after it
pub overlaid-append : (room text more : List ℕ) → overlaid room (text ++ more) ≡ take (length text) (overlaid room text) ++ overlaid (drop (length text) (overlaid room text)) more
overlaid-append [] [] more = refl
overlaid-append [] (code ∷ text) more = refl
overlaid-append (byte ∷ room) [] more = refl
overlaid-append (byte ∷ room) (code ∷ text) more = ap (λ (rest : List ℕ). code ∷ rest) (overlaid-append room text more)

-- what lies beyond a room changes nothing
pub beyond : (room text : List ℕ) (place : ℕ) → length room ≤ place → take place room ++ overlaid (drop place room) text ≡ room
beyond [] text zero long = refl
beyond [] text (suc place) long = refl
beyond (byte ∷ room) text zero long = absurd (omega arith)
beyond (byte ∷ room) text (suc place) long = ap (λ (rest : List ℕ). byte ∷ rest) (beyond room text place (omega arith))

-- a piece is laid from after a text, however its bytes were counted
counted_place : (room piece text : List ℕ) → length room ≤ most → take (min (length text) most) room ++ overlaid (drop (min (length text) most) room) piece
    ≡ take (length text) room ++ overlaid (drop (length text) room) piece
counted_place room piece text short = elim (cases_lt most (length text)) [
  | inl long ↦ beyond room piece (min (length text) most) (omega arith) ∙ sym (beyond room piece (length text) (omega arith))
  | inr few ↦ ap (λ (place : ℕ). take place room ++ overlaid (drop place room) piece) (min_few (length text) few)
]

-- a piece more is laid over what was laid
laid_on : (room before text piece : List ℕ) (pushed : ℕ) → room ≡ overlaid before text → pushed ≡ counted text → length before ≤ most
    → take pushed room ++ overlaid (drop pushed room) piece ≡ overlaid before (text ++ piece)
laid_on room before text piece pushed laid count short =
    rw (count, laid) (counted_place (overlaid before text) piece text (rw (overlaid-length before text) short) ∙ sym (overlaid-append before text piece))

-- and its bytes are counted on
counted_on : (text piece : List ℕ) → min (counted text + length piece) most ≡ counted (text ++ piece)
counted_on text piece = rw (length-append text piece) (omega arith)

-- a sink whose room is as its log says takes a piece more
pub laid_more : (room log piece : List ℕ) (pushed : ℕ) → IsLaid room pushed log → length room ≤ most
    → IsLaid (take pushed room ++ overlaid (drop pushed room) piece) (min (pushed + length piece) most) (log ++ piece)
laid_more room log piece pushed is short =
    let r = length room in
    let before = take r log in
    let text = drop r log in
    let whole : length before ≡ r = length-take-le r log is.long in
    let laid = laid_on room before text piece pushed is.laid is.count (rw whole short) in
    let same : length (overlaid before (text ++ piece)) ≡ r = overlaid-length before (text ++ piece) ∙ whole in
    rw laid (record {
      long = rw (same, length-append log piece) (omega (is.long, arith));
      laid = rw (same, take-append-le r log piece is.long, drop-append-le r log piece is.long) refl;
      count = rw (same, drop-append-le r log piece is.long, is.count) (counted_on text piece);
    })
