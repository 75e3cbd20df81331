-- Lines cut into pieces, one after another.
use Rattle.std.proofs.Common.{◌≡◌, ℕ, suc, ◌+◌, ◌-◌, ◌<◌, ◌≤◌, Bool, true, false, not, cond, eqb, List, [], ◌∷◌, length, take, drop, refl, sym, ◌∙◌, ap, arith}
use Rattle.std.specs.List.{onto_first, prefix_len}
use Rattle.std.proofs.lemmas.List.{take_all}
use Rattle.match_save.specs.Inner.Reading.{is_none_left, pieces}

-- how many bytes stand before the first space
abbrev pub token_length : List ℕ → ℕ
token_length text = prefix_len (λ byte. not (eqb byte 32)) text

-- the pieces after the first space
abbrev pub pieces_after : List ℕ → List (List ℕ)
pieces_after [] = []
pieces_after (byte ∷ text) = pieces text

-- the first piece ends before the first space
pub pieces-cut : (text : List ℕ) → pieces text ≡ take (token_length text) text ∷ pieces_after (drop (token_length text) text)
pieces-cut [] = refl
pieces-cut (byte ∷ text) = go (eqb byte 32) (pieces-cut text) where
  go : (space : Bool) → pieces text ≡ take (token_length text) text ∷ pieces_after (drop (token_length text) text)
      → cond space ([] ∷ pieces text) (onto_first byte (pieces text)) ≡ take (cond (not space) (1 + token_length text) 0) (byte ∷ text) ∷ pieces_after (drop (cond (not space) (1 + token_length text) 0) (byte ∷ text))
  go true cut = refl
  go false cut = let next : 1 + token_length text ≡ suc (token_length text) = omega arith in rw next (ap (onto_first byte) cut)

pub pieces_not_done : (line : List ℕ) → false ≡ is_none_left (pieces line)
pieces_not_done line = ap is_none_left (sym (pieces-cut line))

length-onto : (byte : ℕ) (line : List ℕ) → length (onto_first byte (pieces line)) ≡ length (pieces line)
length-onto byte line = ap (λ cut. length (onto_first byte cut)) (pieces-cut line) ∙ ap length (sym (pieces-cut line))

-- there is at most one piece more than bytes
pub length-pieces : (line : List ℕ) → length (pieces line) ≤ length line + 1
length-pieces [] = omega arith
length-pieces (byte ∷ line) =
    elim (eqb byte 32) as (λ b. length (cond b ([] ∷ pieces line) (onto_first byte (pieces line))) ≤ suc (length line) + 1)
    [ true ↦ omega (arith, length-pieces line) | false ↦ omega (arith, length-pieces line, length-onto byte line) ]

-- a line without a space after its first token
pub cut_last : (text token : List ℕ) (k : ℕ) → k ≡ token_length text → token ≡ take k text → drop k text ≡ [] → pieces text ≡ token ∷ []
cut_last text token k is_k is_token none =
    pieces-cut text ∙ ap (λ n. take n text ∷ pieces_after (drop n text)) (sym is_k) ∙ ap (λ r. take k text ∷ pieces_after r) none ∙ ap (λ t. t ∷ []) (sym is_token)

-- a line with a space after its first token
pub cut_next : (text token rest : List ℕ) (k : ℕ) → k ≡ token_length text → token ≡ take k text → 1 ≤ length (drop k text) → rest ≡ drop 1 (drop k text) → pieces text ≡ token ∷ pieces rest
cut_next text token rest k is_k is_token some is_rest =
    pieces-cut text ∙ ap (λ n. take n text ∷ pieces_after (drop n text)) (sym is_k) ∙ ap (λ t. t ∷ pieces_after (drop k text)) (sym is_token)
    ∙ ap (λ l. token ∷ l) (after (drop k text) some ∙ ap pieces (sym is_rest))
  where
    after : (l : List ℕ) → 1 ≤ length l → pieces_after l ≡ pieces (drop 1 l)
    after [] more = absurd (let wrong : ⊥ = omega (arith, more) in wrong)
    after (byte ∷ l) more = refl

pub none_below : (l : List ℕ) → length l < 1 → l ≡ []
none_below [] few = refl
none_below (byte ∷ l) few = absurd (let wrong : ⊥ = omega (arith, few) in wrong)

pub tail-is : (l : List ℕ) → take (length l - 1) (drop 1 l) ≡ drop 1 l
tail-is [] = refl
tail-is (byte ∷ l) = take_all (length (byte ∷ l) - 1) l (omega arith)
