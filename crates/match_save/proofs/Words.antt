-- A word at the front, and what is read after it.
use Rattle.std.proofs.Common.{◌≡◌, ℕ, ◌+◌, Bool, true, false, cond, List, [], ◌∷◌, Option, Some, Result, Ok, Err, refl, sym, ◌∙◌, ap, codes}
use Rattle.std.specs.Str.{bytes_eq}
use Rattle.match_save.specs.Draft.{most_counted}
use Rattle.match_save.specs.Inner.Readers.{Left, Reader, followed, go_on, led, made, next_element, next_of, nothing, one, one_of, paired, taken}
use Rattle.match_save.specs.Inner.Reading.{first_line, head_of, led_by, line_of, named_number_of, read_head, sheet_tokens, size_tokens, counts_tokens, standing_parts, word}

module _ {A : Type 0} (text : List ℕ) (r : Reader (List ℕ) A) where
  -- after a word that was passed, what follows is read
  pub word_passed : (at left : Left (List ℕ)) (nothing_read : Unit {0}) → led_by text at ≡ Ok (nothing_read, left) → word text r at ≡ r left
  word_passed at left u e = go at.items at.number e where
    go : (items : List (List ℕ)) (n : ℕ) → led {A = Unit {0}} (bytes_eq text) (nothing tt) n items ≡ Ok (u, left) → led (bytes_eq text) r n items ≡ r left
    go [] n is = absurd (cc)
    go (token ∷ tokens) n is = test (bytes_eq text token) is where
      test : (b : Bool) → cond {A = Result (Unit {0} × Left (List ℕ)) ℕ} b (Ok (tt, record { number = n + 1; items = tokens })) (Err n) ≡ Ok (u, left) → cond b (r (record { number = n + 1; items = tokens })) (Err n) ≡ r left
      test false is = absurd (cc)
      test true is =
          let pair : ◌≡◌ {A = Unit {0} × Left (List ℕ)} (tt, record { number = n + 1; items = tokens }) (u, left) = cc in
          ap (λ (z : Unit {0} × Left (List ℕ)). r z.1) pair

  -- if the word is refused, all is
  pub word_refused : (at : Left (List ℕ)) (k : ℕ) → led_by text at ≡ Err k → word text r at ≡ Err k
  word_refused at k e = go at.items at.number e where
    go : (items : List (List ℕ)) (n : ℕ) → led {A = Unit {0}} (bytes_eq text) (nothing tt) n items ≡ Err k → led (bytes_eq text) r n items ≡ Err k
    go [] n is = (let s : n ≡ k = cc in ap Err s)
    go (token ∷ tokens) n is = test (bytes_eq text token) is where
      test : (b : Bool) → cond {A = Result (Unit {0} × Left (List ℕ)) ℕ} b (Ok (tt, record { number = n + 1; items = tokens })) (Err n) ≡ Err k → cond b (r (record { number = n + 1; items = tokens })) (Err n) ≡ Err k
      test true is = absurd (cc)
      test false is = (let s : n ≡ k = cc in ap Err s)

-- the element that was taken is the first
record Took {E : Type 0} (at left : Left E) (x : E) : Type 0 where
  rest : List E
  items : at.items ≡ x ∷ rest
  is_left : left ≡ record { number = at.number + 1; items = rest }

took : {E : Type 0} (at left : Left E) (x : E) → next_element at ≡ Ok (x, left) → Took at left x
took {E} at left x e = go at.items refl e where
  go : (items : List E) → at.items ≡ items → next_of at.number items ≡ Ok (x, left) → Took at left x
  go [] is told = absurd (cc)
  go (y ∷ rest) is told =
      let pair : ◌≡◌ {A = E × Left E} (y, record { number = at.number + 1; items = rest }) (x, left) = cc in
      let first : y ≡ x = ap (λ (z : E × Left E). z.0) pair in
      record { rest = rest; items = is ∙ ap (λ (z : E). z ∷ rest) first; is_left = sym (ap (λ (z : E × Left E). z.1) pair) }

-- the first line, as it should be and otherwise
pub first_passed : (at left : Left (List ℕ)) (line : List ℕ) → next_element at ≡ Ok (line, left) → bytes_eq (codes "ants save 1") line ≡ true → first_line at ≡ Ok (tt, left)
first_passed at left line e is =
    let t = took at left line e in
    ap (led {A = Unit {0}} (bytes_eq (codes "ants save 1")) (nothing tt) at.number) t.items
    ∙ ap (λ (b : Bool). cond {A = Result (Unit {0} × Left (List ℕ)) ℕ} b (Ok (tt, record { number = at.number + 1; items = t.rest })) (Err at.number)) is
    ∙ ap (λ (l : Left (List ℕ)). Ok (tt, l)) (sym t.is_left)

pub first_refused : (at left : Left (List ℕ)) (line : List ℕ) → next_element at ≡ Ok (line, left) → bytes_eq (codes "ants save 1") line ≡ false → first_line at ≡ Err at.number
first_refused at left line e is =
    let t = took at left line e in
    ap (led {A = Unit {0}} (bytes_eq (codes "ants save 1")) (nothing tt) at.number) t.items
    ∙ ap (λ (b : Bool). cond {A = Result (Unit {0} × Left (List ℕ)) ℕ} b (Ok (tt, record { number = at.number + 1; items = t.rest })) (Err at.number)) is

-- an element that was taken is read as its value
pub one_taken : {E A : Type 0} (parse : E → Option A) (at left : Left E) (x : E) (a : A) → next_element at ≡ Ok (x, left) → parse x ≡ Some a → one parse at ≡ Ok (a, left)
one_taken {E} {A} parse at left x a e is =
    let t = took at left x e in
    ap (one_of parse at.number) t.items ∙ ap (λ (o : Option A). taken o at.number t.rest) is ∙ ap (λ (l : Left E). Ok (a, l)) (sym t.is_left)

-- the first eight lines are read one after another
pub head-read : (at a b c e : Left (List ℕ)) (u : Unit {0}) (seed : ℕ) (sheet : ℕ × (ℕ × ℕ)) (standing : ℕ × (ℕ × (ℕ × ((ℕ × ℕ) × (ℕ × ℕ)))))
    → first_line at ≡ Ok (u, a) → one (named_number_of (codes "seed") 0 4294967295) a ≡ Ok (seed, b) → line_of sheet_tokens b ≡ Ok (sheet, c) → standing_parts c ≡ Ok (standing, e)
    → read_head at ≡ Ok (head_of (seed, (sheet, standing)), e)
head-read at a b c e u seed sheet standing first second third fourth =
    ap (made head_of) (
    word_passed (codes "ants save 1") (followed (one (named_number_of (codes "seed") 0 4294967295)) (λ (n : ℕ). followed (line_of sheet_tokens) (λ (z : ℕ × (ℕ × ℕ)). standing_parts))) at a u first
    ∙ ap (go_on (λ (n : ℕ). followed (line_of sheet_tokens) (λ (z : ℕ × (ℕ × ℕ)). standing_parts))) second
    ∙ ap (paired seed) (ap (go_on (λ (z : ℕ × (ℕ × ℕ)). standing_parts)) third ∙ ap (paired sheet) fourth))

-- what is read after the seed, and after the sheet
abbrev behind_seed : ℕ → Reader (List ℕ) ((ℕ × (ℕ × ℕ)) × (ℕ × (ℕ × (ℕ × ((ℕ × ℕ) × (ℕ × ℕ))))))
behind_seed seed = followed (line_of sheet_tokens) (λ sheet. standing_parts)

-- if one of the first lines is refused, all are
pub head-first : (at : Left (List ℕ)) (k : ℕ) → first_line at ≡ Err k → read_head at ≡ Err k
head-first at k first = ap (made head_of) (word_refused (codes "ants save 1") (followed (one (named_number_of (codes "seed") 0 4294967295)) behind_seed) at k first)

module _ (at a : Left (List ℕ)) (u : Unit {0}) (first : first_line at ≡ Ok (u, a)) where
  pub head-seed : (k : ℕ) → one (named_number_of (codes "seed") 0 4294967295) a ≡ Err k → read_head at ≡ Err k
  head-seed k second =
      ap (made head_of) (word_passed (codes "ants save 1") (followed (one (named_number_of (codes "seed") 0 4294967295)) behind_seed) at a u first ∙ ap (go_on behind_seed) second)

  module _ (b : Left (List ℕ)) (seed : ℕ) (second : one (named_number_of (codes "seed") 0 4294967295) a ≡ Ok (seed, b)) where
    pub head-later : (k : ℕ) → behind_seed seed b ≡ Err k → read_head at ≡ Err k
    head-later k later =
        ap (made head_of) (word_passed (codes "ants save 1") (followed (one (named_number_of (codes "seed") 0 4294967295)) behind_seed) at a u first ∙ ap (go_on behind_seed) second ∙ ap (paired seed) later)

    pub head-sheet : (k : ℕ) → line_of sheet_tokens b ≡ Err k → read_head at ≡ Err k
    head-sheet k third = head-later k (ap (go_on (λ (z : ℕ × (ℕ × ℕ)). standing_parts)) third)

    pub head-standing : (c : Left (List ℕ)) (sheet : ℕ × (ℕ × ℕ)) (k : ℕ) → line_of sheet_tokens b ≡ Ok (sheet, c) → standing_parts c ≡ Err k → read_head at ≡ Err k
    head-standing c sheet k third fourth = head-later k (ap (go_on (λ (z : ℕ × (ℕ × ℕ)). standing_parts)) third ∙ ap (paired sheet) fourth)

-- what is read after the counts, the place, the round and the window
abbrev behind_counts : ℕ × ℕ → Reader (List ℕ) (ℕ × ℕ)
behind_counts counts = line_of size_tokens

abbrev behind_place : ℕ → Reader (List ℕ) ((ℕ × ℕ) × (ℕ × ℕ))
behind_place place = followed (line_of counts_tokens) behind_counts

abbrev behind_round : ℕ → Reader (List ℕ) (ℕ × ((ℕ × ℕ) × (ℕ × ℕ)))
behind_round round = followed (one (named_number_of (codes "place") 0 most_counted)) behind_place

abbrev behind_window : ℕ → Reader (List ℕ) (ℕ × (ℕ × ((ℕ × ℕ) × (ℕ × ℕ))))
behind_window window = followed (one (named_number_of (codes "round") 0 1000000)) behind_round

-- the lines of the standing are read one after another, and the first that is refused refuses all
pub standing-first : (at : Left (List ℕ)) (k : ℕ) → one (named_number_of (codes "window") 1 16384) at ≡ Err k → standing_parts at ≡ Err k
standing-first at k first = ap (go_on behind_window) first

module _ (at a : Left (List ℕ)) (window : ℕ) (first : one (named_number_of (codes "window") 1 16384) at ≡ Ok (window, a)) where
  pub standing-second : (k : ℕ) → one (named_number_of (codes "round") 0 1000000) a ≡ Err k → standing_parts at ≡ Err k
  standing-second k second = ap (go_on behind_window) first ∙ ap (paired window) (ap (go_on behind_round) second)

  module _ (b : Left (List ℕ)) (round : ℕ) (second : one (named_number_of (codes "round") 0 1000000) a ≡ Ok (round, b)) where
    pub standing-third : (k : ℕ) → one (named_number_of (codes "place") 0 most_counted) b ≡ Err k → standing_parts at ≡ Err k
    standing-third k third = ap (go_on behind_window) first ∙ ap (paired window) (ap (go_on behind_round) second ∙ ap (paired round) (ap (go_on behind_place) third))

    module _ (c : Left (List ℕ)) (place : ℕ) (third : one (named_number_of (codes "place") 0 most_counted) b ≡ Ok (place, c)) where
      pub standing-fourth : (k : ℕ) → line_of counts_tokens c ≡ Err k → standing_parts at ≡ Err k
      standing-fourth k fourth =
          ap (go_on behind_window) first
          ∙ ap (paired window) (ap (go_on behind_round) second ∙ ap (paired round) (ap (go_on behind_place) third ∙ ap (paired place) (ap (go_on behind_counts) fourth)))

      module _ (e : Left (List ℕ)) (counts : ℕ × ℕ) (fourth : line_of counts_tokens c ≡ Ok (counts, e)) where
        pub standing-fifth : (k : ℕ) → line_of size_tokens e ≡ Err k → standing_parts at ≡ Err k
        standing-fifth k fifth =
            ap (go_on behind_window) first
            ∙ ap (paired window) (ap (go_on behind_round) second ∙ ap (paired round) (ap (go_on behind_place) third ∙ ap (paired place) (ap (go_on behind_counts) fourth ∙ ap (paired counts) fifth)))

        pub standing-read : (left : Left (List ℕ)) (sizes : ℕ × ℕ) → line_of size_tokens e ≡ Ok (sizes, left) → standing_parts at ≡ Ok ((window, (round, (place, (counts, sizes)))), left)
        standing-read left sizes fifth =
            ap (go_on behind_window) first
            ∙ ap (paired window) (ap (go_on behind_round) second ∙ ap (paired round) (ap (go_on behind_place) third ∙ ap (paired place) (ap (go_on behind_counts) fourth ∙ ap (paired counts) fifth)))
