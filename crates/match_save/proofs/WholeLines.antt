-- Whole lines, read token after token.
use Rattle.std.proofs.Common.{◌≡◌, ℕ, true, false, List, [], ◌∷◌, Some, None, Ok, Err, refl, sym, ◌∙◌, ap}
use Rattle.match_save.specs.Inner.Readers.{Left, Reader, all_read, followed, go_on, if_none_left, paired, whole}
use Rattle.match_save.specs.Inner.Reading.{is_none_left, led_by, word}
use Rattle.match_save.proofs.Words.{word_passed}

module _ {A : Type 0} (r : Reader (List ℕ) A) (items : List (List ℕ)) (at : Left (List ℕ)) (from : at ≡ record { number = 0; items = items }) where
  -- a value after which nothing is left is the line's
  pub whole-read : (value : A) (left : Left (List ℕ)) → r at ≡ Ok (value, left) → is_none_left left.items ≡ true → Some value ≡ whole r items
  whole-read value left e is = sym (ap (λ l. all_read (r l)) (sym from) ∙ ap all_read e ∙ go left.items is) where
    go : (tokens : List (List ℕ)) → is_none_left tokens ≡ true → if_none_left value tokens ≡ Some value
    go [] is = refl
    go (token ∷ tokens) is = absurd (cc)

  -- one after which something is left is not
  pub whole-longer : (value : A) (left : Left (List ℕ)) → r at ≡ Ok (value, left) → is_none_left left.items ≡ false → None ≡ whole r items
  whole-longer value left e is = sym (ap (λ l. all_read (r l)) (sym from) ∙ ap all_read e ∙ go left.items is) where
    go : (tokens : List (List ℕ)) → is_none_left tokens ≡ false → if_none_left value tokens ≡ None
    go [] is = absurd (cc)
    go (token ∷ tokens) is = refl

  -- if a token is refused, the line has no value
  pub whole-refused : (k : ℕ) → r at ≡ Err k → None ≡ whole r items
  whole-refused k e = sym (ap (λ l. all_read (r l)) (sym from) ∙ ap all_read e)

module _ {A B : Type 0} (text : List ℕ) (r : Reader (List ℕ) A) (s : Reader (List ℕ) B) (at : Left (List ℕ)) where
  -- two values after a word, and where one is refused
  pub two-read : (a b left : Left (List ℕ)) (u : Unit {0}) (x : A) (y : B) → led_by text at ≡ Ok (u, a) → r a ≡ Ok (x, b) → s b ≡ Ok (y, left)
      → word text (followed r (λ _. s)) at ≡ Ok ((x, y), left)
  two-read a b left u x y passed first second = word_passed text (followed r (λ _. s)) at a u passed ∙ ap (go_on (λ _. s)) first ∙ ap (paired x) second

  pub two-first : (a : Left (List ℕ)) (u : Unit {0}) (k : ℕ) → led_by text at ≡ Ok (u, a) → r a ≡ Err k → word text (followed r (λ _. s)) at ≡ Err k
  two-first a u k passed first = word_passed text (followed r (λ _. s)) at a u passed ∙ ap (go_on (λ _. s)) first

  pub two-second : (a b : Left (List ℕ)) (u : Unit {0}) (x : A) (k : ℕ) → led_by text at ≡ Ok (u, a) → r a ≡ Ok (x, b) → s b ≡ Err k
      → word text (followed r (λ _. s)) at ≡ Err k
  two-second a b u x k passed first second = word_passed text (followed r (λ _. s)) at a u passed ∙ ap (go_on (λ _. s)) first ∙ ap (paired x) second
