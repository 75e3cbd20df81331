-- What is read of a line is spelled so, and what is spelled so is read.
use Rattle.std.proofs.Common.{◌≡◌, ◌≤◌, ℕ, List, [], ◌∷◌, codes, Some, Ok, slice_get, refl, subst, arith}
use Rattle.cell_world.specs.declared.ant.Colour.{Colour}
use Rattle.cell_world.specs.declared.ant.Colour.TheVariants.{Red, Black}
use Rattle.ant_base.specs.Number.{decimal_value}
use Rattle.word_table.specs.Words.{IsSameWord}
use Rattle.line_tokens.specs.Steps.{take_word}
use Rattle.line_tokens.specs.Fields.{SpellsAll}
use Rattle.line_tokens.specs.Fields.LineField.{Word, Number}
use Rattle.line_tokens.proofs.PlacesLemmas.{Names}
use Rattle.line_tokens.proofs.StepsLemmas.{Takes, then_taken, then_again, bind_step, word_step, then_word, then_end, number_takes, named_takes, IsWithin, given, given_end}
use Rattle.break_view.specs.declared.breaks.Break.{Break}
use Rattle.break_view.specs.declared.breaks.Break.TheVariants.{Round, State, Stand, Food, Killed, Score}
use Rattle.break_view.specs.declared.words.BreakWord.{BreakWord}
use Rattle.break_view.specs.Forms.{word_of_break, word_of_colour, most_number, BreakLine}
use Rattle.break_view.specs.Inner.Places.{break_words, colour_words, break_at, colour_at, place_of_colour}
use Rattle.break_view.specs.Inner.Steps.{take_colour, take_any}
use Rattle.break_view.specs.Inner.Reading.{read_number, read_coloured, read_stand, read_food, read_form, read_line}

pub break_names : Names break_words 6 (λ i. word_of_break (break_at i))
unfolding break_words
break_names = record { distinct = refl; good = refl; count = refl; named = refl }

pub colour_names : Names colour_words 2 (λ i. word_of_colour (colour_at i))
unfolding colour_words
colour_names = record { distinct = refl; good = refl; count = refl; named = refl }

-- a number that a break may have
abbrev pub IsAny : ℕ → List ℕ → Type 0
IsAny = IsWithin 0 most_number

pub any_takes : Takes take_any IsAny
unfolding take_any
any_takes = number_takes 0 most_number

pub colour_stands : (c : Colour) → slice_get colour_words (place_of_colour c) ≡ Some (word_of_colour c)
unfolding colour_words
colour_stands Red = refl
colour_stands Black = refl

colour_back : (c : Colour) → colour_at (place_of_colour c) ≡ c
colour_back Red = refl
colour_back Black = refl

-- a colour's word
abbrev pub IsColour : Colour → List ℕ → Type 0
IsColour c = IsSameWord (word_of_colour c)

pub colour_takes : Takes take_colour IsColour
unfolding take_colour
colour_takes = named_takes colour_words colour_at word_of_colour 2 colour_names place_of_colour colour_stands colour_back

-- after this first word the tokens are those of the break
record IsRest (word : List ℕ) (item : Break) (tokens : List (List ℕ)) : Type 0 where
  line : (first : List ℕ) → IsSameWord word first → BreakLine (first ∷ tokens) item

number_spelled : (word : List ℕ) (make : ℕ → Break) → ((n : ℕ) (t : List ℕ) → IsAny n t → IsRest word (make n) (t ∷ [])) → (tokens : List (List ℕ)) (item : Break) → read_number make tokens ≡ Ok item → IsRest word item tokens
unfolding read_number
number_spelled word make made tokens item e =
    then_taken any_takes tokens _ item (IsRest word item) e (λ n t1 r1 h1 e1.
    then_end r1 (make n) item (λ r. IsRest word item (t1 ∷ r)) e1 (λ q. subst (λ j. IsRest word j (t1 ∷ [])) q (made n t1 h1)))

coloured_spelled : (word : List ℕ) (make : Colour → ℕ → Break) → ((c : Colour) (n : ℕ) (t1 t2 : List ℕ) → IsColour c t1 → IsAny n t2 → IsRest word (make c n) (t1 ∷ t2 ∷ [])) → (tokens : List (List ℕ)) (item : Break) → read_coloured make tokens ≡ Ok item → IsRest word item tokens
unfolding read_coloured
coloured_spelled word make made tokens item e =
    then_taken colour_takes tokens _ item (IsRest word item) e (λ c t1 r1 h1 e1.
    then_taken any_takes r1 _ item (λ r. IsRest word item (t1 ∷ r)) e1 (λ n t2 r2 h2 e2.
    then_end r2 (make c n) item (λ r. IsRest word item (t1 ∷ t2 ∷ r)) e2 (λ q. subst (λ j. IsRest word j (t1 ∷ t2 ∷ [])) q (made c n t1 t2 h1 h2))))

stand_spelled : (tokens : List (List ℕ)) (item : Break) → read_stand tokens ≡ Ok item → IsRest (codes "Stand") item tokens
unfolding read_stand
stand_spelled tokens item e =
    then_taken colour_takes tokens _ item (IsRest (codes "Stand") item) e (λ c t1 r1 h1 e1.
    then_taken any_takes r1 _ item (λ r. IsRest (codes "Stand") item (t1 ∷ r)) e1 (λ x t2 r2 h2 e2.
    then_taken any_takes r2 _ item (λ r. IsRest (codes "Stand") item (t1 ∷ t2 ∷ r)) e2 (λ y t3 r3 h3 e3.
    then_end r3 (Stand c x y) item (λ r. IsRest (codes "Stand") item (t1 ∷ t2 ∷ t3 ∷ r)) e3 (λ q.
    subst (λ j. IsRest (codes "Stand") j (t1 ∷ t2 ∷ t3 ∷ [])) q (record { line = λ first h. record { spelled = (h, (h1, (h2.value, (h3.value, tt)))); in_range = (tt, (tt, (h2.high, (h3.high, tt)))) } })))))

food_spelled : (tokens : List (List ℕ)) (item : Break) → read_food tokens ≡ Ok item → IsRest (codes "Food") item tokens
unfolding read_food
food_spelled tokens item e =
    then_taken any_takes tokens _ item (IsRest (codes "Food") item) e (λ x t1 r1 h1 e1.
    then_taken any_takes r1 _ item (λ r. IsRest (codes "Food") item (t1 ∷ r)) e1 (λ y t2 r2 h2 e2.
    then_taken any_takes r2 _ item (λ r. IsRest (codes "Food") item (t1 ∷ t2 ∷ r)) e2 (λ n t3 r3 h3 e3.
    then_end r3 (Food x y n) item (λ r. IsRest (codes "Food") item (t1 ∷ t2 ∷ t3 ∷ r)) e3 (λ q.
    subst (λ j. IsRest (codes "Food") j (t1 ∷ t2 ∷ t3 ∷ [])) q (record { line = λ first h. record { spelled = (h, (h1.value, (h2.value, (h3.value, tt)))); in_range = (tt, (h1.high, (h2.high, (h3.high, tt)))) } })))))

form_spelled : (word : BreakWord) (first : List ℕ) (rest : List (List ℕ)) (item : Break) → IsSameWord (word_of_break word) first → read_form word rest ≡ Ok item → BreakLine (first ∷ rest) item
form_spelled BreakWord.Round first rest item h e = (number_spelled (codes "Round") Round (λ n t w. record { line = λ f s. record { spelled = (s, (w.value, tt)); in_range = (tt, (w.high, tt)) } }) rest item e).line first h
form_spelled BreakWord.State first rest item h e = (coloured_spelled (codes "State") State (λ c n t1 t2 is w. record { line = λ f s. record { spelled = (s, (is, (w.value, tt))); in_range = (tt, (tt, (w.high, tt))) } }) rest item e).line first h
form_spelled BreakWord.Stand first rest item h e = (stand_spelled rest item e).line first h
form_spelled BreakWord.Food first rest item h e = (food_spelled rest item e).line first h
form_spelled BreakWord.Killed first rest item h e = (number_spelled (codes "Killed") Killed (λ n t w. record { line = λ f s. record { spelled = (s, (w.value, tt)); in_range = (tt, (w.high, tt)) } }) rest item e).line first h
form_spelled BreakWord.Score first rest item h e = (coloured_spelled (codes "Score") Score (λ c n t1 t2 is w. record { line = λ f s. record { spelled = (s, (is, (w.value, tt))); in_range = (tt, (tt, (w.high, tt))) } }) rest item e).line first h

-- what is read of a line is spelled so
pub line_spelled : (tokens : List (List ℕ)) (item : Break) → read_line tokens ≡ Ok item → BreakLine tokens item
unfolding read_line
line_spelled tokens item e = then_word break_names tokens (λ w. read_form (break_at w.0) w.1) item (λ ts. BreakLine ts item) e (λ p first rest h q. form_spelled (break_at p) first rest item h q)

-- a number of a break
any : (n : ℕ) (token : List ℕ) → decimal_value token ≡ Some n → n ≤ most_number → IsAny n token
any n token is high = record { value = is; low = omega arith; high = high }

number_again : (make : ℕ → Break) (n : ℕ) (tokens : List (List ℕ)) → SpellsAll (Number n ∷ []) tokens → n ≤ most_number → read_number make tokens ≡ Ok (make n)
unfolding read_number
number_again make n tokens h high =
    given (Number n) [] tokens (λ ts. read_number make ts ≡ Ok (make n)) h (λ t1 r1 h1 k1.
    given_end r1 (λ r. read_number make (t1 ∷ r) ≡ Ok (make n)) k1
    (then_again any_takes n t1 [] _ _ (any n t1 h1 high) refl))

coloured_again : (make : Colour → ℕ → Break) (c : Colour) (n : ℕ) (tokens : List (List ℕ)) → SpellsAll (Word (word_of_colour c) ∷ Number n ∷ []) tokens → n ≤ most_number → read_coloured make tokens ≡ Ok (make c n)
unfolding read_coloured
coloured_again make c n tokens h high =
    given (Word (word_of_colour c)) (Number n ∷ []) tokens (λ ts. read_coloured make ts ≡ Ok (make c n)) h (λ t1 r1 h1 k1.
    given (Number n) [] r1 (λ r. read_coloured make (t1 ∷ r) ≡ Ok (make c n)) k1 (λ t2 r2 h2 k2.
    given_end r2 (λ r. read_coloured make (t1 ∷ t2 ∷ r) ≡ Ok (make c n)) k2
    (then_again colour_takes c t1 (t2 ∷ []) _ _ h1 (then_again any_takes n t2 [] _ _ (any n t2 h2 high) refl))))

stand_again : (c : Colour) (x y : ℕ) (tokens : List (List ℕ)) → SpellsAll (Word (word_of_colour c) ∷ Number x ∷ Number y ∷ []) tokens → x ≤ most_number → y ≤ most_number → read_stand tokens ≡ Ok (Stand c x y)
unfolding read_stand
stand_again c x y tokens h x_high y_high =
    given (Word (word_of_colour c)) (Number x ∷ Number y ∷ []) tokens (λ ts. read_stand ts ≡ Ok (Stand c x y)) h (λ t1 r1 h1 k1.
    given (Number x) (Number y ∷ []) r1 (λ r. read_stand (t1 ∷ r) ≡ Ok (Stand c x y)) k1 (λ t2 r2 h2 k2.
    given (Number y) [] r2 (λ r. read_stand (t1 ∷ t2 ∷ r) ≡ Ok (Stand c x y)) k2 (λ t3 r3 h3 k3.
    given_end r3 (λ r. read_stand (t1 ∷ t2 ∷ t3 ∷ r) ≡ Ok (Stand c x y)) k3
    (then_again colour_takes c t1 (t2 ∷ t3 ∷ []) _ _ h1 (then_again any_takes x t2 (t3 ∷ []) _ _ (any x t2 h2 x_high) (then_again any_takes y t3 [] _ _ (any y t3 h3 y_high) refl))))))

food_again : (x y n : ℕ) (tokens : List (List ℕ)) → SpellsAll (Number x ∷ Number y ∷ Number n ∷ []) tokens → x ≤ most_number → y ≤ most_number → n ≤ most_number → read_food tokens ≡ Ok (Food x y n)
unfolding read_food
food_again x y n tokens h x_high y_high n_high =
    given (Number x) (Number y ∷ Number n ∷ []) tokens (λ ts. read_food ts ≡ Ok (Food x y n)) h (λ t1 r1 h1 k1.
    given (Number y) (Number n ∷ []) r1 (λ r. read_food (t1 ∷ r) ≡ Ok (Food x y n)) k1 (λ t2 r2 h2 k2.
    given (Number n) [] r2 (λ r. read_food (t1 ∷ t2 ∷ r) ≡ Ok (Food x y n)) k2 (λ t3 r3 h3 k3.
    given_end r3 (λ r. read_food (t1 ∷ t2 ∷ t3 ∷ r) ≡ Ok (Food x y n)) k3
    (then_again any_takes x t1 (t2 ∷ t3 ∷ []) _ _ (any x t1 h1 x_high) (then_again any_takes y t2 (t3 ∷ []) _ _ (any y t2 h2 y_high) (then_again any_takes n t3 [] _ _ (any n t3 h3 n_high) refl))))))

-- the first word of a line, and what is read after it
form_step : (i : ℕ) (w first : List ℕ) (rest : List (List ℕ)) (item : Break) → slice_get break_words i ≡ Some w → IsSameWord w first → read_form (break_at i) rest ≡ Ok item → read_line (first ∷ rest) ≡ Ok item
unfolding read_line
form_step i w first rest item stands same next =
    bind_step (take_word break_words (first ∷ rest)) (λ p. read_form (break_at p.0) p.1) (i, rest) (Ok item) (word_step break_names i w first rest stands same) next

-- what is spelled so is read
pub line_again : (item : Break) (tokens : List (List ℕ)) → BreakLine tokens item → read_line tokens ≡ Ok item
unfolding break_words
line_again (Round n) tokens line =
    given (Word (codes "Round")) (Number n ∷ []) tokens (λ ts. read_line ts ≡ Ok (Round n)) line.spelled
    (λ first rest h k. form_step 0 (codes "Round") first rest (Round n) refl h (number_again Round n rest k line.in_range.1.0))
line_again (State c n) tokens line =
    given (Word (codes "State")) (Word (word_of_colour c) ∷ Number n ∷ []) tokens (λ ts. read_line ts ≡ Ok (State c n)) line.spelled
    (λ first rest h k. form_step 1 (codes "State") first rest (State c n) refl h (coloured_again State c n rest k line.in_range.1.1.0))
line_again (Stand c x y) tokens line =
    given (Word (codes "Stand")) (Word (word_of_colour c) ∷ Number x ∷ Number y ∷ []) tokens (λ ts. read_line ts ≡ Ok (Stand c x y)) line.spelled
    (λ first rest h k. form_step 2 (codes "Stand") first rest (Stand c x y) refl h (stand_again c x y rest k line.in_range.1.1.0 line.in_range.1.1.1.0))
line_again (Food x y n) tokens line =
    given (Word (codes "Food")) (Number x ∷ Number y ∷ Number n ∷ []) tokens (λ ts. read_line ts ≡ Ok (Food x y n)) line.spelled
    (λ first rest h k. form_step 3 (codes "Food") first rest (Food x y n) refl h (food_again x y n rest k line.in_range.1.0 line.in_range.1.1.0 line.in_range.1.1.1.0))
line_again (Killed n) tokens line =
    given (Word (codes "Killed")) (Number n ∷ []) tokens (λ ts. read_line ts ≡ Ok (Killed n)) line.spelled
    (λ first rest h k. form_step 4 (codes "Killed") first rest (Killed n) refl h (number_again Killed n rest k line.in_range.1.0))
line_again (Score c n) tokens line =
    given (Word (codes "Score")) (Word (word_of_colour c) ∷ Number n ∷ []) tokens (λ ts. read_line ts ≡ Ok (Score c n)) line.spelled
    (λ first rest h k. form_step 5 (codes "Score") first rest (Score c n) refl h (coloured_again Score c n rest k line.in_range.1.1.0))
