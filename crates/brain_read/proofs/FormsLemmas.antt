-- What is read of a line is spelled so, and what is spelled so is read.
use Rattle.std.proofs.Common.{◌≡◌, ◌<◌, ◌≤◌, ℕ, List, [], ◌∷◌, codes, Some, Ok, slice_get, refl, sym, ◌∙◌, subst, arith}
use Rattle.hex_geometry.specs.declared.direction.Side.{Side}
use Rattle.hex_geometry.specs.declared.direction.Side.TheVariants.{Left, Right}
use Rattle.hex_geometry.specs.declared.neighbourhood.Sight.{Sight}
use Rattle.hex_geometry.specs.declared.neighbourhood.Sight.TheVariants.{Here}
use Rattle.ant_base.specs.Number.{decimal_value}
use Rattle.word_table.specs.Words.{IsSameWord}
use Rattle.line_tokens.proofs.StepsLemmas.{bind_step, Takes, then_taken, then_again, IsWithin, number_takes, named_takes, then_word, word_step, then_end, bind_assoc, given, given_end}
use Rattle.brain_read.specs.declared.instr.Cond.{Cond}
use Rattle.brain_read.specs.declared.instr.Cond.TheVariants.{Friend, Foe, FriendWithFood, FoeWithFood, Food, Rock, Marker, FoeMarker, Home, FoeHome}
use Rattle.brain_read.specs.declared.instr.Instr.{Instr}
use Rattle.brain_read.specs.declared.instr.Instr.TheVariants.{Sense, Mark, Unmark, PickUp, Drop, Turn, Move, Flip}
use Rattle.brain_read.specs.declared.form.Form.{Form}
use Rattle.brain_read.specs.declared.form.ConditionWord.{ConditionWord}
use Rattle.brain_read.specs.Soundness.{IsSoundCondition}
use Rattle.line_tokens.specs.Steps.{Read, Step, ◌>>=◌, take_word, take_end}
use Rattle.brain_read.specs.Steps.{take_sight, take_side, take_state, take_marker, take_bound, condition_from, take_condition}
use Rattle.line_tokens.specs.Fields.{SpellsAll}
use Rattle.brain_read.specs.Forms.{most_bound, form_words, sight_words, side_words, condition_words, word_of_form, word_of_sight, word_of_side, word_of_condition, fields_of_condition, fields_of, IsInRange, InstrLine}
use Rattle.line_tokens.specs.Fields.LineField.{Word, Number}
use Rattle.brain_read.specs.Inner.Places.{place_of_form, place_of_sight, place_of_side, place_of_condition}
use Rattle.brain_read.specs.Places.{form_at, sight_at, side_at, condition_word_at}
use Rattle.brain_read.specs.Reading.{read_sense, read_marked, read_branches, read_drop, read_turn, read_flip, read_form, read_line}
use Rattle.line_tokens.proofs.PlacesLemmas.{Names, decimal_value-small}

pub form_names : Names form_words 8 (λ i. word_of_form (form_at i))
unfolding form_words
form_names = record { distinct = refl; good = refl; count = refl; named = refl }

pub sight_names : Names sight_words 4 (λ i. word_of_sight (sight_at i))
unfolding sight_words
sight_names = record { distinct = refl; good = refl; count = refl; named = refl }

pub side_names : Names side_words 2 (λ i. word_of_side (side_at i))
unfolding side_words
side_names = record { distinct = refl; good = refl; count = refl; named = refl }

pub condition_names : Names condition_words 10 (λ i. word_of_condition (condition_word_at i))
unfolding condition_words
condition_names = record { distinct = refl; good = refl; count = refl; named = refl }

pub marker_takes : Takes take_marker (IsWithin 0 5)
unfolding take_marker
marker_takes = number_takes 0 5

pub bound_takes : Takes take_bound (IsWithin 1 most_bound)
unfolding take_bound
bound_takes = number_takes 1 most_bound

pub state_takes : Takes take_state (λ n token. decimal_value token ≡ Some n)
unfolding take_state
state_takes = record {
  taken = λ tokens n rest e. let t = (number_takes 0 9999999999).taken tokens n rest e in record { token = t.token; front = t.front; spelled = t.spelled.value };
  again = λ n token rest is. (number_takes 0 9999999999).again n token rest (record { value = is; low = omega arith; high = decimal_value-small token n is });
}

pub sight_stands : (s : Sight) → slice_get sight_words (place_of_sight s) ≡ Some (word_of_sight s)
unfolding sight_words
sight_stands Here = refl
sight_stands it = refl

-- the sight at the place of a sight is that sight, and so is a side
pub sight_at-place_of_sight : (s : Sight) → sight_at (place_of_sight s) ≡ s
sight_at-place_of_sight Here = refl
sight_at-place_of_sight it = refl

pub side_stands : (s : Side) → slice_get side_words (place_of_side s) ≡ Some (word_of_side s)
unfolding side_words
side_stands Left = refl
side_stands Right = refl

pub side_at-place_of_side : (s : Side) → side_at (place_of_side s) ≡ s
side_at-place_of_side Left = refl
side_at-place_of_side Right = refl

pub sight_takes : Takes take_sight (λ s. IsSameWord (word_of_sight s))
unfolding take_sight
sight_takes = named_takes sight_words sight_at word_of_sight 4 sight_names place_of_sight sight_stands sight_at-place_of_sight

pub side_takes : Takes take_side (λ s. IsSameWord (word_of_side s))
unfolding take_side
side_takes = named_takes side_words side_at word_of_side 2 side_names place_of_side side_stands side_at-place_of_side

-- the end of the line, and then this instruction
abbrev pub ending : (Cond → Instr) → Cond × List (List ℕ) → Read Instr
ending g condition = take_end condition.1 >>= (λ end. Ok (g condition.0))

module _ (g : Cond → Instr) (y : Instr) (P : List (List ℕ) → Type 0) (k : (c : Cond) (front : List (List ℕ)) → SpellsAll (fields_of_condition c) front → IsSoundCondition c → g c ≡ y → P front) where
  condition_rest : (w : ConditionWord) (token : List ℕ) (rest : List (List ℕ)) → IsSameWord (word_of_condition w) token → (condition_from w rest >>= ending g) ≡ Ok y → P (token ∷ rest)
  condition_rest ConditionWord.Friend token rest h e = then_end rest (g Friend) y (λ r. P (token ∷ r)) e (λ q. k Friend (token ∷ []) (h, tt) tt q)
  condition_rest ConditionWord.Foe token rest h e = then_end rest (g Foe) y (λ r. P (token ∷ r)) e (λ q. k Foe (token ∷ []) (h, tt) tt q)
  condition_rest ConditionWord.FriendWithFood token rest h e = then_end rest (g FriendWithFood) y (λ r. P (token ∷ r)) e (λ q. k FriendWithFood (token ∷ []) (h, tt) tt q)
  condition_rest ConditionWord.FoeWithFood token rest h e = then_end rest (g FoeWithFood) y (λ r. P (token ∷ r)) e (λ q. k FoeWithFood (token ∷ []) (h, tt) tt q)
  condition_rest ConditionWord.Food token rest h e = then_end rest (g Food) y (λ r. P (token ∷ r)) e (λ q. k Food (token ∷ []) (h, tt) tt q)
  condition_rest ConditionWord.Rock token rest h e = then_end rest (g Rock) y (λ r. P (token ∷ r)) e (λ q. k Rock (token ∷ []) (h, tt) tt q)
  condition_rest ConditionWord.Marker token rest h e =
      then_taken marker_takes rest (λ m. ending g (Marker m.0, m.1)) y (λ r. P (token ∷ r)) (sym (bind_assoc (take_marker rest) (λ m. Ok (Marker m.0, m.1)) (ending g)) ∙ e)
      (λ m number r w q. then_end r (g (Marker m)) y (λ s. P (token ∷ number ∷ s)) q (λ same. let below : m < 6 = (let high = w.high in omega arith) in k (Marker m) (token ∷ number ∷ []) (h, (w.value, tt)) below same))
  condition_rest ConditionWord.FoeMarker token rest h e = then_end rest (g FoeMarker) y (λ r. P (token ∷ r)) e (λ q. k FoeMarker (token ∷ []) (h, tt) tt q)
  condition_rest ConditionWord.Home token rest h e = then_end rest (g Home) y (λ r. P (token ∷ r)) e (λ q. k Home (token ∷ []) (h, tt) tt q)
  condition_rest ConditionWord.FoeHome token rest h e = then_end rest (g FoeHome) y (λ r. P (token ∷ r)) e (λ q. k FoeHome (token ∷ []) (h, tt) tt q)

  -- the condition at the end of a line
  then_condition : (tokens : List (List ℕ)) → (take_condition tokens >>= ending g) ≡ Ok y → P tokens
  unfolding take_condition
  then_condition tokens e =
      then_word condition_names tokens (λ w. condition_from (condition_word_at w.0) w.1 >>= ending g) y P
      (sym (bind_assoc (take_word condition_words tokens) (λ w. condition_from (condition_word_at w.0) w.1) (ending g)) ∙ e)
      (λ i token rest h q. condition_rest (condition_word_at i) token rest h q)

-- after this first word the tokens are those of the instruction
pub record IsRest (word : List ℕ) (instruction : Instr) (tokens : List (List ℕ)) : Type 0 where
  pub spelled : (first : List ℕ) → IsSameWord word first → SpellsAll (fields_of instruction) (first ∷ tokens)
  pub in_range : IsInRange instruction

sense_spelled : (tokens : List (List ℕ)) (i : Instr) → read_sense tokens ≡ Ok i → IsRest (codes "Sense") i tokens
unfolding read_sense
sense_spelled tokens i e =
    then_taken sight_takes tokens _ i (IsRest (codes "Sense") i) e (λ s t1 r1 h1 e1.
    then_taken state_takes r1 _ i (λ r. IsRest (codes "Sense") i (t1 ∷ r)) e1 (λ m t2 r2 h2 e2.
    then_taken state_takes r2 _ i (λ r. IsRest (codes "Sense") i (t1 ∷ t2 ∷ r)) e2 (λ u t3 r3 h3 e3.
    then_condition (Sense s m u) i (λ r. IsRest (codes "Sense") i (t1 ∷ t2 ∷ t3 ∷ r)) (λ c front hc sound q.
    subst (λ j. IsRest (codes "Sense") j (t1 ∷ t2 ∷ t3 ∷ front)) q (record { spelled = λ first h. (h, (h1, (h2, (h3, hc)))); in_range = sound })) r3 e3)))

-- a marker within its bounds is below 6
below_six : (m : ℕ) (token : List ℕ) → IsWithin 0 5 m token → m < 6
below_six m token w = let high = w.high in omega arith

marked_spelled : (word : List ℕ) (make : ℕ → ℕ → Instr) → ((m n : ℕ) (t1 t2 : List ℕ) → IsWithin 0 5 m t1 → decimal_value t2 ≡ Some n → IsRest word (make m n) (t1 ∷ t2 ∷ [])) → (tokens : List (List ℕ)) (i : Instr) → read_marked make tokens ≡ Ok i → IsRest word i tokens
unfolding read_marked
marked_spelled word make made tokens i e =
    then_taken marker_takes tokens _ i (IsRest word i) e (λ m t1 r1 h1 e1.
    then_taken state_takes r1 _ i (λ r. IsRest word i (t1 ∷ r)) e1 (λ n t2 r2 h2 e2.
    then_end r2 (make m n) i (λ r. IsRest word i (t1 ∷ t2 ∷ r)) e2 (λ q. subst (λ j. IsRest word j (t1 ∷ t2 ∷ [])) q (made m n t1 t2 h1 h2))))

branches_spelled : (word : List ℕ) (make : ℕ → ℕ → Instr) → ((m u : ℕ) (t1 t2 : List ℕ) → decimal_value t1 ≡ Some m → decimal_value t2 ≡ Some u → IsRest word (make m u) (t1 ∷ t2 ∷ [])) → (tokens : List (List ℕ)) (i : Instr) → read_branches make tokens ≡ Ok i → IsRest word i tokens
unfolding read_branches
branches_spelled word make made tokens i e =
    then_taken state_takes tokens _ i (IsRest word i) e (λ m t1 r1 h1 e1.
    then_taken state_takes r1 _ i (λ r. IsRest word i (t1 ∷ r)) e1 (λ u t2 r2 h2 e2.
    then_end r2 (make m u) i (λ r. IsRest word i (t1 ∷ t2 ∷ r)) e2 (λ q. subst (λ j. IsRest word j (t1 ∷ t2 ∷ [])) q (made m u t1 t2 h1 h2))))

drop_spelled : (tokens : List (List ℕ)) (i : Instr) → read_drop tokens ≡ Ok i → IsRest (codes "Drop") i tokens
unfolding read_drop
drop_spelled tokens i e =
    then_taken state_takes tokens _ i (IsRest (codes "Drop") i) e (λ n t1 r1 h1 e1.
    then_end r1 (Drop n) i (λ r. IsRest (codes "Drop") i (t1 ∷ r)) e1 (λ q.
    subst (λ j. IsRest (codes "Drop") j (t1 ∷ [])) q (record { spelled = λ first h. (h, (h1, tt)); in_range = tt })))

turn_spelled : (tokens : List (List ℕ)) (i : Instr) → read_turn tokens ≡ Ok i → IsRest (codes "Turn") i tokens
unfolding read_turn
turn_spelled tokens i e =
    then_taken side_takes tokens _ i (IsRest (codes "Turn") i) e (λ s t1 r1 h1 e1.
    then_taken state_takes r1 _ i (λ r. IsRest (codes "Turn") i (t1 ∷ r)) e1 (λ n t2 r2 h2 e2.
    then_end r2 (Turn s n) i (λ r. IsRest (codes "Turn") i (t1 ∷ t2 ∷ r)) e2 (λ q.
    subst (λ j. IsRest (codes "Turn") j (t1 ∷ t2 ∷ [])) q (record { spelled = λ first h. (h, (h1, (h2, tt))); in_range = tt }))))

flip_spelled : (tokens : List (List ℕ)) (i : Instr) → read_flip tokens ≡ Ok i → IsRest (codes "Flip") i tokens
unfolding read_flip
flip_spelled tokens i e =
    then_taken bound_takes tokens _ i (IsRest (codes "Flip") i) e (λ b t1 r1 h1 e1.
    then_taken state_takes r1 _ i (λ r. IsRest (codes "Flip") i (t1 ∷ r)) e1 (λ m t2 r2 h2 e2.
    then_taken state_takes r2 _ i (λ r. IsRest (codes "Flip") i (t1 ∷ t2 ∷ r)) e2 (λ u t3 r3 h3 e3.
    then_end r3 (Flip b m u) i (λ r. IsRest (codes "Flip") i (t1 ∷ t2 ∷ t3 ∷ r)) e3 (λ q.
    subst (λ j. IsRest (codes "Flip") j (t1 ∷ t2 ∷ t3 ∷ [])) q (record { spelled = λ first h. (h, (h1.value, (h2, (h3, tt)))); in_range = (h1.low, h1.high) })))))

whole : (word : List ℕ) (i : Instr) (first : List ℕ) (rest : List (List ℕ)) → IsSameWord word first → IsRest word i rest → InstrLine (first ∷ rest) i
whole word i first rest h r = record { spelled = r.spelled first h; in_range = r.in_range }

form_spelled : (form : Form) (first : List ℕ) (rest : List (List ℕ)) (i : Instr) → IsSameWord (word_of_form form) first → read_form form rest ≡ Ok i → InstrLine (first ∷ rest) i
form_spelled Form.Sense first rest i h e = whole (codes "Sense") i first rest h (sense_spelled rest i e)
form_spelled Form.Mark first rest i h e = whole (codes "Mark") i first rest h (marked_spelled (codes "Mark") Mark (λ m n t1 t2 w is. record { spelled = λ word same. (same, (w.value, (is, tt))); in_range = below_six m t1 w }) rest i e)
form_spelled Form.Unmark first rest i h e = whole (codes "Unmark") i first rest h (marked_spelled (codes "Unmark") Unmark (λ m n t1 t2 w is. record { spelled = λ word same. (same, (w.value, (is, tt))); in_range = below_six m t1 w }) rest i e)
form_spelled Form.PickUp first rest i h e = whole (codes "PickUp") i first rest h (branches_spelled (codes "PickUp") PickUp (λ m u t1 t2 h1 h2. record { spelled = λ word same. (same, (h1, (h2, tt))); in_range = tt }) rest i e)
form_spelled Form.Drop first rest i h e = whole (codes "Drop") i first rest h (drop_spelled rest i e)
form_spelled Form.Turn first rest i h e = whole (codes "Turn") i first rest h (turn_spelled rest i e)
form_spelled Form.Move first rest i h e = whole (codes "Move") i first rest h (branches_spelled (codes "Move") Move (λ m u t1 t2 h1 h2. record { spelled = λ word same. (same, (h1, (h2, tt))); in_range = tt }) rest i e)
form_spelled Form.Flip first rest i h e = whole (codes "Flip") i first rest h (flip_spelled rest i e)

-- what is read of a line is spelled so
pub line_spelled : (tokens : List (List ℕ)) (i : Instr) → read_line tokens ≡ Ok i → InstrLine tokens i
unfolding read_line
line_spelled tokens i e = then_word form_names tokens (λ w. read_form (form_at w.0) w.1) i (λ ts. InstrLine ts i) e (λ p first rest h q. form_spelled (form_at p) first rest i h q)

condition_step : (i : ℕ) (word token : List ℕ) (rest : List (List ℕ)) (y : Step Cond) → slice_get condition_words i ≡ Some word → IsSameWord word token → condition_from (condition_word_at i) rest ≡ y → take_condition (token ∷ rest) ≡ y
unfolding take_condition
condition_step i word token rest y stands same next = bind_step (take_word condition_words (token ∷ rest)) (λ w. condition_from (condition_word_at w.0) w.1) (i, rest) y (word_step condition_names i word token rest stands same) next

plain_again : (i : ℕ) (word : List ℕ) (c : Cond) (tokens : List (List ℕ)) → slice_get condition_words i ≡ Some word → condition_from (condition_word_at i) [] ≡ Ok (c, []) → SpellsAll (Word word ∷ []) tokens → take_condition tokens ≡ Ok (c, [])
plain_again i word c tokens stands reads h =
    given (Word word) [] tokens (λ ts. take_condition ts ≡ Ok (c, [])) h (λ token rest h1 k1.
    given_end rest (λ r. take_condition (token ∷ r) ≡ Ok (c, [])) k1 (condition_step i word token [] (Ok (c, [])) stands h1 reads))

condition_again : (c : Cond) (tokens : List (List ℕ)) → SpellsAll (fields_of_condition c) tokens → IsSoundCondition c → take_condition tokens ≡ Ok (c, [])
unfolding condition_words
condition_again Friend tokens h sound = plain_again 0 (codes "Friend") Friend tokens refl refl h
condition_again Foe tokens h sound = plain_again 1 (codes "Foe") Foe tokens refl refl h
condition_again FriendWithFood tokens h sound = plain_again 2 (codes "FriendWithFood") FriendWithFood tokens refl refl h
condition_again FoeWithFood tokens h sound = plain_again 3 (codes "FoeWithFood") FoeWithFood tokens refl refl h
condition_again Food tokens h sound = plain_again 4 (codes "Food") Food tokens refl refl h
condition_again Rock tokens h sound = plain_again 5 (codes "Rock") Rock tokens refl refl h
condition_again (Marker m) tokens h sound =
    given (Word (codes "Marker")) (Number m ∷ []) tokens (λ ts. take_condition ts ≡ Ok (Marker m, [])) h (λ token rest h1 k1.
    given (Number m) [] rest (λ r. take_condition (token ∷ r) ≡ Ok (Marker m, [])) k1 (λ number left h2 k2.
    given_end left (λ r. take_condition (token ∷ number ∷ r) ≡ Ok (Marker m, [])) k2
    (condition_step 6 (codes "Marker") token (number ∷ []) (Ok (Marker m, [])) refl h1
    (then_again marker_takes m number [] (λ n. Ok (Marker n.0, n.1)) (Ok (Marker m, [])) (record { value = h2; low = omega arith; high = omega (arith, sound) }) refl))))
condition_again FoeMarker tokens h sound = plain_again 7 (codes "FoeMarker") FoeMarker tokens refl refl h
condition_again Home tokens h sound = plain_again 8 (codes "Home") Home tokens refl refl h
condition_again FoeHome tokens h sound = plain_again 9 (codes "FoeHome") FoeHome tokens refl refl h

form_step : (p : ℕ) (word first : List ℕ) (rest : List (List ℕ)) (i : Instr) → slice_get form_words p ≡ Some word → IsSameWord word first → read_form (form_at p) rest ≡ Ok i → read_line (first ∷ rest) ≡ Ok i
unfolding read_line
form_step p word first rest i stands same next = bind_step (take_word form_words (first ∷ rest)) (λ w. read_form (form_at w.0) w.1) (p, rest) (Ok i) (word_step form_names p word first rest stands same) next

-- the marker of an instruction, as it is read
marker_within : (m : ℕ) (token : List ℕ) → decimal_value token ≡ Some m → m < 6 → IsWithin 0 5 m token
marker_within m token is below = record { value = is; low = omega arith; high = omega arith }

sense_again : (s : Sight) (m u : ℕ) (c : Cond) (tokens : List (List ℕ)) → SpellsAll (Word (word_of_sight s) ∷ Number m ∷ Number u ∷ fields_of_condition c) tokens → IsSoundCondition c → read_sense tokens ≡ Ok (Sense s m u c)
unfolding read_sense
sense_again s m u c tokens h sound =
    given (Word (word_of_sight s)) (Number m ∷ Number u ∷ fields_of_condition c) tokens (λ ts. read_sense ts ≡ Ok (Sense s m u c)) h (λ t1 r1 h1 k1.
    given (Number m) (Number u ∷ fields_of_condition c) r1 (λ r. read_sense (t1 ∷ r) ≡ Ok (Sense s m u c)) k1 (λ t2 r2 h2 k2.
    given (Number u) (fields_of_condition c) r2 (λ r. read_sense (t1 ∷ t2 ∷ r) ≡ Ok (Sense s m u c)) k2 (λ t3 r3 h3 k3.
    then_again sight_takes s t1 (t2 ∷ t3 ∷ r3) _ _ h1 (then_again state_takes m t2 (t3 ∷ r3) _ _ h2 (then_again state_takes u t3 r3 _ _ h3
    (bind_step (take_condition r3) (ending (Sense s m u)) (c, []) (Ok (Sense s m u c)) (condition_again c r3 k3 sound) refl))))))

marked_again : (make : ℕ → ℕ → Instr) (m n : ℕ) (tokens : List (List ℕ)) → SpellsAll (Number m ∷ Number n ∷ []) tokens → m < 6 → read_marked make tokens ≡ Ok (make m n)
unfolding read_marked
marked_again make m n tokens h below =
    given (Number m) (Number n ∷ []) tokens (λ ts. read_marked make ts ≡ Ok (make m n)) h (λ t1 r1 h1 k1.
    given (Number n) [] r1 (λ r. read_marked make (t1 ∷ r) ≡ Ok (make m n)) k1 (λ t2 r2 h2 k2.
    given_end r2 (λ r. read_marked make (t1 ∷ t2 ∷ r) ≡ Ok (make m n)) k2
    (then_again marker_takes m t1 (t2 ∷ []) _ _ (marker_within m t1 h1 below) (then_again state_takes n t2 [] _ _ h2 refl))))

branches_again : (make : ℕ → ℕ → Instr) (m u : ℕ) (tokens : List (List ℕ)) → SpellsAll (Number m ∷ Number u ∷ []) tokens → read_branches make tokens ≡ Ok (make m u)
unfolding read_branches
branches_again make m u tokens h =
    given (Number m) (Number u ∷ []) tokens (λ ts. read_branches make ts ≡ Ok (make m u)) h (λ t1 r1 h1 k1.
    given (Number u) [] r1 (λ r. read_branches make (t1 ∷ r) ≡ Ok (make m u)) k1 (λ t2 r2 h2 k2.
    given_end r2 (λ r. read_branches make (t1 ∷ t2 ∷ r) ≡ Ok (make m u)) k2
    (then_again state_takes m t1 (t2 ∷ []) _ _ h1 (then_again state_takes u t2 [] _ _ h2 refl))))

drop_again : (n : ℕ) (tokens : List (List ℕ)) → SpellsAll (Number n ∷ []) tokens → read_drop tokens ≡ Ok (Drop n)
unfolding read_drop
drop_again n tokens h =
    given (Number n) [] tokens (λ ts. read_drop ts ≡ Ok (Drop n)) h (λ t1 r1 h1 k1.
    given_end r1 (λ r. read_drop (t1 ∷ r) ≡ Ok (Drop n)) k1 (then_again state_takes n t1 [] _ _ h1 refl))

turn_again : (s : Side) (n : ℕ) (tokens : List (List ℕ)) → SpellsAll (Word (word_of_side s) ∷ Number n ∷ []) tokens → read_turn tokens ≡ Ok (Turn s n)
unfolding read_turn
turn_again s n tokens h =
    given (Word (word_of_side s)) (Number n ∷ []) tokens (λ ts. read_turn ts ≡ Ok (Turn s n)) h (λ t1 r1 h1 k1.
    given (Number n) [] r1 (λ r. read_turn (t1 ∷ r) ≡ Ok (Turn s n)) k1 (λ t2 r2 h2 k2.
    given_end r2 (λ r. read_turn (t1 ∷ t2 ∷ r) ≡ Ok (Turn s n)) k2
    (then_again side_takes s t1 (t2 ∷ []) _ _ h1 (then_again state_takes n t2 [] _ _ h2 refl))))

flip_again : (b m u : ℕ) (tokens : List (List ℕ)) → SpellsAll (Number b ∷ Number m ∷ Number u ∷ []) tokens → 1 ≤ b → b ≤ most_bound → read_flip tokens ≡ Ok (Flip b m u)
unfolding read_flip
flip_again b m u tokens h low high =
    given (Number b) (Number m ∷ Number u ∷ []) tokens (λ ts. read_flip ts ≡ Ok (Flip b m u)) h (λ t1 r1 h1 k1.
    given (Number m) (Number u ∷ []) r1 (λ r. read_flip (t1 ∷ r) ≡ Ok (Flip b m u)) k1 (λ t2 r2 h2 k2.
    given (Number u) [] r2 (λ r. read_flip (t1 ∷ t2 ∷ r) ≡ Ok (Flip b m u)) k2 (λ t3 r3 h3 k3.
    given_end r3 (λ r. read_flip (t1 ∷ t2 ∷ t3 ∷ r) ≡ Ok (Flip b m u)) k3
    (then_again bound_takes b t1 (t2 ∷ t3 ∷ []) _ _ (record { value = h1; low = low; high = high }) (then_again state_takes m t2 (t3 ∷ []) _ _ h2 (then_again state_takes u t3 [] _ _ h3 refl))))))

-- what is spelled so is read
pub line_again : (i : Instr) (tokens : List (List ℕ)) → InstrLine tokens i → read_line tokens ≡ Ok i
unfolding form_words
line_again (Sense s m u c) tokens line =
    given (Word (codes "Sense")) (Word (word_of_sight s) ∷ Number m ∷ Number u ∷ fields_of_condition c) tokens (λ ts. read_line ts ≡ Ok (Sense s m u c)) line.spelled
    (λ first rest h k. form_step 0 (codes "Sense") first rest (Sense s m u c) refl h (sense_again s m u c rest k line.in_range))
line_again (Mark m n) tokens line =
    given (Word (codes "Mark")) (Number m ∷ Number n ∷ []) tokens (λ ts. read_line ts ≡ Ok (Mark m n)) line.spelled
    (λ first rest h k. form_step 1 (codes "Mark") first rest (Mark m n) refl h (marked_again Mark m n rest k line.in_range))
line_again (Unmark m n) tokens line =
    given (Word (codes "Unmark")) (Number m ∷ Number n ∷ []) tokens (λ ts. read_line ts ≡ Ok (Unmark m n)) line.spelled
    (λ first rest h k. form_step 2 (codes "Unmark") first rest (Unmark m n) refl h (marked_again Unmark m n rest k line.in_range))
line_again (PickUp m u) tokens line =
    given (Word (codes "PickUp")) (Number m ∷ Number u ∷ []) tokens (λ ts. read_line ts ≡ Ok (PickUp m u)) line.spelled
    (λ first rest h k. form_step 3 (codes "PickUp") first rest (PickUp m u) refl h (branches_again PickUp m u rest k))
line_again (Drop n) tokens line =
    given (Word (codes "Drop")) (Number n ∷ []) tokens (λ ts. read_line ts ≡ Ok (Drop n)) line.spelled
    (λ first rest h k. form_step 4 (codes "Drop") first rest (Drop n) refl h (drop_again n rest k))
line_again (Turn s n) tokens line =
    given (Word (codes "Turn")) (Word (word_of_side s) ∷ Number n ∷ []) tokens (λ ts. read_line ts ≡ Ok (Turn s n)) line.spelled
    (λ first rest h k. form_step 5 (codes "Turn") first rest (Turn s n) refl h (turn_again s n rest k))
line_again (Move m u) tokens line =
    given (Word (codes "Move")) (Number m ∷ Number u ∷ []) tokens (λ ts. read_line ts ≡ Ok (Move m u)) line.spelled
    (λ first rest h k. form_step 6 (codes "Move") first rest (Move m u) refl h (branches_again Move m u rest k))
line_again (Flip b m u) tokens line =
    given (Word (codes "Flip")) (Number b ∷ Number m ∷ Number u ∷ []) tokens (λ ts. read_line ts ≡ Ok (Flip b m u)) line.spelled
    (λ first rest h k. form_step 7 (codes "Flip") first rest (Flip b m u) refl h (flip_again b m u rest k line.in_range.0 line.in_range.1))

-- the words of the forms and of the conditions stand at their places
pub form_stands : (form : Form) → slice_get form_words (place_of_form form) ≡ Some (word_of_form form)
unfolding form_words
form_stands Form.Sense = refl
form_stands it = refl

pub condition_stands : (word : ConditionWord) → slice_get condition_words (place_of_condition word) ≡ Some (word_of_condition word)
unfolding condition_words
condition_stands ConditionWord.Friend = refl
condition_stands it = refl
