-- The reading of a line stops at the first position at fault.
use Rattle.std.proofs.Common.{◌≡◌, ℕ, Bool, true, false, List, [], ◌∷◌, ◌++◌, Option, Some, None, Ok, option_map, cond, refl, sym, ap, ◌∙◌}
use Rattle.ant_base.specs.Number.{decimal_value, number_within}
use Rattle.word_table.specs.Words.{word_place}
use Rattle.brain_read.specs.declared.fault.BrainFault.{BrainFault}
use Rattle.brain_read.specs.declared.fault.BrainFault.TheVariants.{BadByte, UnknownWord, BadNumber}
use Rattle.line_tokens.specs.declared.refusal.LineFault.{LineFault}
use Rattle.brain_read.specs.declared.instr.Cond.{Cond}
use Rattle.brain_read.specs.declared.instr.Cond.TheVariants.{Friend, Foe, FriendWithFood, FoeWithFood, Food, Rock, Marker, FoeMarker, Home, FoeHome}
use Rattle.brain_read.specs.declared.instr.Instr.{Instr}
use Rattle.brain_read.specs.declared.instr.Instr.TheVariants.{Sense, Mark, Unmark, PickUp, Drop, Turn, Move, Flip}
use Rattle.brain_read.specs.declared.form.Form.{Form}
use Rattle.brain_read.specs.declared.form.ConditionWord.{ConditionWord}
use Rattle.line_tokens.specs.Tokens.{has_bad_byte}
use Rattle.line_tokens.specs.Steps.{Read, Step, ◌>>=◌, or_refused, take_word, take_number, take_end}
use Rattle.brain_read.specs.Steps.{take_sight, take_side, take_state, take_marker, take_bound, condition_from, take_condition}
use Rattle.brain_read.specs.Forms.{word_of_form, word_of_sight, word_of_side, word_of_condition, forms, sights, sides, conditions, form_words, sight_words, side_words, condition_words, most_bound}
use Rattle.brain_read.specs.Places.{form_at, sight_at, side_at, condition_word_at}
use Rattle.brain_read.specs.Reading.{read_sense, read_marked, read_branches, read_drop, read_turn, read_flip, read_form, read_line}
use Rattle.brain_read.specs.Refusals.{fault_at, refusal_at}
use Rattle.line_tokens.specs.Judgement.{nothing_more, judged}
use Rattle.brain_read.specs.Judgement.{Position, positions_of, positions_of_condition, accepted, fault_of, first_fault}
use Rattle.brain_read.specs.Judgement.Position.{FormToken, SightToken, SideToken, ConditionToken, MarkerToken, StateToken, BoundToken}
use Rattle.line_tokens.proofs.PlacesLemmas.{Names, word-good, named-place, decimal_value-good, number_within-any}
use Rattle.line_tokens.proofs.JudgementLemmas as judging
use Rattle.line_tokens.proofs.LineFaults.{fault_of_read}
use Rattle.line_tokens.proofs.StepsLemmas.{within-some, bind_assoc}
use Rattle.brain_read.proofs.FormsLemmas.{form_names, sight_names, side_names, condition_names, ending}

-- the fault of a line of this number that was read
abbrev pub fault_in : ℕ → Read Instr → Option BrainFault
fault_in line read = fault_of_read refusal_at line read

-- a step judges its position
abbrev Judges : {A : Type 0} → Position → (List (List ℕ) → Step A) → (A → List Position) → Type 0
Judges position take brings = judging.Judges Instr first_fault refusal_at position take brings

-- one token at its position
judge_token : (line : ℕ) (token : List ℕ) (rest : List (List ℕ)) (positions : List Position) (o : Option ℕ) (brings : ℕ → List Position) (fault : LineFault) (f : ℕ × List (List ℕ) → Read Instr)
    → ((x : ℕ) → o ≡ Some x → has_bad_byte token ≡ false) → ((x : ℕ) → first_fault line rest (brings x ++ positions) ≡ fault_in line (f (x, rest)))
    → cond (has_bad_byte token) (Some (BadByte line)) (judged (option_map brings o) (fault_at line fault) (λ more. first_fault line rest (more ++ positions))) ≡ fault_in line (or_refused o rest token fault >>= f)
judge_token line token rest positions None brings fault f good next = go (has_bad_byte token)
  where
    go : (b : Bool) → cond b (Some (BadByte line)) (Some (fault_at line fault)) ≡ Some (cond b (BadByte line) (fault_at line fault))
    go true = refl
    go false = refl
judge_token line token rest positions (Some x) brings fault f good next =
    ap (λ b. cond b (Some (BadByte line)) (first_fault line rest (brings x ++ positions))) (good x refl) ∙ next x

-- a step whose token is a word of a table
word_judges : {words : List (List ℕ)} {n : ℕ} {word : ℕ → List ℕ} → Names words n word → (position : Position) (brings : ℕ → List Position) → ((token : List ℕ) → accepted position token ≡ option_map brings (word_place words token)) → ((line : ℕ) → fault_of position line ≡ UnknownWord line) → Judges position (take_word words) brings
word_judges {words} names position brings accepts faults = record { steps = steps }
  where
    steps : (line : ℕ) (tokens : List (List ℕ)) (positions : List Position) (f : ℕ × List (List ℕ) → Read Instr) → ((x : ℕ) (rest : List (List ℕ)) → first_fault line rest (brings x ++ positions) ≡ fault_in line (f (x, rest))) → first_fault line tokens (position ∷ positions) ≡ fault_in line (take_word words tokens >>= f)
    steps line [] positions f next = refl
    steps line (token ∷ rest) positions f next =
        ap (λ a. cond (has_bad_byte token) (Some (BadByte line)) (judged a (fault_of position line) (λ more. first_fault line rest (more ++ positions)))) (accepts token)
        ∙ ap (λ b. cond (has_bad_byte token) (Some (BadByte line)) (judged (option_map brings (word_place words token)) b (λ more. first_fault line rest (more ++ positions)))) (faults line)
        ∙ judge_token line token rest positions (word_place words token) brings LineFault.UnknownWord f (λ i found. word-good names token i found) (λ i. next i rest)

-- a step whose token is a number
number_judges : (least most : ℕ) (position : Position) → ((token : List ℕ) → accepted position token ≡ option_map (λ n. []) (number_within least most token)) → ((line : ℕ) → fault_of position line ≡ BadNumber line) → Judges position (take_number least most) (λ n. [])
number_judges least most position accepts faults = record { steps = steps }
  where
    steps : (line : ℕ) (tokens : List (List ℕ)) (positions : List Position) (f : ℕ × List (List ℕ) → Read Instr) → ((n : ℕ) (rest : List (List ℕ)) → first_fault line rest ([] ++ positions) ≡ fault_in line (f (n, rest))) → first_fault line tokens (position ∷ positions) ≡ fault_in line (take_number least most tokens >>= f)
    steps line [] positions f next = refl
    steps line (token ∷ rest) positions f next =
        ap (λ a. cond (has_bad_byte token) (Some (BadByte line)) (judged a (fault_of position line) (λ more. first_fault line rest (more ++ positions)))) (accepts token)
        ∙ ap (λ b. cond (has_bad_byte token) (Some (BadByte line)) (judged (option_map (λ n. []) (number_within least most token)) b (λ more. first_fault line rest (more ++ positions)))) (faults line)
        ∙ judge_token line token rest positions (number_within least most token) (λ n. []) LineFault.BadNumber f
        (λ n found. decimal_value-good token n (within-some least most n token (decimal_value token) refl found).value) (λ n. next n rest)

sight_judges : Judges SightToken take_sight (λ s. [])
unfolding take_sight sight_words
sight_judges =
    judging.named_judges sight_words SightToken
    (word_judges sight_names SightToken (λ i. []) (λ token. named-place word_of_sight sight_at nothing_more sights token (refl, (refl, (refl, (refl, tt))))) (λ line. refl))
    sight_at

side_judges : Judges SideToken take_side (λ s. [])
unfolding take_side side_words
side_judges =
    judging.named_judges side_words SideToken
    (word_judges side_names SideToken (λ i. []) (λ token. named-place word_of_side side_at nothing_more sides token (refl, (refl, tt))) (λ line. refl))
    side_at

state_judges : Judges StateToken take_state (λ n. [])
unfolding take_state
state_judges = number_judges 0 9999999999 StateToken (λ token. ap (option_map (λ n. [])) (sym (number_within-any token))) (λ line. refl)

marker_judges : Judges MarkerToken take_marker (λ n. [])
unfolding take_marker
marker_judges = number_judges 0 5 MarkerToken (λ token. refl) (λ line. refl)

bound_judges : Judges BoundToken take_bound (λ n. [])
unfolding take_bound
bound_judges = number_judges 1 most_bound BoundToken (λ token. refl) (λ line. refl)

-- the end of the line
end_fault : (line : ℕ) (tokens : List (List ℕ)) (i : Instr) → first_fault line tokens [] ≡ fault_in line (take_end tokens >>= (λ end. Ok i))
end_fault line [] i = refl
end_fault line (token ∷ tokens) i = refl

condition_rest_fault : (line : ℕ) (g : Cond → Instr) (w : ConditionWord) (rest : List (List ℕ)) → first_fault line rest (positions_of_condition w ++ []) ≡ fault_in line (condition_from w rest >>= ending g)
condition_rest_fault line g ConditionWord.Friend rest = end_fault line rest (g Friend)
condition_rest_fault line g ConditionWord.Foe rest = end_fault line rest (g Foe)
condition_rest_fault line g ConditionWord.FriendWithFood rest = end_fault line rest (g FriendWithFood)
condition_rest_fault line g ConditionWord.FoeWithFood rest = end_fault line rest (g FoeWithFood)
condition_rest_fault line g ConditionWord.Food rest = end_fault line rest (g Food)
condition_rest_fault line g ConditionWord.Rock rest = end_fault line rest (g Rock)
condition_rest_fault line g ConditionWord.Marker rest =
    marker_judges.steps line rest [] (λ m. ending g (Marker m.0, m.1)) (λ m left. end_fault line left (g (Marker m)))
    ∙ ap (fault_in line) (sym (bind_assoc (take_marker rest) (λ m. Ok (Marker m.0, m.1)) (ending g)))
condition_rest_fault line g ConditionWord.FoeMarker rest = end_fault line rest (g FoeMarker)
condition_rest_fault line g ConditionWord.Home rest = end_fault line rest (g Home)
condition_rest_fault line g ConditionWord.FoeHome rest = end_fault line rest (g FoeHome)

condition_judges : Judges ConditionToken (take_word condition_words) (λ i. positions_of_condition (condition_word_at i))
unfolding condition_words
condition_judges =
    word_judges condition_names ConditionToken (λ i. positions_of_condition (condition_word_at i))
    (λ token. named-place word_of_condition condition_word_at positions_of_condition conditions token (refl, (refl, (refl, (refl, (refl, (refl, (refl, (refl, (refl, (refl, tt)))))))))))
    (λ line. refl)

condition_fault : (line : ℕ) (g : Cond → Instr) (tokens : List (List ℕ)) → first_fault line tokens (ConditionToken ∷ []) ≡ fault_in line (take_condition tokens >>= ending g)
unfolding take_condition
condition_fault line g tokens =
    condition_judges.steps line tokens [] (λ w. condition_from (condition_word_at w.0) w.1 >>= ending g) (λ i rest. condition_rest_fault line g (condition_word_at i) rest)
    ∙ ap (fault_in line) (sym (bind_assoc (take_word condition_words tokens) (λ w. condition_from (condition_word_at w.0) w.1) (ending g)))

sense_fault : (line : ℕ) (tokens : List (List ℕ)) → first_fault line tokens (positions_of Form.Sense) ≡ fault_in line (read_sense tokens)
unfolding read_sense
sense_fault line tokens =
    sight_judges.steps line tokens (StateToken ∷ StateToken ∷ ConditionToken ∷ []) _ (λ s r1.
    state_judges.steps line r1 (StateToken ∷ ConditionToken ∷ []) _ (λ m r2.
    state_judges.steps line r2 (ConditionToken ∷ []) _ (λ u r3. condition_fault line (Sense s m u) r3)))

marked_fault : (line : ℕ) (make : ℕ → ℕ → Instr) (tokens : List (List ℕ)) → first_fault line tokens (MarkerToken ∷ StateToken ∷ []) ≡ fault_in line (read_marked make tokens)
unfolding read_marked
marked_fault line make tokens =
    marker_judges.steps line tokens (StateToken ∷ []) _ (λ m r1.
    state_judges.steps line r1 [] _ (λ n r2. end_fault line r2 (make m n)))

branches_fault : (line : ℕ) (make : ℕ → ℕ → Instr) (tokens : List (List ℕ)) → first_fault line tokens (StateToken ∷ StateToken ∷ []) ≡ fault_in line (read_branches make tokens)
unfolding read_branches
branches_fault line make tokens =
    state_judges.steps line tokens (StateToken ∷ []) _ (λ m r1.
    state_judges.steps line r1 [] _ (λ u r2. end_fault line r2 (make m u)))

drop_fault : (line : ℕ) (tokens : List (List ℕ)) → first_fault line tokens (positions_of Form.Drop) ≡ fault_in line (read_drop tokens)
unfolding read_drop
drop_fault line tokens = state_judges.steps line tokens [] _ (λ n r1. end_fault line r1 (Drop n))

turn_fault : (line : ℕ) (tokens : List (List ℕ)) → first_fault line tokens (positions_of Form.Turn) ≡ fault_in line (read_turn tokens)
unfolding read_turn
turn_fault line tokens =
    side_judges.steps line tokens (StateToken ∷ []) _ (λ s r1.
    state_judges.steps line r1 [] _ (λ n r2. end_fault line r2 (Turn s n)))

flip_fault : (line : ℕ) (tokens : List (List ℕ)) → first_fault line tokens (positions_of Form.Flip) ≡ fault_in line (read_flip tokens)
unfolding read_flip
flip_fault line tokens =
    bound_judges.steps line tokens (StateToken ∷ StateToken ∷ []) _ (λ b r1.
    state_judges.steps line r1 (StateToken ∷ []) _ (λ m r2.
    state_judges.steps line r2 [] _ (λ u r3. end_fault line r3 (Flip b m u))))

form_fault : (line : ℕ) (form : Form) (tokens : List (List ℕ)) → first_fault line tokens (positions_of form ++ []) ≡ fault_in line (read_form form tokens)
form_fault line Form.Sense tokens = sense_fault line tokens
form_fault line Form.Mark tokens = marked_fault line Mark tokens
form_fault line Form.Unmark tokens = marked_fault line Unmark tokens
form_fault line Form.PickUp tokens = branches_fault line PickUp tokens
form_fault line Form.Drop tokens = drop_fault line tokens
form_fault line Form.Turn tokens = turn_fault line tokens
form_fault line Form.Move tokens = branches_fault line Move tokens
form_fault line Form.Flip tokens = flip_fault line tokens

form_judges : Judges FormToken (take_word form_words) (λ i. positions_of (form_at i))
unfolding form_words
form_judges =
    word_judges form_names FormToken (λ i. positions_of (form_at i))
    (λ token. named-place word_of_form form_at positions_of forms token (refl, (refl, (refl, (refl, (refl, (refl, (refl, (refl, tt)))))))))
    (λ line. refl)

-- the fault that the reading of a line answers is that of the first position at fault
pub line_faulted : (line : ℕ) (tokens : List (List ℕ)) → first_fault line tokens (FormToken ∷ []) ≡ fault_in line (read_line tokens)
unfolding read_line
line_faulted line tokens = form_judges.steps line tokens [] (λ w. read_form (form_at w.0) w.1) (λ i rest. form_fault line (form_at i) rest)
