-- What a line says is what is read from it. A line that says nothing has the fault of its first position at fault.
use Rattle.std.proofs.Common.{◌≡◌, ℕ, List, [], ◌∷◌, ◌++◌, map, replicate, Ok, Err, refl, ap, ◌∙◌}
use Rattle.hex_geometry.specs.declared.direction.Side.{Side}
use Rattle.hex_geometry.specs.declared.neighbourhood.Sight.{Sight}
use Rattle.ant_base.specs.Number.{number_within}
use Rattle.word_table.specs.Words.{word_place}
use Rattle.brain_read.specs.declared.instr.Cond.{Cond}
use Rattle.brain_read.specs.declared.instr.Cond.TheVariants.{Friend, Foe, FriendWithFood, FoeWithFood, Food, Rock, Marker, FoeMarker, Home, FoeHome}
use Rattle.brain_read.specs.declared.form.Form.{Form}
use Rattle.brain_read.specs.declared.form.ConditionWord.{ConditionWord}
use Rattle.brain_read.specs.Places.{sight_at, side_at, condition_word_at}
use Rattle.brain_read.specs.Forms.{most_bound, sights, sides, conditions, sight_words, side_words, condition_words, word_of_sight, word_of_side, word_of_condition}
use Rattle.brain_read.specs.Judgement.{positions_of, positions_of_condition}
use Rattle.brain_read.specs.Judgement.Position.{SightToken, SideToken, ConditionToken, MarkerToken, BoundToken}
use Rattle.line_tokens.specs.Steps as brain
use Rattle.brain_read.specs.Steps.{condition_from, take_bound, take_condition, take_marker, take_side, take_sight}
use Rattle.line_tokens.specs.Steps.{take_end, take_word}
use Rattle.line_tokens.proofs.PlacesLemmas.{named-place}
use Rattle.brain_read.proofs.FormsLemmas.{condition_names, side_names, sight_names}
use Rattle.ant_asm.specs.declared.action.Action.{Action}
use Rattle.ant_asm.specs.declared.action.Action.TheVariants.{Sense, Mark, Unmark, PickUp, Drop, Turn, Move, Flip}
use Rattle.ant_asm.specs.declared.spelling.SpellingFault.TheVariants.{BadName, BadNumber, UnknownWord}
use Rattle.ant_asm.specs.Names.{Named, label_of, name_of}
use Rattle.ant_asm.specs.Lines.{Keyword, Line, most_parameters}
use Rattle.ant_asm.specs.Lines.Keyword.{BlockWord, EndWord, UseWord}
use Rattle.ant_asm.specs.Lines.Line.{Begins, Ends, Uses, Instructs}
use Rattle.line_tokens.specs.Judgement.{nothing_more}
use Rattle.ant_asm.specs.LineFaults.{Position, labelled_position, positions_of_keyword}
use Rattle.ant_asm.specs.LineFaults.Position.{LabelToken, MayLabel, MayName, NameToken, Of}
use Rattle.ant_asm.specs.Inner.Reading.{Read, Step, ◌>>=◌, all_read, ending, lifted, read_branches, read_drop, read_flip, read_form, read_keyword, read_label, read_marked, read_name, read_named, read_sense, read_turn, take_all, take_token}
use Rattle.ant_asm.proofs.LineSteps.{Decides, Decides-same, SpelledAllBy, SpelledBy, SpelledEnd, TakesToken, all_decides, bind_assoc, end_decides, then_taken}
use Rattle.ant_asm.proofs.LineTokens.{then_brain, label_token, lifted-number, lifted-word, may_label_token, may_name_token, name_token, number_token, word_token}

-- the meaning of a word that was read, by its place in its table
abbrev standing_for : {A : Type 0} → (ℕ → A) → ℕ × List (List ℕ) → Step A
standing_for at word = Ok (at word.0, word.1)

-- one step of a brain's text after another
lifted-bind : {A B : Type 0} (m : brain.Read A) (f : A → brain.Read B) → lifted (then_brain m f) ≡ (lifted m >>= (λ x. lifted (f x)))
lifted-bind (Ok x) f = refl
lifted-bind (Err refusal) f = refl

-- each step of a brain's text, by its word or its number
lifted-sight : (tokens : List (List ℕ)) → lifted (take_sight tokens) ≡ (lifted (take_word sight_words tokens) >>= standing_for sight_at)
unfolding take_sight
lifted-sight tokens = lifted-bind (take_word sight_words tokens) (λ word. Ok (sight_at word.0, word.1))

lifted-side : (tokens : List (List ℕ)) → lifted (take_side tokens) ≡ (lifted (take_word side_words tokens) >>= standing_for side_at)
unfolding take_side
lifted-side tokens = lifted-bind (take_word side_words tokens) (λ word. Ok (side_at word.0, word.1))

lifted-condition : (tokens : List (List ℕ)) → lifted (take_condition tokens) ≡ (lifted (take_word condition_words tokens) >>= (λ word. lifted (condition_from (condition_word_at word.0) word.1)))
unfolding take_condition
lifted-condition tokens = lifted-bind (take_word condition_words tokens) (λ word. condition_from (condition_word_at word.0) word.1)

lifted-condition_marker : (tokens : List (List ℕ)) → lifted (condition_from ConditionWord.Marker tokens) ≡ (lifted (take_marker tokens) >>= (λ marker. Ok (Marker marker.0, marker.1)))
lifted-condition_marker tokens = lifted-bind (take_marker tokens) (λ marker. Ok (Marker marker.0, marker.1))

-- the sight, and the positions after it
sight_token : TakesToken (Of SightToken) (word_place sight_words) UnknownWord (λ i. [])
unfolding sight_words
sight_token = word_token sight_names SightToken (λ i. []) (λ token. named-place word_of_sight sight_at nothing_more sights token (refl, (refl, (refl, (refl, tt))))) (λ number. refl)

side_token : TakesToken (Of SideToken) (word_place side_words) UnknownWord (λ i. [])
unfolding side_words
side_token = word_token side_names SideToken (λ i. []) (λ token. named-place word_of_side side_at nothing_more sides token (refl, (refl, tt))) (λ number. refl)

condition_token : TakesToken (Of ConditionToken) (word_place condition_words) UnknownWord (λ i. map Of (positions_of_condition (condition_word_at i)))
unfolding condition_words
condition_token =
    word_token condition_names ConditionToken (λ i. positions_of_condition (condition_word_at i))
    (λ token. named-place word_of_condition condition_word_at positions_of_condition conditions token (refl, (refl, (refl, (refl, (refl, (refl, (refl, (refl, (refl, (refl, tt)))))))))))
    (λ number. refl)

marker_token : TakesToken (Of MarkerToken) (number_within 0 5) BadNumber nothing_more
marker_token = number_token 0 5 MarkerToken (λ token. refl) (λ number. refl)

bound_token : TakesToken (Of BoundToken) (number_within 1 most_bound) BadNumber nothing_more
bound_token = number_token 1 most_bound BoundToken (λ token. refl) (λ number. refl)

then_sight : (positions : List Position) (k : Sight × List (List ℕ) → Read Line) (S : Sight → List (List ℕ) → Line → Type 0) → ((s : Sight) → Decides positions (λ rest. k (s, rest)) (S s)) →
    Decides (Of SightToken ∷ positions) (λ tokens. lifted (take_sight tokens) >>= k) (SpelledBy (word_place sight_words) (λ i. S (sight_at i)))
then_sight positions k S decides =
    Decides-same (λ tokens. ap (λ (m : Step Sight). m >>= k) (lifted-sight tokens) ∙ bind_assoc (lifted (take_word sight_words tokens)) (standing_for sight_at) k
    ∙ ap (λ (m : Step ℕ). m >>= (λ word. k (sight_at word.0, word.1))) (lifted-word sight_names tokens))
    (then_taken sight_token (λ number. refl) positions (λ word. k (sight_at word.0, word.1)) (λ i. S (sight_at i)) (λ i. decides (sight_at i)))

then_side : (positions : List Position) (k : Side × List (List ℕ) → Read Line) (S : Side → List (List ℕ) → Line → Type 0) → ((s : Side) → Decides positions (λ rest. k (s, rest)) (S s)) →
    Decides (Of SideToken ∷ positions) (λ tokens. lifted (take_side tokens) >>= k) (SpelledBy (word_place side_words) (λ i. S (side_at i)))
then_side positions k S decides =
    Decides-same (λ tokens. ap (λ (m : Step Side). m >>= k) (lifted-side tokens) ∙ bind_assoc (lifted (take_word side_words tokens)) (standing_for side_at) k
    ∙ ap (λ (m : Step ℕ). m >>= (λ word. k (side_at word.0, word.1))) (lifted-word side_names tokens))
    (then_taken side_token (λ number. refl) positions (λ word. k (side_at word.0, word.1)) (λ i. S (side_at i)) (λ i. decides (side_at i)))

then_marker : (positions : List Position) (k : ℕ × List (List ℕ) → Read Line) (S : ℕ → List (List ℕ) → Line → Type 0) → ((m : ℕ) → Decides positions (λ rest. k (m, rest)) (S m)) →
    Decides (Of MarkerToken ∷ positions) (λ tokens. lifted (take_marker tokens) >>= k) (SpelledBy (number_within 0 5) S)
unfolding take_marker
then_marker positions k S decides =
    Decides-same (λ tokens. ap (λ (m : Step ℕ). m >>= k) (lifted-number 0 5 tokens)) (then_taken marker_token (λ number. refl) positions k S decides)

then_bound : (positions : List Position) (k : ℕ × List (List ℕ) → Read Line) (S : ℕ → List (List ℕ) → Line → Type 0) → ((m : ℕ) → Decides positions (λ rest. k (m, rest)) (S m)) →
    Decides (Of BoundToken ∷ positions) (λ tokens. lifted (take_bound tokens) >>= k) (SpelledBy (number_within 1 most_bound) S)
unfolding take_bound
then_bound positions k S decides =
    Decides-same (λ tokens. ap (λ (m : Step ℕ). m >>= k) (lifted-number 1 most_bound tokens)) (then_taken bound_token (λ number. refl) positions k S decides)

then_label : (positions : List Position) (k : Named × List (List ℕ) → Read Line) (S : Named → List (List ℕ) → Line → Type 0) → ((label : Named) → Decides positions (λ rest. k (label, rest)) (S label)) →
    Decides (LabelToken ∷ positions) (λ tokens. take_token read_label tokens >>= k) (SpelledBy label_of S)
unfolding read_label
then_label positions k S decides = then_taken label_token (λ number. refl) positions k S decides

then_name : (positions : List Position) (k : List ℕ × List (List ℕ) → Read Line) (S : List ℕ → List (List ℕ) → Line → Type 0) → ((name : List ℕ) → Decides positions (λ rest. k (name, rest)) (S name)) →
    Decides (NameToken ∷ positions) (λ tokens. take_token read_name tokens >>= k) (SpelledBy name_of S)
unfolding read_name
then_name positions k S decides = then_taken name_token (λ number. refl) positions k S decides

-- what follows the word of a condition at the end of a line, if the condition makes this line
abbrev pub SpelledRest : (Cond → Line) → ConditionWord → List (List ℕ) → Line → Type 0
SpelledRest make ConditionWord.Friend = SpelledEnd (make Friend)
SpelledRest make ConditionWord.Foe = SpelledEnd (make Foe)
SpelledRest make ConditionWord.FriendWithFood = SpelledEnd (make FriendWithFood)
SpelledRest make ConditionWord.FoeWithFood = SpelledEnd (make FoeWithFood)
SpelledRest make ConditionWord.Food = SpelledEnd (make Food)
SpelledRest make ConditionWord.Rock = SpelledEnd (make Rock)
SpelledRest make ConditionWord.Marker = SpelledBy (number_within 0 5) (λ m. SpelledEnd (make (Marker m)))
SpelledRest make ConditionWord.FoeMarker = SpelledEnd (make FoeMarker)
SpelledRest make ConditionWord.Home = SpelledEnd (make Home)
SpelledRest make ConditionWord.FoeHome = SpelledEnd (make FoeHome)

-- a condition at the end of a line
abbrev pub SpelledCondition : (Cond → Line) → List (List ℕ) → Line → Type 0
SpelledCondition make = SpelledBy (word_place condition_words) (λ i. SpelledRest make (condition_word_at i))

abbrev condition_then : (Cond → Line) → Cond × List (List ℕ) → Read Line
condition_then make condition = ending (make condition.0) condition.1

rest_decides : (make : Cond → Line) (word : ConditionWord) → Decides (map Of (positions_of_condition word) ++ []) (λ tokens. lifted (condition_from word tokens) >>= condition_then make) (SpelledRest make word)
rest_decides make ConditionWord.Friend = end_decides (make Friend)
rest_decides make ConditionWord.Foe = end_decides (make Foe)
rest_decides make ConditionWord.FriendWithFood = end_decides (make FriendWithFood)
rest_decides make ConditionWord.FoeWithFood = end_decides (make FoeWithFood)
rest_decides make ConditionWord.Food = end_decides (make Food)
rest_decides make ConditionWord.Rock = end_decides (make Rock)
rest_decides make ConditionWord.Marker =
    Decides-same (λ tokens. ap (λ (m : Step Cond). m >>= condition_then make) (lifted-condition_marker tokens) ∙ bind_assoc (lifted (take_marker tokens)) (λ marker. Ok (Marker marker.0, marker.1)) (condition_then make))
    (then_marker [] (λ marker. condition_then make (Marker marker.0, marker.1)) (λ m. SpelledEnd (make (Marker m))) (λ m. end_decides (make (Marker m))))
rest_decides make ConditionWord.FoeMarker = end_decides (make FoeMarker)
rest_decides make ConditionWord.Home = end_decides (make Home)
rest_decides make ConditionWord.FoeHome = end_decides (make FoeHome)

condition_decides : (make : Cond → Line) → Decides (Of ConditionToken ∷ []) (λ tokens. lifted (take_condition tokens) >>= condition_then make) (SpelledCondition make)
condition_decides make =
    Decides-same (λ tokens. ap (λ (m : Step Cond). m >>= condition_then make) (lifted-condition tokens)
    ∙ bind_assoc (lifted (take_word condition_words tokens)) (λ word. lifted (condition_from (condition_word_at word.0) word.1)) (condition_then make)
    ∙ ap (λ (m : Step ℕ). m >>= (λ word. lifted (condition_from (condition_word_at word.0) word.1) >>= condition_then make)) (lifted-word condition_names tokens))
    (then_taken condition_token (λ number. refl) [] (λ word. lifted (condition_from (condition_word_at word.0) word.1) >>= condition_then make) (λ i. SpelledRest make (condition_word_at i)) (λ i. rest_decides make (condition_word_at i)))

-- how the rest of an instruction's line is spelled
abbrev pub SpelledForm : Form → List (List ℕ) → Line → Type 0
SpelledForm Form.Sense = SpelledBy (word_place sight_words) (λ i. SpelledBy label_of (λ met. SpelledBy label_of (λ unmet. SpelledCondition (λ c. Instructs (Sense (sight_at i) met unmet c)))))
SpelledForm Form.Mark = SpelledBy (number_within 0 5) (λ m. SpelledBy label_of (λ on. SpelledEnd (Instructs (Mark m on))))
SpelledForm Form.Unmark = SpelledBy (number_within 0 5) (λ m. SpelledBy label_of (λ on. SpelledEnd (Instructs (Unmark m on))))
SpelledForm Form.PickUp = SpelledBy label_of (λ met. SpelledBy label_of (λ unmet. SpelledEnd (Instructs (PickUp met unmet))))
SpelledForm Form.Drop = SpelledBy label_of (λ on. SpelledEnd (Instructs (Drop on)))
SpelledForm Form.Turn = SpelledBy (word_place side_words) (λ i. SpelledBy label_of (λ on. SpelledEnd (Instructs (Turn (side_at i) on))))
SpelledForm Form.Move = SpelledBy label_of (λ met. SpelledBy label_of (λ unmet. SpelledEnd (Instructs (Move met unmet))))
SpelledForm Form.Flip = SpelledBy (number_within 1 most_bound) (λ b. SpelledBy label_of (λ met. SpelledBy label_of (λ unmet. SpelledEnd (Instructs (Flip b met unmet)))))

marked_decides : (make : ℕ → Named → Action Named) → Decides (Of MarkerToken ∷ LabelToken ∷ []) (read_marked make) (SpelledBy (number_within 0 5) (λ m. SpelledBy label_of (λ on. SpelledEnd (Instructs (make m on)))))
unfolding read_marked
marked_decides make =
    then_marker (LabelToken ∷ []) (λ marker. take_token read_label marker.1 >>= (λ on. ending (Instructs (make marker.0 on.0)) on.1)) (λ m. SpelledBy label_of (λ on. SpelledEnd (Instructs (make m on)))) (λ m.
    then_label [] (λ on. ending (Instructs (make m on.0)) on.1) (λ on. SpelledEnd (Instructs (make m on))) (λ on. end_decides (Instructs (make m on))))

branches_decides : (make : Named → Named → Action Named) → Decides (LabelToken ∷ LabelToken ∷ []) (read_branches make) (SpelledBy label_of (λ met. SpelledBy label_of (λ unmet. SpelledEnd (Instructs (make met unmet)))))
unfolding read_branches
branches_decides make =
    then_label (LabelToken ∷ []) (λ met. take_token read_label met.1 >>= (λ unmet. ending (Instructs (make met.0 unmet.0)) unmet.1)) (λ met. SpelledBy label_of (λ unmet. SpelledEnd (Instructs (make met unmet)))) (λ met.
    then_label [] (λ unmet. ending (Instructs (make met unmet.0)) unmet.1) (λ unmet. SpelledEnd (Instructs (make met unmet))) (λ unmet. end_decides (Instructs (make met unmet))))

sense_decides : Decides (Of SightToken ∷ LabelToken ∷ LabelToken ∷ Of ConditionToken ∷ []) read_sense (SpelledForm Form.Sense)
unfolding read_sense
sense_decides =
    then_sight (LabelToken ∷ LabelToken ∷ Of ConditionToken ∷ [])
    (λ sight. take_token read_label sight.1 >>= (λ met. take_token read_label met.1 >>= (λ unmet. lifted (take_condition unmet.1) >>= condition_then (λ c. Instructs (Sense sight.0 met.0 unmet.0 c)))))
    (λ s. SpelledBy label_of (λ met. SpelledBy label_of (λ unmet. SpelledCondition (λ c. Instructs (Sense s met unmet c))))) (λ s.
    then_label (LabelToken ∷ Of ConditionToken ∷ [])
    (λ met. take_token read_label met.1 >>= (λ unmet. lifted (take_condition unmet.1) >>= condition_then (λ c. Instructs (Sense s met.0 unmet.0 c))))
    (λ met. SpelledBy label_of (λ unmet. SpelledCondition (λ c. Instructs (Sense s met unmet c)))) (λ met.
    then_label (Of ConditionToken ∷ [])
    (λ unmet. lifted (take_condition unmet.1) >>= condition_then (λ c. Instructs (Sense s met unmet.0 c)))
    (λ unmet. SpelledCondition (λ c. Instructs (Sense s met unmet c))) (λ unmet.
    condition_decides (λ c. Instructs (Sense s met unmet c)))))

drop_decides : Decides (LabelToken ∷ []) read_drop (SpelledForm Form.Drop)
unfolding read_drop
drop_decides = then_label [] (λ on. ending (Instructs (Drop on.0)) on.1) (λ on. SpelledEnd (Instructs (Drop on))) (λ on. end_decides (Instructs (Drop on)))

turn_decides : Decides (Of SideToken ∷ LabelToken ∷ []) read_turn (SpelledForm Form.Turn)
unfolding read_turn
turn_decides =
    then_side (LabelToken ∷ []) (λ side. take_token read_label side.1 >>= (λ on. ending (Instructs (Turn side.0 on.0)) on.1)) (λ s. SpelledBy label_of (λ on. SpelledEnd (Instructs (Turn s on)))) (λ s.
    then_label [] (λ on. ending (Instructs (Turn s on.0)) on.1) (λ on. SpelledEnd (Instructs (Turn s on))) (λ on. end_decides (Instructs (Turn s on))))

flip_decides : Decides (Of BoundToken ∷ LabelToken ∷ LabelToken ∷ []) read_flip (SpelledForm Form.Flip)
unfolding read_flip
flip_decides =
    then_bound (LabelToken ∷ LabelToken ∷ [])
    (λ bound. take_token read_label bound.1 >>= (λ met. take_token read_label met.1 >>= (λ unmet. ending (Instructs (Flip bound.0 met.0 unmet.0)) unmet.1)))
    (λ b. SpelledBy label_of (λ met. SpelledBy label_of (λ unmet. SpelledEnd (Instructs (Flip b met unmet))))) (λ b.
    then_label (LabelToken ∷ []) (λ met. take_token read_label met.1 >>= (λ unmet. ending (Instructs (Flip b met.0 unmet.0)) unmet.1)) (λ met. SpelledBy label_of (λ unmet. SpelledEnd (Instructs (Flip b met unmet)))) (λ met.
    then_label [] (λ unmet. ending (Instructs (Flip b met unmet.0)) unmet.1) (λ unmet. SpelledEnd (Instructs (Flip b met unmet))) (λ unmet. end_decides (Instructs (Flip b met unmet)))))

pub form_decides : (form : Form) → Decides (map labelled_position (positions_of form)) (read_form form) (SpelledForm form)
form_decides Form.Sense = sense_decides
form_decides Form.Mark = marked_decides Mark
form_decides Form.Unmark = marked_decides Unmark
form_decides Form.PickUp = branches_decides PickUp
form_decides Form.Drop = drop_decides
form_decides Form.Turn = turn_decides
form_decides Form.Move = branches_decides Move
form_decides Form.Flip = flip_decides

-- how the rest of a keyword's line is spelled
abbrev pub SpelledKeyword : Keyword → List (List ℕ) → Line → Type 0
SpelledKeyword BlockWord = SpelledBy name_of (λ name. SpelledAllBy name_of most_parameters (Begins name))
SpelledKeyword EndWord = SpelledEnd Ends
SpelledKeyword UseWord = SpelledBy name_of (λ name. SpelledAllBy label_of most_parameters (Uses name))

all_read-then : {A : Type 0} (read : List ℕ → Read A) (n : ℕ) (make : List A → Line) (tokens : List (List ℕ)) → (all_read read n tokens >>= (λ others. Ok (make others))) ≡ (take_all read n tokens >>= (λ others. ending (make others.0) others.1))
all_read-then {A} read n make tokens = go (take_all read n tokens)
  where
    go : (r : Step (List A)) → ((r >>= (λ others. lifted (take_end others.1) >>= (λ end. Ok others.0))) >>= (λ others. Ok (make others))) ≡ (r >>= (λ others. ending (make others.0) others.1))
    go (Ok others) = bind_assoc (lifted (take_end others.1)) (λ end. Ok others.0) (λ xs. Ok (make xs))
    go (Err fault) = refl

pub keyword_decides : (word : Keyword) → Decides (positions_of_keyword word) (read_keyword word) (SpelledKeyword word)
unfolding read_named read_name read_label
keyword_decides BlockWord =
    then_name (replicate most_parameters MayName) (λ name. all_read read_name most_parameters name.1 >>= (λ others. Ok (Begins name.0 others))) (λ name. SpelledAllBy name_of most_parameters (Begins name)) (λ name.
    Decides-same (λ tokens. all_read-then read_name most_parameters (Begins name) tokens) (all_decides MayName name_of BadName may_name_token (λ number. refl) most_parameters (Begins name)))
keyword_decides EndWord = end_decides Ends
keyword_decides UseWord =
    then_name (replicate most_parameters MayLabel) (λ name. all_read read_label most_parameters name.1 >>= (λ others. Ok (Uses name.0 others))) (λ name. SpelledAllBy label_of most_parameters (Uses name)) (λ name.
    Decides-same (λ tokens. all_read-then read_label most_parameters (Uses name) tokens) (all_decides MayLabel label_of BadName may_label_token (λ number. refl) most_parameters (Uses name)))
