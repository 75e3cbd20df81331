-- The canonical text of a brain is read as that brain.
use Rattle.std.proofs.Common.{◌≡◌, ◌+◌, ◌<◌, ◌≤◌, ℕ, suc, true, false, List, [], ◌∷◌, ◌++◌, length, map, flat_map, codes, Some, slice_get, refl, get_or, take, drop, sym, ap, ◌∙◌, subst, arith, append_assoc, take-append-drop}
use Rattle.std.specs.List.{AllByRecursion}
use Rattle.std.proofs.lemmas.List.{take_more, flat_map_more}
use Rattle.std.proofs.lemmas.Grind.{flat_map-append}
use Rattle.hex_geometry.specs.declared.direction.Side.{Side}
use Rattle.hex_geometry.specs.declared.direction.Side.TheVariants.{Left, Right}
use Rattle.hex_geometry.specs.declared.neighbourhood.Sight.{Sight}
use Rattle.hex_geometry.specs.declared.neighbourhood.Sight.TheVariants.{Here, Ahead, LeftAhead, RightAhead}
use Rattle.ant_base.specs.Lines.{lines_of}
use Rattle.ant_base.proofs.Linewise.{lines_of-line}
use Rattle.line_tokens.proofs.LinesByTokens.{by_tokens}
use Rattle.line_tokens.proofs.PrintedLemmas.{IsToken, IsPrinted, body, line_text-body, tokens_of-body, no_lf-body, spelled_again, token}
use Rattle.brain_read.specs.declared.instr.Cond.{Cond}
use Rattle.brain_read.specs.declared.instr.Cond.TheVariants.{Friend, Foe, FriendWithFood, FoeWithFood, Food, Rock, Marker, FoeMarker, Home, FoeHome}
use Rattle.brain_read.specs.declared.instr.Instr.{Instr}
use Rattle.brain_read.specs.declared.instr.Instr.TheVariants.{Sense, Mark, Unmark, PickUp, Drop, Turn, Move, Flip}
use Rattle.brain_read.specs.Soundness.{most_states, IsSoundCondition, IsSound, IsBrain}
use Rattle.line_tokens.specs.Tokens.{tokens_of, has_token}
use Rattle.line_tokens.specs.Fields.{LineField, field_text, further_text, line_text}
use Rattle.brain_read.specs.Forms.{word_of_sight, word_of_side, fields_of_condition, fields_of, IsInRange, HasBound, InstrLine}
use Rattle.line_tokens.specs.Fields.LineField.{Word, Number}
use Rattle.line_tokens.specs.TokenLines.{TokenLine, with_line, token_lines}
use Rattle.brain_read.specs.Grammar.{AreLines, StatesBelow, IsBrainText}
use Rattle.brain_read.specs.Canonical.{instruction_text, instruction_words, words_text, further_words, brain_text}
use Rattle.brain_read.proofs.SoundnessLemmas.{states_of-below}

-- words and the LF are a line
further_words-line : (fields : List LineField) → further_words fields ++ 10 ∷ [] ≡ further_text fields
further_words-line [] = refl
further_words-line (field ∷ fields) = ap (λ t. 32 ∷ t) (append_assoc (field_text field) (further_words fields) (10 ∷ []) ∙ ap (λ t. field_text field ++ t) (further_words-line fields))

words_text-line : (fields : List LineField) → words_text fields ++ 10 ∷ [] ≡ line_text fields
words_text-line [] = refl
words_text-line (field ∷ fields) = append_assoc (field_text field) (further_words fields) (10 ∷ []) ∙ ap (λ t. field_text field ++ t) (further_words-line fields)

pub line_of_words : (i : Instr) → instruction_words i ++ codes "\n" ≡ instruction_text i
unfolding instruction_words instruction_text
line_of_words i = words_text-line (fields_of i)

pub sight_token : (s : Sight) → IsToken (word_of_sight s)
sight_token Here = token (codes "Here") refl refl
sight_token Ahead = token (codes "Ahead") refl refl
sight_token LeftAhead = token (codes "LeftAhead") refl refl
sight_token RightAhead = token (codes "RightAhead") refl refl

pub side_token : (s : Side) → IsToken (word_of_side s)
side_token Left = token (codes "Left") refl refl
side_token Right = token (codes "Right") refl refl

pub condition_printed : (c : Cond) → IsSoundCondition c → AllByRecursion IsPrinted (fields_of_condition c)
condition_printed Friend sound = (token (codes "Friend") refl refl, tt)
condition_printed Foe sound = (token (codes "Foe") refl refl, tt)
condition_printed FriendWithFood sound = (token (codes "FriendWithFood") refl refl, tt)
condition_printed FoeWithFood sound = (token (codes "FoeWithFood") refl refl, tt)
condition_printed Food sound = (token (codes "Food") refl refl, tt)
condition_printed Rock sound = (token (codes "Rock") refl refl, tt)
condition_printed (Marker i) sound = (token (codes "Marker") refl refl, (omega (arith, sound), tt))
condition_printed FoeMarker sound = (token (codes "FoeMarker") refl refl, tt)
condition_printed Home sound = (token (codes "Home") refl refl, tt)
condition_printed FoeHome sound = (token (codes "FoeHome") refl refl, tt)

-- the fields of an instruction whose numbers have at most ten digits
printed : (n : ℕ) (i : Instr) → n ≤ most_states → IsSound n i → IsInRange i → AllByRecursion IsPrinted (fields_of i)
printed n (Sense s m u c) few sound range = (token (codes "Sense") refl refl, (sight_token s, (below m few sound.0, (below u few sound.1, condition_printed c sound.2))))
  where
    below : (k : ℕ) → n ≤ most_states → k < n → k < 10000000000
    below k few lt = omega arith
printed n (Mark i k) few sound range = (token (codes "Mark") refl refl, (omega (arith, sound.0), (omega (arith, sound.1), tt)))
printed n (Unmark i k) few sound range = (token (codes "Unmark") refl refl, (omega (arith, sound.0), (omega (arith, sound.1), tt)))
printed n (PickUp m u) few sound range = (token (codes "PickUp") refl refl, (omega (arith, sound.0), (omega (arith, sound.1), tt)))
printed n (Drop k) few sound range = (token (codes "Drop") refl refl, (omega (arith, sound), tt))
printed n (Turn s k) few sound range = (token (codes "Turn") refl refl, (side_token s, (omega (arith, sound), tt)))
printed n (Move m u) few sound range = (token (codes "Move") refl refl, (omega (arith, sound.0), (omega (arith, sound.1), tt)))
printed n (Flip b m u) few sound range = (token (codes "Flip") refl refl, (omega (arith, range.1), (omega (arith, sound.1), (omega (arith, sound.2), tt))))

-- a line that was printed, and what is read of it
pub tokens_of-line : (i : Instr) → AllByRecursion IsPrinted (fields_of i) → tokens_of (body (fields_of i)) ≡ map field_text (fields_of i)
tokens_of-line (Sense s m u c) all = tokens_of-body (Word (codes "Sense")) (Word (word_of_sight s) ∷ Number m ∷ Number u ∷ fields_of_condition c) all
tokens_of-line (Mark i k) all = tokens_of-body (Word (codes "Mark")) (Number i ∷ Number k ∷ []) all
tokens_of-line (Unmark i k) all = tokens_of-body (Word (codes "Unmark")) (Number i ∷ Number k ∷ []) all
tokens_of-line (PickUp m u) all = tokens_of-body (Word (codes "PickUp")) (Number m ∷ Number u ∷ []) all
tokens_of-line (Drop k) all = tokens_of-body (Word (codes "Drop")) (Number k ∷ []) all
tokens_of-line (Turn s k) all = tokens_of-body (Word (codes "Turn")) (Word (word_of_side s) ∷ Number k ∷ []) all
tokens_of-line (Move m u) all = tokens_of-body (Word (codes "Move")) (Number m ∷ Number u ∷ []) all
tokens_of-line (Flip b m u) all = tokens_of-body (Word (codes "Flip")) (Number b ∷ Number m ∷ Number u ∷ []) all

pub has_token-line : (i : Instr) → has_token (map field_text (fields_of i)) ≡ true
has_token-line (Sense s m u c) = refl
has_token-line it = refl

-- what the law asks of each instruction
record IsPrintedLine (n : ℕ) (i : Instr) : Type 0 where
  sound : IsSound n i
  range : IsInRange i

abbrev ArePrinted : ℕ → List Instr → Type 0
ArePrinted n list = AllByRecursion (IsPrintedLine n) list

lines_of-text : (n : ℕ) (list : List Instr) → n ≤ most_states → ArePrinted n list → lines_of (flat_map instruction_text list) ≡ map (λ i. body (fields_of i)) list
unfolding instruction_text
lines_of-text n [] few all = refl
lines_of-text n (i ∷ list) few all =
    let here = printed n i few all.0.sound all.0.range in
    ap lines_of (ap (λ t. t ++ flat_map instruction_text list) (line_text-body (fields_of i)) ∙ append_assoc (body (fields_of i)) (10 ∷ []) (flat_map instruction_text list))
    ∙ lines_of-line (body (fields_of i)) (flat_map instruction_text list) (no_lf-body (fields_of i) here)
    ∙ ap (λ ls. body (fields_of i) ∷ ls) (lines_of-text n list few all.1)

one_line : (k : ℕ) (tokens : List (List ℕ)) (lines : List TokenLine) (i : Instr) (list : List Instr) → has_token tokens ≡ true → InstrLine tokens i → AreLines lines list → AreLines (with_line k tokens lines) (i ∷ list)
one_line k [] lines i list has line rest = (let never : false ≡ true = has in absurd (cc))
one_line k (t ∷ tokens) lines i list has line rest = (line, rest)

are_lines_again : (n k : ℕ) (list : List Instr) → n ≤ most_states → ArePrinted n list → AreLines (token_lines k (map (λ i. body (fields_of i)) list)) list
are_lines_again n k [] few all = tt
are_lines_again n k (i ∷ list) few all =
    let here = printed n i few all.0.sound all.0.range in
    let line : InstrLine (map field_text (fields_of i)) i = record { spelled = spelled_again (fields_of i) here; in_range = all.0.range } in
    subst (λ tokens. AreLines (with_line k tokens (token_lines (k + 1) (map (λ j. body (fields_of j)) list))) (i ∷ list)) (sym (tokens_of-line i here))
    (one_line k (map field_text (fields_of i)) (token_lines (k + 1) (map (λ j. body (fields_of j)) list)) i list (has_token-line i) line (are_lines_again n (k + 1) list few all.1))

all_below : (n : ℕ) (list : List Instr) → ArePrinted n list → StatesBelow n list
all_below n [] all = tt
all_below n (i ∷ list) all = (states_of-below n i all.0.sound, all_below n list all.1)

range_of : (n : ℕ) (i : Instr) → IsSound n i → HasBound i → IsInRange i
range_of n (Sense s m u c) sound bound = sound.2
range_of n (Mark i k) sound bound = sound.0
range_of n (Unmark i k) sound bound = sound.0
range_of n (PickUp m u) sound bound = tt
range_of n (Flip b m u) sound bound = (sound.0, bound)
range_of n it sound bound = tt

all_printed : (n : ℕ) (list : List Instr) → ((i : ℕ) (x : Instr) → slice_get list i ≡ Some x → IsSound n x) → AllByRecursion HasBound list → ArePrinted n list
all_printed n [] sound bounds = tt
all_printed n (x ∷ list) sound bounds = (record { sound = sound 0 x refl; range = range_of n x (sound 0 x refl) bounds.0 }, all_printed n list (λ i y at. sound (suc i) y at) bounds.1)

-- the canonical text of a brain is a text of that brain
pub text_again : (list : List Instr) → IsBrain list → AllByRecursion HasBound list → IsBrainText (brain_text list) list
unfolding brain_text
text_again list b bounds =
    let all = all_printed (length list) list b.sound bounds in
    record {
      lines = by_tokens InstrLine (flat_map instruction_text list) list
          (subst (λ lines. AreLines (token_lines 1 lines) list) (sym (lines_of-text (length list) list b.few all)) (are_lines_again (length list) 1 list b.few all));
      some = b.some;
      few = b.few;
      states = all_below (length list) list all;
    }

-- a canonical text, cut after one of its lines
pub brain_text-cut : (list : List Instr) (i : ℕ) (d : Instr) → i < length list → brain_text list ≡ (flat_map instruction_text (take i list) ++ instruction_text (get_or list i d)) ++ flat_map instruction_text (drop (i + 1) list)
unfolding brain_text
brain_text-cut list i d within =
    ap (flat_map instruction_text) (sym (take-append-drop (i + 1) list))
    ∙ flat_map-append instruction_text (take (i + 1) list) (drop (i + 1) list)
    ∙ ap (λ t. t ++ flat_map instruction_text (drop (i + 1) list))
    (ap (flat_map instruction_text) (take_more list i d within) ∙ sym (flat_map_more instruction_text [] (take i list) (get_or list i d)))
