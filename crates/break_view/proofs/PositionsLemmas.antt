-- The reading of a line stops at the first position at fault.
use Rattle.std.proofs.Common.{◌≡◌, ℕ, List, [], ◌∷◌, ◌++◌, Option, Some, None, Ok, option_map, refl, ap, ◌∙◌}
use Rattle.ant_base.specs.Number.{number_within}
use Rattle.cell_world.specs.declared.ant.Colour.{Colour}
use Rattle.word_table.specs.Words.{word_place}
use Rattle.line_tokens.specs.declared.refusal.LineFault.{LineFault}
use Rattle.line_tokens.specs.Judgement.{nothing_more, judged}
use Rattle.line_tokens.specs.Steps.{Read, Step, ◌>>=◌, or_refused, take_word, take_number, take_end}
use Rattle.line_tokens.proofs.JudgementLemmas as judging
use Rattle.line_tokens.proofs.LineFaults.{fault_of_read}
use Rattle.line_tokens.proofs.PlacesLemmas.{named-place}
use Rattle.break_view.specs.declared.breaks.Break.{Break}
use Rattle.break_view.specs.declared.breaks.Break.TheVariants.{Round, State, Stand, Food, Killed, Score}
use Rattle.break_view.specs.declared.fault.BreakFault.{BreakFault}
use Rattle.break_view.specs.declared.words.BreakWord.{BreakWord}
use Rattle.break_view.specs.Forms.{word_of_break, word_of_colour, break_kinds, colours, most_number}
use Rattle.break_view.specs.Inner.Places.{break_words, colour_words, break_at, colour_at}
use Rattle.break_view.specs.Positions.{Position, positions_of, accepted, fault_of, first_fault}
use Rattle.break_view.specs.Positions.Position.{BreakToken, ColourToken, NumberToken}
use Rattle.break_view.specs.Inner.Steps.{take_colour, take_any}
use Rattle.break_view.specs.Inner.Reading.{read_number, read_coloured, read_stand, read_food, read_form, read_line}
use Rattle.break_view.specs.Inner.Verdict.{fault_at, refusal_at}

-- the fault of a line of this number that was read
abbrev pub fault_in : ℕ → Read Break → Option BreakFault
fault_in line read = fault_of_read refusal_at line read

-- a step judges its position
abbrev Judges : {A : Type 0} → Position → (List (List ℕ) → Step A) → (A → List Position) → Type 0
Judges position take brings = judging.Judges Break first_fault refusal_at position take brings

-- one token at its position
judge_token : (line : ℕ) (token : List ℕ) (rest : List (List ℕ)) (positions : List Position) (o : Option ℕ) (brings : ℕ → List Position) (fault : LineFault) (f : ℕ × List (List ℕ) → Read Break)
    → ((x : ℕ) → first_fault line rest (brings x ++ positions) ≡ fault_in line (f (x, rest)))
    → judged (option_map brings o) (fault_at line fault) (λ more. first_fault line rest (more ++ positions)) ≡ fault_in line (or_refused o rest token fault >>= f)
judge_token line token rest positions None brings fault f next = refl
judge_token line token rest positions (Some x) brings fault f next = next x

-- a step whose token is a word of a table
word_judges : (words : List (List ℕ)) (position : Position) (brings : ℕ → List Position) → ((token : List ℕ) → accepted position token ≡ option_map brings (word_place words token)) → ((line : ℕ) → fault_of position line ≡ fault_at line LineFault.UnknownWord) → Judges position (take_word words) brings
word_judges words position brings accepts faults = record { steps = steps }
  where
    steps : (line : ℕ) (tokens : List (List ℕ)) (positions : List Position) (f : ℕ × List (List ℕ) → Read Break) → ((x : ℕ) (rest : List (List ℕ)) → first_fault line rest (brings x ++ positions) ≡ fault_in line (f (x, rest))) → first_fault line tokens (position ∷ positions) ≡ fault_in line (take_word words tokens >>= f)
    steps line [] positions f next = refl
    steps line (token ∷ rest) positions f next =
        ap (λ a. judged a (fault_of position line) (λ more. first_fault line rest (more ++ positions))) (accepts token)
        ∙ ap (λ b. judged (option_map brings (word_place words token)) b (λ more. first_fault line rest (more ++ positions))) (faults line)
        ∙ judge_token line token rest positions (word_place words token) brings LineFault.UnknownWord f (λ i. next i rest)

colour_judges : Judges ColourToken take_colour (λ c. [])
unfolding take_colour colour_words
colour_judges =
    judging.named_judges colour_words ColourToken
    (word_judges colour_words ColourToken (λ i. []) (λ token. named-place word_of_colour colour_at nothing_more colours token (refl, (refl, tt))) (λ line. refl))
    colour_at

any_judges : Judges NumberToken take_any (λ n. [])
unfolding take_any
any_judges = record { steps = steps }
  where
    steps : (line : ℕ) (tokens : List (List ℕ)) (positions : List Position) (f : ℕ × List (List ℕ) → Read Break) → ((n : ℕ) (rest : List (List ℕ)) → first_fault line rest ([] ++ positions) ≡ fault_in line (f (n, rest))) → first_fault line tokens (NumberToken ∷ positions) ≡ fault_in line (take_number 0 most_number tokens >>= f)
    steps line [] positions f next = refl
    steps line (token ∷ rest) positions f next =
        judge_token line token rest positions (number_within 0 most_number token) nothing_more LineFault.BadNumber f (λ n. next n rest)

-- the end of the line
end_fault : (line : ℕ) (tokens : List (List ℕ)) (item : Break) → first_fault line tokens [] ≡ fault_in line (take_end tokens >>= (λ end. Ok item))
end_fault line [] item = refl
end_fault line (token ∷ tokens) item = refl

number_fault : (line : ℕ) (make : ℕ → Break) (tokens : List (List ℕ)) → first_fault line tokens (NumberToken ∷ []) ≡ fault_in line (read_number make tokens)
unfolding read_number
number_fault line make tokens = any_judges.steps line tokens [] _ (λ n r1. end_fault line r1 (make n))

coloured_fault : (line : ℕ) (make : Colour → ℕ → Break) (tokens : List (List ℕ)) → first_fault line tokens (ColourToken ∷ NumberToken ∷ []) ≡ fault_in line (read_coloured make tokens)
unfolding read_coloured
coloured_fault line make tokens =
    colour_judges.steps line tokens (NumberToken ∷ []) _ (λ c r1.
    any_judges.steps line r1 [] _ (λ n r2. end_fault line r2 (make c n)))

stand_fault : (line : ℕ) (tokens : List (List ℕ)) → first_fault line tokens (positions_of BreakWord.Stand) ≡ fault_in line (read_stand tokens)
unfolding read_stand
stand_fault line tokens =
    colour_judges.steps line tokens (NumberToken ∷ NumberToken ∷ []) _ (λ c r1.
    any_judges.steps line r1 (NumberToken ∷ []) _ (λ x r2.
    any_judges.steps line r2 [] _ (λ y r3. end_fault line r3 (Stand c x y))))

food_fault : (line : ℕ) (tokens : List (List ℕ)) → first_fault line tokens (positions_of BreakWord.Food) ≡ fault_in line (read_food tokens)
unfolding read_food
food_fault line tokens =
    any_judges.steps line tokens (NumberToken ∷ NumberToken ∷ []) _ (λ x r1.
    any_judges.steps line r1 (NumberToken ∷ []) _ (λ y r2.
    any_judges.steps line r2 [] _ (λ n r3. end_fault line r3 (Food x y n))))

form_fault : (line : ℕ) (word : BreakWord) (tokens : List (List ℕ)) → first_fault line tokens (positions_of word ++ []) ≡ fault_in line (read_form word tokens)
form_fault line BreakWord.Round tokens = number_fault line Round tokens
form_fault line BreakWord.State tokens = coloured_fault line State tokens
form_fault line BreakWord.Stand tokens = stand_fault line tokens
form_fault line BreakWord.Food tokens = food_fault line tokens
form_fault line BreakWord.Killed tokens = number_fault line Killed tokens
form_fault line BreakWord.Score tokens = coloured_fault line Score tokens

break_judges : Judges BreakToken (take_word break_words) (λ i. positions_of (break_at i))
unfolding break_words
break_judges =
    word_judges break_words BreakToken (λ i. positions_of (break_at i))
    (λ token. named-place word_of_break break_at positions_of break_kinds token (refl, (refl, (refl, (refl, (refl, (refl, tt)))))))
    (λ line. refl)

-- the fault that the reading of a line answers is that of the first position at fault
pub line_faulted : (line : ℕ) (tokens : List (List ℕ)) → first_fault line tokens (BreakToken ∷ []) ≡ fault_in line (read_line tokens)
unfolding read_line
line_faulted line tokens = break_judges.steps line tokens [] (λ w. read_form (break_at w.0) w.1) (λ i rest. form_fault line (break_at i) rest)
