-- Ways, worked out by hand.
use Rattle.std.proofs.Common.{◌≡◌, ℕ, Bool, true, false, List, [], ◌∷◌, codes, refl, ap, arith}
use Rattle.std.proofs.lemmas.Option.{same_Some}
use Rattle.std.specs.Fmt.{digits}
use Rattle.hex_geometry.specs.declared.direction.Side.TheVariants.{Left, Right}
use Rattle.hex_geometry.specs.declared.neighbourhood.Sight.TheVariants.{Here}
use Rattle.brain_read.specs.declared.instr.Cond.TheVariants.{Home}
use Rattle.brain_read.specs.declared.instr.Instr.{Instr}
use Rattle.brain_read.specs.declared.instr.Instr.TheVariants.{Sense, Mark, PickUp, Drop, Turn, Move, Flip}
use Rattle.brain_read.specs.Canonical.{instruction_text, instruction_words}
use Rattle.brain_same.specs.declared.comparison.Comparison.{Comparison}
use Rattle.brain_same.specs.declared.comparison.Comparison.TheVariants.{Same, Different}
use Rattle.brain_same.specs.declared.way.Step.{Step}
use Rattle.brain_same.specs.Answers.{IsNoLater}
use Rattle.brain_same.specs.Answers.IsNoLater.{IsShorter, IsAsLong}
use Rattle.brain_same.specs.Text.{answer_text, found_text, found_words, step_text, way_text}
use Rattle.brain_same.specs.Way.{IsWayComparison, LeadsOn, way_by}
use Rattle.brain_same.specs.Way.IsWayComparison.{NoWay, ByWay}
use Rattle.brain_same.proofs.SameLaws.{no_later-both, same_is_not_apart}
use Rattle.brain_same.proofs.Worked.{crossed, met_apart, none_before_met, straight}

-- a step, written out
abbrev pub step : ℕ → Instr → ℕ → Instr → Bool → Step
step a one b other met = record { first = record { state = a; instruction = one }; second = record { state = b; instruction = other }; met = met }

-- if both answers lead to a difference the way goes by the met one, from the states 0
met_goes : (comparison : Comparison) (steps : List Step) → IsWayComparison straight crossed comparison steps → steps ≡ step 0 (Move 1 2) 0 (Move 2 1) true ∷ []
met_goes comparison steps (NoWay same) = absurd (same_is_not_apart straight crossed same (true ∷ []) 1 2 met_apart)
met_goes comparison steps (ByWay many a b difference) =
    ap (λ answers. way_by straight crossed answers 0 0)
    (no_later-both difference.answers (true ∷ []) (difference.least (true ∷ []) 1 2 met_apart) (none_before_met difference.answers a b difference.apart))

-- that answer leads to 1 in the first brain and to 2 in the second, and in no case to the same state
never_there : (same : ℕ) → LeadsOn straight crossed (step 0 (Move 1 2) 0 (Move 2 1) true ∷ []) 0 0 same same → ⊥
never_there same (next, other, is, there) = omega (arith, same_Some 1 next is.leads, same_Some 2 other is.leads_too, there.0, there.1)

-- if states 0 differ, there is no step
none_goes : (comparison : Comparison) (steps : List Step) → IsWayComparison (Turn Left 0 ∷ []) (Turn Right 0 ∷ []) comparison steps → steps ≡ []
none_goes comparison steps (NoWay same) = refl
none_goes comparison steps (ByWay many a b difference) = go difference.answers (difference.least [] 0 0 (record { one = refl; other = refl; differ = λ same. cc })) where
  go : (answers : List Bool) → IsNoLater answers [] → way_by (Turn Left 0 ∷ []) (Turn Right 0 ∷ []) answers 0 0 ≡ []
  go [] first = refl
  go (met ∷ answers) (IsShorter less) = absurd (omega arith)
  go (met ∷ answers) (IsAsLong long first) = absurd (omega arith)

-- two brains that first differ after five answers: unmet by the Moves, met by a Flip of bound 1 whose branches are
-- equal, unmet by the PickUps, met by the Drops, which have no other answer, and met by a Sense whose branches are
-- equal
abbrev pub far_left : List Instr
far_left = Move 1 2 ∷ Mark 0 0 ∷ Flip 1 3 3 ∷ PickUp 0 4 ∷ Drop 5 ∷ Sense Here 6 6 Home ∷ Turn Left 0 ∷ []

abbrev pub far_right : List Instr
far_right = Move 6 1 ∷ Flip 1 2 2 ∷ PickUp 0 3 ∷ Drop 4 ∷ Sense Here 5 5 Home ∷ Turn Right 0 ∷ Mark 0 0 ∷ []

abbrev five_steps : List Step
five_steps = step 0 (Move 1 2) 0 (Move 6 1) false ∷ step 2 (Flip 1 3 3) 1 (Flip 1 2 2) true ∷ step 3 (PickUp 0 4) 2 (PickUp 0 3) false
    ∷ step 4 (Drop 5) 3 (Drop 4) true ∷ step 5 (Sense Here 6 6 Home) 4 (Sense Here 5 5 Home) true ∷ []

five_go : way_by far_left far_right (false ∷ true ∷ false ∷ true ∷ true ∷ []) 0 0 ≡ five_steps
five_go = refl

-- the texts
five_told : way_text (Different 5 (record { state = 6; instruction = Turn Left 0 }) (record { state = 5; instruction = Turn Right 0 })) five_steps
    ≡ codes "different after 5 answers\nfirst 0: Move 1 2, second 0: Move 6 1: unmet\nfirst 2: Flip 1 3 3, second 1: Flip 1 2 2: met\nfirst 3: PickUp 0 4, second 2: PickUp 0 3: unmet\nfirst 4: Drop 5, second 3: Drop 4: met\nfirst 5: Sense Here 6 6 Home, second 4: Sense Here 5 5 Home: met\nfirst 6: Turn Left 0\nsecond 5: Turn Right 0\n"
unfolding way_text step_text found_words answer_text digits found_text instruction_text instruction_words
five_told = refl

one_step_told : way_text (Different 1 (record { state = 1; instruction = Turn Left 0 }) (record { state = 2; instruction = Drop 0 })) (step 0 (Move 1 2) 0 (Move 2 1) true ∷ [])
    ≡ codes "different after 1 answers\nfirst 0: Move 1 2, second 0: Move 2 1: met\nfirst 1: Turn Left 0\nsecond 2: Drop 0\n"
unfolding way_text step_text found_words answer_text digits found_text instruction_text instruction_words
one_step_told = refl

no_step_told : way_text (Different 0 (record { state = 0; instruction = Turn Left 0 }) (record { state = 0; instruction = Turn Right 0 })) []
    ≡ codes "different after 0 answers\nfirst 0: Turn Left 0\nsecond 0: Turn Right 0\n"
unfolding way_text digits found_text instruction_text
no_step_told = refl

same_alone : way_text Same [] ≡ codes "same\n"
unfolding way_text
same_alone = refl
