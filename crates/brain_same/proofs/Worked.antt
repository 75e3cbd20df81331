-- Comparisons, worked out on small brains.
use Rattle.std.proofs.Common.{◌≡◌, ℕ, zero, suc, ◌<◌, Bool, true, false, List, [], ◌∷◌, length, Some, None, codes, refl, sym, ap, ◌∙◌, arith}
use Rattle.std.specs.Prelude.{nat_eq, nat_lt, ◌&&◌}
use Rattle.std.specs.Fmt.{digits}
use Rattle.std.proofs.lemmas.Bool.{and_parts, eqb-true, ltb-true}
use Rattle.std.proofs.lemmas.Option.{same_Some}
use Rattle.hex_geometry.specs.declared.direction.Side.TheVariants.{Left, Right}
use Rattle.brain_read.specs.declared.instr.Instr.{Instr}
use Rattle.brain_read.specs.declared.instr.Instr.TheVariants.{Mark, PickUp, Drop, Turn, Move, Flip}
use Rattle.brain_read.specs.Canonical.{instruction_text}
use Rattle.ant_turn.specs.Turn.{instruction_at}
use Rattle.brain_read.specs.Grammar.{states_of}
use Rattle.brain_minimise.specs.Equivalence.{AreRelated, shape_of}
use Rattle.brain_same.specs.declared.comparison.Comparison.TheVariants.{Same, Different}
use Rattle.brain_same.specs.Answers.{IsNoLater, led_to, next_by}
use Rattle.brain_same.specs.Answers.IsNoLater.{IsShorter, IsAsLong}
use Rattle.brain_same.specs.Difference.{AreSame, IsFirstDifference, TellsApart}
use Rattle.brain_same.specs.Text.{comparison_text, found_text}

-- an instruction that names one state has one answer; a Flip of bound 1, and one whose branches are equal, has two
answers_of : (next_by (Drop 3) true ≡ Some 3) × (next_by (Drop 3) false ≡ None) × (next_by (Flip 1 4 5) false ≡ Some 5) × (next_by (Move 6 6) false ≡ Some 6)
answers_of = (refl, refl, refl, refl)

-- a brain of five states
abbrev five : List Instr
five = Move 1 2 ∷ Turn Left 3 ∷ Drop 4 ∷ PickUp 0 4 ∷ Flip 1 0 2 ∷ []

-- the first answer of a list is given first
led : (led_to five (false ∷ true ∷ false ∷ []) 0 ≡ Some 2) × (led_to five (true ∷ true ∷ false ∷ []) 0 ≡ Some 4) × (led_to five (true ∷ false ∷ []) 0 ≡ None)
led = (refl, refl, refl)

-- a shorter list comes first, whatever its answers
shorter_first : IsNoLater (false ∷ []) (true ∷ true ∷ [])
shorter_first = IsShorter (omega arith)

longer_later : IsNoLater (true ∷ true ∷ []) (false ∷ []) → ⊥
longer_later (IsShorter less) = omega arith
longer_later (IsAsLong long first) = omega arith

-- of two of one length the one that has met where they first part
met_first : IsNoLater (true ∷ false ∷ []) (false ∷ true ∷ [])
met_first = IsAsLong refl tt

unmet_later : IsNoLater (false ∷ true ∷ []) (true ∷ false ∷ []) → ⊥
unmet_later (IsShorter less) = omega arith
unmet_later (IsAsLong long first) = first

-- brains that differ at once, after no answers
at_once : IsFirstDifference (Turn Left 0 ∷ []) (Turn Right 0 ∷ []) 0 0 0
at_once = record { answers = []; count = refl; apart = record { one = refl; other = refl; differ = λ same. cc }; least = none_before } where
  none_before : (others : List Bool) (c d : ℕ) → TellsApart (Turn Left 0 ∷ []) (Turn Right 0 ∷ []) others c d → IsNoLater [] others
  none_before [] c d apart = IsAsLong refl tt
  none_before (met ∷ others) c d apart = IsShorter (omega arith)

-- two brains of which both answers of the Moves lead to a difference: after the met one
abbrev pub straight : List Instr
straight = Move 1 2 ∷ Turn Left 0 ∷ Drop 0 ∷ []

abbrev pub crossed : List Instr
crossed = Move 2 1 ∷ Turn Left 0 ∷ Drop 0 ∷ []

alike_at_first : (c d : ℕ) → TellsApart straight crossed [] c d → ⊥
alike_at_first c d apart =
    apart.differ
    (ap (λ s. shape_of (instruction_at straight s)) (sym (same_Some 0 c apart.one)) ∙ ap (λ s. shape_of (instruction_at crossed s)) (same_Some 0 d apart.other))

pub met_apart : TellsApart straight crossed (true ∷ []) 1 2
met_apart = record { one = refl; other = refl; differ = λ same. cc }

pub none_before_met : (others : List Bool) (c d : ℕ) → TellsApart straight crossed others c d → IsNoLater (true ∷ []) others
none_before_met [] c d apart = absurd (alike_at_first c d apart)
none_before_met (true ∷ []) c d apart = IsAsLong refl tt
none_before_met (false ∷ []) c d apart = IsAsLong refl tt
none_before_met (met ∷ more ∷ others) c d apart = IsShorter (omega arith)

met_differs : IsFirstDifference straight crossed 1 1 2
met_differs = record { answers = true ∷ []; count = refl; apart = met_apart; least = none_before_met }

-- and not after the unmet one
unmet_differs_later : IsFirstDifference straight crossed 1 2 1 → ⊥
unmet_differs_later difference = go difference.answers difference.count difference.apart (difference.least (true ∷ []) 1 2 met_apart) where
  go : (answers : List Bool) → length answers ≡ 1 → TellsApart straight crossed answers 2 1 → IsNoLater answers (true ∷ []) → ⊥
  go [] count apart no_later = omega arith
  go (true ∷ []) count apart no_later = let other : ◌≡◌ {A = ℕ} 1 2 = same_Some 1 2 apart.one in omega arith
  go (false ∷ []) count apart (IsShorter less) = omega arith
  go (false ∷ []) count apart (IsAsLong long first) = first
  go (met ∷ more ∷ answers) count apart no_later = omega arith

-- what nothing leads to counts for nothing
unreached : AreSame (Drop 0 ∷ Mark 1 0 ∷ []) (Drop 0 ∷ [])
unreached = record {
  related = λ a b. nat_eq a 0 && nat_eq b 0;
  bisimulation = record {
    inside = λ a b holds. let it = zeros a b holds in (omega (arith, it.0), omega (arith, it.1));
    shape = λ a b holds. let it = zeros a b holds in
        ap (λ s. shape_of (instruction_at (Drop 0 ∷ Mark 1 0 ∷ []) s)) it.0 ∙ sym (ap (λ s. shape_of (instruction_at (Drop 0 ∷ []) s)) it.1);
    onward = onward;
  };
  holds = refl;
} where
  zeros : (a b : ℕ) → (nat_eq a 0 && nat_eq b 0) ≡ true → (a ≡ 0) × (b ≡ 0)
  zeros a b holds = let both = and_parts (nat_eq a 0) (nat_eq b 0) holds in (eqb-true a 0 both.0, eqb-true b 0 both.1)

  onward : (a b : ℕ) → (nat_eq a 0 && nat_eq b 0) ≡ true → AreRelated (λ a b. nat_eq a 0 && nat_eq b 0) (states_of (instruction_at (Drop 0 ∷ Mark 1 0 ∷ []) a)) (states_of (instruction_at (Drop 0 ∷ []) b))
  onward zero zero holds = (refl, tt)
  onward zero (suc b) holds = let it = zeros zero (suc b) holds in absurd (omega (arith, it.1))
  onward (suc a) b holds = let it = zeros (suc a) b holds in absurd (omega (arith, it.0))

-- a ring of two Drops and one of three are the same
abbrev pub two_ring : List Instr
two_ring = Drop 1 ∷ Drop 0 ∷ []

abbrev pub three_ring : List Instr
three_ring = Drop 1 ∷ Drop 2 ∷ Drop 0 ∷ []

pub rings : AreSame two_ring three_ring
rings = record {
  related = λ a b. nat_lt a 2 && nat_lt b 3;
  bisimulation = record {
    inside = below;
    shape = λ a b holds. let it = below a b holds in shapes a b it.0 it.1;
    onward = λ a b holds. let it = below a b holds in onward a b it.0 it.1;
  };
  holds = refl;
} where
  below : (a b : ℕ) → (nat_lt a 2 && nat_lt b 3) ≡ true → (a < 2) × (b < 3)
  below a b holds = let both = and_parts (nat_lt a 2) (nat_lt b 3) holds in (ltb-true a 2 both.0, ltb-true b 3 both.1)

  shapes : (a b : ℕ) → a < 2 → b < 3 → shape_of (instruction_at two_ring a) ≡ shape_of (instruction_at three_ring b)
  shapes a (suc (suc (suc b))) low high = absurd (omega arith)
  shapes (suc (suc a)) b low high = absurd (omega arith)
  shapes a b low high = refl

  onward : (a b : ℕ) → a < 2 → b < 3 → AreRelated (λ a b. nat_lt a 2 && nat_lt b 3) (states_of (instruction_at two_ring a)) (states_of (instruction_at three_ring b))
  onward a (suc (suc (suc b))) low high = absurd (omega arith)
  onward (suc (suc a)) b low high = absurd (omega arith)
  onward a b low high = (refl, tt)

-- the texts
same_told : comparison_text Same ≡ codes "same\n"
unfolding comparison_text
same_told = refl

difference_told : comparison_text (Different 3 (record { state = 12; instruction = Move 13 4 }) (record { state = 7; instruction = Turn Left 8 }))
    ≡ codes "different after 3 answers\nfirst 12: Move 13 4\nsecond 7: Turn Left 8\n"
unfolding comparison_text digits found_text instruction_text
difference_told = refl

-- `answers` for every number, also 1
one_told : comparison_text (Different 1 (record { state = 0; instruction = Drop 0 }) (record { state = 1; instruction = Flip 1 2 3 }))
    ≡ codes "different after 1 answers\nfirst 0: Drop 0\nsecond 1: Flip 1 2 3\n"
unfolding comparison_text digits found_text instruction_text
one_told = refl
