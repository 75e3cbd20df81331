-- Brains that are the same: an equivalence, and what it means for lists of answers.
use Rattle.std.proofs.Common.{◌≡◌, inl, inr, ℕ, zero, suc, ◌<◌, Bool, true, false, List, [], ◌∷◌, map, length, slice_get, Option, Some, None, IsSome, unwrap_or, refl, sym, ap, ap₂, ◌∙◌, subst, arith}
use Rattle.std.specs.Prelude.{◌&&◌, ◌||◌, ◌==◌}
use Rattle.std.specs.List.{AllByRecursion}
use Rattle.std.proofs.lemmas.Bool.{or_left, or_right, and_from, and_parts, cases_lt, eq-eqb, eqb-true, or_cases}
use Rattle.std.proofs.lemmas.Option.{none-some, option_and_then_some, same_Some}
use Rattle.brain_read.specs.declared.instr.Instr.{Instr}
use Rattle.brain_read.specs.Grammar.{states_of}
use Rattle.brain_read.specs.Soundness.{IsBrain}
use Rattle.ant_turn.specs.Renumber.{Carries, Numbers, state_number}
use Rattle.ant_turn.specs.Turn.{instruction_at}
use Rattle.ant_turn.proofs.RenumberedTurns.{the_number}
use Rattle.brain_minimise.specs.Equivalence.{AreRelated, IsBisimulation, Relation, shape_of}
use Rattle.brain_minimise.specs.Minimised.{new_number}
use Rattle.brain_minimise.proofs.Equivalences.{names-related, same_name, same_name-says, same_name-true}
use Rattle.brain_minimise.proofs.MinimisedGames.{Carries-minimised}
use Rattle.brain_minimise.proofs.Ranks.{zero-number}
use Rattle.brain_minimise.proofs.RedirectedLemmas.{shape_of-redirected, states_of-redirected, successors-below}
use Rattle.brain_same.specs.declared.comparison.Comparison.{Comparison}
use Rattle.brain_same.specs.declared.comparison.Comparison.TheVariants.{Different}
use Rattle.brain_same.specs.Answers.{IsMetFirst, IsNoLater, led_to, next_by}
use Rattle.brain_same.specs.Answers.IsNoLater.{IsShorter, IsAsLong}
use Rattle.brain_same.specs.Difference.{AreSame, IsFirstDifference, found_of}
use Rattle.brain_same.specs.Difference.IsComparison.{IsSame, IsDifferent}
use Rattle.brain_same.specs.Laws.{MinimisedIsSame, OneComparison, SameIsEquivalence, SameIsNotApart}

-- the number itself
abbrev own : ℕ → ℕ
own n = n

-- equal states are a bisimulation of a brain and itself
same-itself : (brain : List Instr) → IsBrain brain → AreSame brain brain
same-itself brain sound =
    let some = sound.some in
    record {
      related = same_name (length brain) (length brain) own own;
      bisimulation = record {
        inside = λ a b holds. let it = same_name-says (length brain) (length brain) own own a b holds in (it.low, it.high);
        shape = λ a b holds. ap (λ s. shape_of (instruction_at brain s)) (same_name-says (length brain) (length brain) own own a b holds).one;
        onward = λ a b holds.
            let it = same_name-says (length brain) (length brain) own own a b holds in
            names-related (length brain) (length brain) own own (states_of (instruction_at brain a)) (states_of (instruction_at brain b))
            (ap (λ s. map own (states_of (instruction_at brain s))) it.one) (successors-below brain a sound it.low) (successors-below brain b sound it.high);
      };
      holds = same_name-true (length brain) (length brain) own own 0 0 (omega arith) (omega arith) refl;
    }

-- lists related the other way round
related-turned : (related : Relation) (states others : List ℕ) → AreRelated related states others → AreRelated (λ a b. related b a) others states
related-turned related [] [] all = tt
related-turned related (a ∷ states) (b ∷ others) all = (all.0, related-turned related states others all.1)
related-turned related it that all = absurd all

same-turned : (first second : List Instr) → AreSame first second → AreSame second first
same-turned first second same = record {
  related = λ a b. same.related b a;
  bisimulation = record {
    inside = λ a b holds. let it = same.bisimulation.inside b a holds in (it.1, it.0);
    shape = λ a b holds. sym (same.bisimulation.shape b a holds);
    onward = λ a b holds. related-turned same.related (states_of (instruction_at first b)) (states_of (instruction_at second a)) (same.bisimulation.onward b a holds);
  };
  holds = same.holds;
}

-- whether some number below n passes a test
any_below : ℕ → (ℕ → Bool) → Bool
any_below zero test = false
any_below (suc n) test = test n || any_below n test

any_below-true : (n : ℕ) (test : ℕ → Bool) (k : ℕ) → k < n → test k ≡ true → any_below n test ≡ true
unfolding any_below
any_below-true zero test k low passes = absurd (omega arith)
any_below-true (suc n) test k low passes =
    elim (cases_lt k n) [
      | inl less ↦ or_right (test n) (any_below n test) (any_below-true n test k less passes)
      | inr last ↦ let one : k ≡ n = omega arith in or_left (test n) (any_below n test) (ap test (sym one) ∙ passes)
    ]

any_below-says : (n : ℕ) (test : ℕ → Bool) → any_below n test ≡ true → (k : ℕ) × (k < n) × (test k ≡ true)
unfolding any_below
any_below-says zero test holds = absurd (cc)
any_below-says (suc n) test holds =
    elim (or_cases (test n) (any_below n test) holds) [
      | inl one ↦ (n, omega arith, one)
      | inr more ↦ let it = any_below-says n test more in (it.0, omega (arith, it.1), it.2)
    ]

-- lists related through a third
related-through : (one other both : Relation) → ((a b c : ℕ) → one a b ≡ true → other b c ≡ true → both a c ≡ true) → (states middle others : List ℕ) → AreRelated one states middle → AreRelated other middle others → AreRelated both states others
related-through one other both join [] [] [] all more = tt
related-through one other both join [] (b ∷ middle) others all more = absurd all
related-through one other both join (a ∷ states) [] others all more = absurd all
related-through one other both join (a ∷ states) (b ∷ middle) (c ∷ others) all more = (join a b c all.0 more.0, related-through one other both join states middle others all.1 more.1)
related-through one other both join it that others all more = absurd more

module _ (first second third : List Instr) (one : AreSame first second) (other : AreSame second third) where
  -- related through a state of the second
  abbrev through : Relation
  through a c = any_below (length second) (λ b. one.related a b && other.related b c)

  -- what the test says
  record Through (a c : ℕ) : Type 0 where
    pub b : ℕ
    pub to : one.related a b ≡ true
    pub on : other.related b c ≡ true

  through-says : (a c : ℕ) → through a c ≡ true → Through a c
  through-says a c holds =
      let it = any_below-says (length second) (λ b. one.related a b && other.related b c) holds in
      let both = and_parts (one.related a it.0) (other.related it.0 c) it.2 in
      record { b = it.0; to = both.0; on = both.1 }

  through-true : (a b c : ℕ) → one.related a b ≡ true → other.related b c ≡ true → through a c ≡ true
  through-true a b c to on =
      any_below-true (length second) (λ b. one.related a b && other.related b c) b (one.bisimulation.inside a b to).1 (and_from (one.related a b) (other.related b c) to on)

  same-through : AreSame first third
  same-through = record {
    related = through;
    bisimulation = record {
      inside = λ a c holds. let it = through-says a c holds in ((one.bisimulation.inside a it.b it.to).0, (other.bisimulation.inside it.b c it.on).1);
      shape = λ a c holds. let it = through-says a c holds in one.bisimulation.shape a it.b it.to ∙ other.bisimulation.shape it.b c it.on;
      onward = λ a c holds.
          let it = through-says a c holds in
          related-through one.related other.related through through-true (states_of (instruction_at first a)) (states_of (instruction_at second it.b)) (states_of (instruction_at third c)) (one.bisimulation.onward a it.b it.to) (other.bisimulation.onward it.b c it.on);
    };
    holds = through-true 0 0 0 one.holds other.holds;
  }

-- an equivalence
pub same_is_equivalence : SameIsEquivalence
same_is_equivalence = record { itself = same-itself; turned = same-turned; through = same-through }

-- whether this is the number
is_number : Option ℕ → ℕ → Bool
is_number None k = false
is_number (Some n) k = n == k

is_number-true : (o : Option ℕ) (k : ℕ) → o ≡ Some k → is_number o k ≡ true
unfolding is_number
is_number-true None k is = absurd (none-some k is)
is_number-true (Some n) k is = eq-eqb n k (same_Some n k is)

is_number-says : (o : Option ℕ) (k : ℕ) → is_number o k ≡ true → o ≡ Some k
unfolding is_number
is_number-says None k holds = absurd (cc)
is_number-says (Some n) k holds = ap Some (eqb-true n k holds)

-- states are related to their numbers
related-numbers : (numbers : Numbers) (states : List ℕ) → AllByRecursion (λ state. IsSome (numbers state)) states → AreRelated (λ a b. is_number (numbers a) b) states (map (state_number numbers) states)
related-numbers numbers [] all = tt
related-numbers numbers (a ∷ states) all =
    let k = the_number (numbers a) all.0 in (
      is_number-true (numbers a) (state_number numbers a) (k.1 ∙ ap Some (sym (ap (λ o. unwrap_or o a) k.1))),
      related-numbers numbers states all.1,
    )

-- a brain is the same as one to which numbers carry it, state 0 to state 0
pub same-carried : (old new : List Instr) (numbers : Numbers) → Carries numbers old new → numbers 0 ≡ Some 0 → AreSame old new
same-carried old new numbers carries start = record {
  related = λ a b. is_number (numbers a) b;
  bisimulation = record {
    inside = λ a b holds. carries.inside a b (is_number-says (numbers a) b holds);
    shape = λ a b holds.
        sym (ap shape_of (carries.acts a b (is_number-says (numbers a) b holds)) ∙ shape_of-redirected (state_number numbers) (instruction_at old a));
    onward = λ a b holds.
        let has = is_number-says (numbers a) b holds in
        subst (AreRelated (λ a b. is_number (numbers a) b) (states_of (instruction_at old a)))
        (sym (ap states_of (carries.acts a b has) ∙ states_of-redirected (state_number numbers) (instruction_at old a)))
        (related-numbers numbers (states_of (instruction_at old a)) (carries.onward a b has));
  };
  holds = is_number-true (numbers 0) 0 start;
}

pub minimised_is_same : MinimisedIsSame
minimised_is_same old new numbers minimised = same-carried old new (new_number numbers) (Carries-minimised old new numbers minimised) (zero-number old new numbers minimised)

-- successors of related states by one answer are related
related-place : (related : Relation) (states others : List ℕ) (k a b : ℕ) → AreRelated related states others → slice_get states k ≡ Some a → slice_get others k ≡ Some b → related a b ≡ true
related-place related [] others k a b all one other = absurd (none-some a one)
related-place related (s ∷ states) [] k a b all one other = absurd (none-some b other)
related-place related (s ∷ states) (t ∷ others) zero a b all one other = subst (λ t. related a t ≡ true) (same_Some t b other) (subst (λ s. related s t ≡ true) (same_Some s a one) all.0)
related-place related (s ∷ states) (t ∷ others) (suc k) a b all one other = related-place related states others k a b all.1 one other

pub related-next : (related : Relation) (x y : Instr) (met : Bool) (a b : ℕ) → AreRelated related (states_of x) (states_of y) → next_by x met ≡ Some a → next_by y met ≡ Some b → related a b ≡ true
related-next related x y true a b all one other = related-place related (states_of x) (states_of y) 0 a b all one other
related-next related x y false a b all one other = related-place related (states_of x) (states_of y) 1 a b all one other

-- so are those to which a list of answers leads
related-led : (first second : List Instr) (related : Relation) → IsBisimulation first second related → (answers : List Bool) (x y a b : ℕ) → related x y ≡ true → led_to first answers x ≡ Some a → led_to second answers y ≡ Some b → related a b ≡ true
related-led first second related bisimulation [] x y a b holds one other = subst (λ t. related a t ≡ true) (same_Some y b other) (subst (λ s. related s y ≡ true) (same_Some x a one) holds)
related-led first second related bisimulation (met ∷ answers) x y a b holds one other =
    option_and_then_some (led_to first answers) (next_by (instruction_at first x) met) a one (λ s to on.
    option_and_then_some (led_to second answers) (next_by (instruction_at second y) met) b other (λ t to_too on_too.
    related-led first second related bisimulation answers s t a b
    (related-next related (instruction_at first x) (instruction_at second y) met s t (bisimulation.onward x y holds) to to_too) on on_too))

-- no list of answers distinguishes them
pub same_is_not_apart : SameIsNotApart
same_is_not_apart first second same answers a b apart =
    apart.differ (same.bisimulation.shape a b (related-led first second same.related same.bisimulation answers 0 0 a b same.holds apart.one apart.other))

-- two lists of which neither comes later are one
met_first-both : (answers others : List Bool) → length answers ≡ length others → IsMetFirst answers others → IsMetFirst others answers → answers ≡ others
met_first-both [] [] long one other = refl
met_first-both (true ∷ answers) (true ∷ others) long one other = ap (λ rest. true ∷ rest) (met_first-both answers others (omega arith) one other)
met_first-both (true ∷ answers) (false ∷ others) long one other = absurd other
met_first-both (false ∷ answers) (true ∷ others) long one other = absurd one
met_first-both (false ∷ answers) (false ∷ others) long one other = ap (λ rest. false ∷ rest) (met_first-both answers others (omega arith) one other)
met_first-both it that long one other = absurd (omega arith)

pub no_later-both : (answers others : List Bool) → IsNoLater answers others → IsNoLater others answers → answers ≡ others
no_later-both answers others (IsShorter less) (IsShorter more) = absurd (omega arith)
no_later-both answers others (IsShorter less) (IsAsLong long _) = absurd (omega arith)
no_later-both answers others (IsAsLong long _) (IsShorter more) = absurd (omega arith)
no_later-both answers others (IsAsLong long one) (IsAsLong _ other) = met_first-both answers others long one other

-- brains first differ at one place
module _ (first second : List Instr) (many a b count c d : ℕ) (one : IsFirstDifference first second many a b) (other : IsFirstDifference first second count c d) where
  pub same_answers : one.answers ≡ other.answers
  same_answers = no_later-both one.answers other.answers (one.least other.answers c d other.apart) (other.least one.answers a b one.apart)

  same_first : a ≡ c
  same_first = same_Some a c (sym one.apart.one ∙ ap (λ answers. led_to first answers 0) same_answers ∙ other.apart.one)

  same_second : b ≡ d
  same_second = same_Some b d (sym one.apart.other ∙ ap (λ answers. led_to second answers 0) same_answers ∙ other.apart.other)

  same_count : many ≡ count
  same_count = sym one.count ∙ ap (λ (answers : List Bool). length answers) same_answers ∙ other.count

  same_difference : ◌≡◌ {A = Comparison} (Different many (found_of first a) (found_of second b)) (Different count (found_of first c) (found_of second d))
  same_difference =
      ap (λ n. Different n (found_of first a) (found_of second b)) same_count
      ∙ ap₂ (λ s t. Different count (found_of first s) (found_of second t)) same_first same_second

-- they come to one comparison
pub one_comparison : OneComparison
one_comparison first second one other (IsSame same) (IsSame too) = refl
one_comparison first second one other (IsSame same) (IsDifferent many a b differ) = absurd (same_is_not_apart first second same differ.answers a b differ.apart)
one_comparison first second one other (IsDifferent many a b differ) (IsSame same) = absurd (same_is_not_apart first second same differ.answers a b differ.apart)
one_comparison first second one other (IsDifferent many a b differ) (IsDifferent count c d too) = same_difference first second many a b count c d differ too
