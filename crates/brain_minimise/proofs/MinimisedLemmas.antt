-- A brain that was minimised: what the classes, the seen states, the numbers and the kept instructions come to.
use Rattle.std.proofs.Common.{◌≡◌, ℕ, zero, suc, ◌<◌, Bool, true, false, List, [], ◌∷◌, map, length, slice_index, slice_get, Option, Some, IsSome, unwrap_or, refl, sym, ap, ap₂, ◌∙◌, subst, arith}
use Rattle.std.specs.List.{AllByRecursion, Contains}
use Rattle.std.proofs.lemmas.Option.{same_Some, get_or_from_slice_get, slice_get_within}
use Rattle.list_lemmas.proofs.AllElements.{AllByRecursion-each, AllByRecursion-weaker}
use Rattle.brain_read.specs.declared.instr.Instr.{Instr}
use Rattle.brain_read.specs.declared.instr.Instr.TheVariants.{Drop}
use Rattle.brain_read.specs.Grammar.{states_of}
use Rattle.brain_read.specs.Soundness.{IsBrain, IsSound}
use Rattle.ant_turn.specs.Renumber.{state_number, redirected}
use Rattle.ant_turn.specs.Turn.{instruction_at}
use Rattle.brain_minimise.specs.Equivalence.{Relation, AreRelated, AreEquivalent, IsBisimulation, shape_of}
use Rattle.brain_minimise.specs.Inner.Classes.{AreClasses, AreStable}
use Rattle.brain_minimise.specs.Inner.Seen.{AreSeen}
use Rattle.brain_minimise.specs.Inner.Kept.{AreKept}
use Rattle.brain_minimise.specs.Inner.Numbering.{AreNumbers}
use Rattle.brain_minimise.specs.Minimised.{IsMinimised, new_number}
use Rattle.brain_minimise.specs.Reach.{IsReachable}
use Rattle.brain_minimise.specs.Reach.IsReachable.{Start, Next}
use Rattle.brain_minimise.proofs.Equivalences.{class-equivalent, equivalent-class, stable_alike}
use Rattle.brain_minimise.proofs.Numbers.{seen-inside, the_number}
use Rattle.brain_minimise.proofs.RedirectedLemmas.{Contains-map, IsSound-redirected, instruction-sound, redirected-same, shape-from, shape_of-redirected, states-from, states_of-redirected}

-- the successors of a state that can be reached can be reached
pub successors-reached : (brain : List Instr) (state : ℕ) → IsReachable brain state → AllByRecursion (IsReachable brain) (states_of (instruction_at brain state))
successors-reached brain state reached = AllByRecursion-each (IsReachable brain) (states_of (instruction_at brain state)) (λ next named. Next state next reached named)

-- a test of two numbers, if there are two
both : Relation → Option ℕ → Option ℕ → Bool
both related (Some a) (Some b) = related a b
both related it o = false

-- what the test says
record Both (related : Relation) (o p : Option ℕ) : Type 0 where
  pub a : ℕ
  pub b : ℕ
  pub first : o ≡ Some a
  pub second : p ≡ Some b
  pub holds : related a b ≡ true

both-says : (related : Relation) (o p : Option ℕ) → both related o p ≡ true → Both related o p
unfolding both
both-says related (Some a) (Some b) holds = record { a = a; b = b; first = refl; second = refl; holds = holds }
both-says related it o holds = absurd (cc)

both-true : (related : Relation) (o p : Option ℕ) (a b : ℕ) → o ≡ Some a → p ≡ Some b → related a b ≡ true → both related o p ≡ true
unfolding both
both-true related o p a b first second holds = ap₂ (both related) first second ∙ holds

-- lists of images that are related are related by the numbers
pulled : (related : Relation) (numbers : List (Option ℕ)) (states others : List ℕ) → AllByRecursion (λ state. IsSome (new_number numbers state)) states → AllByRecursion (λ state. IsSome (new_number numbers state)) others →
    AreRelated related (map (state_number (new_number numbers)) states) (map (state_number (new_number numbers)) others) → AreRelated (λ a b. both related (new_number numbers a) (new_number numbers b)) states others
pulled related numbers [] [] first second all = tt
pulled related numbers (a ∷ states) (b ∷ others) first second all =
    let j = the_number (new_number numbers a) first.0 in
    let k = the_number (new_number numbers b) second.0 in
    let here : related j.0 k.0 ≡ true = ap₂ related (sym (ap (λ o. unwrap_or o a) j.1)) (sym (ap (λ o. unwrap_or o b) k.1)) ∙ all.0 in
    (both-true related (new_number numbers a) (new_number numbers b) j.0 k.0 j.1 k.1 here, pulled related numbers states others first.1 second.1 all.1)
pulled related numbers it that first second all = absurd all

module _ (old new : List Instr) (seen : List Bool) (classes : List ℕ) (numbers : List (Option ℕ)) (is_brain : IsBrain old) (seen_are : AreSeen old seen) (are : AreClasses old classes) (stable : AreStable old classes) (numbered : AreNumbers classes seen numbers) (kept : AreKept old numbers new) where
  -- the new number of a state
  abbrev f : ℕ → ℕ
  f = state_number (new_number numbers)

  -- what has a number can be reached, and the other way round
  has-reached : (state number : ℕ) → new_number numbers state ≡ Some number → IsReachable old state
  has-reached state number has = seen_are.only state (numbered.unseen state number has)

  reached-has : (state : ℕ) → IsReachable old state → IsSome (new_number numbers state)
  reached-has state reached = numbered.numbered state (seen_are.all state reached)

  reached-inside : (state : ℕ) → IsReachable old state → state < length old
  reached-inside state reached = let size = seen_are.each in omega (arith, seen-inside seen state (seen_are.all state reached))

  -- the successors of what can be reached have numbers
  successors-numbered : (state : ℕ) → IsReachable old state → AllByRecursion (λ next. IsSome (new_number numbers next)) (states_of (instruction_at old state))
  successors-numbered state reached = AllByRecursion-weaker _ _ (states_of (instruction_at old state)) (successors-reached old state reached) reached-has

  -- states of the same classes that can be reached have the same numbers
  same-numbers : (states others : List ℕ) → map (slice_index classes) states ≡ map (slice_index classes) others → AllByRecursion (IsReachable old) states → AllByRecursion (IsReachable old) others → map f states ≡ map f others
  same-numbers [] [] same first second = refl
  same-numbers (a ∷ states) (b ∷ others) same first second =
      let j = the_number (new_number numbers a) (reached-has a first.0) in
      let one : slice_index classes a ≡ slice_index classes b = cc in
      let too : new_number numbers a ≡ new_number numbers b = numbered.same_number a b (seen_are.all a first.0) (seen_are.all b second.0) one in
      let here : f a ≡ f b = ap (λ o. unwrap_or o a) j.1 ∙ sym (ap (λ o. unwrap_or o b) (sym too ∙ j.1)) in
      ap₂ ◌∷◌ here (same-numbers states others (cc) first.1 second.1)
  same-numbers it that same first second = absurd (cc)

  -- the instructions of two states of one class come out as one
  same-instruction : (a b : ℕ) → IsReachable old a → IsReachable old b → slice_index classes a ≡ slice_index classes b → redirected f (instruction_at old a) ≡ redirected f (instruction_at old b)
  same-instruction a b first second one =
      let alike : redirected (slice_index classes) (instruction_at old a) ≡ redirected (slice_index classes) (instruction_at old b) = stable_alike old classes stable a b (reached-inside a first) (reached-inside b second) one in
      redirected-same f f (instruction_at old a) (instruction_at old b)
      (shape-from (slice_index classes) (slice_index classes) (instruction_at old a) (instruction_at old b) alike)
      (same-numbers (states_of (instruction_at old a)) (states_of (instruction_at old b)) (states-from (slice_index classes) (slice_index classes) (instruction_at old a) (instruction_at old b) alike) (successors-reached old a first) (successors-reached old b second))

  -- the new instruction of a state
  acts : (state number : ℕ) → new_number numbers state ≡ Some number → slice_get new number ≡ Some (redirected f (instruction_at old state))
  acts state number has =
      let it = kept.from number (kept.below state number has) in
      it.2 ∙ ap Some (same-instruction it.0 state (has-reached it.0 number it.1) (has-reached state number has) (numbered.same_class it.0 state number it.1 has))

  acts-at : (state number : ℕ) → new_number numbers state ≡ Some number → instruction_at new number ≡ redirected f (instruction_at old state)
  acts-at state number has = get_or_from_slice_get new number (redirected f (instruction_at old state)) (Drop 0) (acts state number has)

  -- the number of a state that can be reached can be reached
  number-reached : (state number : ℕ) → IsReachable old state → new_number numbers state ≡ Some number → IsReachable new number
  number-reached state zero reached has = Start
  number-reached state (suc k) Start has =
      let it = numbered.rising 0 (suc k) 0 has (omega arith) in absurd (omega (arith, it.1))
  number-reached state (suc k) (Next before _ reached named) has =
      let j = the_number (new_number numbers before) (reached-has before reached) in
      let images : Contains (states_of (instruction_at new j.0)) (f state) =
      subst (λ list. Contains list (f state)) (sym (ap states_of (acts-at before j.0 j.1) ∙ states_of-redirected f (instruction_at old before))) (Contains-map f (states_of (instruction_at old before)) state named) in
      Next j.0 (suc k) (number-reached before j.0 reached j.1) (subst (Contains (states_of (instruction_at new j.0))) (ap (λ o. unwrap_or o state) has) images)

  -- a relation on the new states, seen on the old ones
  abbrev pulled_back : Relation → Relation
  pulled_back related a b = both related (new_number numbers a) (new_number numbers b)

  pulled-bisimulation : (related : Relation) → IsBisimulation new new related → IsBisimulation old old (pulled_back related)
  pulled-bisimulation related bisimulation = record {
    inside = λ a b holds.
        let it = both-says related (new_number numbers a) (new_number numbers b) holds in
        (reached-inside a (has-reached a it.a it.first), reached-inside b (has-reached b it.b it.second));
    shape = λ a b holds.
        let it = both-says related (new_number numbers a) (new_number numbers b) holds in
        sym (ap shape_of (acts-at a it.a it.first) ∙ shape_of-redirected f (instruction_at old a))
        ∙ bisimulation.shape it.a it.b it.holds
        ∙ ap shape_of (acts-at b it.b it.second) ∙ shape_of-redirected f (instruction_at old b);
    onward = λ a b holds.
        let it = both-says related (new_number numbers a) (new_number numbers b) holds in
        let first : states_of (instruction_at new it.a) ≡ map f (states_of (instruction_at old a)) = ap states_of (acts-at a it.a it.first) ∙ states_of-redirected f (instruction_at old a) in
        let second : states_of (instruction_at new it.b) ≡ map f (states_of (instruction_at old b)) = ap states_of (acts-at b it.b it.second) ∙ states_of-redirected f (instruction_at old b) in
        pulled related numbers (states_of (instruction_at old a)) (states_of (instruction_at old b))
        (successors-numbered a (has-reached a it.a it.first)) (successors-numbered b (has-reached b it.b it.second))
        (subst (λ list. AreRelated related list (map f (states_of (instruction_at old b)))) first (subst (AreRelated related (states_of (instruction_at new it.a))) second (bisimulation.onward it.a it.b it.holds)));
  }

  -- no two new states are equivalent
  apart : (a b : ℕ) → AreEquivalent new a b → a ≡ b
  apart a b equivalent =
      let inside = equivalent.bisimulation.inside a b equivalent.holds in
      let s = kept.from a inside.0 in
      let t = kept.from b inside.1 in
      let one : slice_index classes s.0 ≡ slice_index classes t.0 = equivalent-class old classes are s.0 t.0 (record {
        related = pulled_back equivalent.related;
        bisimulation = pulled-bisimulation equivalent.related equivalent.bisimulation;
        holds = both-true equivalent.related (new_number numbers s.0) (new_number numbers t.0) a b s.1 t.1 equivalent.holds;
      }) in
      same_Some a b (sym s.1 ∙ numbered.same_number s.0 t.0 (numbered.unseen s.0 a s.1) (numbered.unseen t.0 b t.1) one ∙ t.1)

  -- all of it together
  pub IsMinimised-from : IsMinimised old new numbers
  IsMinimised-from = record {
    each = numbered.each ∙ seen_are.each;
    kept = reached-has;
    dropped = has-reached;
    alike = λ a b first second equivalent. numbered.same_number a b (seen_are.all a first) (seen_are.all b second) (equivalent-class old classes are a b equivalent);
    merged = λ a b number first second. class-equivalent old classes is_brain stable a b (reached-inside a (has-reached a number first)) (reached-inside b (has-reached b number second)) (numbered.same_class a b number first second);
    acts = acts;
    onto = λ number below. let it = kept.from number below in (it.0, it.1);
    reached = λ number below. let it = kept.from number below in number-reached it.0 number (has-reached it.0 number it.1) it.1;
    apart = apart;
    rising = λ lower upper a b less first second.
        let it = numbered.rising b upper lower second.has less in
        let least = first.least it.0 it.2 in
        omega (arith, it.1);
  }

  -- the kept instructions are a brain
  pub IsBrain-kept : IsBrain new
  IsBrain-kept = record {
    some =
        let zero_has = the_number (new_number numbers 0) (reached-has 0 Start) in
        omega (arith, kept.below 0 zero_has.0 zero_has.1);
    few = let most = is_brain.few in let few = kept.few in omega arith;
    sound = λ number instruction is.
        let it = kept.from number (slice_get_within new number instruction is) in
        let reached = has-reached it.0 number it.1 in
        let same : redirected f (instruction_at old it.0) ≡ instruction = same_Some (redirected f (instruction_at old it.0)) instruction (sym it.2 ∙ is) in
        subst (IsSound (length new)) same (IsSound-redirected (length old) (length new) f (instruction_at old it.0) (instruction-sound old it.0 is_brain (reached-inside it.0 reached))
        (AllByRecursion-weaker _ _ (states_of (instruction_at old it.0)) (successors-numbered it.0 reached) (λ next some.
        let k = the_number (new_number numbers next) some in
        let image : f next ≡ k.0 = ap (λ o. unwrap_or o next) k.1 in
        omega (arith, kept.below next k.0 k.1))));
  }
