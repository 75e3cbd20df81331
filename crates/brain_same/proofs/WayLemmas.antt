-- The way by a list of answers, and the laws of comparisons by the way.
use Rattle.std.proofs.Common.{◌≡◌, ℕ, Bool, List, [], ◌∷◌, ◌++◌, length, Some, unwrap_or, refl, sym, ap, ◌∙◌, subst, arith}
use Rattle.std.specs.Prelude.{option_and_then}
use Rattle.std.proofs.lemmas.Option.{option_and_then_some, same_Some}
use Rattle.brain_read.specs.declared.instr.Instr.{Instr}
use Rattle.ant_turn.specs.Turn.{instruction_at}
use Rattle.brain_same.specs.declared.comparison.Comparison.{Comparison}
use Rattle.brain_same.specs.declared.comparison.Comparison.TheVariants.{Same, Different}
use Rattle.brain_same.specs.declared.way.Step.{Step}
use Rattle.brain_same.specs.Answers.{led_to, next_by}
use Rattle.brain_same.specs.Difference.{IsComparison, found_of}
use Rattle.brain_same.specs.Difference.IsComparison.{IsSame, IsDifferent}
use Rattle.brain_same.specs.Laws.{HasWay, OneWay, WayIsComparison, WayLeads}
use Rattle.brain_same.specs.Way.{IsWayComparison, LeadsOn, state_after, way_by}
use Rattle.brain_same.specs.Way.IsWayComparison.{NoWay, ByWay}
use Rattle.brain_same.proofs.HasComparison.{has_comparison}
use Rattle.brain_same.proofs.SameLaws.{one_comparison, same_answers, same_is_not_apart}

-- the last answer of a list
pub led-last : (brain : List Instr) (answers : List Bool) (met : Bool) (state a b : ℕ) → led_to brain answers state ≡ Some a → led_to brain (answers ++ met ∷ []) state ≡ Some b → next_by (instruction_at brain a) met ≡ Some b
led-last brain [] met state a b is on =
    option_and_then_some (led_to brain []) (next_by (instruction_at brain state) met) b on
    (λ s leads end. ap (λ s. next_by (instruction_at brain s) met) (sym (same_Some state a is)) ∙ leads ∙ end)
led-last brain (answer ∷ answers) met state a b is on =
    option_and_then_some (led_to brain answers) (next_by (instruction_at brain state) answer) a is
    (λ s leads rest. led-last brain answers met s a b rest (sym (ap (option_and_then (led_to brain (answers ++ met ∷ []))) leads) ∙ on))

-- where an answer leads
pub state_after-is : (brain : List Instr) (state : ℕ) (met : Bool) (next : ℕ) → next_by (instruction_at brain state) met ≡ Some next → state_after brain state met ≡ next
state_after-is brain state met next leads = ap (λ o. unwrap_or o 0) leads

-- a step for each answer
way_by-length : (first second : List Instr) (answers : List Bool) (a b : ℕ) → length (way_by first second answers a b) ≡ length answers
way_by-length first second [] a b = refl
way_by-length first second (met ∷ answers) a b = let rest = way_by-length first second answers (state_after first a met) (state_after second b met) in omega arith

-- each follows from the one before
way_by-leads : (first second : List Instr) (answers : List Bool) (a b c d : ℕ) → led_to first answers a ≡ Some c → led_to second answers b ≡ Some d → LeadsOn first second (way_by first second answers a b) a b c d
way_by-leads first second [] a b c d one other = (same_Some a c one, same_Some b d other)
way_by-leads first second (met ∷ answers) a b c d one other =
    option_and_then_some (led_to first answers) (next_by (instruction_at first a) met) c one (λ s to on.
    option_and_then_some (led_to second answers) (next_by (instruction_at second b) met) d other (λ t to_too on_too. (
      s,
      t,
      record { one = refl; two = refl; leads = to; leads_too = to_too },
      subst (λ k. LeadsOn first second (way_by first second answers k (state_after second b met)) s t c d) (sym (state_after-is first a met s to))
          (subst (λ k. LeadsOn first second (way_by first second answers s k) s t c d) (sym (state_after-is second b met t to_too)) (way_by-leads first second answers s t c d on on_too)),
    )))

pub way_leads : WayLeads
way_leads first second many a b difference = (
  way_by-length first second difference.answers 0 0 ∙ difference.count,
  way_by-leads first second difference.answers 0 0 a b difference.apart.one difference.apart.other,
)

-- the comparison is the same with the way
pub way_is_comparison : WayIsComparison
way_is_comparison first second comparison steps (NoWay same) = IsSame same
way_is_comparison first second comparison steps (ByWay many a b difference) = IsDifferent many a b difference

-- there is one way
same_steps : (first second : List Instr) (one other : Comparison) (steps others : List Step) → IsWayComparison first second one steps → IsWayComparison first second other others → steps ≡ others
same_steps first second one other steps others (NoWay same) (NoWay too) = refl
same_steps first second one other steps others (NoWay same) (ByWay many a b differ) = absurd (same_is_not_apart first second same differ.answers a b differ.apart)
same_steps first second one other steps others (ByWay many a b differ) (NoWay same) = absurd (same_is_not_apart first second same differ.answers a b differ.apart)
same_steps first second one other steps others (ByWay many a b differ) (ByWay count c d too) =
    ap (λ answers. way_by first second answers 0 0) (same_answers first second many a b count c d differ too)

pub one_way : OneWay
one_way first second one other steps others is too = (
  one_comparison first second one other (way_is_comparison first second one steps is) (way_is_comparison first second other others too),
  same_steps first second one other steps others is too,
)

with_way : (first second : List Instr) (comparison : Comparison) → IsComparison first second comparison → (it : Comparison) × (steps : List Step) × IsWayComparison first second it steps
with_way first second comparison (IsSame same) = (Same, [], NoWay same)
with_way first second comparison (IsDifferent many a b difference) =
    (Different many (found_of first a) (found_of second b), way_by first second difference.answers 0 0, ByWay many a b difference)

pub has_way : HasWay
has_way first second sound too = let it = has_comparison first second sound too in with_way first second it.0 it.1
