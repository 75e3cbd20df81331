-- That two brains come to a comparison: the search, as a function of them.
use Rattle.std.proofs.Common.{◌≡◌, inl, inr, ℕ, zero, suc, ◌+◌, ◌*◌, ◌<◌, true, false, List, [], ◌∷◌, ◌++◌, map, length, slice_index, refl, ◌∙◌, arith}
use Rattle.std.specs.Prelude.{option_to_list}
use Rattle.std.proofs.lemmas.Bool.{cases_lt, cases_order}
use Rattle.std.proofs.lemmas.List.{get_or_append_left, get_or_push, length_push}
use Rattle.brain_read.specs.declared.instr.Instr.{Instr}
use Rattle.brain_read.specs.Soundness.{IsBrain}
use Rattle.ant_turn.specs.Turn.{instruction_at}
use Rattle.brain_minimise.specs.Equivalence.{shape_of}
use Rattle.brain_minimise.proofs.CasesInstruction.{cases_instruction}
use Rattle.brain_same.specs.declared.comparison.Comparison.{Comparison}
use Rattle.brain_same.specs.declared.comparison.Comparison.TheVariants.{Same, Different}
use Rattle.brain_same.specs.declared.search.Pair.{Pair}
use Rattle.brain_same.specs.Difference.{IsComparison, found_of}
use Rattle.brain_same.specs.Difference.IsComparison.{IsSame, IsDifferent}
use Rattle.brain_same.specs.Inner.Classes.{AreApart, renamed, total}
use Rattle.brain_same.specs.Inner.Pairs.{IsFollowed, pair_after}
use Rattle.brain_same.specs.Inner.Pairs.IsFollowed.{Followed, PassedOver}
use Rattle.brain_same.specs.Laws.{HasComparison}
use Rattle.brain_same.proofs.ClassesLemmas.{AreJoined-first, AreJoined-second}
use Rattle.brain_same.proofs.ComparisonLemmas.{AreSame-searched, IsFirstDifference-front}
use Rattle.brain_same.proofs.SearchLemmas.{Front, Front-inside, Front-taken, Searching, Searching-on, Searching-start, step-work}

-- this many classes, each named by its state
record Apart (count : ℕ) : Type 0 where
  classes : List ℕ
  apart : AreApart count classes

apart-more : (count : ℕ) (classes : List ℕ) → AreApart count classes → AreApart (suc count) (classes ++ count ∷ [])
apart-more count classes apart =
    let each = apart.each in
    let long = length_push classes count in
    record {
      each = omega arith;
      own = λ state below. elim (cases_lt state count) [
        | inl less ↦ get_or_append_left classes (count ∷ []) 0 state (omega arith) ∙ apart.own state less
        | inr last ↦ let one : count ≡ state = omega arith in get_or_push classes count 0 state (each ∙ one) ∙ one
      ];
    }

apart_to : (count : ℕ) → Apart count
apart_to zero = record { classes = []; apart = record { each = refl; own = λ state below. absurd (omega arith) } }
apart_to (suc count) =
    let before = apart_to count in
    record { classes = before.classes ++ count ∷ []; apart = apart-more count before.classes before.apart }

module _ (first second : List Instr) (sound : IsBrain first) (too : IsBrain second) where
  -- what comes of a pair
  record Goes (classes : List ℕ) (pair : Pair) (rest : List Pair) : Type 0 where
    new : List ℕ
    after : List Pair
    followed : IsFollowed first second pair classes new rest after

  goes : (classes : List ℕ) (pair : Pair) (rest : List Pair) → Front first second classes pair rest → Goes classes pair rest
  goes classes pair rest front =
      let a = pair.first in
      let b = length first + pair.second in
      let inside = Front-inside first second sound too classes pair rest front in
      let each = front.searches.each in
      let low : a < length classes = omega (arith, inside.0) in
      let high : b < length classes = omega (arith, inside.1) in
      let after : List Pair = (rest ++ option_to_list (pair_after first second pair true)) ++ option_to_list (pair_after first second pair false) in
      elim (cases_order (slice_index classes a) (slice_index classes b)) [
        | inl one ↦ record { new = classes; after = rest; followed = PassedOver one refl refl }
        | inr differ ↦ elim differ [
          | inl less ↦ record {
            new = map (renamed (slice_index classes b) (slice_index classes a)) classes;
            after = after;
            followed = Followed (AreJoined-second classes a b (slice_index classes b) (slice_index classes a) less low high refl refl) refl;
          }
          | inr more ↦ record {
            new = map (renamed (slice_index classes a) (slice_index classes b)) classes;
            after = after;
            followed = Followed (AreJoined-first classes a b (slice_index classes a) (slice_index classes b) more low high refl refl) refl;
          }
        ]
      ]

  -- the search, with less to do than a number
  searched : (n : ℕ) (classes : List ℕ) (queue : List Pair) → 2 * total classes + length queue < n → Searching first second classes queue → (comparison : Comparison) × IsComparison first second comparison
  searched zero classes queue few searching = absurd (omega arith)
  searched (suc n) classes [] few searching = (Same, IsSame (AreSame-searched first second sound too classes [] refl searching))
  searched (suc n) classes (pair ∷ rest) few searching =
      let front = Front-taken first second classes (pair ∷ rest) pair rest searching refl in
      elim (cases_instruction (shape_of (instruction_at first pair.first)) (shape_of (instruction_at second pair.second))) [
        | inl alike ↦
            let next = goes classes pair rest front in
            let less = step-work first second pair classes next.new rest next.after next.followed in
            searched n next.new next.after (omega arith) (Searching-on first second sound too classes pair rest front next.new next.after alike next.followed)
        | inr differ ↦ (
          Different pair.answers (found_of first pair.first) (found_of second pair.second),
          IsDifferent pair.answers pair.first pair.second (IsFirstDifference-front first second sound too classes pair rest front differ),
        )
      ]

-- two brains come to a comparison
pub has_comparison : HasComparison
has_comparison first second sound too =
    let start = apart_to (length first + length second) in
    let some = sound.few in
    let more = too.few in
    searched first second sound too (2 * total start.classes + 2) start.classes (record { first = 0; second = 0; answers = 0 } ∷ []) (omega arith)
    (Searching-start first second start.classes start.apart (omega arith))
