-- Each cup has a standing: the lines of its players, sorted.
use Rattle.std.proofs.Common.{◌≡◌, ◌⊎◌, inl, inr, ℕ, zero, suc, ◌+◌, ◌<◌, List, [], ◌∷◌, length, map, refl, sym, subst, arith}
use Rattle.std.proofs.lemmas.Bool.{cases_lt}
use Rattle.std.proofs.lemmas.List.Sorted.{IsPermutation-cons, IsPermutation-refl, IsPermutation-swap, IsPermutation-trans}
use Rattle.std.specs.Prelude.{IsPermutation, slice_index_or}
use Rattle.tournament.specs.Existence.{HasStanding}
use Rattle.tournament.specs.Games.{all_played, below}
use Rattle.tournament.specs.Standing.{StandsAbove, line_of}
use Rattle.tournament.specs.declared.standing.Line.{Line}

-- of two lines one may stand right above the other
either : (x y : Line) → StandsAbove x y ⊎ StandsAbove y x
either x y =
    elim (cases_lt y.points x.points) [
      | inl more ↦ inl (record { points = omega arith; ties = λ same. absurd (omega arith) })
      | inr le ↦ elim (cases_lt x.points y.points) [
        | inl fewer ↦ inr (record { points = le; ties = λ same. absurd (omega arith) })
        | inr ge ↦ elim (cases_lt y.player x.player) [ inl lower ↦ inr (record { points = le; ties = λ same. omega arith }) | inr low ↦ inl (record { points = ge; ties = λ same. low }) ]
      ]
    ]

-- a line may stand right above the first of some lines, if there is one
abbrev Leads : Line → List Line → Type 0
Leads x [] = Unit {0}
Leads x (y ∷ lines) = StandsAbove x y

-- each line may stand right above the next
abbrev IsSorted : List Line → Type 0
IsSorted [] = Unit {0}
IsSorted (x ∷ lines) = Leads x lines × IsSorted lines

-- some lines in order
record SortedAs (lines : List Line) : Type 0 where
  list : List Line
  each : IsPermutation lines list
  sorted : IsSorted list

-- one more line among lines in order
record PutInto (x : Line) (lines : List Line) : Type 0 where
  list : List Line
  each : IsPermutation (x ∷ lines) list
  sorted : IsSorted list
  leads : (y : Line) → StandsAbove y x → Leads y lines → Leads y list

put_into : (x : Line) (lines : List Line) → IsSorted lines → PutInto x lines
put_into x [] sorted = record { list = x ∷ []; each = IsPermutation-refl (x ∷ []); sorted = (tt, tt); leads = λ y above leads. above }
put_into x (y ∷ lines) sorted =
    elim (either x y) [
      | inl here ↦ record { list = x ∷ y ∷ lines; each = IsPermutation-refl (x ∷ y ∷ lines); sorted = (here, sorted); leads = λ z above leads. above }
      | inr later ↦
          let rest = put_into x lines sorted.1 in
          record {
            list = y ∷ rest.list;
            each = IsPermutation-trans (x ∷ y ∷ lines) (y ∷ x ∷ lines) (y ∷ rest.list) (IsPermutation-swap (x ∷ y ∷ lines) (y ∷ x ∷ lines) 0 1 (omega arith) (omega arith) refl)
                (IsPermutation-cons y (x ∷ lines) rest.list rest.each);
            sorted = (rest.leads y later sorted.0, rest.sorted);
            leads = λ z above leads. leads;
          }
    ]

sorted_as : (lines : List Line) → SortedAs lines
sorted_as [] = record { list = []; each = IsPermutation-refl []; sorted = tt }
sorted_as (x ∷ lines) =
    let rest = sorted_as lines in
    let whole = put_into x rest.list rest.sorted in
    record { list = whole.list; each = IsPermutation-trans (x ∷ lines) (x ∷ rest.list) whole.list (IsPermutation-cons x lines rest.list rest.each) whole.each; sorted = whole.sorted }

adjacent : (lines : List Line) → IsSorted lines → (k : ℕ) (d : Line) → k + 1 < length lines → StandsAbove (slice_index_or lines k d) (slice_index_or lines (k + 1) d)
adjacent [] sorted k d within = absurd (omega arith)
adjacent (x ∷ []) sorted k d within = absurd (omega arith)
adjacent (x ∷ y ∷ lines) sorted zero d within = sorted.0
adjacent (x ∷ y ∷ lines) sorted (suc k) d within =
    let next : suc k + 1 ≡ suc (k + 1) = omega arith in
    subst (λ (n : ℕ). StandsAbove (slice_index_or (y ∷ lines) k d) (slice_index_or (x ∷ y ∷ lines) n d)) (sym next) (adjacent (y ∷ lines) sorted.1 k d (omega arith))

pub has_standing : HasStanding
has_standing gauntlet players worlds score =
    let it = sorted_as (map (line_of (all_played gauntlet players worlds score)) (below players)) in
    (it.list, record { each = it.each; order = adjacent it.list it.sorted })
