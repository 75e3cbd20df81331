-- The counts of all states come to the turns of ants that are alive and don't rest.
use Rattle.std.proofs.Common.{◌≡◌, inl, inr, ℕ, zero, suc, ◌+◌, ◌<◌, ◌&&◌, Bool, true, false, cond, List, [], ◌∷◌, ◌++◌, length, filter, Option, Some, None, refl, sym, ◌∙◌, ap, ap₂, arith}
use Rattle.std.specs.Prelude.{◌==◌}
use Rattle.std.specs.Option.{option_and_then}
use Rattle.std.specs.List.{AllByRecursion}
use Rattle.std.proofs.lemmas.Bool.{cases_eq, eq-eqb, eqb-true, false_from_ne_true}
use Rattle.std.proofs.lemmas.List.{length-append}
use Rattle.hex_geometry.specs.declared.position.Pos.{Pos}
use Rattle.ant_turn.specs.Keeps.{Keeps}
use Rattle.ant_turn.specs.Minds.{AreSound, Fits, Minds, mind_of}
use Rattle.ant_turn.specs.Rounds.{Moment, after_rounds, after_turns, start_of}
use Rattle.ant_turn.proofs.KeptByRounds.{Keeps-after_rounds, Keeps-after_turns}
use Rattle.cell_world.specs.declared.ant.Ant.{Ant}
use Rattle.cell_world.specs.declared.ant.Colour.{Colour}
use Rattle.cell_world.specs.declared.ant.Colour.TheVariants.{Red, Black}
use Rattle.cell_world.specs.Cell.{one_if}
use Rattle.cell_world.specs.Colour.{same_colour}
use Rattle.cell_world.specs.Valid.{Valid}
use Rattle.cell_world.specs.World.{place_in}
use Rattle.game_reports.specs.declared.executed.Executed.{Executed}
use Rattle.match_run.specs.Seen.{ant_in}
use Rattle.game_reports.specs.Laws.{CountsAddUp, acting_turns, sum_below, up_by, up_for}
use Rattle.game_reports.specs.Profile.{executed_at, executed_by, executed_from, executed_in, executed_in_rounds, is_of, times_of}
use Rattle.match_run.specs.Told.{Telling, told_in_rounds, told_in_turns}
use Rattle.match_run.proofs.ToldLemmas.{from_round-all}

-- tellings of as many things for each turn
turns-as_many : {A B : Type 0} (f : Telling A) (g : Telling B) (minds : Minds) (seed : ℕ) → ((m : Moment) (t : ℕ) → length (f m t) ≡ length (g m t)) → (m : Moment) (from n : ℕ) → length (told_in_turns f minds seed m from n) ≡ length (told_in_turns g minds seed m from n)
turns-as_many f g minds seed same m from zero = refl
turns-as_many f g minds seed same m from (suc n) =
    length-append (told_in_turns f minds seed m from n) (f (after_turns minds seed m from n) (from + n))
    ∙ ap₂ ◌+◌ (turns-as_many f g minds seed same m from n) (same (after_turns minds seed m from n) (from + n))
    ∙ sym (length-append (told_in_turns g minds seed m from n) (g (after_turns minds seed m from n) (from + n)))

rounds-as_many : {A B : Type 0} (f : Telling A) (g : Telling B) (minds : Minds) (seed : ℕ) → ((m : Moment) (t : ℕ) → length (f m t) ≡ length (g m t)) → (m : Moment) (n : ℕ) → length (told_in_rounds (λ round. f) minds seed m n) ≡ length (told_in_rounds (λ round. g) minds seed m n)
rounds-as_many f g minds seed same m zero = refl
rounds-as_many f g minds seed same m (suc n) =
    let mid : Moment = after_rounds minds seed m n in
    length-append (told_in_rounds (λ round. f) minds seed m n) (told_in_turns f minds seed mid 0 mid.world.ids)
    ∙ ap₂ ◌+◌ (rounds-as_many f g minds seed same m n) (turns-as_many f g minds seed same mid 0 mid.world.ids)
    ∙ sym (length-append (told_in_rounds (λ round. g) minds seed m n) (told_in_turns g minds seed mid 0 mid.world.ids))

-- something is executed in those turns alone
executed-up : (minds : Minds) (seed : ℕ) (m : Moment) (t : ℕ) → length (executed_in minds seed m t) ≡ length (up_by t (ant_in m.world t))
unfolding executed_in ant_in
executed-up minds seed m t = go (place_in m.world t)
  where
    for : (n : ℕ) (p : Pos) (ant : Ant) → length (executed_by n minds seed m.world.cells m.place p ant) ≡ length (up_for t n)
    for zero p ant = refl
    for (suc left) p ant = refl

    at : (p : Pos) (o : Option Ant) → length (executed_at minds seed m.world.cells m.place p o) ≡ length (up_by t o)
    at p None = refl
    at p (Some ant) = for ant.resting p ant

    go : (place : Option Pos) → length (executed_from minds seed m.world.cells m.place place) ≡ length (up_by t (option_and_then (λ p. (m.world.cells p).ant) place))
    go None = refl
    go (Some p) = at p (m.world.cells p).ant

-- each is of a state of its brain
abbrev AreOfBrains : Minds → List Executed → Type 0
AreOfBrains minds list = AllByRecursion (λ (e : Executed). e.state < length (mind_of minds e.colour)) list

of_brains-append : (minds : Minds) (xs ys : List Executed) → AreOfBrains minds xs → AreOfBrains minds ys → AreOfBrains minds (xs ++ ys)
of_brains-append minds [] ys first second = second
of_brains-append minds (x ∷ xs) ys first second = (first.0, of_brains-append minds xs ys first.1 second)

executed-fits : (minds : Minds) (seed : ℕ) (m : Moment) (t : ℕ) → Fits m.world minds → AreOfBrains minds (executed_in minds seed m t)
unfolding executed_in
executed-fits minds seed m t fits = go (place_in m.world t)
  where
    for : (n : ℕ) (p : Pos) (ant : Ant) → (m.world.cells p).ant ≡ Some ant → AreOfBrains minds (executed_by n minds seed m.world.cells m.place p ant)
    for zero p ant is = (fits.below p ant is, tt)
    for (suc left) p ant is = tt

    at : (p : Pos) (o : Option Ant) → (m.world.cells p).ant ≡ o → AreOfBrains minds (executed_at minds seed m.world.cells m.place p o)
    at p None is = tt
    at p (Some ant) is = for ant.resting p ant is

    go : (place : Option Pos) → AreOfBrains minds (executed_from minds seed m.world.cells m.place place)
    go None = tt
    go (Some p) = at p (m.world.cells p).ant refl

turns-fit : (minds : Minds) (seed : ℕ) (m : Moment) (from n : ℕ) → AreSound minds → Valid m.world → Fits m.world minds → AreOfBrains minds (told_in_turns (executed_in minds seed) minds seed m from n)
turns-fit minds seed m from zero sound valid fits = tt
turns-fit minds seed m from (suc n) sound valid fits =
    let mid : Moment = after_turns minds seed m from n in
    let kept : Keeps minds m.world mid.world = Keeps-after_turns minds seed m from n sound valid fits in
    of_brains-append minds (told_in_turns (executed_in minds seed) minds seed m from n) (executed_in minds seed mid (from + n)) (turns-fit minds seed m from n sound valid fits) (executed-fits minds seed mid (from + n) kept.fits)

rounds-fit : (minds : Minds) (seed : ℕ) (m : Moment) (n : ℕ) → AreSound minds → Valid m.world → Fits m.world minds → AreOfBrains minds (told_in_rounds (λ round. executed_in minds seed) minds seed m n)
rounds-fit minds seed m zero sound valid fits = tt
rounds-fit minds seed m (suc n) sound valid fits =
    let mid : Moment = after_rounds minds seed m n in
    let kept : Keeps minds m.world mid.world = Keeps-after_rounds minds seed m n sound valid fits in
    of_brains-append minds (told_in_rounds (λ round. executed_in minds seed) minds seed m n) (told_in_turns (executed_in minds seed) minds seed mid 0 mid.world.ids)
    (rounds-fit minds seed m n sound valid fits) (turns-fit minds seed mid 0 mid.world.ids sound kept.valid kept.fits)

-- sums of what is alike, of nothing, and of two together
sum-same : (f g : ℕ → ℕ) (n : ℕ) → ((i : ℕ) → i < n → f i ≡ g i) → sum_below f n ≡ sum_below g n
sum-same f g zero same = refl
sum-same f g (suc n) same = ap₂ ◌+◌ (sum-same f g n (λ i early. same i (omega (arith, early)))) (same n (omega arith))

sum-none : (f : ℕ → ℕ) (n : ℕ) → ((i : ℕ) → i < n → f i ≡ 0) → sum_below f n ≡ 0
sum-none f zero none = refl
sum-none f (suc n) none = ap₂ ◌+◌ (sum-none f n (λ i early. none i (omega (arith, early)))) (none n (omega arith))

sum-both : (f g : ℕ → ℕ) (n : ℕ) → sum_below (λ i. f i + g i) n ≡ sum_below f n + sum_below g n
sum-both f g zero = refl
sum-both f g (suc n) =
    let front : sum_below (λ i. f i + g i) n ≡ sum_below f n + sum_below g n = sum-both f g n in
    omega arith

-- the sum of a test that one number below n passes
sum-one : (k n : ℕ) → k < n → sum_below (λ i. one_if (k == i)) n ≡ 1
sum-one k zero early = absurd (omega (arith, early))
sum-one k (suc n) early =
    elim (cases_eq k n) [
      | inl last ↦
          ap₂ ◌+◌
          (sum-none (λ i. one_if (k == i)) n (λ i before. ap one_if (false_from_ne_true (k == i) (λ same. let e : k ≡ i = eqb-true k i same in absurd (omega arith)))))
          (ap one_if (eq-eqb k n last))
      | inr before ↦
          let front : sum_below (λ i. one_if (k == i)) n ≡ 1 = sum-one k n (omega arith) in
          let none : one_if (k == n) ≡ 0 = ap one_if (false_from_ne_true (k == n) (λ same. before (eqb-true k n same))) in
          omega arith
    ]

-- one more that was executed
times-more : (e : Executed) (list : List Executed) (colour : Colour) (state : ℕ) → times_of (e ∷ list) colour state ≡ one_if (is_of colour state e) + times_of list colour state
unfolding times_of
times-more e list colour state = go (is_of colour state e)
  where
    go : (b : Bool) → length (cond b (e ∷ filter (is_of colour state) list) (filter (is_of colour state) list)) ≡ one_if b + length (filter (is_of colour state) list)
    go true = omega arith
    go false = omega arith

sum-more : (e : Executed) (list : List Executed) (colour : Colour) (n : ℕ) → sum_below (times_of (e ∷ list) colour) n ≡ sum_below (λ state. one_if (is_of colour state e)) n + sum_below (times_of list colour) n
sum-more e list colour n =
    sum-same (times_of (e ∷ list) colour) (λ state. one_if (is_of colour state e) + times_of list colour state) n (λ state _. times-more e list colour state)
    ∙ sum-both (λ state. one_if (is_of colour state e)) (times_of list colour) n

-- it is of one state of one brain
once : (minds : Minds) (own : Colour) (state : ℕ) → state < length (mind_of minds own) →
    sum_below (λ i. one_if (same_colour own Red && (state == i))) (length minds.red) + sum_below (λ i. one_if (same_colour own Black && (state == i))) (length minds.black) ≡ 1
once minds Red state early = ap₂ ◌+◌ (sum-one state (length minds.red) early) (sum-none (λ i. 0) (length minds.black) (λ i _. refl))
once minds Black state early = ap₂ ◌+◌ (sum-none (λ i. 0) (length minds.red) (λ i _. refl)) (sum-one state (length minds.black) early)

-- all counts together
counted : (minds : Minds) (list : List Executed) → AreOfBrains minds list → sum_below (times_of list Red) (length minds.red) + sum_below (times_of list Black) (length minds.black) ≡ length list
unfolding times_of
counted minds [] inside = ap₂ ◌+◌ (sum-none (λ i. 0) (length minds.red) (λ i _. refl)) (sum-none (λ i. 0) (length minds.black) (λ i _. refl))
counted minds (e ∷ list) inside =
    let rest : sum_below (times_of list Red) (length minds.red) + sum_below (times_of list Black) (length minds.black) ≡ length list = counted minds list inside.1 in
    let one : sum_below (λ i. one_if (is_of Red i e)) (length minds.red) + sum_below (λ i. one_if (is_of Black i e)) (length minds.black) ≡ 1 = once minds e.colour e.state inside.0 in
    let red = sum-more e list Red (length minds.red) in
    let black = sum-more e list Black (length minds.black) in
    omega (arith, rest, one, red, black)

pub counts_add_up : CountsAddUp
unfolding executed_in_rounds acting_turns
counts_add_up minds seed w rounds sound valid fits =
    rw (from_round-all (λ round. executed_in minds seed))
    (counted minds (told_in_rounds (λ round. executed_in minds seed) minds seed (start_of w) rounds) (rounds-fit minds seed (start_of w) rounds sound valid fits)
    ∙ rounds-as_many (executed_in minds seed) (λ m t. up_by t (ant_in m.world t)) minds seed (executed-up minds seed) (start_of w) rounds)
