-- The search that keeps its pairs: what is known of them, and the steps to one of them.
use Rattle.std.proofs.Common.{◌≡◌, inl, inr, ℕ, ◌+◌, ◌-◌, ◌*◌, ◌<◌, ◌≤◌, Bool, true, false, List, [], ◌∷◌, ◌++◌, map, length, reverse, slice_get, get_or, Option, Some, None, unwrap_or, refl, sym, ap, ap₂, ◌∙◌, subst, append_assoc, append-nil, arith}
use Rattle.std.specs.Prelude.{option_map, option_to_list}
use Rattle.std.proofs.lemmas.Bool.{cases_lt}
use Rattle.std.proofs.lemmas.List.{length-append, length_push, reverse-append}
use Rattle.std.proofs.lemmas.Option.{none-some, same_Some, slice_get-get_or, slice_get_within}
use Rattle.list_lemmas.proofs.Elements.{Contains-first}
use Rattle.list_lemmas.proofs.Entries.{slice_get-front, slice_get-last}
use Rattle.brain_read.specs.declared.instr.Instr.{Instr}
use Rattle.brain_read.specs.Soundness.{IsBrain}
use Rattle.ant_turn.specs.Turn.{instruction_at}
use Rattle.brain_minimise.specs.Equivalence.{shape_of}
use Rattle.brain_same.specs.declared.search.Pair.{Pair}
use Rattle.brain_same.specs.declared.way_search.Reached.{Reached}
use Rattle.brain_same.specs.declared.way.Step.{Step}
use Rattle.brain_same.specs.Answers.{led_to}
use Rattle.brain_same.specs.declared.comparison.Comparison.TheVariants.{Different}
use Rattle.brain_same.specs.Difference.{AreSame, found_of}
use Rattle.brain_same.specs.Inner.Classes.{AreApart, total}
use Rattle.brain_same.specs.Inner.Pairs.{IsInside, pair_after}
use Rattle.brain_same.specs.Inner.Reached.{AreReached, AreStepsTo, EndsAt, HaveWays, IsFrom, IsReached, IsKept, kept_from, reached_after, start_kept}
use Rattle.brain_same.specs.Inner.Reached.EndsAt.{NoneDiffers, DiffersAt}
use Rattle.brain_same.specs.Inner.Reached.IsFrom.{Starts, Follows}
use Rattle.brain_same.specs.Inner.Reached.IsKept.{PassedOver, WereKept}
use Rattle.brain_same.specs.Way.{IsWayComparison, state_after, step_of, way_by}
use Rattle.brain_same.specs.Way.IsWayComparison.{ByWay}
use Rattle.brain_same.proofs.AnswersLemmas.{led-inside}
use Rattle.brain_same.proofs.ClassesLemmas.{total-apart}
use Rattle.brain_same.proofs.ComparisonLemmas.{AreSame-done, least-front}
use Rattle.brain_same.proofs.SearchLemmas.{Front, Front-few, Front-inside, Lead, Searches, Searches-follow, Searches-over, Searches-start, entry, entry-after, lead-after, one_after, other_after, same_pair, short, ways_after}
use Rattle.brain_same.proofs.WayLemmas.{led-last, state_after-is}

-- what follows the first part of a list
slice_get-seam : {X : Type 0} (xs : List X) (y : X) (ys : List X) → slice_get (xs ++ y ∷ ys) (length xs) ≡ Some y
slice_get-seam [] y ys = refl
slice_get-seam (x ∷ xs) y ys = slice_get-seam xs y ys

module _ (first second : List Instr) where
  -- what is known of a pair stays known with more after it
  IsFrom-more : (ways more : List (List Bool)) (place : ℕ) (it : Reached) (way : List Bool) → IsFrom ways place it way → IsFrom (ways ++ more) place it way
  IsFrom-more ways more place it way (Starts start none) = Starts start none
  IsFrom-more ways more place it way (Follows less before there is) = Follows less before (slice_get-front ways more it.from (slice_get_within ways it.from before there) ∙ there) is

  IsReached-more : (ways more : List (List Bool)) (place : ℕ) (it : Reached) (way : List Bool) → IsReached first second ways place it way → IsReached first second (ways ++ more) place it way
  IsReached-more ways more place it way known = record { one = known.one; other = known.other; count = known.count; from = IsFrom-more ways more place it way known.from }

  -- one pair more
  AreReached-more : (reached : List Reached) (ways : List (List Bool)) (it : Reached) (way : List Bool) → AreReached first second reached ways → IsReached first second (ways ++ way ∷ []) (length reached) it way →
      AreReached first second (reached ++ it ∷ []) (ways ++ way ∷ [])
  AreReached-more reached ways it way are last =
      let each = are.each in
      let long = length_push reached it in
      let long_too = length_push ways way in
      record {
        each = omega arith;
        at = λ place that answers there led. elim (cases_lt place (length reached)) [
          | inl less ↦
              IsReached-more ways (way ∷ []) place that answers
              (are.at place that answers (sym (slice_get-front reached (it ∷ []) place less) ∙ there) (sym (slice_get-front ways (way ∷ []) place (omega arith)) ∙ led))
          | inr beyond ↦
              let within = slice_get_within (reached ++ it ∷ []) place that there in
              let here : length reached ≡ place = omega arith in
              let same : it ≡ that = same_Some it that (sym (slice_get-last reached it) ∙ ap (slice_get (reached ++ it ∷ [])) here ∙ there) in
              let same_way : way ≡ answers = same_Some way answers (sym (slice_get-last ways way) ∙ ap (slice_get (ways ++ way ∷ [])) (sym each ∙ here) ∙ led) in
              subst (λ k. IsReached first second (ways ++ way ∷ []) k that answers) here
              (subst (λ x. IsReached first second (ways ++ way ∷ []) (length reached) x answers) same
              (subst (λ v. IsReached first second (ways ++ way ∷ []) (length reached) it v) same_way last))
        ];
      }

  -- the pair that follows one by an answer, if there is one
  AreReached-after : (reached : List Reached) (ways : List (List Bool)) (place : ℕ) (w : List Bool) (met : Bool) → AreReached first second reached ways → slice_get ways place ≡ Some w → Lead first second w →
      AreReached first second (reached ++ option_to_list (reached_after first second place (entry first second w) met)) (ways ++ ways_after first second w met)
  AreReached-after reached ways place w met are there lead = go (pair_after first second (entry first second w) met) refl where
    go : (o : Option Pair) → pair_after first second (entry first second w) met ≡ o →
        AreReached first second (reached ++ option_to_list (option_map (kept_from place met) o)) (ways ++ option_to_list (option_map (λ _. w ++ met ∷ []) o))
    go None is = subst (λ xs. AreReached first second xs (ways ++ [])) (sym (append-nil reached)) (subst (AreReached first second reached) (sym (append-nil ways)) are)
    go (Some pair) is =
        let more = lead-after first second w met pair lead is in
        let same = entry-after first second w met pair lead is in
        let within = slice_get_within ways place w there in
        let each = are.each in
        AreReached-more reached ways (kept_from place met pair) (w ++ met ∷ []) are (record {
          one = more.one ∙ ap (λ (p : Pair). Some p.first) same;
          other = more.other ∙ ap (λ (p : Pair). Some p.second) same;
          count = sym (ap (λ (p : Pair). p.answers) same);
          from = Follows (omega arith) w (slice_get-front ways ((w ++ met ∷ []) ∷ []) place within ∙ there) refl;
        })

  -- the pair is that to which the answers lead
  pub IsReached-entry : (ways : List (List Bool)) (place : ℕ) (it : Reached) (w : List Bool) → IsReached first second ways place it w → entry first second w ≡ it.pair
  IsReached-entry ways place it w known =
      same_pair (one_after first second w) it.pair.first (other_after first second w) it.pair.second (length w) it.pair.answers (ap (λ o. unwrap_or o 0) known.one) (ap (λ o. unwrap_or o 0) known.other) (sym known.count)

  -- what stays in the search: the pairs before a place were looked at, and the others wait
  pub record Keeps (classes : List ℕ) (reached : List Reached) (place : ℕ) : Type 0 where
    pub done : List (List Bool)
    pub ways : List (List Bool)
    pub searches : Searches first second classes done ways
    pub looked : length done ≡ place
    pub are : AreReached first second reached (done ++ ways)
    pub few : 2 * total classes + length reached ≤ 800000001

  pub Keeps-start : (classes : List ℕ) → AreApart (length first + length second) classes → length first + length second ≤ 20000 → Keeps classes (start_kept ∷ []) 0
  Keeps-start classes apart few =
      let sum = total-apart (length first + length second) classes apart few in
      record {
        done = [];
        ways = [] ∷ [];
        searches = Searches-start first second classes apart few;
        looked = refl;
        are = AreReached-more [] [] start_kept [] (record { each = refl; at = λ place it way there _. absurd (none-some it there) }) (record { one = refl; other = refl; count = refl; from = Starts refl refl });
        few = omega arith;
      }

  -- the pair of a place that waits
  pub record Ahead (classes : List ℕ) (reached : List Reached) (place : ℕ) (it : Reached) : Type 0 where
    pub done : List (List Bool)
    pub w : List Bool
    pub ways : List (List Bool)
    pub searches : Searches first second classes done (w ∷ ways)
    pub looked : length done ≡ place
    pub are : AreReached first second reached (done ++ w ∷ ways)
    pub few : 2 * total classes + length reached ≤ 800000001
    pub there : slice_get (done ++ w ∷ ways) place ≡ Some w
    pub known : IsReached first second (done ++ w ∷ ways) place it w

  pub Ahead-of : (classes : List ℕ) (reached : List Reached) (place : ℕ) (it : Reached) → Keeps classes reached place → slice_get reached place ≡ Some it → Ahead classes reached place it
  Ahead-of classes reached place it keeps here = go keeps.done keeps.ways keeps.searches keeps.looked keeps.are where
    go : (done ways : List (List Bool)) → Searches first second classes done ways → length done ≡ place → AreReached first second reached (done ++ ways) → Ahead classes reached place it
    go done [] searches looked are =
        let each = are.each in
        let long = length-append done [] in
        let within = slice_get_within reached place it here in
        absurd (omega arith)
    go done (w ∷ ways) searches looked are =
        let there = ap (slice_get (done ++ w ∷ ways)) (sym looked) ∙ slice_get-seam done w ways in
        record { done = done; w = w; ways = ways; searches = searches; looked = looked; are = are; few = keeps.few; there = there; known = are.at place it w here there }

  -- none waits
  pub AreSame-kept : IsBrain first → IsBrain second → (classes : List ℕ) (reached : List Reached) (place : ℕ) → Keeps classes reached place → length reached ≤ place → AreSame first second
  AreSame-kept sound too classes reached place keeps end = go keeps.done keeps.ways keeps.searches keeps.looked keeps.are where
    go : (done ways : List (List Bool)) → Searches first second classes done ways → length done ≡ place → AreReached first second reached (done ++ ways) → AreSame first second
    go done [] searches looked are = AreSame-done first second sound too classes done searches
    go done (w ∷ ways) searches looked are =
        let each = are.each in
        let long = length-append done (w ∷ ways) in
        absurd (omega arith)

  -- there is less to do after each step, and there are few pairs
  pub IsKept-work : (place : ℕ) (pair : Pair) (classes new : List ℕ) (reached after : List Reached) → IsKept first second place pair classes new reached after →
      (2 * total new + length after ≤ 2 * total classes + length reached) × (length reached ≤ length after)
  IsKept-work place pair classes new reached after (PassedOver one_class same stay) =
      let one = ap total same in let other = ap (λ (list : List Reached). length list) stay in (omega arith, omega arith)
  IsKept-work place pair classes new reached after (WereKept joins more) =
      let falls = joins.falls in
      let met = option_to_list (reached_after first second place pair true) in
      let unmet = option_to_list (reached_after first second place pair false) in
      let size : length after ≡ (length reached + length met) + length unmet =
      ap (λ (list : List Reached). length list) more ∙ length-append (reached ++ met) unmet ∙ ap (λ n. n + length unmet) (length-append reached met) in
      let one = short (reached_after first second place pair true) in
      let other = short (reached_after first second place pair false) in
      (omega arith, omega arith)

  module _ (sound : IsBrain first) (too : IsBrain second) (classes : List ℕ) (reached : List Reached) (place : ℕ) (it : Reached) (ahead : Ahead classes reached place it) where
    abbrev pub Ahead-front : Front first second classes it.pair (map (entry first second) ahead.ways)
    Ahead-front = record {
      done = ahead.done;
      w = ahead.w;
      ways = ahead.ways;
      first_pair = IsReached-entry (ahead.done ++ ahead.w ∷ ahead.ways) place it ahead.w ahead.known;
      other_pairs = refl;
      searches = ahead.searches;
    }

    -- its states are states of the brains, and few answers lead to it
    pub Ahead-inside : IsInside first second it.pair
    Ahead-inside = Front-inside first second sound too classes it.pair (map (entry first second) ahead.ways) Ahead-front

    pub Ahead-few : it.pair.answers ≤ 400000000
    Ahead-few = Front-few first second sound too classes it.pair (map (entry first second) ahead.ways) Ahead-front

    -- its instructions differ
    pub EndsAt-ahead : slice_get reached place ≡ Some it → (shape_of (instruction_at first it.pair.first) ≡ shape_of (instruction_at second it.pair.second) → ⊥) → EndsAt first second reached (Some place)
    EndsAt-ahead here differ =
        DiffersAt place (ahead.done ++ ahead.w ∷ ahead.ways) ahead.w it ahead.are ahead.there here
        (record {
          answers = ahead.w;
          count = sym ahead.known.count;
          apart = record { one = ahead.known.one; other = ahead.known.other; differ = differ };
          least = least-front first second sound too classes it.pair (map (entry first second) ahead.ways) Ahead-front;
        })
        refl

    -- they are alike: it is passed over, or followed
    abbrev AlikeAt : Pair → Type 0
    AlikeAt p = shape_of (instruction_at first p.first) ≡ shape_of (instruction_at second p.second)

    lead : Lead first second ahead.w
    lead = ahead.searches.lead ahead.w (inr (Contains-first ahead.w ahead.ways))

    go_on : (new : List ℕ) (after : List Reached) → AlikeAt (entry first second ahead.w) → IsKept first second place (entry first second ahead.w) classes new reached after → Keeps new after (place + 1)
    go_on new after alike (PassedOver one_class same stay) =
        subst (λ classes. Keeps classes after (place + 1)) (sym same)
        (subst (λ list. Keeps classes list (place + 1)) (sym stay)
        (record {
          done = ahead.done ++ ahead.w ∷ [];
          ways = ahead.ways;
          searches = Searches-over first second sound too classes ahead.done ahead.ways ahead.w ahead.searches alike one_class;
          looked = length_push ahead.done ahead.w ∙ ap (λ n. n + 1) ahead.looked;
          are = subst (AreReached first second reached) (sym (append_assoc ahead.done (ahead.w ∷ []) ahead.ways)) ahead.are;
          few = ahead.few;
        }))
    go_on new after alike (WereKept joins more) =
        let w = ahead.w in
        let all = ahead.done ++ w ∷ ahead.ways in
        let met = ways_after first second w true in
        let unmet = ways_after first second w false in
        let work = IsKept-work place (entry first second w) classes new reached after (WereKept joins more) in
        let few = ahead.few in
        let within = slice_get_within all place w ahead.there in
        record {
          done = ahead.done ++ w ∷ [];
          ways = (ahead.ways ++ met) ++ unmet;
          searches = Searches-follow first second sound too classes ahead.done ahead.ways w ahead.searches alike new joins;
          looked = length_push ahead.done w ∙ ap (λ n. n + 1) ahead.looked;
          are =
              subst (AreReached first second after)
              (sym
              (sym (append_assoc (ahead.done ++ w ∷ []) (ahead.ways ++ met) unmet)
              ∙ ap (λ ways. ways ++ unmet) (sym (append_assoc (ahead.done ++ w ∷ []) ahead.ways met) ∙ ap (λ ways. ways ++ met) (append_assoc ahead.done (w ∷ []) ahead.ways))))
              (subst (λ list. AreReached first second list ((all ++ met) ++ unmet)) (sym more)
              (AreReached-after (reached ++ option_to_list (reached_after first second place (entry first second w) true)) (all ++ met) place w false
              (AreReached-after reached all place w true ahead.are ahead.there lead) (slice_get-front all met place within ∙ ahead.there) lead));
          few = omega (arith, work.0);
        }

    pub Keeps-on : (new : List ℕ) (after : List Reached) → AlikeAt it.pair → IsKept first second place it.pair classes new reached after → Keeps new after (place + 1)
    Keeps-on new after =
        subst (λ p. AlikeAt p → IsKept first second place p classes new reached after → Keeps new after (place + 1))
        (IsReached-entry (ahead.done ++ ahead.w ∷ ahead.ways) place it ahead.w ahead.known) (go_on new after)

  -- the answers to a pair of a list
  known_of : (reached : List Reached) (have : HaveWays first second reached) (place : ℕ) (it : Reached) → slice_get reached place ≡ Some it → IsReached first second have.ways place it (get_or have.ways place [])
  known_of reached have place it there =
      let each = have.are.each in
      let within = slice_get_within reached place it there in
      have.are.at place it (get_or have.ways place []) there (slice_get-get_or have.ways place [] (omega arith))

  -- its states are states of the brains
  pub kept-inside : (reached : List Reached) → HaveWays first second reached → IsBrain first → IsBrain second → (place : ℕ) (it : Reached) → slice_get reached place ≡ Some it → IsInside first second it.pair
  kept-inside reached have sound too place it there =
      let known = known_of reached have place it there in
      let some = sound.some in
      let some_too = too.some in (
        led-inside first (get_or have.ways place []) 0 it.pair.first sound (omega arith) known.one,
        led-inside second (get_or have.ways place []) 0 it.pair.second too (omega arith) known.other,
      )

  -- it came from an earlier one
  pub kept-earlier : (reached : List Reached) → HaveWays first second reached → (place : ℕ) (it : Reached) → slice_get reached place ≡ Some it → 0 < place → it.from < place
  kept-earlier reached have place it there some =
      elim (known_of reached have place it there).from [
        | Starts start none ↦ absurd (omega arith)
        | Follows less before led is ↦ less
      ]

  -- what the search came to
  pub AreSame-ends : (reached : List Reached) (o : Option ℕ) → EndsAt first second reached o → o ≡ None → AreSame first second
  AreSame-ends reached o (NoneDiffers same) is = same
  AreSame-ends reached o (DiffersAt place ways way it are led here difference by) is = absurd (none-some place (sym is))

  pub inside_ends : (reached : List Reached) (o : Option ℕ) (place : ℕ) (it : Reached) → EndsAt first second reached o → o ≡ Some place → IsBrain first → IsBrain second → slice_get reached place ≡ Some it → IsInside first second it.pair
  inside_ends reached o place it (NoneDiffers same) is sound too there = absurd (none-some place is)
  inside_ends reached o place it (DiffersAt k ways way that are led here difference by) is sound too there = kept-inside reached (record { ways = ways; are = are }) sound too place it there

  pub IsWayComparison_ends : (reached : List Reached) (o : Option ℕ) (place : ℕ) (it : Reached) (steps : List Step) → EndsAt first second reached o → o ≡ Some place → slice_get reached place ≡ Some it → AreStepsTo first second reached place steps →
      IsWayComparison first second (Different it.pair.answers (found_of first it.pair.first) (found_of second it.pair.second)) steps
  IsWayComparison_ends reached o place it steps (NoneDiffers same) is there told = absurd (none-some place is)
  IsWayComparison_ends reached o place it steps (DiffersAt k ways way that are led here difference by) is there told =
      let at : k ≡ place = same_Some k place is in
      let same : that ≡ it = same_Some that it (sym here ∙ ap (slice_get reached) at ∙ there) in
      subst (λ (x : Reached). IsWayComparison first second (Different x.pair.answers (found_of first x.pair.first) (found_of second x.pair.second)) steps) same
      (subst (IsWayComparison first second (Different that.pair.answers (found_of first that.pair.first) (found_of second that.pair.second)))
      (sym (told ways way are (ap (slice_get ways) (sym at) ∙ led) ∙ ap (λ w. way_by first second w 0 0) (sym by)))
      (ByWay that.pair.answers that.pair.first that.pair.second difference))

  -- the steps from the pair of a place on, if these are the steps after it, the last one first
  pub record Rest (reached : List Reached) (at : ℕ) (back : List Step) (ways : List (List Bool)) (way : List Bool) : Type 0 where
    pub before : List Bool
    pub tail : List Bool
    pub there : slice_get ways at ≡ Some before
    pub whole : way ≡ before ++ tail
    pub told : (it : Reached) → slice_get reached at ≡ Some it → reverse back ≡ way_by first second tail it.pair.first it.pair.second

  pub record Walks (reached : List Reached) (place at : ℕ) (back : List Step) : Type 0 where
    pub inside : at < length reached
    pub rest : (ways : List (List Bool)) (way : List Bool) → AreReached first second reached ways → slice_get ways place ≡ Some way → Rest reached at back ways way

  -- one step more
  one_more : (reached : List Reached) (at : ℕ) (back : List Step) (ways : List (List Bool)) (way : List Bool) (it prior : Reached) → AreReached first second reached ways → (rest : Rest reached at back ways way) → 0 < at →
      slice_get reached at ≡ Some it → slice_get reached it.from ≡ Some prior → IsFrom ways at it rest.before → Rest reached it.from (back ++ step_of first second prior.pair.first prior.pair.second it.met ∷ []) ways way
  one_more reached at back ways way it prior are rest some here there (Starts start none) = absurd (omega arith)
  one_more reached at back ways way it prior are rest some here there (Follows less v led is) =
      let known = are.at at it rest.before here rest.there in
      let known_prior = are.at it.from prior v there led in
      let a = prior.pair.first in
      let b = prior.pair.second in
      let step = step_of first second a b it.met in
      let one : state_after first a it.met ≡ it.pair.first = state_after-is first a it.met it.pair.first (led-last first v it.met 0 a it.pair.first known_prior.one (ap (λ w. led_to first w 0) (sym is) ∙ known.one)) in
      let two : state_after second b it.met ≡ it.pair.second = state_after-is second b it.met it.pair.second (led-last second v it.met 0 b it.pair.second known_prior.other (ap (λ w. led_to second w 0) (sym is) ∙ known.other)) in
      record {
        before = v;
        tail = it.met ∷ rest.tail;
        there = led;
        whole = rest.whole ∙ ap (λ w. w ++ rest.tail) is ∙ append_assoc v (it.met ∷ []) rest.tail;
        told = λ that there_too.
            subst (λ (x : Reached). reverse (back ++ step ∷ []) ≡ way_by first second (it.met ∷ rest.tail) x.pair.first x.pair.second) (same_Some prior that (sym there ∙ there_too))
            (reverse-append back (step ∷ []) ∙ ap (λ steps. step ∷ steps) (rest.told it here ∙ sym (ap₂ (way_by first second rest.tail) one two)));
      }

  pub Walks-on : (reached : List Reached) (place at : ℕ) (back : List Step) (it prior : Reached) → HaveWays first second reached → Walks reached place at back → 0 < at → slice_get reached at ≡ Some it → slice_get reached it.from ≡ Some prior →
      Walks reached place it.from (back ++ step_of first second prior.pair.first prior.pair.second it.met ∷ [])
  Walks-on reached place at back it prior have walks some here there = record {
    inside = slice_get_within reached it.from prior there;
    rest = λ ways way are led.
        let rest = walks.rest ways way are led in
        one_more reached at back ways way it prior are rest some here there (are.at at it rest.before here rest.there).from;
  }

  -- at the start all steps were gathered
  pub Walks-end : (reached : List Reached) (place : ℕ) (back : List Step) → Walks reached place 0 back → AreStepsTo first second reached place (reverse back)
  Walks-end reached place back walks ways way are led = go (walks.rest ways way are led) where
    it : Reached
    it = get_or reached 0 start_kept

    here : slice_get reached 0 ≡ Some it
    here = slice_get-get_or reached 0 start_kept walks.inside

    go : Rest reached 0 back ways way → reverse back ≡ way_by first second way 0 0
    go rest =
        let known = are.at 0 it rest.before here rest.there in
        elim known.from [
          | Starts start none ↦
              let one : 0 ≡ it.pair.first = same_Some 0 it.pair.first (ap (λ w. led_to first w 0) (sym none) ∙ known.one) in
              let two : 0 ≡ it.pair.second = same_Some 0 it.pair.second (ap (λ w. led_to second w 0) (sym none) ∙ known.other) in
              rest.told it here ∙ sym (ap₂ (way_by first second rest.tail) one two) ∙ ap (λ w. way_by first second w 0 0) (sym (rest.whole ∙ ap (λ w. w ++ rest.tail) none))
          | Follows less before led is ↦ absurd (omega arith)
        ]
