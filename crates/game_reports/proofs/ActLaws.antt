-- The lines of what ants execute are counted by a profile; and profiles of parts of a game add up.
use Rattle.std.proofs.Common.{None, ◌≡◌, ℕ, ◌+◌, ◌-◌, ◌≤◌, ◌&&◌, Bool, true, false, cond, List, [], ◌∷◌, ◌++◌, filter, length, map, refl, sym, ◌∙◌, ap, ap₂, arith}
use Rattle.std.specs.List.{flat_map}
use Rattle.std.proofs.Math.Path.{fun_ext}
use Rattle.ant_turn.specs.Minds.{Minds}
use Rattle.ant_turn.specs.Rounds.{start_of}
use Rattle.cell_world.specs.World.{World}
use Rattle.match_run.specs.Seen.{Seen, seen}
use Rattle.match_run.specs.Told.{Telling, from_round, told_in_rounds}
use Rattle.match_run.proofs.ToldLemmas.{from_round-all, from_round-mapped, told_in_rounds-mapped, told_in_rounds-split}
use Rattle.game_reports.specs.declared.executed.Executed.{Executed}
use Rattle.game_reports.specs.Acts.{act_line, act_lines}
use Rattle.game_reports.specs.Laws.{ActsAreCounted, ProfilesAddUp, seen_in_rounds}
use Rattle.game_reports.specs.Profile.{executed_in, executed_in_rounds, is_of, met_of, times_of}
use Rattle.game_reports.specs.Report.{report_lines}
use Rattle.game_reports.proofs.ExecutedLemmas.{executed-seen}

-- one report for each thing gives a list of the same length
one-each : {A B : Type 0} (f : A → B) (list : List A) → flat_map (λ a. f a ∷ []) list ≡ map f list
one-each f [] = refl
one-each f (a ∷ list) = ap (λ rest. f a ∷ rest) (one-each f list)

-- a count of what things come to is one of the things
count-map : {A B : Type 0} (f : A → B) (test : B → Bool) (list : List A) → length (filter (λ a. test (f a)) list) ≡ length (filter test (map f list))
count-map f test [] = refl
count-map {A} {B} f test (a ∷ list) = go (test (f a)) (count-map f test list)
  where
    go : (b : Bool) → length (filter (λ a. test (f a)) list) ≡ length (filter test (map f list))
        → length (cond b (a ∷ filter (λ a. test (f a)) list) (filter (λ a. test (f a)) list)) ≡ length (cond b (f a ∷ filter test (map f list)) (filter test (map f list)))
    go true rest = omega (arith, rest)
    go false rest = rest

-- a count of two lists together
count-append : {A : Type 0} (test : A → Bool) (xs ys : List A) → length (filter test xs) + length (filter test ys) ≡ length (filter test (xs ++ ys))
count-append test [] ys = omega arith
count-append test (x ∷ xs) ys = go (test x) (count-append test xs ys)
  where
    go : (b : Bool) → length (filter test xs) + length (filter test ys) ≡ length (filter test (xs ++ ys))
        → length (cond b (x ∷ filter test xs) (filter test xs)) + length (filter test ys) ≡ length (cond b (x ∷ filter test (xs ++ ys)) (filter test (xs ++ ys)))
    go true rest = omega (arith, rest)
    go false rest = rest

-- what a turn's ant executed
abbrev executed_as : Seen → Executed
executed_as it = record { colour = it.ant.colour; state = it.ant.state; met = it.met }

module _ (minds : Minds) (seed : ℕ) (w : World) (rounds from : ℕ) where
  -- the reports of what is seen from a round on
  seen-told : {B : Type 0} (f : Seen → B) → told_in_rounds (from_round from (λ round m t. flat_map (λ it. f it ∷ []) (seen minds seed round m t))) minds seed (start_of w) rounds ≡ map f (seen_in_rounds minds seed w rounds from)
  unfolding seen_in_rounds
  seen-told {B} f =
      let one : Seen → List B = λ it. f it ∷ [] in
      ap (λ (telling : ℕ → Telling B). told_in_rounds telling minds seed (start_of w) rounds) (from_round-mapped one from (seen minds seed))
      ∙ told_in_rounds-mapped one minds seed (from_round from (seen minds seed)) (start_of w) rounds
      ∙ one-each f (told_in_rounds (from_round from (seen minds seed)) minds seed (start_of w) rounds)

  lines-counted : report_lines (act_lines None) from minds seed w rounds ≡ map act_line (seen_in_rounds minds seed w rounds from)
  unfolding report_lines
  lines-counted = seen-told act_line

  executed-counted : executed_in_rounds minds seed w rounds from ≡ map executed_as (seen_in_rounds minds seed w rounds from)
  unfolding executed_in_rounds
  executed-counted =
      ap (λ (telling : ℕ → Telling Executed). told_in_rounds (from_round from telling) minds seed (start_of w) rounds)
      (fun_ext λ round. fun_ext λ m. fun_ext λ t. executed-seen minds seed round m t)
      ∙ seen-told executed_as

pub acts_are_counted : ActsAreCounted
unfolding times_of met_of
acts_are_counted minds seed w rounds from = record {
  lines = lines-counted minds seed w rounds from;
  times = λ colour state.
      count-map executed_as (is_of colour state) (seen_in_rounds minds seed w rounds from)
      ∙ ap (λ (list : List Executed). length (filter (is_of colour state) list)) (sym (executed-counted minds seed w rounds from));
  met = λ colour state.
      count-map executed_as (λ e. is_of colour state e && e.met) (seen_in_rounds minds seed w rounds from)
      ∙ ap (λ (list : List Executed). length (filter (λ e. is_of colour state e && e.met) list)) (sym (executed-counted minds seed w rounds from));
}

-- what is executed before a round, and then from it on, is all
executed-split : (minds : Minds) (seed : ℕ) (w : World) (rounds from : ℕ) → 1 ≤ from → from ≤ rounds + 1 →
    executed_in_rounds minds seed w (from - 1) 0 ++ executed_in_rounds minds seed w rounds from ≡ executed_in_rounds minds seed w rounds 0
unfolding executed_in_rounds
executed-split minds seed w rounds from some early =
    let telling : ℕ → Telling Executed = λ round. executed_in minds seed in
    let first : ℕ = from - 1 in
    let next : from ≡ first + 1 = omega (arith, some) in
    let last : rounds ≡ first + (rounds - first) = omega (arith, some, early) in
    ap (λ (t : ℕ → Telling Executed). told_in_rounds t minds seed (start_of w) first ++ told_in_rounds (from_round from telling) minds seed (start_of w) rounds) (from_round-all telling)
    ∙ ap₂ (λ f n. told_in_rounds telling minds seed (start_of w) first ++ told_in_rounds (from_round f telling) minds seed (start_of w) n) next last
    ∙ told_in_rounds-split minds seed telling (start_of w) first (rounds - first)
    ∙ ap (told_in_rounds telling minds seed (start_of w)) (sym last)
    ∙ ap (λ (t : ℕ → Telling Executed). told_in_rounds t minds seed (start_of w) rounds) (sym (from_round-all telling))

pub profiles_add_up : ProfilesAddUp
unfolding times_of met_of
profiles_add_up minds seed w rounds from colour state some early =
    let before : List Executed = executed_in_rounds minds seed w (from - 1) 0 in
    let later : List Executed = executed_in_rounds minds seed w rounds from in
    let whole = executed-split minds seed w rounds from some early in (
      count-append (is_of colour state) before later ∙ ap (λ (list : List Executed). length (filter (is_of colour state) list)) whole,
      count-append (λ e. is_of colour state e && e.met) before later ∙ ap (λ (list : List Executed). length (filter (λ e. is_of colour state e && e.met) list)) whole,
    )
