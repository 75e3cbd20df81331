-- What windows and rounds add up to.
use Rattle.std.proofs.Common.{◌≡◌, ℕ, zero, suc, ◌+◌, ◌-◌, ◌*◌, ◌/◌, ◌<◌, ◌≤◌, min, refl, sym, ◌∙◌, ap, ap₂, arith}
use Rattle.std.proofs.lemmas.Nat.{div-add-mod', div-mul-add, mod_below}
use Rattle.ant_turn.specs.Minds.{Minds}
use Rattle.ant_turn.specs.Rounds.{Moment, after_rounds, after_turns}
use Rattle.ant_turn.proofs.KeptByRounds.{after_rounds-ids, after_rounds-then, after_turns-ids, after_turns-then}
use Rattle.dump_print.specs.declared.totals.Totals.{Totals}
use Rattle.round_book.proofs.CountLemmas.{counts-add_up}
use Rattle.round_book.specs.Window.{Window}
use Rattle.match_run.specs.Counts.{both, no_turns, round_totals, sum_windows, totals_of, window_at, window_totals, windows_of}

abbrev three : ℕ → ℕ → ℕ → Totals
three turns taken redone = record { turns = turns; taken = taken; redone = redone }

-- totals of equal numbers are equal
pub totals-same : (s t : Totals) → s.turns ≡ t.turns → s.taken ≡ t.taken → s.redone ≡ t.redone → s ≡ t
totals-same s t turns taken redone =
    ap (λ n. three n s.taken s.redone) turns ∙ ap (λ n. three t.turns n s.redone) taken ∙ ap (λ n. three t.turns t.taken n) redone

-- some turns, and none
pub both-none : (t : Totals) → both t no_turns ≡ t
both-none t = totals-same (both t no_turns) t (omega arith) (omega arith) (omega arith)

-- none, and some turns
pub none-both : (t : Totals) → both no_turns t ≡ t
none-both t = totals-same (both no_turns t) t (omega arith) (omega arith) (omega arith)

-- three in a row
pub both-both : (s t u : Totals) → both (both s t) u ≡ both s (both t u)
both-both s t u = totals-same (both (both s t) u) (both s (both t u)) (omega arith) (omega arith) (omega arith)

-- into how many windows turns are cut
pub windows_of-is : (size turns n : ℕ) → 1 ≤ size → turns ≤ n * size → n * size < turns + size → windows_of size turns ≡ n
windows_of-is size turns n sized all last =
    let spare : ℕ = turns + size - 1 - n * size in
    let cut : turns + size - 1 ≡ n * size + spare = omega arith in
    ap (λ x. x / size) cut ∙ div-mul-add n size spare (omega arith)

-- they have room for all of the turns
pub windows_of-room : (size turns : ℕ) → 1 ≤ size → turns ≤ windows_of size turns * size
windows_of-room size turns sized =
    let whole = div-add-mod' (turns + size - 1) size in
    let part = mod_below (turns + size - 1) size (omega arith) in
    omega (arith, whole, part)

module _ (minds : Minds) (seed size : ℕ) where
  -- how many turns the first n windows have
  pub sum_windows-turns : (m : Moment) (from n : ℕ) → from ≤ m.world.ids → (sum_windows minds seed size m from n).turns ≡ min (from + n * size) m.world.ids - from
  unfolding window_totals window_at
  sum_windows-turns m from zero within = omega arith
  sum_windows-turns m from (suc n) within =
      let before = sum_windows-turns m from n within in
      omega (arith, before)

  -- each is taken or redone
  pub sum_windows-add_up : (m : Moment) (from n : ℕ) → (sum_windows minds seed size m from n).taken + (sum_windows minds seed size m from n).redone ≡ (sum_windows minds seed size m from n).turns
  unfolding window_totals
  sum_windows-add_up m from zero = refl
  sum_windows-add_up m from (suc n) =
      let before = sum_windows-add_up m from n in
      let last = counts-add_up (window_at minds seed size m from n) in
      omega (arith, before, last)

  -- a round has a turn of each id
  pub round_totals-turns : (m : Moment) → 1 ≤ size → (round_totals minds seed size m).turns ≡ m.world.ids
  unfolding round_totals
  round_totals-turns m sized =
      let all = sum_windows-turns m 0 (windows_of size m.world.ids) (omega arith) in
      let room = windows_of-room size m.world.ids sized in
      omega (arith, all, room)

  pub round_totals-add_up : (m : Moment) → (round_totals minds seed size m).taken + (round_totals minds seed size m).redone ≡ (round_totals minds seed size m).turns
  unfolding round_totals
  round_totals-add_up m = sum_windows-add_up m 0 (windows_of size m.world.ids)

  -- rounds have as many turns as there are ids, times the rounds
  pub totals_of-turns : (m : Moment) (r : ℕ) → 1 ≤ size → (totals_of minds seed size m r).turns ≡ m.world.ids * r
  totals_of-turns m zero sized = omega arith
  totals_of-turns m (suc r) sized =
      let before = totals_of-turns m r sized in
      let last = round_totals-turns (after_rounds minds seed m r) sized in
      let ids = after_rounds-ids minds seed m r in
      omega (arith, before, last, ids)

  pub totals_of-add_up : (m : Moment) (r : ℕ) → (totals_of minds seed size m r).taken + (totals_of minds seed size m r).redone ≡ (totals_of minds seed size m r).turns
  totals_of-add_up m zero = refl
  totals_of-add_up m (suc r) =
      let before = totals_of-add_up m r in
      let last = round_totals-add_up (after_rounds minds seed m r) in
      omega (arith, before, last)

  -- the turns of one round more
  pub totals_of-more : (m : Moment) (r : ℕ) → totals_of minds seed size m (r + 1) ≡ both (totals_of minds seed size m r) (round_totals minds seed size (after_rounds minds seed m r))
  totals_of-more m r = ap (totals_of minds seed size m) (let more : r + 1 ≡ suc r = omega arith in more)

  -- the turns of some rounds, and of those after them
  pub totals_of-then : (m : Moment) (r q : ℕ) → totals_of minds seed size m (r + q) ≡ both (totals_of minds seed size m r) (totals_of minds seed size (after_rounds minds seed m r) q)
  totals_of-then m r zero = ap (totals_of minds seed size m) (let none : r + 0 ≡ r = omega arith in none) ∙ sym (both-none (totals_of minds seed size m r))
  totals_of-then m r (suc q) =
      ap (totals_of minds seed size m) (let more : r + suc q ≡ suc (r + q) = omega arith in more)
      ∙ ap₂ (λ s (n : Moment). both s (round_totals minds seed size n)) (totals_of-then m r q) (sym (after_rounds-then minds seed m r q))
      ∙ both-both (totals_of minds seed size m r) (totals_of minds seed size (after_rounds minds seed m r) q) (round_totals minds seed size (after_rounds minds seed (after_rounds minds seed m r) q))

-- no window is empty
pub windows_of-full : (size turns : ℕ) → 1 ≤ size → windows_of size turns * size < turns + size
windows_of-full size turns sized =
    let whole = div-add-mod' (turns + size - 1) size in
    omega (arith, whole)

-- the window of some turns at a moment
abbrev pub window_from : Minds → ℕ → Moment → ℕ → ℕ → Window
window_from minds seed m from to = record { minds = minds; seed = seed; base = m.world; place = m.place; from = from; to = to }

module _ (minds : Minds) (seed size : ℕ) (m : Moment) (from k : ℕ) where
  -- the windows after the first k are those of the turns after them
  window_at-later : (j : ℕ) → window_at minds seed size (after_turns minds seed m from (k * size)) (from + k * size) j ≡ window_at minds seed size m from (k + j)
  unfolding window_at
  window_at-later j =
      let turns : k * size + j * size ≡ (k + j) * size = omega arith in
      let first : from + k * size + j * size ≡ from + (k + j) * size = omega arith in
      let ids = after_turns-ids minds seed m from (k * size) in
      let last : min (from + k * size + j * size + size) (after_turns minds seed m from (k * size)).world.ids ≡ min (from + (k + j) * size + size) m.world.ids = omega (arith, first, ids) in
      let there = after_turns minds seed (after_turns minds seed m from (k * size)) (from + k * size) (j * size) in
      ap (λ t. window_from minds seed there t (min (from + k * size + j * size + size) (after_turns minds seed m from (k * size)).world.ids)) first
      ∙ ap (λ t. window_from minds seed there (from + (k + j) * size) t) last
      ∙ ap (λ (n : Moment). window_from minds seed n (from + (k + j) * size) (min (from + (k + j) * size + size) m.world.ids))
      (after_turns-then minds seed m from (k * size) (j * size) ∙ ap (after_turns minds seed m from) turns)

  -- the turns of the first windows, and of those after them
  pub sum_windows-then : (j : ℕ) → both (sum_windows minds seed size m from k) (sum_windows minds seed size (after_turns minds seed m from (k * size)) (from + k * size) j) ≡ sum_windows minds seed size m from (k + j)
  sum_windows-then zero = both-none (sum_windows minds seed size m from k) ∙ ap (sum_windows minds seed size m from) (let same : k ≡ k + 0 = omega arith in same)
  sum_windows-then (suc j) =
      sym (both-both (sum_windows minds seed size m from k) (sum_windows minds seed size (after_turns minds seed m from (k * size)) (from + k * size) j) (window_totals (window_at minds seed size (after_turns minds seed m from (k * size)) (from + k * size) j)))
      ∙ ap₂ (λ t (window : Window). both t (window_totals window)) (sum_windows-then j) (window_at-later j)
      ∙ ap (sum_windows minds seed size m from) (let more : suc (k + j) ≡ k + suc j = omega arith in more)
