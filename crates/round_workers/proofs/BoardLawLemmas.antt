-- What the rule of a board says, in words, and which of its steps are events.
use Rattle.std.proofs.Common.{◌≡◌, ◌≢◌, ◌⊎◌, inl, inr, ⊎_elim, ℕ, ◌+◌, ◌<◌, ◌≤◌, List, [], ◌∷◌, ◌++◌, set, sym, refl, ap, ◌∙◌, subst, arith, get_or-set_same, get_or-set_other}
use mathlib.Core.Option as maybe
use native.Mathlib.Decide.{ℕ_discrete, dec_le}
use lib.ListN.{get_elem?}
use Rattle.std.specs.Prelude.{nat_eq, slice_index}
use Rattle.std.specs.List.{Contains}
use Rattle.std.proofs.lemmas.List.Elements.{Contains-append_left, Contains-append_right, Contains-push_cases}
use Rattle.atomic_table.specs.Table.{State}
use Rattle.cell_world.specs.Cell.{one_if}
use Rattle.round_book.specs.Machine as machine
use Rattle.round_book.specs.Machine.{times}
use Rattle.round_workers.specs.declared.board.view.Basis.{Basis}
use Rattle.round_workers.specs.declared.board.view.BoardSlot.{BoardSlot}
use Rattle.round_workers.specs.declared.board.view.Phase.TheVariants.{Putting}
use Rattle.round_workers.specs.declared.board.view.View.{View}
use Rattle.round_workers.specs.BoardLaws.{BoardStepsAreEvents, BoardsSay, LookSays, Mirrors, putters, takers, word_of}
use Rattle.round_workers.specs.BoardPlays.{drew, has_put}
use Rattle.round_workers.specs.BoardRule.{IsKept, putting, turns_of}
use Rattle.round_workers.specs.BoardView.{look_empty, look_in_hand, window_for}
use Rattle.round_workers.proofs.BoardTickets.{word-bound}
use Rattle.round_workers.proofs.BoardTotalLemmas.{below-where, once-le, other-none, same-one, times-append, total-add, total-at, total-gap, total-none, total-same, total-set}

-- of the look of a ticket that a seat drew and didn't put: w its word, a and b the seats that are putting and taking
-- it, p and q those that put and took it, u what all put or are putting, t how often it was drawn; e and d of the seat
-- itself
when-drawn : (w a b p q u t e d n : ℕ) → w + b ≡ a + (p + p) + q → a + p ≤ 1 → b + q ≤ p → u + d ≤ t + (n + e) → u ≡ p + a → t ≤ 1 → e ≤ a → 1 ≤ d → n ≡ 0 → (w ≡ 0) ⊎ ((w ≡ 1) × (e ≡ 1))
when-drawn w a b p q u t e d n sum once back gap both most puts had none = go (ℕ_discrete e 0) where
  go : Dec (e ≡ 0) → (w ≡ 0) ⊎ ((w ≡ 1) × (e ≡ 1))
  go (yes z) = inl (omega arith)
  go (no nz) = inr (omega arith, omega arith)

-- what a seat put, or is putting, it drew; one that went into another did nothing
module _ (key : Basis) (s : State BoardSlot View) (r : IsKept key s) (j : ℕ) where
  pub drew-first : (i : ℕ) (v : View) → get_elem? s.views i ≡ maybe.some v → times j v.put + putting j v.phase ≤ times j v.drawn
  drew-first i v at = ⊎_elim
      (λ spent. subst (λ (u : View). times j u.put + putting j u.phase ≤ times j u.drawn) (sym spent) (omega arith))
      (λ is. is.drew j)
      (r.seats i v at)

  look-drawn : j < turns_of key → (i : ℕ) (v : View) → get_elem? s.views i ≡ maybe.some v → 1 ≤ times j v.drawn → times j v.put ≡ 0 →
      (word_of s j ≡ look_empty) ⊎ ((word_of s j ≡ look_in_hand) × (putting j v.phase ≡ 1))
  look-drawn inside i v at had none =
      let k = r.looks j inside in
      when-drawn (word_of s j) _ _ _ _ _ _ (putting j v.phase) (times j v.drawn) (times j v.put) k.sum k.once k.back
      (total-gap (λ (u : View). times j u.put + putting j u.phase) (λ (u : View). times j u.drawn) s.views i v at drew-first)
      (total-add (λ (u : View). times j u.put) (λ (u : View). putting j u.phase) s.views)
      (let deal = r.tickets.each j in let most = once-le j (slice_index s.words 0) in omega arith)
      (total-at (λ (u : View). putting j u.phase) s.views i v at)
      had none

  look-says : j < turns_of key → LookSays key s j
  look-says inside = let k = r.looks j inside in let sum = k.sum in let once = k.once in let back = k.back in record {
    one_of_four = omega arith;
    empty = λ e. omega arith;
    full = λ e. (omega arith, omega arith, k.full (omega arith) (omega arith));
    emptied = (λ e. omega arith, λ e. omega arith);
    in_hand = λ e. (omega arith, omega arith, omega arith);
    bare = λ e. ⊎_elim (λ empty. k.bare (omega arith) (omega arith)) (λ emptied. k.bare (omega arith) (omega arith)) e;
    drawn = look-drawn inside;
  }

-- no look is put or taken but of a turn
pub turns-alone : (key : Basis) (s : State BoardSlot View) → IsKept key s → (j : ℕ) → 1 ≤ putters s j + takers s j → j < turns_of key
turns-alone key s r j some = go (dec_le (turns_of key) j) where
  none_of : turns_of key ≤ j → (i : ℕ) (v : View) → get_elem? s.views i ≡ maybe.some v → times j v.put + times j v.took ≡ 0
  none_of far i v at = ⊎_elim
      (λ spent. subst (λ (u : View). times j u.put + times j u.took ≡ 0) (sym spent) refl)
      (λ is. is.within j far)
      (r.seats i v at)

  go : Dec (turns_of key ≤ j) → j < turns_of key
  go (yes far) = absurd (
      let sum = total-add (λ (u : View). times j u.put) (λ (u : View). times j u.took) s.views in
      let none = total-none (λ (u : View). times j u.put + times j u.took) s.views (none_of far) in omega arith)
  go (no near) = omega arith

pub boards_say : BoardsSay
boards_say = record {
  tickets = word-bound;
  book_home_stands = λ key s r opened home. let k = r.book in let out = k.out in let once = k.once in (omega arith, k.stands opened (omega arith));
  book_out_held = λ key s r opened away. let k = r.book in let out = k.out in let once = k.once in let bit = k.bit in (omega arith, omega arith);
  looks = look-says;
  turns_alone = turns-alone;
}

-- a number that stands in a list is in it
held : (x : ℕ) (xs : List ℕ) → 1 ≤ times x xs → Contains xs x
held x [] one = absurd (omega arith)
held x (y ∷ ys) one = go (ℕ_discrete y x) (held x ys) where
  go : Dec (y ≡ x) → (1 ≤ times x ys → Contains ys x) → Contains (y ∷ ys) x
  go (yes e) rest = (0, omega arith, e)
  go (no ne) rest = Contains-append_right (y ∷ []) ys x (rest (let other = other-none y x ne in omega arith))

-- a ticket is drawn
module _ (key : Basis) (s : State BoardSlot View) (id : ℕ) (v : View) (m : machine.State) (r : IsKept key s) (at : get_elem? s.views id ≡ maybe.some v) (mir : Mirrors key s m) where
  draw-event : (hand : ℕ) → machine.IsLawful (window_for key) m (machine.Event.Draws hand)
      × Mirrors key (record { words = set s.words 0 (slice_index s.words 0 + 1); homes = s.homes; views = set s.views id (drew v (slice_index s.words 0)) })
      (machine.happens (window_for key) m (machine.Event.Draws hand))
  draw-event hand = (
    tt,
    record {
      drawn = (let e : m.drawn ≡ slice_index s.words 0 = mir.drawn in let wide = r.words in ap (λ n. n + 1) e ∙ sym (get_or-set_same s.words 0 (slice_index s.words 0 + 1) 0 (omega arith)));
      put = λ i. let stays = total-same (λ (u : View). times i u.put) s.views id v (drew v (slice_index s.words 0)) at refl in (
        λ is_put. let was : 1 ≤ putters s i = (mir.put i).0 is_put in omega arith,
        λ now. (mir.put i).1 (omega arith),
      );
    },
  )

  module _ (j word : ℕ) (homes : List (maybe.Option BoardSlot)) (phase : v.phase ≡ Putting j) (inside : j < turns_of key) (dealt : machine.AreDealt m.drawn m.hands) where
    now_putting : putting j v.phase ≡ 1
    now_putting = ap (putting j) phase ∙ same-one j j refl

    drawn_by_it : 1 ≤ times j v.drawn
    drawn_by_it = let first = drew-first key s r j id v at in let one = now_putting in omega arith

    early : j < m.drawn
    early = let e : m.drawn ≡ slice_index s.words 0 = mir.drawn in let all = total-at (λ (u : View). times j u.drawn) s.views id v at in let deal = r.tickets.each j in
        let had = drawn_by_it in let below = below-where j (slice_index s.words 0) (omega arith) in omega arith

    by : (hand : ℕ) × (times j (m.hands hand) ≡ 1) × ((other : ℕ) → other ≢ hand → times j (m.hands other) ≡ 0)
    by = dealt.each j early

    new_put : ¬ machine.IsPut m j
    new_put is_put = let was : 1 ≤ putters s j = (mir.put j).0 is_put in let k = r.looks j inside in let once = k.once in
        let puts = total-at (λ (u : View). putting j u.phase) s.views id v at in let one = now_putting in absurd (omega arith)

    changed : (i : ℕ) → putters (record { words = s.words; homes = s.homes; views = set s.views id (has_put v j) }) i ≡ putters s i + one_if (nat_eq j i)
    changed i = let sum = total-set (λ (u : View). times i u.put) s.views id v (has_put v j) at in let more = times-append i v.put (j ∷ []) in omega arith

    put-event : (hand : ℕ) × machine.IsLawful (window_for key) m (machine.Event.Puts hand j)
        × Mirrors key (record { words = set s.words (j + 2) word; homes = homes; views = set s.views id (has_put v j) })
        (machine.happens (window_for key) m (machine.Event.Puts hand j))
    put-event = (
      by.0,
      record {
        is_turn = omega arith;
        is_held = held j (m.hands by.0) (let one = by.1 in omega arith);
        is_new = new_put;
      },
      record {
        drawn = mir.drawn ∙ sym (get_or-set_other s.words (j + 2) 0 word 0 (λ e. omega arith));
        put = λ i. (
          λ is_put. ⊎_elim
              (λ old. let was : 1 ≤ putters s i = (mir.put i).0 (is_put.0, old) in let now = changed i in omega arith)
              (λ new. let same = same-one j i (ap (λ (one : machine.Put). one.ticket) new) in let now = changed i in omega arith)
              (Contains-push_cases m.put (record { hand = by.0; ticket = j }) (record { hand = is_put.0; ticket = i }) is_put.1),
          λ there. go i there (ℕ_discrete j i),
        );
      },
    ) where
      go : (i : ℕ) → 1 ≤ putters (record { words = s.words; homes = s.homes; views = set s.views id (has_put v j) }) i → Dec (j ≡ i)
          → (hand : ℕ) × Contains (m.put ++ record { hand = by.0; ticket = j } ∷ []) (record { hand = hand; ticket = i })
      go i there (yes e) = (
        by.0,
        subst (λ k. Contains (m.put ++ record { hand = by.0; ticket = j } ∷ []) (record { hand = by.0; ticket = k })) e
            (Contains-append_right m.put (record { hand = by.0; ticket = j } ∷ []) (record { hand = by.0; ticket = j }) (0, omega arith, refl)),
      )
      go i there (no ne) = let now = changed i in let other = other-none j i ne in let was = (mir.put i).1 (omega arith) in
          (was.0, Contains-append_left m.put (record { hand = by.0; ticket = j } ∷ []) (record { hand = was.0; ticket = i }) was.1)

pub board_steps_are_events : BoardStepsAreEvents
board_steps_are_events = record {
  draws = λ key s id v m hand r at mir. draw-event key s id v m r at mir hand;
  puts = λ key s id v m j word homes r at phase inside dealt mir. put-event key s id v m r at mir j word homes phase inside dealt;
}
