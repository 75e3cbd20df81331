-- Guesses, one after another, and the looks that are made at them.
use Rattle.std.proofs.Common.{◌≡◌, ℕ, zero, suc, ◌+◌, ◌-◌, ◌<◌, ◌≤◌, ◌^◌, sym, ◌∙◌, ap, ap₂, arith}
use Rattle.cell_world.proofs.GridSums.{one_if-le_one}
use Rattle.cell_world.specs.Cell.{one_if}
use Rattle.cell_world.specs.Grid.{Grid, world_of}
use Rattle.cell_world.specs.World.{World}
use Rattle.ant_turn.specs.Minds.{Minds}
use Rattle.spec_record.specs.Guess.{flips, flips_among, guess}
use Rattle.spec_record.specs.Look.{LookValue, look_of}
use Rattle.spec_record.proofs.Flips.{look-drew}
use Rattle.round_book.specs.Book.{BookValue, FieldValue, IsSameWindow, StandsOn, window_of}
use Rattle.round_book.specs.Window.{Window, guess_for, look_for}

-- no more turns draw than there are
flips_among-le : (minds : Minds) (w : World) (from n : ℕ) → flips_among minds w from n ≤ n
flips_among-le minds w from zero = omega arith
flips_among-le minds w from (suc n) =
    let rest : flips_among minds w from n ≤ n = flips_among-le minds w from n in
    let one : one_if (flips minds w (from + n)) ≤ 1 = one_if-le_one (flips minds w (from + n)) in
    omega arith

-- the first guess, and the next one
pub guess_for-from : (window : Window) → guess_for window window.from ≡ window.place
unfolding guess_for guess
guess_for-from window =
    let none : window.from - window.from ≡ 0 = omega arith in
    ap (λ n. window.place + flips_among window.minds window.base window.from n) none ∙ (let e : window.place + 0 ≡ window.place = omega arith in e)

pub guess_for-next : (window : Window) (t : ℕ) → window.from ≤ t → guess_for window (t + 1) ≡ guess_for window t + one_if (flips window.minds window.base t)
unfolding guess_for guess
guess_for-next window t before =
    let more : t + 1 - window.from ≡ suc (t - window.from) = omega arith in
    let here : window.from + (t - window.from) ≡ t = omega arith in
    let count : flips_among window.minds window.base window.from (t + 1 - window.from) ≡ flips_among window.minds window.base window.from (t - window.from) + one_if (flips window.minds window.base t) =
    ap (flips_among window.minds window.base window.from) more ∙ ap (λ u. flips_among window.minds window.base window.from (t - window.from) + one_if (flips window.minds window.base u)) here in
    (let joined : window.place + flips_among window.minds window.base window.from (t + 1 - window.from) ≡ window.place + flips_among window.minds window.base window.from (t - window.from) + one_if (flips window.minds window.base t) = omega arith in joined)

pub guess_for-le : (window : Window) (t : ℕ) → guess_for window t ≤ window.place + (t - window.from)
unfolding guess_for guess
guess_for-le window t =
    let few : flips_among window.minds window.base window.from (t - window.from) ≤ t - window.from = flips_among-le window.minds window.base window.from (t - window.from) in omega arith

-- some turns of the window are settled, and this is the guess of the next one
pub record Going (field : FieldValue) (from to id : ℕ) (book : BookValue) (guess : ℕ) : Type 0 where
  pub stands : StandsOn field book
  pub begins : book.from ≡ from
  pub ends : book.to ≡ to
  pub at : book.next ≡ id
  pub guessed : guess ≡ guess_for (window_of field from to) id

pub Going-none : (field : FieldValue) (from to : ℕ) (book : BookValue) (guess : ℕ) → StandsOn field book → book.from ≡ from → book.to ≡ to → book.next ≡ from → guess ≡ field.place → Going field from to from book guess
Going-none field from to book guess stands begins ends at guessed = record { stands = stands; begins = begins; ends = ends; at = at; guessed = guessed ∙ sym (guess_for-from (window_of field from to)) }

module _ (field : FieldValue) (from to id : ℕ) (book : BookValue) (guess : ℕ) (going : Going field from to id book guess) where
  pub going-first : from ≤ id
  going-first = let a : book.from ≡ from = going.begins in let b : book.next ≡ id = going.at in let d : book.from ≤ book.next = going.stands.stands.begun in omega arith

  pub going-guess : id < to → guess + 1 < 2 ^ 63
  going-guess below =
      let e : guess ≡ guess_for (window_of field from to) id = going.guessed in
      let few : guess_for (window_of field from to) id ≤ field.place + (id - from) = guess_for-le (window_of field from to) id in
      let a : book.from ≡ from = going.begins in
      let b : book.to ≡ to = going.ends in
      let first : from ≤ id = going-first in
      let lasting : field.place + (book.to - book.from) < 2 ^ 63 = going.stands.stands.playable.lasting in
      omega arith

  module _ (look : LookValue) (minds : Minds) (seed : ℕ) (world : Grid) (own : minds ≡ field.minds) (same_seed : seed ≡ field.seed) (same_world : world ≡ field.world) (is : look ≡ look_of minds seed (world_of world) guess id) where
    there : look ≡ look_of field.minds field.seed (world_of field.world) guess id
    there = is ∙ ap (λ m. look_of m seed (world_of world) guess id) own ∙ ap (λ s. look_of field.minds s (world_of world) guess id) same_seed ∙ ap (λ (g : Grid). look_of field.minds field.seed (world_of g) guess id) same_world

    pub going-look : look ≡ look_for (window_of field book.from book.to) book.next
    unfolding look_for
    going-look =
        there
        ∙ ap (λ n. look_of field.minds field.seed (world_of field.world) n id) going.guessed
        ∙ ap (λ t. look_for (window_of field from to) t) (sym going.at)
        ∙ ap₂ (λ x y. look_for (window_of field x y) book.next) (sym going.begins) (sym going.ends)

    pub Going-next : (new : BookValue) (next : ℕ) → StandsOn field new → IsSameWindow book new → new.next ≡ book.next + 1 → next ≡ guess + one_if look.drew → Going field from to (id + 1) new next
    Going-next new next stands same one_on is_next = record {
      stands = stands;
      begins = same.from ∙ going.begins;
      ends = same.to ∙ going.ends;
      at = one_on ∙ ap (λ n. n + 1) going.at;
      guessed = is_next
          ∙ ap₂ (λ x y. x + y) going.guessed (ap one_if (ap (λ (l : LookValue). l.drew) there ∙ look-drew field.minds field.seed (world_of field.world) guess id))
          ∙ sym (guess_for-next (window_of field from to) id going-first);
    }

-- one window through two steps
pub same-then : (first second third : BookValue) → IsSameWindow first second → IsSameWindow second third → IsSameWindow first third
same-then first second third one two = record { seed = two.seed ∙ one.seed; from = two.from ∙ one.from; to = two.to ∙ one.to }
