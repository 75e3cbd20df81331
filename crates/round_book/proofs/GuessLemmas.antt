-- The guesses of a window, in order.
use Rattle.std.proofs.Common.{◌≡◌, ℕ, zero, suc, ◌+◌, ◌-◌, ◌<◌, ◌≤◌, ◌^◌, length, slice_index_or, refl, ap, ◌∙◌, arith}
use Rattle.std.specs.List.{AllByRecursion}
use Rattle.cell_world.specs.World.{World}
use Rattle.ant_turn.specs.Minds.{Minds}
use Rattle.spec_record.specs.Guess.{guess, guesses_of}
use Rattle.round_book.specs.Window.{Window, guess_for, guesses_for}
use Rattle.round_book.proofs.SoloLemmas.{guess_for-le}

pub guesses_of-length : (minds : Minds) (w : World) (place from t n : ℕ) → length (guesses_of minds w place from t n) ≡ n
guesses_of-length minds w place from t zero = refl
guesses_of-length minds w place from t (suc n) = ap suc (guesses_of-length minds w place from (suc t) n)

pub guesses_of-at : (minds : Minds) (w : World) (place from t n k d : ℕ) → k < n → slice_index_or (guesses_of minds w place from t n) k d ≡ guess minds w place from (t + k)
guesses_of-at minds w place from t zero k d h = absurd (omega arith)
guesses_of-at minds w place from t (suc n) zero d h = ap (guess minds w place from) (let e : t ≡ t + 0 = omega arith in e)
guesses_of-at minds w place from t (suc n) (suc k) d h = guesses_of-at minds w place from (suc t) n k d (omega arith) ∙ ap (guess minds w place from) (let e : suc t + k ≡ t + suc k = omega arith in e)

-- there is one for each turn
pub guesses_for-length : (window : Window) → length (guesses_for window) ≡ window.to - window.from
guesses_for-length window = guesses_of-length window.minds window.base window.place window.from window.from (window.to - window.from)

-- which is the turn's
pub guesses_for-at : (window : Window) (k d : ℕ) → k < window.to - window.from → slice_index_or (guesses_for window) k d ≡ guess_for window (window.from + k)
unfolding guess_for
guesses_for-at window k d h = guesses_of-at window.minds window.base window.place window.from window.from (window.to - window.from) k d h

guess-le : (minds : Minds) (w : World) (place from t : ℕ) → guess minds w place from t ≤ place + (t - from)
unfolding guess_for
guess-le minds w place from t = guess_for-le (record { minds = minds; seed = 0; base = w; place = place; from = from; to = 0 }) t

guesses_of-small : (minds : Minds) (w : World) (place from t n : ℕ) → from ≤ t → place + (t + n - from) < 2 ^ 63 → AllByRecursion (λ g. g + 1 < 2 ^ 63) (guesses_of minds w place from t n)
guesses_of-small minds w place from t zero first lasting = tt
guesses_of-small minds w place from t (suc n) first lasting = (
  (let le = guess-le minds w place from t in omega arith),
  guesses_of-small minds w place from (suc t) n (omega arith) (omega arith),
)

-- and where the stream lasts for the turns, one more number can be drawn at each
pub guesses_for-small : (window : Window) → window.from ≤ window.to → window.place + (window.to - window.from) < 2 ^ 63 → AllByRecursion (λ g. g + 1 < 2 ^ 63) (guesses_for window)
guesses_for-small window forwards lasting = guesses_of-small window.minds window.base window.place window.from window.from (window.to - window.from) (omega arith) (omega arith)
