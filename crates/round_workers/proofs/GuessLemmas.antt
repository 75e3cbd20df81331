-- The guess of a turn, from that of an earlier one.
use Rattle.std.proofs.Common.{◌≡◌, ℕ, zero, suc, ◌+◌, ◌-◌, ◌≤◌, List, [], ◌∷◌, ◌++◌, append_assoc, sym, ap, ◌∙◌, arith}
use Rattle.cell_world.specs.Cell.{one_if}
use Rattle.cell_world.specs.World.{World}
use Rattle.ant_turn.specs.Minds.{Minds}
use Rattle.spec_record.specs.Guess.{flips, flips_among, guess, guesses_of}
use Rattle.spec_record.proofs.FlipGuesses.{guesses_of-next}
use Rattle.round_book.specs.Window.{Window, guess_for, guesses_for}

-- ids in two parts
flips_among-add : (minds : Minds) (w : World) (from m n : ℕ) → flips_among minds w from (m + n) ≡ flips_among minds w from m + flips_among minds w (from + m) n
flips_among-add minds w from m zero = let same : flips_among minds w from (m + 0) ≡ flips_among minds w from m = (let e : m + 0 ≡ m = omega arith in ap (flips_among minds w from) e) in omega (arith, same)
flips_among-add minds w from m (suc n) =
    let more : flips_among minds w from (m + suc n) ≡ flips_among minds w from (suc (m + n)) = (let e : m + suc n ≡ suc (m + n) = omega arith in ap (flips_among minds w from) e) in
    let here : one_if (flips minds w (from + (m + n))) ≡ one_if (flips minds w (from + m + n)) = (let e : from + (m + n) ≡ from + m + n = omega arith in ap (λ k. one_if (flips minds w k)) e) in
    let before = flips_among-add minds w from m n in
    omega (arith, more, here, before)

pub guess_for-on : (window : Window) (minds : Minds) (base : World) (g t u : ℕ) → minds ≡ window.minds → base ≡ window.base → g ≡ guess_for window t → window.from ≤ t → t ≤ u → guess minds base g t u ≡ guess_for window u
unfolding guess_for guess
guess_for-on window minds base g t u own_minds own_base is first order =
    let here : window.from + (t - window.from) ≡ t = omega arith in
    let whole : t - window.from + (u - t) ≡ u - window.from = omega arith in
    let both = flips_among-add window.minds window.base window.from (t - window.from) (u - t) in
    let a = ap (flips_among window.minds window.base window.from) whole in
    let b = ap (λ k. flips_among window.minds window.base k (u - t)) here in
    let d : flips_among minds base t (u - t) ≡ flips_among window.minds window.base t (u - t) = λ k. flips_among (own_minds k) (own_base k) t (u - t) in
    let e : g ≡ window.place + flips_among window.minds window.base window.from (t - window.from) = is in
    omega (arith, both, a, b, d, e)

-- one guess more in the list of a window's
pub guesses-more : (window : Window) (list new : List ℕ) (g t : ℕ) → t + 1 ≤ window.to → list ++ guesses_of window.minds window.base window.place window.from t (window.to - t) ≡ guesses_for window
    → g ≡ guess_for window t → new ≡ list ++ g ∷ [] → new ++ guesses_of window.minds window.base window.place window.from (t + 1) (window.to - (t + 1)) ≡ guesses_for window
unfolding guess_for
guesses-more window list new g t within so_far is next =
    let rest = guesses_of window.minds window.base window.place window.from (t + 1) (window.to - (t + 1)) in
    ap (λ (all : List ℕ). all ++ rest) (next ∙ ap (λ n. list ++ n ∷ []) is)
    ∙ append_assoc list (guess window.minds window.base window.place window.from t ∷ []) rest
    ∙ ap (λ (all : List ℕ). list ++ all) (sym (guesses_of-next window.minds window.base window.place window.from t window.to within))
    ∙ so_far
