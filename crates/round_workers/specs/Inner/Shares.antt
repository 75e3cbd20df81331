-- How the turns of a window are shared out among workers, and the looks at each share (this project's own).
use Rattle.std.specs.Prelude.{ℕ, zero, suc, ◌+◌, ◌-◌, List, [], ◌∷◌, ◌++◌, nat_lt, if◌then◌else◌}
use Rattle.work_share.specs.Borders.{border}
use Rattle.round_book.specs.Window.{Window, guess_for, look_for}
use Rattle.spec_record.specs.Look.{LookValue}
use Rattle.round_workers.specs.declared.share.Share.{Share}

-- worker k has, of n turns from `from` on, the piece between two borders of the row of turns, and this is the guess for
-- its first turn
abbrev pub share_of : (workers from n k guess : ℕ) → Share
share_of workers from n k guess = record {
  worker = k;
  from = from + border workers n k;
  to = from + border workers n (k + 1);
  guess = guess;
}

-- the first turn of worker k in a window
abbrev pub first_turn : Window → (workers k : ℕ) → ℕ
first_turn window workers k = window.from + border workers (window.to - window.from) k

-- the share of worker k in a window
abbrev pub window_share : Window → (workers k : ℕ) → Share
window_share window workers k =
    share_of workers window.from (window.to - window.from) k (guess_for window (first_turn window workers k))

-- the share, if it has a turn
abbrev pub if_any : Share → List Share
if_any share = if nat_lt share.from share.to then share ∷ [] else []

-- the shares of the first k workers that have a turn of a window
abbrev pub shares : Window → (workers k : ℕ) → List Share
shares window workers zero = []
shares window workers (suc k) = shares window workers k ++ if_any (window_share window workers k)

-- the looks at n turns of a window from turn t on
abbrev pub looks_for : Window → (t n : ℕ) → List LookValue
looks_for window t zero = []
looks_for window t (suc n) = looks_for window t n ++ look_for window (t + n) ∷ []
