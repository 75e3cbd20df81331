-- Workers on a board (this project's own).
use Rattle.std.specs.Prelude.{◌≡◌, ◌≢◌, ℕ, ◌+◌, ◌-◌, ◌<◌, ◌≤◌, Bool, true, false, ◌&&◌, cond, nat_le, nat_lt, List, [], ◌∷◌, map, length}
use Rattle.std.specs.List.{AllByRecursion}
use Rattle.round_book.specs.Window.{Window}
use Rattle.round_workers.specs.declared.board.view.View.{View}
use Rattle.round_workers.specs.BoardTotals.{late_among}
use Rattle.round_workers.specs.BoardView.{window_about}

-- the numbers of a list that are below n
abbrev pub those_below : ℕ → List ℕ → List ℕ
those_below n [] = []
those_below n (x ∷ xs) = cond (nat_lt x n) (x ∷ those_below n xs) (those_below n xs)

-- whether each number is above those before it, from this one on
abbrev pub ascends : ℕ → List ℕ → Bool
ascends least [] = true
ascends least (x ∷ xs) = nat_le least x && ascends (x + 1) xs

-- how many turns a window has
abbrev pub turns_in : Window → ℕ
turns_in window = window.to - window.from

-- what a worker's seat knows, and the turns whose looks the worker made: the seat isn't the first, doesn't hold the
-- book, and no other was joined into it; it drew its tickets in order, and put the look of each that is a turn's; and
-- those are the turns, in order
pub record IsWorker (v : View) (made : List ℕ) : Type 0 where
  pub other : v.number ≢ 0
  pub free : v.holds ≡ false
  pub alone : v.parts ≡ v.number ∷ []
  pub in_order : ascends 0 v.drawn ≡ true
  pub puts : v.put ≡ those_below (turns_in (window_about v.about)) v.drawn
  pub made_them : made ≡ map (λ ticket. (window_about v.about).from + ticket) v.put

-- a seat is unchanged, except for the looks that it took and for its tries
pub record IsSameButTook (old new : View) : Type 0 where
  pub about : new.about ≡ old.about
  pub number : new.number ≡ old.number
  pub made : new.made ≡ old.made
  pub parts : new.parts ≡ old.parts
  pub drawn : new.drawn ≡ old.drawn
  pub put : new.put ≡ old.put
  pub holds : new.holds ≡ old.holds
  pub opened : new.opened ≡ old.opened

-- a worker's seat drew one more ticket: it is a turn's, or the last; it put the looks of its turns, and tried at least
-- once for each
pub record HasServed (turns : ℕ) (old new : View) (more : Bool) : Type 0 where
  pub about : new.about ≡ old.about
  pub number : new.number ≡ old.number
  pub opened : new.opened ≡ old.opened
  pub drew : length new.drawn ≡ length old.drawn + 1
  pub early : more ≡ true → AllByRecursion (λ ticket. ticket < turns) new.drawn
  pub late : more ≡ false → 1 ≤ late_among turns new.drawn
  pub tries : old.tries + length new.put ≤ new.tries + length old.put
