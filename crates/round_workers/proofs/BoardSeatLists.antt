-- Seats that are made for workers and joined again, and the looks that a board leaves.
use Rattle.std.proofs.Common.{◌≡◌, ◌≢◌, ℕ, zero, suc, ◌+◌, ◌-◌, ◌<◌, false, nat_eq, List, [], ◌∷◌, ◌++◌, map, length, slice_index_or, All, length-append, Option, Some, refl, sym, ap, ap₂, ◌∙◌, subst, arith}
use Rattle.std.proofs.Math.ListN.{get_or-append}
use Rattle.std.proofs.Math.Seq.{get_or-append_seam}
use Rattle.std.specs.Prelude.{IfSome}
use Rattle.std.proofs.lemmas.List.Elements.{All-append, All-cons, All-nil, All-same}
use Rattle.cell_world.specs.Cell.{one_if}
use Rattle.spec_record.specs.Look.{LookValue}
use Rattle.round_book.specs.Book.{BookValue, FieldValue, IsLentFor, StandsFor, StandsOn, window_of}
use Rattle.round_book.specs.Machine.{times}
use Rattle.round_book.specs.Window.{Window, look_for}
use Rattle.round_workers.specs.declared.board.seat.Board.{Board}
use Rattle.round_workers.specs.declared.board.seat.Seat.{Seat}
use Rattle.round_workers.specs.declared.board.view.Basis.{Basis}
use Rattle.round_workers.specs.declared.board.view.BoardSlot.{BoardSlot}
use Rattle.round_workers.specs.declared.board.view.BoardSlot.TheVariants.{Nothing}
use Rattle.round_workers.specs.declared.board.view.View.{View}
use Rattle.round_workers.specs.declared.board.worker.Worker.{Worker}
use Rattle.round_workers.specs.Inner.BoardCrew.{AreLooks, HasWorked, IsHired, IsManned, seat_numbers}
use Rattle.round_workers.specs.Inner.BoardPlaces.{look_in}
use Rattle.round_workers.specs.BoardPlays.{has_seen, made_one}
use Rattle.round_workers.specs.BoardSeats.{IsSeatOf, known, left_if, left_look}
use Rattle.round_workers.specs.BoardTotals.{once_below}
use Rattle.round_workers.specs.BoardView.{first_seat, window_about}
use Rattle.round_workers.specs.BoardWorker.{IsWorker, ascends, those_below, turns_in}
use Rattle.round_workers.proofs.BoardTotalLemmas.{above-none, once-suc, times-append}

numbers-snoc : (workers : List Worker) (w : Worker) → seat_numbers (workers ++ w ∷ []) ≡ seat_numbers workers ++ (known w.seat).number ∷ []
numbers-snoc [] w = refl
numbers-snoc (u ∷ us) w = ap (λ (l : List ℕ). (known u.seat).number ∷ l) (numbers-snoc us w)

-- once the book is opened, and before another seat is made
pub manned-first : (board : Board) (first : Seat) (basis : Basis) → IsSeatOf board first → known first ≡ has_seen (first_seat basis) → IsManned board first []
manned-first board first basis seat is = record {
  seat = seat;
  zeroth = ap (λ (v : View). v.number) is;
  opened = ap (λ (v : View). v.opened) is;
  free = ap (λ (v : View). v.holds) is;
  numbered = λ k. subst (λ (v : View). times k v.parts + times k (seat_numbers []) ≡ once_below k (v.made + 1)) (sym is) (let more = once-suc k 0 in let none_of = above-none k 0 (omega arith) in omega arith);
}

-- one more seat, and a worker that has it
pub manned-more : (board : Board) (first new : Seat) (workers more : List Worker) (w : Worker) → IsManned board first workers → IsSeatOf board new → known new ≡ made_one (known first) → (known w.seat).number ≡ suc (known first).made → more ≡ workers ++ w ∷ []
    → IsManned board new more
manned-more board first new workers more w manned seat made number is = record {
  seat = seat;
  zeroth = ap (λ (v : View). v.number) made ∙ manned.zeroth;
  opened = ap (λ (v : View). v.opened) made ∙ manned.opened;
  free = ap (λ (v : View). v.holds) made ∙ manned.free;
  numbered = λ k.
      let a : times k (known new).parts ≡ times k (known first).parts = ap (λ (v : View). times k v.parts) made in
      let b : times k (seat_numbers more) ≡ times k (seat_numbers workers ++ (known w.seat).number ∷ []) = ap (times k) (ap seat_numbers is ∙ numbers-snoc workers w) in
      let d = times-append k (seat_numbers workers) ((known w.seat).number ∷ []) in
      let one : suc (known first).made ≡ (known first).made + 1 = omega arith in
      let e : one_if (nat_eq (known w.seat).number k) ≡ one_if (nat_eq ((known first).made + 1) k) = ap (λ (m : ℕ). one_if (nat_eq m k)) (number ∙ one) in
      let f = once-suc k ((known first).made + 1) in
      let g : once_below k ((known new).made + 1) ≡ once_below k ((known first).made + 1 + 1) = ap (λ (v : View). once_below k (v.made + 1)) made in
      let h = manned.numbered k in omega arith;
}

-- one worker less, whose seat went into the first one
pub manned-joined : (board : Board) (first new : Seat) (workers all : List Worker) (w : Worker) → all ≡ workers ++ w ∷ [] → IsManned board first all → IsSeatOf board new → (known new).number ≡ (known first).number → (known new).made ≡ (known first).made
    → (known new).opened ≡ (known first).opened → (known new).holds ≡ (known first).holds → (known new).parts ≡ (known first).parts ++ (known w.seat).number ∷ [] → IsManned board new workers
manned-joined board first new workers all w is manned seat number made opened holds parts = record {
  seat = seat;
  zeroth = number ∙ manned.zeroth;
  opened = opened ∙ manned.opened;
  free = holds ∙ manned.free;
  numbered = λ k.
      let a : times k (known new).parts ≡ times k ((known first).parts ++ (known w.seat).number ∷ []) = ap (times k) parts in
      let b = times-append k (known first).parts ((known w.seat).number ∷ []) in
      let d : times k (seat_numbers all) ≡ times k (seat_numbers workers ++ (known w.seat).number ∷ []) = ap (times k) (ap seat_numbers is ∙ numbers-snoc workers w) in
      let e = times-append k (seat_numbers workers) ((known w.seat).number ∷ []) in
      let g : once_below k ((known new).made + 1) ≡ once_below k ((known first).made + 1) = ap (λ (m : ℕ). once_below k (m + 1)) made in
      let h = manned.numbered k in omega arith;
}

pub hired-more : (board : Board) (workers more : List Worker) (w : Worker) → All (IsHired board) workers → IsHired board w → more ≡ workers ++ w ∷ [] → All (IsHired board) more
hired-more board workers more w all one is = All-same (IsHired board) more (workers ++ w ∷ []) is (All-append (IsHired board) workers (w ∷ []) all (All-cons (IsHired board) w [] one (All-nil (IsHired board))))

-- workers that have worked are the same
numbers-worked : (board : Board) (old new : List Worker) → length new ≡ length old → ((i : ℕ) (d : Worker) → i < length old → HasWorked board (slice_index_or old i d) (slice_index_or new i d)) → seat_numbers new ≡ seat_numbers old
numbers-worked board [] [] long worked = refl
numbers-worked board (u ∷ us) (v ∷ vs) long worked =
    ap₂ (λ (n : ℕ) (l : List ℕ). n ∷ l) (worked 0 u (omega arith)).number (numbers-worked board us vs (omega arith) (λ i d h. worked (suc i) d (omega arith)))
numbers-worked board it that long worked = absurd (omega arith)

pub manned-worked : (board : Board) (first : Seat) (old new : List Worker) → length new ≡ length old → ((i : ℕ) (d : Worker) → i < length old → HasWorked board (slice_index_or old i d) (slice_index_or new i d)) → IsManned board first old → IsManned board first new
manned-worked board first old new long worked manned = record {
  seat = manned.seat;
  zeroth = manned.zeroth;
  opened = manned.opened;
  free = manned.free;
  numbered = λ k. ap (λ (l : List ℕ). times k (known first).parts + times k l) (numbers-worked board old new long worked) ∙ manned.numbered k;
}

pub seats-worked : (board : Board) (old new : List Worker) → length new ≡ length old → ((i : ℕ) (d : Worker) → i < length old → HasWorked board (slice_index_or old i d) (slice_index_or new i d)) → All (λ (w : Worker). IsSeatOf board w.seat) new
seats-worked board old new long worked k d h = (worked k d (let a : length new ≡ length old = long in omega arith)).seat

-- a new seat with an empty list is a worker's
pub worker-new : (v : View) (made : List ℕ) → v.number ≢ 0 → v.parts ≡ v.number ∷ [] → v.holds ≡ false → v.drawn ≡ [] → v.put ≡ [] → made ≡ [] → IsWorker v made
worker-new v made other alone free drew put bare = record {
  other = other;
  free = free;
  alone = alone;
  in_order = ap (ascends 0) drew;
  puts = put ∙ sym (ap (those_below (turns_in (window_about v.about))) drew);
  made_them = bare ∙ sym (ap (map (λ k. (window_about v.about).from + k)) put);
}

-- a look that was left is the one of its turn
left-some : (put took : ℕ) (look : LookValue) → IfSome (left_if put took look) (λ found. found ≡ look)
left-some (suc put) zero look = refl
left-some it took look = tt

pub looks-left : (window : Window) (v : View) (places : List BoardSlot) → ((k : ℕ) → k < turns_in window → look_in (slice_index_or places k Nothing) ≡ left_look window v k) → AreLooks window places
looks-left window v places are k h = subst (λ (o : Option LookValue). IfSome o (λ look. look ≡ look_for window (window.from + k))) (sym (are k h)) (left-some (times k v.put) (times k v.took) (look_for window (window.from + k)))

-- a book of a field stands for the field's window
module _ (field : FieldValue) (from to : ℕ) (window : Window) (is : window ≡ window_of field from to) where
  pub book-for : (book : BookValue) → StandsOn field book → book.from ≡ from → book.to ≡ to → StandsFor window book
  book-for book on begins ends = let one : window_of field book.from book.to ≡ window = ap₂ (window_of field) begins ends ∙ sym is in
      subst (λ (w : Window). StandsFor w book) one on.stands

  pub lent-for : (book : BookValue) → StandsOn field book → book.from ≡ from → book.to ≡ to → IsLentFor field window
  lent-for book on begins ends = record {
    lent = on.lent ∙ ap₂ (λ (a b : ℕ). Some (a, b)) (begins ∙ sym (ap (λ (w : Window). w.from) is)) (ends ∙ sym (ap (λ (w : Window). w.to) is));
    same = subst (λ (w : Window). window_of field w.from w.to ≡ w) (sym is) refl;
  }

-- what holds of all holds of those in front, and of the last
pub all-front : {X : Type 0} (P : X → Type 0) (all front back : List X) → all ≡ front ++ back → All P all → All P front
all-front P all front back is holds k d h =
    subst P (ap (λ l. slice_index_or l k d) is ∙ get_or-append front back d k h) (holds k d (let a : length all ≡ length front + length back = ap length is ∙ length-append front back in omega arith))

pub all-last : {X : Type 0} (P : X → Type 0) (all front : List X) (x : X) → all ≡ front ++ x ∷ [] → All P all → P x
all-last P all front x is holds =
    subst P (ap (λ l. slice_index_or l (length front) x) is ∙ get_or-append_seam front x [] x) (holds (length front) x (let a : length all ≡ length front + length (x ∷ []) = ap length is ∙ length-append front (x ∷ []) in omega arith))

-- what workers did that were lent as a slice
pub worked-so : (board : Board) (slice items new : List Worker) → slice ≡ items → ((i : ℕ) (d : Worker) → i < length slice → HasWorked board (slice_index_or slice i d) (slice_index_or new i d))
    → (i : ℕ) (d : Worker) → i < length items → HasWorked board (slice_index_or items i d) (slice_index_or new i d)
worked-so board slice items new is worked = subst (λ (l : List Worker). (i : ℕ) (d : Worker) → i < length l → HasWorked board (slice_index_or l i d) (slice_index_or new i d)) is worked
