-- Pieces of a window, and their looks in order.
use Rattle.ant_base.specs.declared.memory.OutOfMemory.{OutOfMemory}
use Rattle.std.proofs.Common.{Result, Ok, Err, OnOk, slice_set, take_all, ◌≡◌, ℕ, zero, suc, add-one, ◌+◌, ◌-◌, ◌<◌, ◌≤◌, ◌^◌, ◌++◌, Bool, true, false, nat_eq, List, [], ◌∷◌, length, get_or, take, drop, map, All, refl, sym, ◌∙◌, ap, ap₂, subst, arith}
use Rattle.std.proofs.lemmas.Bool.{eqb-false, eqb-true}
use Rattle.std.proofs.lemmas.List.{length-append, map-append, take_more_set}
use Rattle.std.proofs.Math.ListN.{get_or-append}
use Rattle.std.proofs.Math.Seq.{drop-cons, get_or-append_seam}
use Rattle.std.proofs.lemmas.List.Elements.{All-append, All-cons, All-nil, All-same}
use Rattle.cell_world.specs.Cell.{one_if}
use Rattle.cell_world.specs.Grid.{world_of}
use Rattle.round_book.specs.Book.{CanBegin, FieldValue, window_of}
use Rattle.round_book.specs.Window.{Window, guess_for, look_for}
use Rattle.round_book.proofs.SoloLemmas.{guess_for-le, guess_for-next}
use Rattle.spec_record.specs.Look.{LookValue, look_of}
use Rattle.spec_record.proofs.Flips.{look-drew}
use Rattle.round_workers.specs.declared.piece.Piece.{Piece}
use Rattle.round_workers.specs.declared.share.Share.{Share}
use Rattle.round_workers.specs.Inner.Pieces.{AreLooked, AreConsecutive, HasPieceRoom, IsGuessed, IsPieceDone, IsPieceReady, all_have_room, shares_among}
use Rattle.round_workers.specs.Inner.Shares.{looks_for, shares}
use Rattle.round_workers.proofs.ShareLemmas.{AreConsecutive-within, Follow-shares, shares-guessed}

pub looks_for-length : (window : Window) (t n : ℕ) → length (looks_for window t n) ≡ n
looks_for-length window t zero = refl
looks_for-length window t (suc n) =
    let rest = looks_for-length window t n in
    let more = length-append (looks_for window t n) (look_for window (t + n) ∷ []) in
    omega (arith, rest, more)

-- one look of them
looks_for-last : (window : Window) (t n : ℕ) (d : LookValue) → get_or (looks_for window t n ++ look_for window (t + n) ∷ []) n d ≡ look_for window (t + n)
looks_for-last window t n d =
    ap (λ i. get_or (looks_for window t n ++ look_for window (t + n) ∷ []) i d) (sym (looks_for-length window t n)) ∙ get_or-append_seam (looks_for window t n) (look_for window (t + n)) [] d

looks_for-more : (window : Window) (t n i : ℕ) (d : LookValue) → i < suc n → (i < n → get_or (looks_for window t n) i d ≡ look_for window (t + i)) → (b : Bool) → nat_eq i n ≡ b →
    get_or (looks_for window t n ++ look_for window (t + n) ∷ []) i d ≡ look_for window (t + i)
looks_for-more window t n i d below before true e =
    let at : i ≡ n = eqb-true i n e in
    ap (λ k. get_or (looks_for window t n ++ look_for window (t + n) ∷ []) k d) at ∙ looks_for-last window t n d ∙ ap (λ k. look_for window (t + k)) (sym at)
looks_for-more window t n i d below before false e =
    let other = eqb-false i n e in
    let all = looks_for-length window t n in
    let less : i < n = omega arith in
    get_or-append (looks_for window t n) (look_for window (t + n) ∷ []) d i (omega arith) ∙ before less

pub looks_for-at : (window : Window) (t n i : ℕ) (d : LookValue) → i < n → get_or (looks_for window t n) i d ≡ look_for window (t + i)
looks_for-at window t zero i d below = absurd (omega arith)
looks_for-at window t (suc n) i d below = looks_for-more window t n i d below (looks_for-at window t n i d) (nat_eq i n) refl

-- where the window ends has no part in them
look_for-same : (field : FieldValue) (from a b t : ℕ) → look_for (window_of field from a) t ≡ look_for (window_of field from b) t
unfolding look_for guess_for
look_for-same field from a b t = refl

pub looks_for-same : (field : FieldValue) (from a b t n : ℕ) → looks_for (window_of field from a) t n ≡ looks_for (window_of field from b) t n
looks_for-same field from a b t zero = refl
looks_for-same field from a b t (suc n) =
    ap₂ (λ looks look. looks ++ look ∷ []) (looks_for-same field from a b t n) (look_for-same field from a b (t + n))

-- the next guess is in reach of the stream
pub guess_for-small : (field : FieldValue) (from to id : ℕ) → CanBegin field from to → from ≤ id → id < to → guess_for (window_of field from to) id + 1 < 2 ^ 63
guess_for-small field from to id begin first below =
    let few : guess_for (window_of field from to) id ≤ field.place + (id - from) = guess_for-le (window_of field from to) id in
    let lasting : field.place + (to - from) < 2 ^ 63 = begin.lasting in
    omega arith

-- no look is made yet
pub looked-none : (window : Window) (t : ℕ) (looks : List LookValue) → take (t - t) looks ≡ looks_for window t (t - t)
looked-none window t looks =
    let none : t - t ≡ 0 = omega arith in
    subst (λ n. take n looks ≡ looks_for window t n) (sym none) refl

module _ (field : FieldValue) (from to id seed place : ℕ) (same_seed : seed ≡ field.seed) (guessed : place ≡ guess_for (window_of field from to) id) where
  made-is : look_of field.minds seed (world_of field.world) place id ≡ look_for (window_of field from to) id
  unfolding look_for
  made-is = ap (λ s. look_of field.minds s (world_of field.world) place id) same_seed ∙ ap (λ n. look_of field.minds field.seed (world_of field.world) n id) guessed

  -- one look more
  pub looked-more : (t : ℕ) (looks new : List LookValue) → t ≤ id → take (id - t) looks ≡ looks_for (window_of field from to) t (id - t)
      → take (id - t + 1) new ≡ take (id - t) looks ++ look_of field.minds seed (world_of field.world) place id ∷ []
      → take (id + 1 - t) new ≡ looks_for (window_of field from to) t (id + 1 - t)
  looked-more t looks new first looked more =
      let next : id + 1 - t ≡ suc (id - t) = omega arith in
      let count : suc (id - t) ≡ id - t + 1 = omega arith in
      let here : t + (id - t) ≡ id = omega arith in
      subst (λ n. take n new ≡ looks_for (window_of field from to) t n) (sym next)
      (ap (λ n. take n new) count ∙ more ∙ ap₂ (λ xs x. xs ++ x ∷ []) looked (made-is ∙ ap (look_for (window_of field from to)) (sym here)))

  -- and the guess after it
  pub guess_for-more : (next : ℕ) → from ≤ id → next ≡ place + one_if (look_of field.minds seed (world_of field.world) place id).drew → next ≡ guess_for (window_of field from to) (id + 1)
  guess_for-more next first drawn =
      drawn ∙ ap₂ (λ n k. n + k) guessed (ap one_if (look-drew field.minds seed (world_of field.world) place id)) ∙ sym (guess_for-next (window_of field from to) id first)

-- a share for one piece more: the rooms that there are
rooms-more : (pieces new : List Piece) (n : ℕ) (piece : Piece) → HasPieceRoom piece → take (n + 1) new ≡ take n pieces ++ piece ∷ [] → all_have_room n pieces → all_have_room (n + 1) new
rooms-more pieces new n piece room is all =
    All-same HasPieceRoom (take (n + 1) new) (take n pieces ++ piece ∷ []) is (All-append HasPieceRoom (take n pieces) (piece ∷ []) all (All-cons HasPieceRoom piece [] room (All-nil HasPieceRoom)))

pub rooms-set : {A : Type 0} (result : Result A OutOfMemory) (pieces : List Piece) (n : ℕ) (piece : Piece) → n < length pieces → OnOk result (HasPieceRoom piece) → OnOk result (all_have_room n pieces → all_have_room (n + 1) (slice_set pieces n piece))
rooms-set (Ok x) pieces n piece within room = rooms-more pieces (slice_set pieces n piece) n piece room (take_more_set pieces n piece within)
rooms-set (Err e) pieces n piece within room = tt

pub rooms-push : (pieces new : List Piece) (n : ℕ) (piece : Piece) → n ≡ length pieces → HasPieceRoom piece → new ≡ pieces ++ piece ∷ [] → all_have_room n pieces → all_have_room (n + 1) new
rooms-push pieces new n piece at room is =
    let long : length new ≡ length pieces + 1 = ap length is ∙ length-append pieces (piece ∷ []) in
    rooms-more pieces new n piece room (take_all (n + 1) new (omega arith) ∙ is ∙ ap (λ xs. xs ++ piece ∷ []) (sym (take_all n pieces (omega arith))))

-- and the shares
shares-more : (pieces new : List Piece) (n : ℕ) (piece : Piece) (share : Share) → piece.share ≡ share → take (n + 1) new ≡ take n pieces ++ piece ∷ [] → shares_among (n + 1) new ≡ shares_among n pieces ++ share ∷ []
shares-more pieces new n piece share has is =
    ap (map (λ p. p.share)) is ∙ (map-append (λ (p : Piece). p.share) (take n pieces) (piece ∷ []) ∙ ap (λ (s : Share). shares_among n pieces ++ s ∷ []) has)

pub shares-set : {A : Type 0} (result : Result A OutOfMemory) (pieces : List Piece) (n : ℕ) (piece : Piece) (share : Share) → n < length pieces → piece.share ≡ share → OnOk result (shares_among (n + 1) (slice_set pieces n piece) ≡ shares_among n pieces ++ share ∷ [])
shares-set (Ok x) pieces n piece share within has = shares-more pieces (slice_set pieces n piece) n piece share has (take_more_set pieces n piece within)
shares-set (Err e) pieces n piece share within has = tt

pub shares-push : (pieces new : List Piece) (n : ℕ) (piece : Piece) (share : Share) → n ≡ length pieces → piece.share ≡ share → new ≡ pieces ++ piece ∷ [] → shares_among (n + 1) new ≡ shares_among n pieces ++ share ∷ []
shares-push pieces new n piece share at has is =
    let long : length new ≡ length pieces + 1 = ap length is ∙ length-append pieces (piece ∷ []) in
    shares-more pieces new n piece share has (take_all (n + 1) new (omega arith) ∙ is ∙ ap (λ xs. xs ++ piece ∷ []) (sym (take_all n pieces (omega arith))))

-- a window's piece, if the window may begin
begin-front : (field : FieldValue) (from to end : ℕ) → CanBegin field from to → from ≤ end → end ≤ to → CanBegin field from end
begin-front field from to end begin first within = record {
  whole = begin.whole;
  forwards = first;
  ids = let ids : to ≤ field.world.ids = begin.ids in omega arith;
  lasting = let lasting : field.place + (to - from) < 2 ^ 63 = begin.lasting in omega arith;
}

module _ (field : FieldValue) (from to : ℕ) (begin : CanBegin field from to) where
  ready-from : (pieces : List Piece) (at : ℕ) → from ≤ at → AreConsecutive (map (λ piece. piece.share) pieces) at to → All HasPieceRoom pieces → All (IsGuessed field from) (map (λ piece. piece.share) pieces) → All (IsPieceReady field from) pieces
  ready-from [] at first follow rooms guessed = All-nil (IsPieceReady field from)
  ready-from (piece ∷ pieces) at first follow rooms guessed =
      let here : piece.share.from ≡ at = follow.0 in
      let forwards : piece.share.from ≤ piece.share.to = follow.1 in
      let within : piece.share.to ≤ to = AreConsecutive-within (map (λ p. p.share) pieces) piece.share.to to follow.2 in
      All-cons (IsPieceReady field from) piece pieces
      (record { begin = begin-front field from to piece.share.to begin (omega arith) within; first = omega arith; forwards = forwards; guess = guessed 0 piece.share (omega arith); room = rooms 0 piece (omega arith) })
      (ready-from pieces piece.share.to (omega arith) follow.2 (λ k d lt. rooms (suc k) d (omega arith)) (λ k d lt. guessed (suc k) d (omega arith)))

  -- pieces that are a window's, are guessed, and have room
  pub ready : (pieces : List Piece) → AreConsecutive (map (λ piece. piece.share) pieces) from to → All HasPieceRoom pieces → All (IsGuessed field from) (map (λ piece. piece.share) pieces) → All (IsPieceReady field from) pieces
  ready pieces follow rooms guessed = ready-from pieces from (omega arith) follow rooms guessed

module _ (field : FieldValue) (from to : ℕ) where
  abbrev IsLooked : Piece → Type 0
  IsLooked piece = AreLooked (window_of field from to) piece.share piece.looks.items

  looked-done : (old new : Piece) → IsPieceDone field from old new → IsLooked new
  looked-done old new done =
      let same : AreLooked (window_of field from to) old.share new.looks.items = done.looked ∙ looks_for-same field from old.share.to to old.share.from (old.share.to - old.share.from) in
      subst (λ s. AreLooked (window_of field from to) s new.looks.items) (sym done.share) same

  -- pieces whose looks are made
  pub done-looked : (old new : List Piece) → length new ≡ length old → ((i : ℕ) (d : Piece) → i < length old → IsPieceDone field from (get_or old i d) (get_or new i d)) → All IsLooked new
  done-looked [] [] len each = All-nil IsLooked
  done-looked (x ∷ xs) (y ∷ ys) len each =
      All-cons IsLooked y ys (looked-done x y (each 0 y (omega arith))) (done-looked xs ys (omega arith) (λ i d lt. each (suc i) d (omega arith)))
  done-looked it that len each = absurd (omega arith)

  -- their shares stay
  pub done-shares : (old new : List Piece) → length new ≡ length old → ((i : ℕ) (d : Piece) → i < length old → IsPieceDone field from (get_or old i d) (get_or new i d)) → map (λ piece. piece.share) new ≡ map (λ piece. piece.share) old
  done-shares [] [] len each = refl
  done-shares (x ∷ xs) (y ∷ ys) len each =
      let here : y.share ≡ x.share = (each 0 y (omega arith)).share in
      ap₂ (λ s ss. s ∷ ss) here (done-shares xs ys (omega arith) (λ i d lt. each (suc i) d (omega arith)))
  done-shares it that len each = absurd (omega arith)

-- a piece that is next ends within what is left
pub AreConsecutive-item : (pieces : List Piece) (i : ℕ) (piece : Piece) (from to : ℕ) → i < length pieces → piece ≡ get_or pieces i piece → AreConsecutive (map (λ p. p.share) (drop i pieces)) from to → piece.share.to ≤ to
AreConsecutive-item pieces i piece from to below is follow =
    let front : AreConsecutive (map (λ p. p.share) (get_or pieces i piece ∷ drop (suc i) pieces)) from to = subst (λ ps. AreConsecutive (map (λ p. p.share) ps) from to) (drop-cons pieces i piece below) follow in
    let rest : (get_or pieces i piece).share.to ≤ to = AreConsecutive-within (map (λ p. p.share) (drop (suc i) pieces)) (get_or pieces i piece).share.to to front.2 in
    subst (λ (p : Piece). p.share.to ≤ to) (sym is) rest

-- and what is left after it follows it
pub AreConsecutive-after : (pieces : List Piece) (i : ℕ) (piece : Piece) (from to next end : ℕ) → i < length pieces → piece ≡ get_or pieces i piece → AreConsecutive (map (λ p. p.share) (drop i pieces)) from to
    → next ≡ piece.share.to → end ≡ to → AreConsecutive (map (λ p. p.share) (drop (i + 1) pieces)) next end
AreConsecutive-after pieces i piece from to next end below is follow here ends =
    let front : AreConsecutive (map (λ p. p.share) (get_or pieces i piece ∷ drop (suc i) pieces)) from to = subst (λ ps. AreConsecutive (map (λ p. p.share) ps) from to) (drop-cons pieces i piece below) follow in
    let after : AreConsecutive (map (λ p. p.share) (drop (suc i) pieces)) piece.share.to to = subst (λ (p : Piece). AreConsecutive (map (λ q. q.share) (drop (suc i) pieces)) p.share.to to) (sym is) front.2 in
    subst (λ (z : ℕ × ℕ × ℕ). AreConsecutive (map (λ p. p.share) (drop z.0 pieces)) z.1 z.2) (λ j. (sym (add-one i) j, sym here j, sym ends j)) after

module _ (window : Window) (share : Share) (looks : List LookValue) (looked : AreLooked window share looks) where
  -- it has as many looks as turns
  pub looked-length : length (take (share.to - share.from) looks) ≡ share.to - share.from
  looked-length = ap length looked ∙ looks_for-length window share.from (share.to - share.from)

  -- and this is one of them
  pub looked-item : (i : ℕ) (look : LookValue) → i < length (take (share.to - share.from) looks) → look ≡ get_or (take (share.to - share.from) looks) i look → look ≡ look_for window (share.from + i)
  looked-item i look below is =
      let long = looked-length in
      let within : i < share.to - share.from = omega arith in
      is ∙ ap (λ xs. get_or xs i look) looked ∙ looks_for-at window share.from (share.to - share.from) i look within

-- what was dealt to all workers is the window, and each share is guessed
module _ (field : FieldValue) (from to workers dealt : ℕ) (pieces slice : List Piece) (is : slice ≡ pieces) (shared : shares_among dealt pieces ≡ shares (window_of field from to) workers workers) where
  dealt-are : shares_among dealt slice ≡ shares (window_of field from to) workers workers
  dealt-are = ap (shares_among dealt) is ∙ shared

  pub dealt-follow : 0 < workers → from ≤ to → AreConsecutive (shares_among dealt slice) from to
  dealt-follow some_workers forwards =
      let end : from + (to - from) ≡ to = omega arith in
      subst (λ ss. AreConsecutive ss from to) (sym dealt-are)
      (subst (λ e. AreConsecutive (shares (window_of field from to) workers workers) from e) end (Follow-shares (window_of field from to) workers some_workers))

  pub dealt-guessed : All (IsGuessed field from) (shares_among dealt slice)
  dealt-guessed = subst (All (IsGuessed field from)) (sym dealt-are) (shares-guessed field from to workers workers)
