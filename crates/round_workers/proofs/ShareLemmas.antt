-- The beginnings and ends of shares, and what they are together.
use Rattle.std.proofs.Common.{◌≡◌, ℕ, zero, suc, add-one, ◌+◌, ◌-◌, ◌<◌, ◌≤◌, ◌++◌, Bool, true, false, nat_lt, List, [], ◌∷◌, cond, All, refl, sym, subst, arith}
use Rattle.std.proofs.lemmas.Bool.{ltb-false}
use Rattle.std.proofs.lemmas.List.{append-nil}
use Rattle.std.proofs.lemmas.List.Elements.{All-append, All-cons, All-nil}
use Rattle.work_share.proofs.BordersLemmas.{border_last, border_rises}
use Rattle.round_book.specs.Book.{FieldValue, window_of}
use Rattle.round_book.specs.Window.{Window, guess_for}
use Rattle.round_workers.specs.declared.share.Share.{Share}
use Rattle.round_workers.specs.Inner.Pieces.{AreConsecutive, IsGuessed}
use Rattle.round_workers.specs.Inner.Shares.{first_turn, if_any, shares, window_share}

-- shares that follow one another go forwards
pub AreConsecutive-within : (shares : List Share) (from to : ℕ) → AreConsecutive shares from to → from ≤ to
AreConsecutive-within [] from to follow = let same : from ≡ to = follow in omega arith
AreConsecutive-within (share ∷ shares) from to follow =
    let here : share.from ≡ from = follow.0 in
    let forwards : share.from ≤ share.to = follow.1 in
    let rest : share.to ≤ to = AreConsecutive-within shares share.to to follow.2 in
    omega arith

-- and so does one more
AreConsecutive-append : (shares : List Share) (share : Share) (from : ℕ) → AreConsecutive shares from share.from → share.from ≤ share.to → AreConsecutive (shares ++ share ∷ []) from share.to
AreConsecutive-append [] share from follow forwards = (sym follow, forwards, refl)
AreConsecutive-append (first ∷ shares) share from follow forwards = (follow.0, follow.1, AreConsecutive-append shares share first.to follow.2 forwards)

module _ (window : Window) (workers : ℕ) (some_workers : 0 < workers) where
  abbrev n : ℕ
  n = window.to - window.from

  one-more : (k : ℕ) (b : Bool) → nat_lt (first_turn window workers k) (first_turn window workers (k + 1)) ≡ b → AreConsecutive (shares window workers k) window.from (first_turn window workers k)
      → AreConsecutive (shares window workers k ++ cond b (window_share window workers k ∷ []) []) window.from (first_turn window workers (k + 1))
  one-more k true e before =
      let rises = border_rises k n workers some_workers in
      AreConsecutive-append (shares window workers k) (window_share window workers k) window.from before (omega arith)
  one-more k false e before =
      let rises = border_rises k n workers some_workers in
      let none = ltb-false (first_turn window workers k) (first_turn window workers (k + 1)) e in
      let same : first_turn window workers k ≡ first_turn window workers (k + 1) = omega arith in
      subst (λ ss. AreConsecutive ss window.from (first_turn window workers (k + 1))) (sym (append-nil (shares window workers k)))
      (subst (λ end. AreConsecutive (shares window workers k) window.from end) same before)

  -- the shares of the first workers follow one another
  Follow-some : (k : ℕ) → AreConsecutive (shares window workers k) window.from (first_turn window workers k)
  Follow-some zero = omega arith
  Follow-some (suc k) =
      subst (λ m. AreConsecutive (shares window workers (suc k)) window.from (first_turn window workers m)) (add-one k)
      (one-more k (nat_lt (first_turn window workers k) (first_turn window workers (k + 1))) refl (Follow-some k))

  -- those of all workers are the turns
  pub Follow-shares : AreConsecutive (shares window workers workers) window.from (window.from + n)
  Follow-shares = subst (λ m. AreConsecutive (shares window workers workers) window.from (window.from + m)) (border_last n workers some_workers) (Follow-some workers)

-- each is guessed to stand where it says
module _ (field : FieldValue) (from to workers : ℕ) where
  some-guessed : (share : Share) (b : Bool) → IsGuessed field from share → All (IsGuessed field from) (cond b (share ∷ []) [])
  some-guessed share true is = All-cons (IsGuessed field from) share [] is (All-nil (IsGuessed field from))
  some-guessed share false is = All-nil (IsGuessed field from)

  share-guessed : (k : ℕ) → IsGuessed field from (window_share (window_of field from to) workers k)
  unfolding guess_for
  share-guessed k = refl

  pub shares-guessed : (k : ℕ) → All (IsGuessed field from) (shares (window_of field from to) workers k)
  shares-guessed zero = All-nil (IsGuessed field from)
  shares-guessed (suc k) =
      let share = window_share (window_of field from to) workers k in
      All-append (IsGuessed field from) (shares (window_of field from to) workers k) (if_any share) (shares-guessed k) (some-guessed share (nat_lt share.from share.to) (share-guessed k))
