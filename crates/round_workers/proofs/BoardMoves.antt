-- A seat that holds a slot, before and after what lies in it is exchanged.
use Rattle.std.proofs.Common.{◌≡◌, ◌≢◌, ℕ, ◌+◌, ◌-◌, List, [], ◌∷◌, refl, sym, ap, ◌∙◌, subst, Option, Some, None}
use Rattle.std.specs.Prelude.{IfNone, IfSome, OnSome}
use Rattle.atomic_table.specs.declared.shared.Seat.{Seat as Hand}
use Rattle.atomic_table.specs.Table.{rest}
use Rattle.round_workers.specs.declared.board.seat.Board.{Board}
use Rattle.round_workers.specs.declared.board.view.BoardSlot.{BoardSlot}
use Rattle.round_workers.specs.declared.board.view.BoardSlot.TheVariants.{Nothing}
use Rattle.round_workers.specs.declared.board.view.View.{View}
use Rattle.round_workers.specs.BoardPlays.{has_put, puts_now}
pub use Rattle.round_workers.specs.BoardPlays.{At}
use Rattle.round_workers.specs.BoardSeats.{IsHandOf}
use Rattle.round_workers.specs.BoardView.{IsAtRest, out_with}
use Rattle.round_workers.specs.declared.board.view.Phase.TheVariants.{Resting}

-- a hand of a board after a step: it is of the same table, and knows the window still
pub hand_after : (board : Board) (hand new : Hand BoardSlot View) → new.table_id ≡ hand.table_id → new.me.0.about ≡ hand.me.0.about → IsHandOf board hand → IsHandOf board new
hand_after board hand new table about is = record { table = table ∙ is.table; knows = about ∙ is.knows }

pub slot-held : (me : At) (a : View) (k : ℕ) (p : BoardSlot) (c : List (ℕ × BoardSlot)) → me ≡ (a, (k, p) ∷ c) → me.1 ≡ (k, p) ∷ rest me.1
slot-held me a k p c e = ap (λ (m : At). m.1) e ∙ ap (λ (l : List (ℕ × BoardSlot)). (k, p) ∷ l) (sym (ap (λ (m : At). rest m.1) e))

pub swapped : (me new : At) (a : View) (k : ℕ) (p q : BoardSlot) (c : List (ℕ × BoardSlot)) → me ≡ (a, (k, p) ∷ c) → new ≡ (me.0, (k, q) ∷ rest me.1) → new ≡ (a, (k, q) ∷ c)
swapped me new a k p q c e then = then ∙ ap (λ (m : At). (m.0, (k, q) ∷ rest m.1)) e

-- what lay in the slot
pub lay-in : (me : At) (a : View) (k : ℕ) (p q : BoardSlot) (c d : List (ℕ × BoardSlot)) → me ≡ (a, (k, p) ∷ c) → me.1 ≡ (k, q) ∷ d → p ≡ q
lay-in me a k p q c d e is = let same : (k, p) ∷ c ≡ (k, q) ∷ d = sym (ap (λ (m : At). m.1) e) ∙ is in ap (λ (l : List (ℕ × BoardSlot)). head-place l p) same where
  head-place : List (ℕ × BoardSlot) → BoardSlot → BoardSlot
  head-place [] none_there = none_there
  head-place (x ∷ xs) none_there = x.1

-- a seat that comes to rest with what it had out
pub at-rest-so : (me new : At) (w : View) → new ≡ (w, me.1) → w.about ≡ me.0.about → w.holds ≡ me.0.holds → w.phase ≡ Resting → IsAtRest me → IsAtRest new
at-rest-so me new w is about holds phase was = subst IsAtRest (sym is) (record { live = subst (λ (z : Option _). z ≢ None) (sym about) was.live; resting = phase; out = was.out ∙ ap out_with (sym holds) })

-- a look is put: what the seat had out goes back, and it rests
pub put-done : (me begun new : At) (ticket : ℕ) → begun ≡ (puts_now me.0 ticket, (ticket + 1, Nothing) ∷ me.1) → new ≡ (has_put begun.0 ticket, rest begun.1) → new ≡ (has_put me.0 ticket, me.1)
put-done me begun new ticket puts has = has ∙ ap (λ (m : At). (has_put m.0 ticket, rest m.1)) puts

pub put-rests : (me begun new : At) (ticket : ℕ) → begun ≡ (puts_now me.0 ticket, (ticket + 1, Nothing) ∷ me.1) → new ≡ (has_put begun.0 ticket, rest begun.1) → IsAtRest me → IsAtRest new
put-rests me begun new ticket puts has = at-rest-so me new (has_put me.0 ticket) (put-done me begun new ticket puts has) refl refl refl

-- what is so of something, if it is this
pub if-some : {A : Type 0} (P : A → Type 0) (r : Option A) (x : A) → r ≡ Some x → P x → IfSome r P
if-some P r x is p = subst (λ (o : Option _). IfSome o P) (sym is) p

pub on-some : {A : Type 0} (P : Type 0) (r : Option A) (x : A) → r ≡ Some x → P → OnSome r P
on-some P r x is p = subst (λ (o : Option _). OnSome o P) (sym is) p

pub if-none : {A : Type 0} (P : Type 0) (r : Option A) (x : A) → r ≡ Some x → IfNone r P
if-none P r x is = subst (λ (o : Option _). IfNone o P) (sym is) tt

-- something is not nothing
pub some-there : {A : Type 0} (o : Option A) (x : A) → o ≡ Some x → o ≢ None
some-there o x is e = let both : Some x ≡ None = sym is ∙ e in absurd (cc)

pub some-same : {A : Type 0} (o : Option A) (x y : A) → o ≡ Some x → o ≡ Some y → x ≡ y
some-same o x y a b = let both : Some x ≡ Some y = sym a ∙ b in cc
