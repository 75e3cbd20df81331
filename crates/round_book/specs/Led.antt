-- A function that plays windows (this project's own).
use Rattle.std.specs.Prelude.{◌≡◌, ℕ, Result, IfOk, OnOk, OnErr}
use Rattle.std.specs.Fn.{Called, Mut}
use Rattle.std.specs.Borrow.{MutBor}
use Rattle.ant_base.specs.declared.memory.OutOfMemory.{OutOfMemory}
use Rattle.round_book.specs.declared.counts.Counts.{Counts}
use Rattle.round_book.specs.declared.field.Field.{Field}
use Rattle.round_book.specs.Book.{CanBegin, FieldValue, IsPlayed, window_of}
use Rattle.round_book.specs.Counts.{counts_of}

-- a window was played; or it failed, and the field is unchanged
pub record IsWindow (result : Result Counts OutOfMemory) (old : FieldValue) (from to : ℕ)
    (new : FieldValue) : Type 0 where
  pub played : OnOk result (IsPlayed old from to new)
  pub counts : IfOk result (λ counts. counts ≡ counts_of (window_of old from to))
  pub unchanged : OnErr result (new ≡ old)

module _ {F : Type 0}
    (g : Mut F (MutBor Field × (ℕ × (ℕ × Unit {0}))) (Result Counts OutOfMemory × (MutBor Field × Unit {0}))) where
  -- each window may be requested
  abbrev pub CanPlay : Type 0
  CanPlay =
      (f : F) (field : MutBor Field) (from to : ℕ) → CanBegin field.now from to → g.pre f (field, (from, (to, tt)))

  -- a call of f on a field may give this result, and leave another field and function
  pub record Played (f : F) (old : FieldValue) (from to : ℕ) (result : Result Counts OutOfMemory) (f' : F)
      (new : FieldValue) : Type 0 where
    pub shown : MutBor Field
    pub shows : shown.now ≡ old
    pub left : MutBor Field
    pub called : Called g f (shown, (from, (to, tt))) (result, (left, tt)) f'
    pub leaves : left.now ≡ new

  -- each such call plays its window, or fails and leaves the field unchanged
  abbrev pub PlaysWindows : Type 0
  PlaysWindows =
      (f : F) (old : FieldValue) (from to : ℕ) (result : Result Counts OutOfMemory) (f' : F) (new : FieldValue) →
      CanBegin old from to → Played f old from to result f' new → IsWindow result old from to new
