-- A call that plays a window.
use Rattle.std.proofs.Common.{◌≡◌, ℕ, MutBor, refl, subst}
use Rattle.std.specs.Prelude.{Result, Ok, Err, OnErr}
use Rattle.std.specs.Fn.{Called, Mut}
use Rattle.ant_base.specs.declared.memory.OutOfMemory.{OutOfMemory}
use Rattle.round_book.specs.declared.counts.Counts.{Counts}
use Rattle.round_book.specs.declared.field.Field.{Field}
use Rattle.round_book.specs.Book.{CanBegin, FieldValue}
use Rattle.round_book.specs.Led.{IsWindow, PlaysWindows}

-- what such a call comes to
pub IsWindow-called : {F : Type 0} (g : Mut F (MutBor Field × (ℕ × (ℕ × Unit {0}))) (Result Counts OutOfMemory × (MutBor Field × Unit {0}))) → PlaysWindows g →
    (f f' : F) (shown left : MutBor Field) (from to : ℕ) (result : Result Counts OutOfMemory) → CanBegin shown.now from to → Called g f (shown, (from, (to, tt))) (result, (left, tt)) f' → IsWindow result shown.now from to left.now
IsWindow-called g plays f f' shown left from to result can called =
    plays f shown.now from to result f' left.now can (record { shown = shown; shows = refl; left = left; called = called; leaves = refl })

-- if it failed
pub IsWindow-err : (result answer : Result Counts OutOfMemory) (old : FieldValue) (from to : ℕ) (new : FieldValue) (e : OutOfMemory) → IsWindow result old from to new → result ≡ Err e → OnErr answer (new ≡ old)
IsWindow-err result answer old from to new e window is = always answer (subst (λ r. OnErr r (new ≡ old)) is window.unchanged) where
  always : (r : Result Counts OutOfMemory) → new ≡ old → OnErr r (new ≡ old)
  always (Ok x) same = tt
  always (Err x) same = same
