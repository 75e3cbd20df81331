-- Why texts at the limits are refused, and the words for it.
use Rattle.std.proofs.Common.{◌≡◌, ℕ, ◌+◌, List, codes, length, refl, arith}
use Rattle.std.specs.Fmt.{digits}
use Rattle.brain_read.specs.declared.fault.BrainFault.TheVariants.{BadByte}
use Rattle.brain_read.specs.declared.instr.Instr.{Instr}
use Rattle.match_save.specs.Saved.{IsSaveText, SavedValue}
use Rattle.text_fault.specs.declared.fault.TextFault.TheVariants.{TooLong, Brain, AlreadyAt}
use Rattle.text_fault.specs.declared.stop.TextStop.TheVariants.{OutOfMemory, Refused}
use Rattle.text_fault.specs.FaultText.{text_fault_text, text_stop_text}
use Rattle.text_fault.specs.Opens.{GivesBrain, IsSaveWithin}
use Rattle.text_fault.specs.Refusals.{IsNoBrain, IsPast, IsRefusal}
use Rattle.text_fault.specs.Refusals.IsRefusal.{Bad, Long}

-- a text of 4,194,305 bytes is too long, and none of 4,194,304 is
pub long_refused : (text : List ℕ) → length text ≡ 4194305 → IsRefusal IsNoBrain text TooLong
long_refused text long = Long (omega (arith, long)) refl

pub longest_read : (text : List ℕ) → length text ≡ 4194304 → IsRefusal IsNoBrain text TooLong → ⊥
longest_read text long (Long more is) = omega (arith, long, more)
longest_read text long (Bad short wrong) = let never = wrong.told in absurd (cc)

-- a text that is too long gives no brain, and has no other fault
pub long_alone : (text : List ℕ) (brain : List Instr) (line : ℕ) → length text ≡ 4194305 → (GivesBrain text brain → ⊥) × (IsRefusal IsNoBrain text (Brain (BadByte line)) → ⊥)
long_alone text brain line long = ((λ gives. omega (arith, long, gives.short)), λ refused. elim refused [ Long more is ↦ cc | Bad short wrong ↦ omega (arith, long, short) ])

-- a save may be at its last round, and is past any round before; the reported round is its own
pub at_last : (text : List ℕ) (saved : SavedValue) → IsSaveText text saved → IsSaveWithin saved.round text saved
at_last text saved is = (is, omega arith)

pub past_before : (rounds : ℕ) (text : List ℕ) (saved : SavedValue) → IsSaveText text saved → saved.round ≡ rounds + 1 → IsPast rounds text (AlreadyAt (rounds + 1))
past_before rounds text saved is at = record { saved = saved; is = is; past = omega (arith, at); told = rw at refl }

-- the words for it
pub says_long : text_stop_text (Refused TooLong) ≡ codes "too long"
says_long = refl

pub says_round : text_fault_text (AlreadyAt 7) ≡ codes "already at round 7"
unfolding digits
says_round = refl

pub says_brain : text_fault_text (Brain (BadByte 2)) ≡ codes "line 2: bad byte"
unfolding digits
says_brain = refl

pub says_memory : text_stop_text OutOfMemory ≡ codes "out of memory"
says_memory = refl
