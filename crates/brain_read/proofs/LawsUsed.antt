-- Each law of texts of brains, used at small texts: a weaker law would not do.
use Rattle.std.proofs.Common.{◌≡◌, ◌⊎◌, ℕ, ◌<◌, ◌≤◌, List, [], ◌∷◌, length, Some, codes, refl, arith, subst}
use Rattle.std.specs.Fmt.{digits}
use Rattle.std.specs.Prelude.{slice_get}
use Rattle.ant_base.specs.Number.{decimal_value}
use Rattle.brain_read.specs.declared.fault.BrainFault.{BrainFault}
use Rattle.brain_read.specs.declared.fault.BrainFault.TheVariants.{BadNumber, OutOfMemory}
use Rattle.brain_read.specs.declared.instr.Instr.{Instr}
use Rattle.brain_read.specs.declared.instr.Instr.TheVariants.{Mark, Flip}
use Rattle.brain_read.specs.Canonical.{brain_text, instruction_text}
use Rattle.brain_read.specs.Faulty.{IsBrainFault}
use Rattle.brain_read.specs.Grammar.{IsBrainText}
use Rattle.brain_read.specs.Laws.{CanonicalTextIsRead, NoTextWantsMemory, OneBrainOrOneFault, TextsMakeBrains}
use Rattle.brain_read.proofs.SoundnessLemmas.{brain_of}
use Rattle.brain_read.proofs.Worked.{marker_6}

-- a brain of one state, with the greatest bound, and a text of it
abbrev flipping : List Instr
flipping = Flip 4294967295 0 0 ∷ []

flipping_text : IsBrainText (codes "flip 4294967295 0 0 ; for ever") flipping
unfolding decimal_value
flipping_text = record {
  lines = (record { spelled = (refl, (refl, (refl, (refl, tt)))); in_range = (omega arith, omega arith) }, tt);
  some = omega arith;
  few = omega arith;
  states = ((omega arith, (omega arith, tt)), tt);
}

-- any text has one of the two; that text has this brain alone; and a text that names marker 6 has one fault and no
-- brain
pub one_brain_or_one_fault_used : OneBrainOrOneFault →
    ((text : List ℕ) → ((brain : List Instr) × IsBrainText text brain) ⊎ ((fault : BrainFault) × IsBrainFault text fault))
    × ((brain : List Instr) → IsBrainText (codes "flip 4294967295 0 0 ; for ever") brain → brain ≡ Flip 4294967295 0 0 ∷ [])
    × ((fault : BrainFault) → IsBrainFault (codes "Mark 6 0") fault → fault ≡ BadNumber 1)
    × ((brain : List Instr) → IsBrainText (codes "Mark 6 0") brain → ⊥)
one_brain_or_one_fault_used law = (
  law.some,
  (λ brain is. law.one_brain (codes "flip 4294967295 0 0 ; for ever") brain flipping is flipping_text),
  (λ fault is. law.one_fault (codes "Mark 6 0") fault (BadNumber 1) is marker_6),
  (λ brain is. law.never_both (codes "Mark 6 0") brain (BadNumber 1) is marker_6),
)

-- its canonical text
flipping_line : brain_text flipping ≡ codes "Flip 4294967295 0 0\n"
unfolding brain_text instruction_text digits
flipping_line = refl

pub canonical_text_is_read_used : CanonicalTextIsRead → IsBrainText (codes "Flip 4294967295 0 0\n") (Flip 4294967295 0 0 ∷ [])
canonical_text_is_read_used law =
    subst (λ text. IsBrainText text flipping) flipping_line (law flipping (brain_of (codes "flip 4294967295 0 0 ; for ever") flipping flipping_text) (omega arith, tt))

-- what a text says of a brain: how many instructions, and the numbers of those that mark and flip
pub texts_make_brains_used : TextsMakeBrains → (text : List ℕ) (brain : List Instr) → IsBrainText text brain →
    (1 ≤ length brain)
    × (length brain ≤ 10000)
    × ((i marker next : ℕ) → slice_get brain i ≡ Some (Mark marker next) → (marker < 6) × (next < length brain))
    × ((i bound met unmet : ℕ) → slice_get brain i ≡ Some (Flip bound met unmet) → (1 ≤ bound) × (met < length brain) × (unmet < length brain))
texts_make_brains_used law text brain is =
    let made = law text brain is in
    (made.some, made.few, (λ i marker next stands. made.sound i (Mark marker next) stands), (λ i bound met unmet stands. made.sound i (Flip bound met unmet) stands))

-- not even the empty text
pub no_text_wants_memory_used : NoTextWantsMemory → IsBrainFault [] OutOfMemory → ⊥
no_text_wants_memory_used law = law []
