-- What the text of a brain makes is a brain.
use Rattle.std.proofs.Common.{◌≡◌, ◌<◌, ℕ, zero, suc, List, [], ◌∷◌, length, Some, None, slice_get, subst}
use Rattle.std.specs.List.{AllByRecursion}
use Rattle.brain_read.specs.declared.instr.Instr.{Instr}
use Rattle.brain_read.specs.declared.instr.Instr.TheVariants.{Sense, Mark, Unmark, PickUp, Drop, Turn, Move, Flip}
use Rattle.brain_read.specs.Soundness.{IsSound, IsBrain}
use Rattle.brain_read.specs.Forms.{InstrLine, IsInRange}
use Rattle.line_tokens.specs.TokenLines.{TokenLine, lines_with_tokens}
use Rattle.line_tokens.proofs.LinesByTokens.{by_lines}
use Rattle.brain_read.specs.Grammar.{AreLines, states_of, StatesBelow, IsBrainText}

-- an instruction in range whose states are below n is sound
pub sound_of : (n : ℕ) (instruction : Instr) → IsInRange instruction → AllByRecursion (λ state. state < n) (states_of instruction) → IsSound n instruction
sound_of n (Sense sight met unmet condition) range below = (below.0, below.1.0, range)
sound_of n (PickUp met unmet) range below = (below.0, below.1.0)
sound_of n (Drop next) range below = below.0
sound_of n (Turn side next) range below = below.0
sound_of n (Move met unmet) range below = (below.0, below.1.0)
sound_of n (Flip bound met unmet) range below = (range.0, below.0, below.1.0)
sound_of n it range below = (range, below.0)

-- and the states of a sound one are below n
pub states_of-below : (n : ℕ) (instruction : Instr) → IsSound n instruction → AllByRecursion (λ state. state < n) (states_of instruction)
states_of-below n (Mark i next) sound = (sound.1, tt)
states_of-below n (Unmark i next) sound = (sound.1, tt)
states_of-below n (Drop next) sound = (sound, tt)
states_of-below n (Turn side next) sound = (sound, tt)
states_of-below n (Flip bound met unmet) sound = (sound.1, (sound.2, tt))
states_of-below n it sound = (sound.0, (sound.1, tt))

range_at : (lines : List TokenLine) (list : List Instr) (i : ℕ) (instruction : Instr) → AreLines lines list → slice_get list i ≡ Some instruction → IsInRange instruction
range_at lines [] i instruction are at = (let never : None ≡ Some instruction = at in absurd (cc))
range_at [] (first ∷ list) i instruction are at = absurd are
range_at (line ∷ lines) (first ∷ list) zero instruction are at = let same : first ≡ instruction = (let e : Some first ≡ Some instruction = at in cc) in subst IsInRange same are.0.in_range
range_at (line ∷ lines) (first ∷ list) (suc i) instruction are at = range_at lines list i instruction are.1 at

below_at : (n : ℕ) (list : List Instr) (i : ℕ) (instruction : Instr) → StatesBelow n list → slice_get list i ≡ Some instruction → AllByRecursion (λ state. state < n) (states_of instruction)
below_at n [] i instruction below at = (let never : None ≡ Some instruction = at in absurd (cc))
below_at n (first ∷ list) zero instruction below at = let same : first ≡ instruction = (let e : Some first ≡ Some instruction = at in cc) in subst (λ k. AllByRecursion (λ state. state < n) (states_of k)) same below.0
below_at n (first ∷ list) (suc i) instruction below at = below_at n list i instruction below.1 at

pub brain_of : (text : List ℕ) (list : List Instr) → IsBrainText text list → IsBrain list
brain_of text list b = record {
  some = b.some;
  few = b.few;
  sound = λ i instruction at. sound_of (length list) instruction (range_at (lines_with_tokens text) list i instruction (by_lines InstrLine text list b.lines) at) (below_at (length list) list i instruction b.states at);
}
