-- Brains are lines of saves.
use Rattle.std.proofs.Common.{◌≡◌, ℕ, suc, ◌<◌, ◌≤◌, List, [], ◌∷◌, length, slice_get, Some, refl, arith}
use Rattle.std.specs.List.{AllByRecursion}
use Rattle.cell_world.specs.declared.ant.Colour.{Colour}
use Rattle.cell_world.specs.declared.ant.Colour.TheVariants.{Red, Black}
use Rattle.brain_read.specs.declared.instr.Instr.{Instr}
use Rattle.brain_read.specs.declared.instr.Instr.TheVariants.{Sense, PickUp, Drop, Turn, Move, Flip}
use Rattle.brain_read.specs.Forms.{HasBound, IsInRange}
use Rattle.brain_read.specs.Grammar.{StatesBelow, states_of}
use Rattle.brain_read.specs.Soundness.{IsBrain, IsSound, most_states}
use Rattle.ant_turn.specs.Minds.{mind_of}
use Rattle.match_save.specs.Draft.{IsInstruction, IsProgram}
use Rattle.match_save.specs.Saved.{SavedValue, draft_of}
use Rattle.match_save.specs.State.{program_of}

-- a sound instruction, whose bound is at most the largest, is in range, and its states are below the number of states
record IsFit (n : ℕ) (i : Instr) : Type 0 where
  in_range : IsInRange i
  states : AllByRecursion (λ state. state < n) (states_of i)

fit : (n : ℕ) (i : Instr) → IsSound n i → HasBound i → IsFit n i
fit n (Sense s m u c) sound bound = record { in_range = sound.2; states = (sound.0, (sound.1, tt)) }
fit n (PickUp m u) sound bound = record { in_range = tt; states = (sound.0, (sound.1, tt)) }
fit n (Drop k) sound bound = record { in_range = tt; states = (sound, tt) }
fit n (Turn s k) sound bound = record { in_range = tt; states = (sound, tt) }
fit n (Move m u) sound bound = record { in_range = tt; states = (sound.0, (sound.1, tt)) }
fit n (Flip b m u) sound bound = record { in_range = (sound.0, bound); states = (sound.1, (sound.2, tt)) }
fit n it sound bound = record { in_range = sound.0; states = (sound.1, tt) }

-- so are all of a brain
all_fit : (n : ℕ) (list : List Instr) → ((i : ℕ) (x : Instr) → slice_get list i ≡ Some x → IsSound n x) → AllByRecursion HasBound list → AllByRecursion (IsFit n) list
all_fit n [] sound bounds = tt
all_fit n (x ∷ list) sound bounds = (fit n x (sound 0 x refl) bounds.0, all_fit n list (λ i y at. sound (suc i) y at) bounds.1)

states-below : (n : ℕ) (list : List Instr) → AllByRecursion (IsFit n) list → StatesBelow n list
states-below n [] all = tt
states-below n (x ∷ list) all = (all.0.states, states-below n list all.1)

short : (n : ℕ) (states : List ℕ) → n ≤ most_states → AllByRecursion (λ state. state < n) states → AllByRecursion (λ state. state ≤ 9999999999) states
short n [] few all = tt
short n (state ∷ states) few all = (let l = all.0 in omega (arith, l, few), short n states few all.1)

instructions-in-form : (n : ℕ) (list : List Instr) → n ≤ most_states → AllByRecursion (IsFit n) list → AllByRecursion IsInstruction list
instructions-in-form n [] few all = tt
instructions-in-form n (x ∷ list) few all = (record { in_range = all.0.in_range; states = short n (states_of x) few all.0.states }, instructions-in-form n list few all.1)

-- the instructions of a brain are those of a save
pub IsProgram-brain : (list : List Instr) → IsBrain list → AllByRecursion HasBound list → IsProgram list
IsProgram-brain list brain bounds = record { some = brain.some; few = brain.few; each = instructions-in-form (length list) list brain.few (all_fit (length list) list brain.sound bounds) }

-- and their states are below their number
pub StatesBelow-brain : (list : List Instr) → IsBrain list → AllByRecursion HasBound list → StatesBelow (length list) list
StatesBelow-brain list brain bounds = states-below (length list) list (all_fit (length list) list brain.sound bounds)

-- a colour's program has as many lines as its brain has states
pub program-length : (s : SavedValue) (colour : Colour) → length (program_of (draft_of s) colour) ≡ length (mind_of s.minds colour)
unfolding draft_of
program-length s Red = refl
program-length s Black = refl
