-- Instructions whose states are mapped: their shape, and the states that they name.
pub use Rattle.ant_turn.proofs.RenumberedTurns.{redirected-self}
use Rattle.std.proofs.Common.{◌≡◌, ℕ, zero, suc, ◌<◌, List, [], ◌∷◌, map, length, slice_index_or, refl, sym, ap, ap₂, ◌∙◌, arith}
use Rattle.std.specs.List.{AllByRecursion, Contains}
use Rattle.std.proofs.lemmas.Option.{slice_get-get_or}
use Rattle.brain_read.specs.declared.instr.Instr.{Instr}
use Rattle.brain_read.specs.declared.instr.Instr.TheVariants.{Sense, Mark, Unmark, PickUp, Drop, Turn, Move, Flip}
use Rattle.brain_read.specs.Grammar.{states_of}
use Rattle.brain_read.specs.Soundness.{IsBrain, IsSound}
use Rattle.brain_read.proofs.SoundnessLemmas.{states_of-below}
use Rattle.ant_turn.specs.Renumber.{redirected}
use Rattle.ant_turn.specs.Turn.{instruction_at}
use Rattle.brain_minimise.specs.Equivalence.{shape_of}

-- mapping twice
pub redirected-redirected : (f g : ℕ → ℕ) (x : Instr) → redirected g (redirected f x) ≡ redirected (λ state. g (f state)) x
redirected-redirected f g (Sense sight met unmet condition) = refl
redirected-redirected f g it = refl

-- the states that it names then
pub states_of-redirected : (f : ℕ → ℕ) (x : Instr) → states_of (redirected f x) ≡ map f (states_of x)
states_of-redirected f (Sense sight met unmet condition) = refl
states_of-redirected f it = refl

-- a shape with these states
abbrev filled : Instr → List ℕ → Instr
filled (Sense sight met unmet condition) states = Sense sight (slice_index_or states 0 0) (slice_index_or states 1 0) condition
filled (Mark i next) states = Mark i (slice_index_or states 0 0)
filled (Unmark i next) states = Unmark i (slice_index_or states 0 0)
filled (PickUp met unmet) states = PickUp (slice_index_or states 0 0) (slice_index_or states 1 0)
filled (Drop next) states = Drop (slice_index_or states 0 0)
filled (Turn side next) states = Turn side (slice_index_or states 0 0)
filled (Move met unmet) states = Move (slice_index_or states 0 0) (slice_index_or states 1 0)
filled (Flip bound met unmet) states = Flip bound (slice_index_or states 0 0) (slice_index_or states 1 0)

-- an instruction is its shape with its states
redirected-filled : (f : ℕ → ℕ) (x : Instr) → redirected f x ≡ filled (shape_of x) (map f (states_of x))
redirected-filled f (Sense sight met unmet condition) = refl
redirected-filled f it = refl

-- two of one shape, with the same states after mapping, are one after mapping
pub redirected-same : (f g : ℕ → ℕ) (x y : Instr) → shape_of x ≡ shape_of y → map f (states_of x) ≡ map g (states_of y) → redirected f x ≡ redirected g y
redirected-same f g x y shape states = redirected-filled f x ∙ ap₂ filled shape states ∙ sym (redirected-filled g y)

-- two that are one after mapping have one shape
pub shape_of-redirected : (f : ℕ → ℕ) (x : Instr) → shape_of (redirected f x) ≡ shape_of x
shape_of-redirected f x = redirected-redirected f (λ _. 0) x

pub shape-from : (f g : ℕ → ℕ) (x y : Instr) → redirected f x ≡ redirected g y → shape_of x ≡ shape_of y
shape-from f g x y same = sym (shape_of-redirected f x) ∙ ap shape_of same ∙ shape_of-redirected g y

-- and the same states after mapping
pub states-from : (f g : ℕ → ℕ) (x y : Instr) → redirected f x ≡ redirected g y → map f (states_of x) ≡ map g (states_of y)
states-from f g x y same = sym (states_of-redirected f x) ∙ ap states_of same ∙ states_of-redirected g y

-- maps that agree on a list give the same list
pub map-agree : (f g : ℕ → ℕ) (list : List ℕ) → AllByRecursion (λ n. f n ≡ g n) list → map f list ≡ map g list
map-agree f g [] agree = refl
map-agree f g (n ∷ list) agree = ap₂ ◌∷◌ agree.0 (map-agree f g list agree.1)

-- maps that agree on the states give the same instruction
pub redirected-agree : (f g : ℕ → ℕ) (x : Instr) → AllByRecursion (λ n. f n ≡ g n) (states_of x) → redirected f x ≡ redirected g x
redirected-agree f g x agree = redirected-same f g x x refl (map-agree f g (states_of x) agree)

-- what is among some states is among their images
pub Contains-map : (f : ℕ → ℕ) (list : List ℕ) (n : ℕ) → Contains list n → Contains (map f list) (f n)
Contains-map f [] n (k, below, is) = absurd (omega arith)
Contains-map f (m ∷ list) n (zero, below, is) = (0, omega arith, ap f is)
Contains-map f (m ∷ list) n (suc k, below, is) =
    let there : Contains (map f list) (f n) = Contains-map f list n (k, omega arith, is) in
    (suc there.0, omega (arith, there.1), there.2)

-- with its states mapped below another number it is sound for that number
pub IsSound-redirected : (n m : ℕ) (f : ℕ → ℕ) (x : Instr) → IsSound n x → AllByRecursion (λ state. f state < m) (states_of x) → IsSound m (redirected f x)
IsSound-redirected n m f (Sense sight met unmet condition) sound below = (below.0, below.1.0, sound.2)
IsSound-redirected n m f (PickUp met unmet) sound below = (below.0, below.1.0)
IsSound-redirected n m f (Drop next) sound below = below.0
IsSound-redirected n m f (Turn side next) sound below = below.0
IsSound-redirected n m f (Move met unmet) sound below = (below.0, below.1.0)
IsSound-redirected n m f (Flip bound met unmet) sound below = (sound.0, below.0, below.1.0)
IsSound-redirected n m f it sound below = (sound.0, below.0)

-- the instruction of a state of a brain
pub instruction-sound : (brain : List Instr) (state : ℕ) → IsBrain brain → state < length brain → IsSound (length brain) (instruction_at brain state)
instruction-sound brain state is_brain below = is_brain.sound state (instruction_at brain state) (slice_get-get_or brain state (Drop 0) below)

-- names states of that brain
pub successors-below : (brain : List Instr) (state : ℕ) → IsBrain brain → state < length brain → AllByRecursion (λ next. next < length brain) (states_of (instruction_at brain state))
successors-below brain state is_brain below = states_of-below (length brain) (instruction_at brain state) (instruction-sound brain state is_brain below)
