-- An assembled program is a brain.
use Rattle.std.proofs.Common.{◌≡◌, ℕ, zero, suc, ◌<◌, ◌≤◌, List, [], ◌∷◌, length, Option, Some, None, refl, sym, ◌∙◌, subst, arith}
use Rattle.std.specs.Prelude.{slice_get}
use Rattle.std.proofs.lemmas.Option.{same_Some, slice_get_within}
use Rattle.brain_read.specs.declared.instr.Instr.{Instr}
use Rattle.brain_read.specs.Forms.{IsInRange}
use Rattle.brain_read.specs.Soundness.{IsBrain, IsSound, most_states}
use Rattle.ant_asm.specs.declared.action.Action.{Action}
use Rattle.ant_asm.specs.declared.action.Action.TheVariants.{Sense, Mark, Unmark, PickUp, Drop, Turn, Move, Flip}
use Rattle.ant_asm.specs.declared.action.Label.{Label}
use Rattle.ant_asm.specs.Program.{Items, from_place}
use Rattle.ant_asm.specs.Program.Items.{End, Do, Use}
use Rattle.ant_asm.specs.Places.{Address, Frame, Placed, inner, main_frame, placed, placed_at, placed_from, placed_or_first, places}
use Rattle.ant_asm.specs.LabelGame.{bare_instruction, instruction_by}
use Rattle.ant_asm.specs.Assembled.{IsAssembled, number_in}
use Rattle.ant_asm.specs.Inner.Ranged.{AreRanged}
use Rattle.ant_asm.proofs.Addresses.{HoldsIn-all, beginning-place, number_in-found, placed-leads}

-- the items from a place on
ranged-from : (k : ℕ) (items : Items) → AreRanged items → AreRanged (from_place k items)
ranged-from zero items ranged = ranged
ranged-from (suc k) End ranged = tt
ranged-from (suc k) (Do action others) ranged = ranged-from k others ranged.1
ranged-from (suc k) (Use handed block others) ranged = ranged-from k others ranged.1

-- the instruction that an address leads to
abbrev IsRangedPlaced : Option Placed → Type 0
IsRangedPlaced None = Unit {0}
IsRangedPlaced (Some at) = IsInRange (bare_instruction at.action)

placed_from-ranged : (address : Address) (body : Items) (frame : Frame) (k : ℕ) (items : Items) → AreRanged items → IsRangedPlaced (placed_from address body frame k items)
placed_from-ranged [] body frame k (Do action others) ranged = ranged.0
placed_from-ranged (j ∷ address) body frame k (Use handed block others) ranged = placed_from-ranged address block (inner body frame k handed) j (from_place j block) (ranged-from j block ranged.0)
placed_from-ranged it body frame k that ranged = tt

placed_at-ranged : (main : Items) (address : Address) → AreRanged main → IsRangedPlaced (placed_at main address)
placed_at-ranged main [] ranged = tt
placed_at-ranged main (k ∷ address) ranged = placed_from-ranged address main (main_frame main) k (from_place k main) (ranged-from k main ranged)

or_first-ranged : (main : Items) (o : Option Placed) → IsRangedPlaced o → IsInRange (bare_instruction (placed_or_first main o).action)
or_first-ranged main None ranged = tt
or_first-ranged main (Some at) ranged = ranged

placed-ranged : (main : Items) (address : Address) → AreRanged main → IsInRange (bare_instruction (placed main address).action)
unfolding placed
placed-ranged main address ranged = or_first-ranged main (placed_at main address) (placed_at-ranged main address ranged)

-- an instruction whose numbers are in their ranges is sound if its states are below the length
sound-below : (n : ℕ) (state : Label → ℕ) (action : Action Label) → ((label : Label) → state label < n) → IsInRange (bare_instruction action) → IsSound n (instruction_by state action)
sound-below n state (Sense sight met unmet condition) below range = (below met, below unmet, range)
sound-below n state (Mark i on) below range = (range, below on)
sound-below n state (Unmark i on) below range = (range, below on)
sound-below n state (PickUp met unmet) below range = (below met, below unmet)
sound-below n state (Drop on) below range = below on
sound-below n state (Turn side on) below range = below on
sound-below n state (Move met unmet) below range = (below met, below unmet)
sound-below n state (Flip bound met unmet) below range = (range.0, below met, below unmet)

-- there is an element at each place of a list
pub element : {A : Type 0} (list : List A) (i : ℕ) → i < length list → (x : A) × (slice_get list i ≡ Some x)
element [] i inside = absurd (omega arith)
element (x ∷ list) zero inside = (x, refl)
element (x ∷ list) (suc i) inside = element list i (omega (arith, inside))

module _ (main : Items) (brain : List Instr) (list : List Address) (assembled : IsAssembled main brain list) where
  -- the program has a place
  pub some_places : 1 ≤ length (places main)
  some_places = subst (λ (l : List Address). 1 ≤ length l) assembled.places assembled.some

  -- the number of a label's target is below the length
  target-below : (address : Address) (label : Label) → number_in list ((placed main address).target label) < length list
  target-below address label =
      let target : Address = (placed main address).target label in
      let there : slice_get (places main) (number_in (places main) target) ≡ Some target =
      placed-leads (λ a. slice_get (places main) (number_in (places main) a) ≡ Some a) main
      (HoldsIn-all (λ a. slice_get (places main) (number_in (places main) a) ≡ Some a) main [] 0 (λ a among. number_in-found (places main) a among)) (beginning-place main some_places) address label in
      subst (λ (l : List Address). number_in l target < length l) (sym assembled.places) (slice_get_within (places main) (number_in (places main) target) target there)

  pub assembled-brain : AreRanged main → length brain ≤ most_states → IsBrain brain
  assembled-brain ranged few = record {
    some = (let all = assembled.as_many in let one = assembled.some in omega (arith, all, one));
    few = few;
    sound = λ i instruction at.
        let inside : i < length list = (let within = slice_get_within brain i instruction at in let all = assembled.as_many in omega (arith, within, all)) in
        let there : (address : Address) × (slice_get list i ≡ Some address) = element list i inside in
        let is = same_Some _ _ (sym (assembled.each i there.0 there.1) ∙ at) in
        subst (IsSound (length brain)) is
        (subst (λ (n : ℕ). IsSound n (instruction_by (λ label. number_in list ((placed main there.0).target label)) (placed main there.0).action)) (sym assembled.as_many)
        (sound-below (length list) (λ label. number_in list ((placed main there.0).target label)) (placed main there.0).action (target-below there.0) (placed-ranged main there.0 ranged)));
  }
