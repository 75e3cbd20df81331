-- The turn of an ant that goes by addresses, and of the ant of the assembled brain.
use Rattle.std.proofs.Common.{◌≡◌, ◌≢◌, inl, inr, ℕ, zero, suc, Bool, true, false, List, [], ◌∷◌, Option, Some, None, refl, sym, ap, ◌∙◌}
use Rattle.std.specs.Prelude.{option_map, if◌then◌else◌, ◌||◌, ◌==◌}
use Rattle.std.proofs.lemmas.Bool.{cases_Bool, cond_both, eqb-true, eq-eqb, cond-true, cond-false, false_from_ne_true}
use Rattle.hex_geometry.specs.declared.position.Pos.{Pos}
use Rattle.hex_geometry.specs.Neighbourhood.{adjacent_pos, sensed_pos}
use Rattle.cell_world.specs.declared.ant.Ant.{Ant}
use Rattle.cell_world.specs.declared.ant.Colour.{Colour}
use Rattle.cell_world.specs.declared.ant.Colour.TheVariants.{Red, Black}
use Rattle.cell_world.specs.declared.cell.Cell.{Cell}
use Rattle.cell_world.specs.Colour.{same_colour}
use Rattle.cell_world.specs.World.{Cells, World, place_in}
use Rattle.brain_read.specs.declared.instr.Instr.{Instr}
use Rattle.ant_random.specs.Stream.{drawn}
use Rattle.ant_turn.specs.Conditions.{meets}
use Rattle.ant_turn.specs.Minds.{Minds, mind_of}
use Rattle.ant_turn.specs.Renumber.{redirected, renumbered_ant, renumbered_cells, renumbered_world, with_mind}
use Rattle.ant_turn.specs.Turn.{instruction_at, is_blocked, turn}
use Rattle.ant_turn.proofs.OtherAnts.{has_ant-mapped}
use Rattle.ant_turn.proofs.RenumberLemmas.{after, meets-renumbered}
use Rattle.ant_turn.proofs.RenumberedTurns.{redirected-self, turn-alike, with_mind-sheet}
use Rattle.ant_asm.specs.declared.action.Action.{Action}
use Rattle.ant_asm.specs.declared.action.Label.{Label}
use Rattle.ant_asm.specs.declared.action.Action.TheVariants.{Sense, PickUp, Move, Flip}
use Rattle.ant_asm.specs.Places.{Address, Placed}
use Rattle.ant_asm.specs.LabelGame.{address_acted, address_at, address_from, bare_instruction, instruction_by, label_taken, with_address}
use Rattle.ant_asm.proofs.NextStates.{state_taken}

-- the states of a side's ants are wiped out, and the other side's stay
abbrev pub wiped : Colour → Colour → ℕ → ℕ
wiped side own state = if same_colour side own then 0 else state

-- the instruction with states for labels, wiped
pub redirected-bare : (state : Label → ℕ) (instruction : Action Label) → redirected (λ n. 0) (instruction_by state instruction) ≡ bare_instruction instruction
redirected-bare state (Sense sight met unmet condition) = refl
redirected-bare state it = refl

-- the state of a choice of labels is the choice of their states
pub state-choice : (state : Label → ℕ) (b : Bool) (x y : Label) → (if b then state x else state y) ≡ state (if b then x else y)
state-choice state true x y = refl
state-choice state false x y = refl

-- the state that is taken is that of the label that is taken
pub state_taken-by : (state : Label → ℕ) (seed : ℕ) (cells : Cells) (place : ℕ) (p : Pos) (ant : Ant) (instruction : Action Label) →
    state_taken seed cells place p ant (instruction_by state instruction) ≡ state (label_taken seed cells place p ant instruction)
state_taken-by state seed cells place p ant (Sense sight met unmet condition) = state-choice state (meets (cells (sensed_pos p ant.facing sight)) condition ant.colour) met unmet
state_taken-by state seed cells place p ant (PickUp met unmet) = state-choice state (ant.laden || (cells p).food == 0) unmet met
state_taken-by state seed cells place p ant (Move met unmet) = state-choice state (is_blocked (cells (adjacent_pos p ant.facing))) unmet met
state_taken-by state seed cells place p ant (Flip bound met unmet) = state-choice state (drawn seed place bound == 0) met unmet
state_taken-by state seed cells place p ant it = refl

-- the addresses with one of another id
pub with_address-same : (addresses : ℕ → Address) (t : ℕ) (u : ℕ) → with_address addresses t (addresses t) u ≡ addresses u
with_address-same addresses t u = elim (cases_Bool (t == u)) [
  | inl one ↦ cond-true (t == u) (addresses t) (addresses u) one ∙ ap addresses (eqb-true t u one)
  | inr other ↦ cond-false (t == u) (addresses t) (addresses u) other
]

pub with_address-own : (addresses : ℕ → Address) (t : ℕ) (address : Address) → with_address addresses t address t ≡ address
with_address-own addresses t address = cond-true (t == t) address (addresses t) (eq-eqb t t refl)

pub with_address-other : (addresses : ℕ → Address) (t : ℕ) (address : Address) (u : ℕ) → t ≢ u → with_address addresses t address u ≡ addresses u
with_address-other addresses t address u apart = cond-false (t == u) address (addresses u) (false_from_ne_true (t == u) (λ one. apart (eqb-true t u one)))

-- no choice of a label depends on the states
module _ (f : Colour → ℕ → ℕ) where
  label_taken-states : (seed : ℕ) (cells : Cells) (place : ℕ) (p : Pos) (ant : Ant) (instruction : Action Label) →
      label_taken seed (renumbered_cells f cells) place p (renumbered_ant f ant) instruction ≡ label_taken seed cells place p ant instruction
  label_taken-states seed cells place p ant (Sense sight met unmet condition) =
      ap (λ (b : Bool). if b then met else unmet) (meets-renumbered f (cells (sensed_pos p ant.facing sight)) condition ant.colour)
  label_taken-states seed cells place p ant (Move met unmet) =
      let ahead : Cell = cells (adjacent_pos p ant.facing) in
      ap (λ (b : Bool). if ahead.rocky || b then unmet else met) (has_ant-mapped (λ other. f other.colour other.state) (λ other. other.resting) ahead.ant)
  label_taken-states seed cells place p ant instruction = refl

  address_acted-states : (n seed : ℕ) (cells : Cells) (place : ℕ) (p : Pos) (ant : Ant) (at : Placed) (address : Address) →
      address_acted n seed (renumbered_cells f cells) place p (renumbered_ant f ant) at address ≡ address_acted n seed cells place p ant at address
  address_acted-states zero seed cells place p ant at address = ap at.target (label_taken-states seed cells place p ant at.action)
  address_acted-states (suc left) seed cells place p ant at address = refl

  address_at-states : (side : Colour) (seed : ℕ) (cells : Cells) (place : ℕ) (p : Pos) (o : Option Ant) (at : Placed) (address : Address) →
      address_at side seed (renumbered_cells f cells) place p (option_map (renumbered_ant f) o) at address ≡ address_at side seed cells place p o at address
  address_at-states side seed cells place p None at address = refl
  address_at-states side seed cells place p (Some ant) at address =
      ap (λ (a : Address). if same_colour side ant.colour then a else address) (address_acted-states ant.resting seed cells place p ant at address)

  pub address_from-states : (side : Colour) (seed : ℕ) (cells : Cells) (place : ℕ) (o : Option Pos) (at : Placed) (address : Address) →
      address_from side seed (renumbered_cells f cells) place o at address ≡ address_from side seed cells place o at address
  address_from-states side seed cells place None at address = refl
  address_from-states side seed cells place (Some p) at address = address_at-states side seed cells place p (cells p).ant at address

-- after a turn an ant's address is unchanged, or it is one to which a label leads
module _ (P : Address → Type 0) (side : Colour) (seed : ℕ) (cells : Cells) (place : ℕ) (at : Placed) (address : Address) (stood : P address) (leads : (label : Label) → P (at.target label)) where
  address_acted-has : (n : ℕ) (p : Pos) (ant : Ant) → P (address_acted n seed cells place p ant at address)
  address_acted-has zero p ant = leads (label_taken seed cells place p ant at.action)
  address_acted-has (suc left) p ant = stood

  address_at-has : (p : Pos) (o : Option Ant) → P (address_at side seed cells place p o at address)
  address_at-has p None = stood
  address_at-has p (Some ant) = cond_both (same_colour side ant.colour) _ _ P (λ _. address_acted-has ant.resting p ant) (λ _. stood)

  pub address_from-has : (o : Option Pos) → P (address_from side seed cells place o at address)
  address_from-has None = stood
  address_from-has (Some p) = address_at-has p (cells p).ant

-- the addresses after one was changed have a fact, if all had it and the new one has it
pub with_address-has : (P : Address → Type 0) (addresses : ℕ → Address) (t : ℕ) (address : Address) → ((u : ℕ) → P (addresses u)) → P address → (u : ℕ) → P (with_address addresses t address u)
with_address-has P addresses t address all new u = cond_both (t == u) address (addresses u) P (λ _. new) (λ _. all u)

-- the instruction that the ant executes is that of its address
pub agrees_side : (minds : Minds) (brain : List Instr) (bare : Instr) (side own : Colour) (state : ℕ) → (own ≡ side → redirected (λ n. 0) (instruction_at brain state) ≡ bare) →
    instruction_at (mind_of (with_mind minds side (bare ∷ [])) own) (wiped side own state) ≡ redirected (wiped side own) (instruction_at (mind_of (with_mind minds side brain) own) state)
agrees_side minds brain bare Red Black state same = sym (redirected-self (instruction_at minds.black state))
agrees_side minds brain bare Black Red state same = sym (redirected-self (instruction_at minds.red state))
agrees_side minds brain bare it that state same = sym (same refl)

-- a turn of minds with another brain of a side
pub turn-side : (minds : Minds) (brain other : List Instr) (side : Colour) (seed : ℕ) (w : World) (place t : ℕ) →
    ((p : Pos) (ant : Ant) → place_in w t ≡ Some p → (w.cells p).ant ≡ Some ant →
    instruction_at (mind_of (with_mind minds side other) ant.colour) (wiped side ant.colour ant.state) ≡ redirected (wiped side ant.colour) (instruction_at (mind_of (with_mind minds side brain) ant.colour) ant.state)) →
    turn (with_mind minds side other) seed (renumbered_world (wiped side) w) place t ≡ after (wiped side) (turn (with_mind minds side brain) seed w place t)
turn-side minds brain other side seed w place t agree =
    turn-alike (wiped side) (with_mind minds side brain) (with_mind minds side other) (with_mind-sheet minds side other ∙ sym (with_mind-sheet minds side brain)) seed w place t agree

-- the brain of the side
pub mind_of-side : (minds : Minds) (brain : List Instr) (side own : Colour) → own ≡ side → mind_of (with_mind minds side brain) own ≡ brain
mind_of-side minds brain Red Black same = absurd (cc)
mind_of-side minds brain Black Red same = absurd (cc)
mind_of-side minds brain it that same = refl

pub same_colour-side : (side own : Colour) → own ≡ side → same_colour side own ≡ true
same_colour-side Red Black same = absurd (cc)
same_colour-side Black Red same = absurd (cc)
same_colour-side it that same = refl

-- a choice between two equal values is that value
pub cond-one : {A : Type 0} (b : Bool) (x : A) → (if b then x else x) ≡ x
cond-one true x = refl
cond-one false x = refl
