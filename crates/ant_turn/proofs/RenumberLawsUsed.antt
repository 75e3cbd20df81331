-- Each law of renumbering, used where state 0 becomes state 1: a weaker law would not do.
use Rattle.std.proofs.Common.{◌≡◌, ℕ, zero, suc, ◌<◌, List, [], ◌∷◌, Some, None, refl, sym, ap, subst, arith}
use Rattle.std.proofs.lemmas.Option.{same_Some}
use Rattle.std.specs.List.{AllByRecursion}
use Rattle.std.specs.Prelude.{IsSome}
use Rattle.hex_geometry.specs.declared.position.Pos.{Pos}
use Rattle.cell_world.specs.declared.ant.Ant.{Ant}
use Rattle.cell_world.specs.declared.ant.Colour.TheVariants.{Red}
use Rattle.cell_world.proofs.OpeningLaws.{opening-new}
use Rattle.cell_world.proofs.OpeningWorked.{three_hills}
use Rattle.brain_read.specs.Grammar.{states_of}
use Rattle.brain_read.specs.declared.instr.Instr.{Instr}
use Rattle.brain_read.specs.declared.instr.Instr.TheVariants.{Drop, Move}
use Rattle.ant_turn.specs.Minds.{contest_minds}
use Rattle.ant_turn.specs.Renumber.{AreNumbered, Carries, Numbers, redirected, renumbered, renumbered_cells, renumbered_moment, side_states, state_number}
use Rattle.ant_turn.specs.RenumberLaws.{RoundsRenumber, TurnsRenumber}
use Rattle.ant_turn.specs.Rounds.{after_rounds, start_of}
use Rattle.ant_turn.specs.Turn.{instruction_at, turn}
use Rattle.ant_turn.proofs.LawsUsed.{start}

-- state 0 gets number 1, and no other state a number
abbrev onward : Numbers
onward zero = Some 1
onward (suc state) = None

-- a brain that drops for ever, and one that does so from state 1 on
abbrev old_brain : List Instr
old_brain = Drop 0 ∷ []

abbrev new_brain : List Instr
new_brain = Move 0 0 ∷ Drop 1 ∷ []

carries : Carries onward old_brain new_brain
carries = record { inside = inside; acts = acts; onward = successors } where
  inside : (state number : ℕ) → onward state ≡ Some number → (state < 1) × (number < 2)
  inside zero number is = let one : 1 ≡ number = same_Some 1 number is in (omega arith, omega arith)
  inside (suc state) number is = let never : None ≡ Some number = is in absurd (cc)

  acts : (state number : ℕ) → onward state ≡ Some number → instruction_at new_brain number ≡ redirected (state_number onward) (instruction_at old_brain state)
  acts zero number is = subst (λ n. instruction_at new_brain n ≡ Drop 1) (same_Some 1 number is) refl
  acts (suc state) number is = let never : None ≡ Some number = is in absurd (cc)

  successors : (state number : ℕ) → onward state ≡ Some number → AllByRecursion (λ next. IsSome (onward next)) (states_of (instruction_at old_brain state))
  successors zero number is = (refl, tt)
  successors (suc state) number is = let never : None ≡ Some number = is in absurd (cc)

numbered : AreNumbered onward Red start
numbered = record {
  each = λ p ant is red.
      let new : ant.state ≡ 0 = ap (λ (a : Ant). a.state) (opening-new 5 3 three_hills p ant is) in
      subst (λ state. IsSome (onward state)) (sym new) refl;
}

-- the turn of ant 0: with the new brain and from the new state, what it does with the old brain and from the old one
pub turns_renumber_used : TurnsRenumber → (black : List Instr) (seed : ℕ) →
    (turn (contest_minds (Move 0 0 ∷ Drop 1 ∷ []) black) seed (renumbered onward Red start) 0 0
    ≡ record (turn (contest_minds (Drop 0 ∷ []) black) seed start 0 0) {
      cells = λ p. renumbered_cells (side_states onward Red) (turn (contest_minds (Drop 0 ∷ []) black) seed start 0 0).cells p;
    })
    × ((p : Pos) (ant : Ant) → ((turn (contest_minds (Drop 0 ∷ []) black) seed start 0 0).cells p).ant ≡ Some ant → ant.colour ≡ Red → IsSome (onward ant.state))
turns_renumber_used law black seed = (
  law.commutes onward Red (contest_minds old_brain black) new_brain seed start 0 0 carries numbered,
  (law.keeps onward Red (contest_minds old_brain black) new_brain seed start 0 0 carries numbered).each,
)

-- two rounds
pub rounds_renumber_used : RoundsRenumber → (black : List Instr) (seed : ℕ) →
    (after_rounds (contest_minds (Move 0 0 ∷ Drop 1 ∷ []) black) seed (start_of (renumbered onward Red start)) 2
    ≡ renumbered_moment onward Red (after_rounds (contest_minds (Drop 0 ∷ []) black) seed (start_of start) 2))
    × ((p : Pos) (ant : Ant) → ((after_rounds (contest_minds (Drop 0 ∷ []) black) seed (start_of start) 2).world.cells p).ant ≡ Some ant → ant.colour ≡ Red → IsSome (onward ant.state))
rounds_renumber_used law black seed = (
  law.commutes onward Red (contest_minds old_brain black) new_brain seed (start_of start) 2 carries numbered,
  (law.keeps onward Red (contest_minds old_brain black) new_brain seed (start_of start) 2 carries numbered).each,
)
