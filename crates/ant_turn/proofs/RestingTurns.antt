-- What a turn does where other ants rest for longer or shorter: nothing in it asks how long another ant rests.
use Rattle.std.proofs.Common.{◌≡◌, ℕ, refl, sym, ap, ◌∙◌}
use Rattle.cell_world.specs.declared.ant.Ant.{Ant}
use Rattle.cell_world.specs.Resting.{rests_in, with_rests}
use Rattle.cell_world.specs.World.{World}
use Rattle.ant_turn.specs.Minds.{Minds, mind_of}
use Rattle.ant_turn.specs.Rounds.{Moment, after_turn, moment_after}
use Rattle.ant_turn.specs.Turn.{Outcome, instruction_at, turn}
use Rattle.ant_turn.proofs.OtherAnts.{turn-mapped}
use Rattle.ant_turn.proofs.RenumberedTurns.{redirected-self}

-- the ant of t rests as long as before
module _ (f : ℕ → ℕ → ℕ) (t : ℕ) (own : (n : ℕ) → f t n ≡ n) where
  -- what a turn made, with these counts
  abbrev pub outcome-with_rests : Outcome → Outcome
  outcome-with_rests outcome = record outcome { cells = rests_in f outcome.cells }

  -- its turn does the same, whatever the counts of the others
  pub turn-with_rests : (minds : Minds) (seed : ℕ) (w : World) (place : ℕ) → turn minds seed (with_rests f w) place t ≡ outcome-with_rests (turn minds seed w place t)
  turn-with_rests minds seed w place =
      turn-mapped (λ (ant : Ant). ant.state) (λ (ant : Ant). f ant.id ant.resting) t (λ colour state. state)
      (λ ant same. ap (λ n. record ant { resting = n }) (ap (λ i. f i ant.resting) same ∙ own ant.resting))
      minds minds refl seed w place (λ p ant found is. sym (redirected-self (instruction_at (mind_of minds ant.colour) ant.state)))

  -- so does its turn at a moment
  pub after_turn-with_rests : (minds : Minds) (seed : ℕ) (m : Moment) → after_turn minds seed (record m { world = with_rests f m.world }) t ≡ record (after_turn minds seed m t) { world = with_rests f (after_turn minds seed m t).world }
  unfolding after_turn
  after_turn-with_rests minds seed m = ap (moment_after (record m { world = with_rests f m.world })) (turn-with_rests minds seed m.world m.place)
