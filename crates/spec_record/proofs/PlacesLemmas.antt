-- The place in the stream after turns and rounds.
use Rattle.std.proofs.Common.{◌≡◌, ℕ, zero, suc, ◌+◌, ap, arith}
use Rattle.cell_world.specs.Cell.{one_if}
use Rattle.ant_turn.specs.Minds.{Minds}
use Rattle.ant_turn.specs.Rounds.{Moment, after_round, after_rounds, after_turn, after_turns}
use Rattle.spec_record.specs.Guess.{flips}
use Rattle.spec_record.specs.Places.{flips_in_rounds, flips_in_turns}
use Rattle.spec_record.proofs.Flips.{turn-drew}

-- after one turn
after_turn-place : (minds : Minds) (seed : ℕ) (m : Moment) (t : ℕ) → (after_turn minds seed m t).place ≡ m.place + one_if (flips minds m.world t)
unfolding after_turn
after_turn-place minds seed m t = ap (λ b. m.place + one_if b) (turn-drew minds seed m.world m.place t)

-- after some turns
pub after_turns-place : (minds : Minds) (seed : ℕ) (m : Moment) (from n : ℕ) → (after_turns minds seed m from n).place ≡ m.place + flips_in_turns minds seed m from n
after_turns-place minds seed m from zero = omega arith
after_turns-place minds seed m from (suc n) =
    let before = after_turns-place minds seed m from n in
    let last = after_turn-place minds seed (after_turns minds seed m from n) (from + n) in
    omega (arith, before, last)

-- after one round
after_round-place : (minds : Minds) (seed : ℕ) (m : Moment) → (after_round minds seed m).place ≡ m.place + flips_in_turns minds seed m 0 m.world.ids
unfolding after_round
after_round-place minds seed m = after_turns-place minds seed m 0 m.world.ids

-- after some rounds
pub after_rounds-place : (minds : Minds) (seed : ℕ) (m : Moment) (r : ℕ) → (after_rounds minds seed m r).place ≡ m.place + flips_in_rounds minds seed m r
after_rounds-place minds seed m zero = omega arith
after_rounds-place minds seed m (suc r) =
    let before = after_rounds-place minds seed m r in
    let last = after_round-place minds seed (after_rounds minds seed m r) in
    omega (arith, before, last)
