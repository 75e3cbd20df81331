-- The food of a world and of the corpses to come, over turns and rounds.
use Rattle.std.proofs.Common.{◌≡◌, ℕ, zero, suc, ◌+◌, ◌*◌, length, refl, sym, ◌∙◌, ap, arith}
use Rattle.std.proofs.Math.Nat.{mul-add}
use Rattle.cell_world.specs.Score.{food_of}
use Rattle.cell_world.specs.Valid.{Valid}
use Rattle.cell_world.specs.World.{World}
use Rattle.ant_turn.specs.FoodLaws.{killed_in, living_of, world_after_turn}
use Rattle.ant_turn.specs.Keeps.{Keeps}
use Rattle.ant_turn.specs.Minds.{Minds, Fits, AreSound}
use Rattle.ant_turn.specs.Rounds.{Moment, after_turn, after_turns, after_round, after_rounds}
use Rattle.ant_turn.proofs.Sums.{turn-food, turn-living}
use Rattle.ant_turn.proofs.KeptByRounds.{Keeps-after_turns, Keeps-after_rounds}

-- the food of a world, and a corpse for each ant that is alive
abbrev food_to_come : Minds → World → ℕ
food_to_come minds w = food_of w + minds.sheet.corpse * living_of w

-- a turn keeps it
turn-food_to_come : (minds : Minds) (seed : ℕ) (w : World) (place t : ℕ) → Valid w → food_to_come minds (world_after_turn minds seed w place t) ≡ food_to_come minds w
turn-food_to_come minds seed w place t valid =
    let now : ℕ = living_of (world_after_turn minds seed w place t) in
    let dead : ℕ = length (killed_in minds seed w place t) in
    let food = turn-food minds seed w place t valid in
    let living : now + dead ≡ living_of w = turn-living minds seed w place t valid in
    let corpses : minds.sheet.corpse * living_of w ≡ minds.sheet.corpse * now + minds.sheet.corpse * dead = ap (λ n. minds.sheet.corpse * n) (sym living) ∙ mul-add minds.sheet.corpse now dead in
    omega (arith, food, corpses)

-- the turn of an id
after_turn-food : (minds : Minds) (seed : ℕ) (m : Moment) (t : ℕ) → Valid m.world → food_to_come minds (after_turn minds seed m t).world ≡ food_to_come minds m.world
unfolding after_turn
after_turn-food minds seed m t valid = turn-food_to_come minds seed m.world m.place t valid

-- turns keep it
after_turns-food : (minds : Minds) (seed : ℕ) (m : Moment) (from n : ℕ) → AreSound minds → Valid m.world → Fits m.world minds → food_to_come minds (after_turns minds seed m from n).world ≡ food_to_come minds m.world
after_turns-food minds seed m from zero sound valid fits = refl
after_turns-food minds seed m from (suc n) sound valid fits =
    let before : Keeps minds m.world (after_turns minds seed m from n).world = Keeps-after_turns minds seed m from n sound valid fits in
    after_turn-food minds seed (after_turns minds seed m from n) (from + n) before.valid ∙ after_turns-food minds seed m from n sound valid fits

-- a round keeps it
after_round-food : (minds : Minds) (seed : ℕ) (m : Moment) → AreSound minds → Valid m.world → Fits m.world minds → food_to_come minds (after_round minds seed m).world ≡ food_to_come minds m.world
unfolding after_round
after_round-food minds seed m sound valid fits = after_turns-food minds seed m 0 m.world.ids sound valid fits

-- rounds keep it
pub after_rounds-food : (minds : Minds) (seed : ℕ) (m : Moment) (r : ℕ) → AreSound minds → Valid m.world → Fits m.world minds → food_to_come minds (after_rounds minds seed m r).world ≡ food_to_come minds m.world
after_rounds-food minds seed m zero sound valid fits = refl
after_rounds-food minds seed m (suc r) sound valid fits =
    let before : Keeps minds m.world (after_rounds minds seed m r).world = Keeps-after_rounds minds seed m r sound valid fits in
    after_round-food minds seed (after_rounds minds seed m r) sound before.valid before.fits ∙ after_rounds-food minds seed m r sound valid fits
