-- What is seen of an ant, and which rounds are looked at, worked out.
use Rattle.std.proofs.Common.{◌≡◌, true, [], ◌∷◌, Some, None, refl, arith}
use Rattle.cell_world.specs.declared.ant.Colour.TheVariants.{Black}
use Rattle.cell_world.specs.World.{Cells}
use Rattle.hex_geometry.specs.declared.direction.Dir.TheVariants.{SouthWest}
use Rattle.ants_c.specs.Looked.{AreRising, seen_at, seen_from}

-- a black ant on (4, 2) that carries food southwest, and rests
laden_seen : seen_at (record { x = 4; y = 2 }) (Some (record { id = 3; colour = Black; state = 7; resting = 14; facing = SouthWest; laden = true }))
    ≡ record { state = 7; resting = 14; column = 4; row = 2; alive = 1; colour = 1; direction = 2; laden = 1 }
laden_seen = refl

-- one that is dead
dead_seen : (cells : Cells) → seen_from cells None ≡ record { state = 0; resting = 0; column = 0; row = 0; alive = 0; colour = 0; direction = 0; laden = 0 }
dead_seen cells = refl

-- the start and the last round are looked at; none twice, and none beyond the last
all_rise : AreRising 0 (0 ∷ 5 ∷ 1000000 ∷ [])
all_rise = (omega arith, omega arith, (omega arith, omega arith, (omega arith, omega arith, tt)))

never_twice : AreRising 0 (5 ∷ 5 ∷ []) → ⊥
never_twice rising = let twice = rising.2.0 in omega (arith, twice)

never_beyond : AreRising 0 (1000001 ∷ []) → ⊥
never_beyond rising = let beyond = rising.1 in omega (arith, beyond)
