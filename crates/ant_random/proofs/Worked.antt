-- The stream of seed 12345, worked out: the task's own numbers.
use Rattle.std.proofs.Common.{◌≡◌, ℕ, ◌%◌, ◌^◌, [], ◌∷◌, map, refl}
use Rattle.ant_random.specs.Stream.{state_at, random_at, drawn}

-- the first four states after the seed, modulo 2 ^ 30; the first number is read off the fourth
pub first_states : map (λ (i : ℕ). state_at 12345 i % 2 ^ 30) (1 ∷ 2 ∷ 3 ∷ 4 ∷ []) ≡ 1002789326 ∷ 564419495 ∷ 715774868 ∷ 471436709 ∷ []
unfolding state_at
first_states = refl

-- the first ten random numbers
pub first_numbers : map (random_at 12345) (0 ∷ 1 ∷ 2 ∷ 3 ∷ 4 ∷ 5 ∷ 6 ∷ 7 ∷ 8 ∷ 9 ∷ [])
    ≡ 7193 ∷ 2932 ∷ 10386 ∷ 5575 ∷ 100 ∷ 15976 ∷ 430 ∷ 9740 ∷ 9449 ∷ 1636 ∷ []
unfolding state_at random_at
first_numbers = refl

-- draws below 6 and below 1 at place 1
pub draws_at_1 : map (drawn 12345 1) (6 ∷ 1 ∷ []) ≡ 4 ∷ 0 ∷ []
unfolding state_at random_at drawn
draws_at_1 = refl

-- the first random numbers of two seeds of more than 16 bits, the second of which is the greatest of 32
pub greater_seeds : map (λ (seed : ℕ). random_at seed 0) (65536 ∷ 4294967295 ∷ []) ≡ 10519 ∷ 4490 ∷ []
unfolding state_at random_at
greater_seeds = refl
