-- Affine steps of 32 bits, by which the code goes through the stream.
use Rattle.std.specs.Prelude.{ℕ, ◌+◌, ◌*◌, ◌%◌, ◌^◌}
use Rattle.ant_random.specs.declared.jump.Jump.{Jump}

-- the state one place later, keeping 32 bits of each (number generation)
unfoldable pub next_state : ℕ → ℕ
next_state state = (state * 22695477 + 1) % 2 ^ 32

-- the state after a jump from this one
unfoldable pub landed : Jump → ℕ → ℕ
landed jump state = (state * jump.times + jump.plus) % 2 ^ 32
