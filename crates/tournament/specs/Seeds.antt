-- Cups whose games are played with several seeds (this project's own).
use Rattle.std.specs.Prelude.{ℕ, ◌+◌, ◌/◌, ◌%◌, ◌^◌}
use Rattle.tournament.specs.declared.format.Seeds.{Seeds}

-- Each pair of a world and a seed counts as a world, world by world, and within a world seed by seed. So number n is
-- this world with this seed.
abbrev pub world_at : Seeds → ℕ → ℕ
world_at seeds n = n / seeds.count

-- the seed of number n; 0 follows 4,294,967,295
abbrev pub seed_at : Seeds → ℕ → ℕ
seed_at seeds n = (seeds.first + n % seeds.count) % 2 ^ 32
