-- What the callers are said to play, worked out.
use Rattle.std.proofs.Common.{◌≡◌, refl}
use Rattle.sample_caller.specs.Played.{sample_seed}

-- the seed of each game
seed_told : sample_seed ≡ 12345
seed_told = refl
