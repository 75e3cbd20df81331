-- How many elements may be left, so that their numbers can be counted.
use Rattle.std.specs.Prelude.{◌+◌, ◌^◌, ◌<◌, length}
use Rattle.match_save.specs.Inner.Readers.{Left}

-- few lines are left
abbrev pub AreFewLines : {E : Type 0} → Left E → Type 0
AreFewLines left = left.number + length left.items < 2 ^ 32

-- few tokens are left
abbrev pub AreFewTokens : {E : Type 0} → Left E → Type 0
AreFewTokens left = left.number + length left.items < 2 ^ 64
