-- Which rounds are dumped (this project's own).
use Rattle.std.specs.Prelude.{ℕ, Bool, true, false, List, nat_eq}
use Rattle.std.specs.List.{list_any}
use Rattle.match_run.specs.declared.dumps.Dumps.{Dumps}
use Rattle.match_run.specs.declared.dumps.Dumps.TheVariants.{Nothing, All, Chosen}

-- whether a round is in a list
abbrev pub has_round : List ℕ → ℕ → Bool
has_round rounds round = list_any (λ other. nat_eq other round) rounds

-- whether the world after a round is dumped
abbrev pub chooses : Dumps → ℕ → Bool
chooses Nothing round = false
chooses All round = true
chooses (Chosen rounds) round = has_round rounds.numbers round
