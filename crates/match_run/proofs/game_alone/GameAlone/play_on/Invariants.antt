use Rattle.match_run.specs.Alone.{IsPlayedOn}
use Rattle.match_run.proofs.game_alone.GameAlone.play_on.Given as goal

-- these rounds are played
abbrev pub invariant-loop : goal.invariant-loop
invariant-loop l = IsPlayedOn l.initial.self l.self l.counter
