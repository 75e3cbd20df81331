use Rattle.match_run.proofs.WatchLemmas.{nobody-fair}
use Rattle.match_run.proofs.game_alone.GameAlone.round.Goals as goal

pub watch_round-watched-requires-clause-fair : goal.watch_round-watched-requires-clause-fair
watch_round-watched-requires-clause-fair c = λ seed. nobody-fair
