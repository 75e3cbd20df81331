use Rattle.ant_turn.proofs.FitLemmas.{Fits-opening}
use Rattle.ants_c.proofs.ants_score.Goals as goal

-- all brains fit a world at the start of a game
pub score_of_game-requires-clause-fit : goal.score_of_game-requires-clause-fit
score_of_game-requires-clause-fit c =
    let start = c.in-Ok.ensures.setting.opening in
    rw start.is (Fits-opening _ _ start.kinds _ (rw (← c.red.view_is) c.red.invariant.some) (rw (← c.black.view_is) c.black.invariant.some))
