-- the rounds so far have their scores and their ants, and the game is after the last of them
use Rattle.ants_c.proofs.Looks.{AreLaid, Looking}
use Rattle.ants_c.proofs.look.put_looks.Given as goal

abbrev pub invariant-loop-index : goal.invariant-loop-index
invariant-loop-index l =
    Looking l.fn.setting.world l.fn.setting.red l.fn.setting.black l.fn.seed l.fn.rounds l.index l.game
    × AreLaid l.fn.setting.world l.fn.setting.red l.fn.setting.black l.fn.seed l.fn.rounds l.index l.fn.scores l.scores l.fn.ants l.ants
