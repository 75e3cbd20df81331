-- A saved game that is played alone (this project's own).
use Rattle.match_run.specs.Alone.{GameAloneValue}
use Rattle.match_save.specs.Saved.{SavedValue}

-- the game of a save, at the end of its last round
abbrev pub game_alone_of : SavedValue → GameAloneValue
game_alone_of s = record { world = s.world; minds = s.minds; seed = s.seed; place = s.place; done = s.round }
