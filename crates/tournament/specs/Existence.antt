-- A law beside those that say what a standing is: there is one.
use Rattle.std.specs.Prelude.{ℕ, Bool, List}
use Rattle.cell_world.specs.declared.score.Score.{Score}
use Rattle.tournament.specs.Standing.{IsStandingOf}
use Rattle.tournament.specs.declared.standing.Line.{Line}

-- each cup has a standing, whatever its scores
abbrev pub HasStanding : Type 0
HasStanding =
    (gauntlet : Bool) (players worlds : ℕ) (score : ℕ → ℕ → ℕ → Score)
    → (lines : List Line) × IsStandingOf gauntlet players worlds score lines
