-- A line of no player, for places after the end.
use Rattle.tournament.specs.declared.standing.Line.{Line}

abbrev pub blank : Line
blank = record { player = 0; points = 0; won = 0; drawn = 0; lost = 0; food_for = 0; food_against = 0 }
