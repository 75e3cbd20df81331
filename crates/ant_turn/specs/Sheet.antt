-- The numbers of the rules (the task's martial arts and kinetics).
use Rattle.std.specs.Prelude.{ℕ}
use Rattle.ant_turn.specs.declared.sheet.Sheet.{Sheet as GivenSheet}

-- how many foes are needed to surround an ant, how much food a killed ant leaves, and how many turns an ant rests after
-- a Move
pub record Sheet : Type 0 where
  pub surround : ℕ
  pub corpse : ℕ
  pub rest : ℕ

-- the contest's numbers
abbrev pub contest : Sheet
contest = record { surround = 5; corpse = 3; rest = 14 }

-- the numbers of a given sheet
abbrev pub sheet_of : GivenSheet → Sheet
sheet_of given = record { surround = given.surround; corpse = given.corpse; rest = given.rest }
