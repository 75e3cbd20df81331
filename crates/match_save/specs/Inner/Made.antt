-- A save by its parts.
use Rattle.std.specs.Prelude.{◌*◌, List}
use Rattle.brain_read.specs.declared.instr.Instr.{Instr}
use Rattle.cell_world.specs.Grid.{Grid}
use Rattle.match_save.specs.declared.head.Head.{Head}
use Rattle.match_save.specs.Saved.{SavedValue}

-- the save of these numbers, brains and world
abbrev pub made_saved : Head → List Instr → List Instr → Grid → SavedValue
made_saved head red black world = record {
  seed = head.seed;
  window = head.window;
  round = head.round;
  place = head.place;
  totals = record { turns = world.ids * head.round; taken = head.taken; redone = head.redone };
  minds = record {
    red = red;
    black = black;
    sheet = record { surround = head.surround; corpse = head.corpse; rest = head.rest };
  };
  world = world;
}
