-- What the private functions that plan a game ensure.
use Rattle.std.specs.Prelude.{◌≡◌, ℕ, ◌≤◌, List, Option, Some, None, Result, Ok, Err}
use Rattle.ant_turn.specs.Minds.{Minds}
use Rattle.ant_turn.specs.Sheet.{sheet_of}
use Rattle.ant_turn.specs.declared.sheet.Sheet.{Sheet as SheetNumbers}
use Rattle.ant_commands.specs.Setups.{RunSetup}
use Rattle.cell_world.specs.Grid.{Grid, world_of}
use Rattle.ant_base.specs.declared.push_fault.PushFault.{PushFault}
use Rattle.ant_base.specs.declared.push_fault.PushFault.TheVariants as push
use Rattle.match_run.specs.declared.plan.Plan.{Plan}
use Rattle.match_run.specs.Counts.{whole_text}
use Rattle.match_run.specs.Dumps.{chooses}
use Rattle.match_run.specs.Run.{most_rounds}
use Rattle.world_gen.specs.declared.shape.Shape.{Shape}
use Rattle.world_gen.specs.Generated.{IsGenerated}
use Rattle.world_gen.specs.Placing.{HasNoRoom}
use Rattle.ant_commands.specs.declared.commands.run.PlannedGame.{PlannedGame}
use Rattle.ant_commands.specs.declared.commands.game.Setting.{Setting}
use Rattle.ant_commands.specs.declared.commands.same.Pair.{Pair}
use Rattle.ant_commands.specs.declared.stop.CommandStop.{CommandStop}
use Rattle.ant_commands.specs.declared.stop.CommandStop.TheVariants as stop
use Rattle.ant_commands.specs.Files.{FileContent}
use Rattle.ant_commands.specs.Outputs.{ReadGame, ReadPair, chosen_rounds, game_contents, sheet_named}
use Rattle.ant_commands.specs.FaultLines.{Reason, reason_of}

-- the sheet and the plan are those of the words
pub record Plans (setup : RunSetup) (game : PlannedGame) : Type 0 where
  pub sheet_is : sheet_of game.sheet ≡ sheet_named setup
  pub seed_is : game.plan.seed ≡ setup.seed
  pub rounds_are : game.plan.rounds ≡ setup.rounds
  pub dumps_are : chooses game.plan.dumps ≡ chosen_rounds setup.dumps
  pub window_is : game.plan.window ≡ setup.window
  pub stats_are : game.plan.stats ≡ setup.stats

-- a plan that can be played: its rounds are no more than a game has, and its windows have turns
pub record CanPlay (plan : Plan) : Type 0 where
  pub few : plan.rounds ≤ most_rounds
  pub sized : 1 ≤ plan.window

-- why a command stopped that didn't push the whole text of a game or a cup
abbrev pub stop_of : PushFault → CommandStop
stop_of push.WriteFault = stop.Write
stop_of push.OutOfMemory = stop.Memory

-- why a command stopped, if it did; the last thing that it does is to push the text of a game or a cup
abbrev pub play_ending : {A : Type 0} → Result A PushFault → Option Reason
play_ending (Ok done) = None
play_ending (Err fault) = Some (reason_of (stop_of fault))

-- a game was planned, or memory ran out
abbrev pub IsPlanned : RunSetup → Result PlannedGame CommandStop → Type 0
IsPlanned setup (Ok game) = Plans setup game
IsPlanned setup (Err reason) = reason ≡ stop.Memory

-- a world was generated; or an element has no room, or memory ran out
abbrev pub IsGenerating : ℕ → Shape → Result Grid CommandStop → Type 0
IsGenerating seed shape (Ok world) = IsGenerated seed shape world
IsGenerating seed shape (Err (stop.NoRoom element)) = HasNoRoom seed shape element
IsGenerating seed shape (Err stop.Memory) = Unit {0}
IsGenerating seed shape (Err other) = ⊥

-- the content of the files of two brains
abbrev pub pair_read : Pair → ReadPair
pair_read pair = record { first = pair.first; second = pair.second }

-- the brains of a game that were read, and this sheet
abbrev pub minds_by : Setting → SheetNumbers → Minds
minds_by setting sheet = record { red = setting.red; black = setting.black; sheet = sheet_of sheet }

-- the content of the files of a game
abbrev pub game_read : Setting → ReadGame
game_read setting = record { world = setting.world; red = setting.red; black = setting.black }

abbrev pub setting_contents : Setting → List FileContent
setting_contents setting = game_contents (game_read setting)

-- the brains of a game that were read, and the numbers of its rules
abbrev pub minds_in : Setting → PlannedGame → Minds
minds_in setting game = record { red = setting.red; black = setting.black; sheet = sheet_of game.sheet }

-- the text of a game by its plan
abbrev pub text_in : Setting → PlannedGame → List ℕ
text_in setting game =
    whole_text (minds_in setting game) game.plan.seed game.plan.rounds
    (chooses game.plan.dumps) game.plan.window game.plan.stats (world_of setting.world)
