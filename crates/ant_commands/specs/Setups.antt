-- The settings that a command's options give, as its own record, and the limits of its numbers.
use Rattle.std.specs.Prelude.{ℕ, Bool, false, if◌then◌else◌, List, Option, Some, None}
use Rattle.ant_turn.specs.Sheet.{sheet_of}
use Rattle.command_words.specs.Command.{AreWithin, PlainAsked}
use Rattle.command_words.specs.Limits.{IsWithin}
use Rattle.command_words.specs.Slots.{AreNames, DumpChoice}
use Rattle.command_words.specs.Slots.DumpChoice.{NoDump}
use Rattle.command_words.specs.Table.{HasFile, HasNumberOption}
use Rattle.command_words.specs.Words.{plain_dumps}
use Rattle.command_words.specs.declared.limits.NumberKind.TheVariants.{SeedNumber, RoundCount, WorkerCount, WindowSize, FoeCount, CorpseFood, RestRounds, SideLength, ElementCount, SeedCount}
use Rattle.command_words.specs.declared.table.CommandKind.{CommandKind}
use Rattle.command_words.specs.declared.table.Choice.TheVariants.{Seed, Seeds, Rounds, Workers, Window, Surround, Corpse, Rest, Stats, Far, Width, Height, Rocks, Blobs, From, Ant, Leads, Gauntlet}
use Rattle.command_words.specs.declared.table.NameList.TheVariants.{Worlds, Brains}
use Rattle.tournament.specs.declared.format.Format.{Format}
use Rattle.ant_commands.specs.declared.commands.game.GameWords.{GameWords}
use Rattle.ant_commands.specs.declared.commands.setups.GenShape.{GenShape}
use Rattle.ant_commands.specs.declared.commands.setups.ResumeOptions.{ResumeOptions}
use Rattle.ant_commands.specs.declared.commands.setups.RunWords.{RunWords}

-- the settings of `run`
pub record RunSetup : Type 0 where
  pub seed : ℕ
  pub rounds : ℕ
  pub dumps : DumpChoice
  pub workers : ℕ
  pub window : ℕ
  pub surround : ℕ
  pub corpse : ℕ
  pub rest : ℕ
  pub stats : Bool
  pub far : Bool

-- the settings of `resume`
pub record ResumeSetup : Type 0 where
  pub rounds : ℕ
  pub dumps : DumpChoice
  pub workers : ℕ
  pub stats : Bool

-- the numbers of a game that is reported
pub record ToldSetup : Type 0 where
  pub seed : ℕ
  pub rounds : ℕ
  pub surround : ℕ
  pub corpse : ℕ
  pub rest : ℕ

-- the settings of `trace`, `events`, `acts` and `profile`, which also have the first round that is reported
pub record ReportSetup : Type 0 where
  pub told : ToldSetup
  pub from : ℕ

-- the settings of a command line of `run`
abbrev pub setup_of : PlainAsked → RunSetup
setup_of asked = record {
  seed = asked.option Seed;
  rounds = asked.option Rounds;
  dumps = asked.dumps;
  workers = asked.option Workers;
  window = asked.option Window;
  surround = asked.option Surround;
  corpse = asked.option Corpse;
  rest = asked.option Rest;
  stats = asked.has Stats;
  far = asked.has Far;
}

-- the settings of a command line of `save`: a game without dumps and counts
abbrev pub save_setup_of : PlainAsked → RunSetup
save_setup_of asked = record (setup_of asked) { dumps = NoDump; stats = false; far = false }

-- the settings of `resume`; of a game that is reported, without and with its first reported round; and of `gen`
abbrev pub resume_of : PlainAsked → ResumeSetup
resume_of asked = record { rounds = asked.option Rounds; dumps = asked.dumps; workers = asked.option Workers; stats = asked.has Stats }

abbrev pub told_of : PlainAsked → ToldSetup
told_of asked = record {
  seed = asked.option Seed;
  rounds = asked.option Rounds;
  surround = asked.option Surround;
  corpse = asked.option Corpse;
  rest = asked.option Rest;
}

abbrev pub report_of : PlainAsked → ReportSetup
report_of asked = record { told = told_of asked; from = asked.option From }

-- the one ant that `acts` reports, if it is named
abbrev pub ant_of : PlainAsked → Option ℕ
ant_of asked = if asked.has Ant then Some (asked.option Ant) else None

abbrev pub shape_of : PlainAsked → GenShape
shape_of asked = record { width = asked.option Width; height = asked.option Height; rocks = asked.option Rocks; blobs = asked.option Blobs }

-- the numbers of a game are within the limits
pub record SetupWithin (setup : RunSetup) : Type 0 where
  pub seed : IsWithin SeedNumber setup.seed
  pub rounds : IsWithin RoundCount setup.rounds
  pub dumps : AreWithin setup.dumps
  pub workers : IsWithin WorkerCount setup.workers
  pub window : IsWithin WindowSize setup.window
  pub surround : IsWithin FoeCount setup.surround
  pub corpse : IsWithin CorpseFood setup.corpse
  pub rest : IsWithin RestRounds setup.rest

-- the numbers of a game that is continued are within the limits
pub record ResumeWithin (setup : ResumeSetup) : Type 0 where
  pub rounds : IsWithin RoundCount setup.rounds
  pub dumps : AreWithin setup.dumps
  pub workers : IsWithin WorkerCount setup.workers

-- the numbers of a generated world are within the limits
pub record ShapeWithin (shape : GenShape) : Type 0 where
  pub width : IsWithin SideLength shape.width
  pub height : IsWithin SideLength shape.height
  pub rocks : IsWithin ElementCount shape.rocks
  pub blobs : IsWithin ElementCount shape.blobs

-- The format of a cup. With `--gauntlet` it has only the games of the first brain, and with `--leads` the leads. Its
-- seeds begin with that of `--seed`. If `--seeds` is given, they are in the lines of games.
abbrev pub format_of : PlainAsked → Format
format_of asked = record {
  gauntlet = asked.has Gauntlet;
  leads = asked.has Leads;
  seeds = record { first = asked.option Seed; count = asked.option Seeds };
  shows_seeds = asked.has Seeds;
}

-- the names and the numbers of a cup are within the limits
pub record CupWithin (worlds brains : List (List ℕ)) (format : Format) (rounds workers : ℕ) : Type 0 where
  pub world_names : AreNames Worlds worlds
  pub brain_names : AreNames Brains brains
  pub seed_within : IsWithin SeedNumber format.seeds.first
  pub seeds_within : IsWithin SeedCount format.seeds.count
  pub rounds_within : IsWithin RoundCount rounds
  pub workers_within : IsWithin WorkerCount workers

-- a command has the files of a game, its seed, its rounds and the numbers of its rules
abbrev pub PlaysGame : CommandKind → Type 0
PlaysGame kind =
    HasFile kind 0 × HasFile kind 1 × HasFile kind 2 × HasNumberOption kind Seed × HasNumberOption kind Rounds
    × HasNumberOption kind Surround × HasNumberOption kind Corpse × HasNumberOption kind Rest

-- the words of a game that were read
abbrev pub plain_told : GameWords → ToldSetup
plain_told game = record {
  seed = game.seed;
  rounds = game.rounds;
  surround = (sheet_of game.sheet).surround;
  corpse = (sheet_of game.sheet).corpse;
  rest = (sheet_of game.sheet).rest;
}

-- the words of `run` that were read
abbrev pub plain_setup : RunWords → RunSetup
plain_setup words = record {
  seed = words.game.seed;
  rounds = words.game.rounds;
  dumps = plain_dumps words.dumps;
  workers = words.workers;
  window = words.window;
  surround = (sheet_of words.game.sheet).surround;
  corpse = (sheet_of words.game.sheet).corpse;
  rest = (sheet_of words.game.sheet).rest;
  stats = words.stats;
  far = words.far;
}

-- the options of `resume` that were read
abbrev pub plain_resume : ResumeOptions → ResumeSetup
plain_resume options = record {
  rounds = options.rounds;
  dumps = plain_dumps options.dumps;
  workers = options.workers;
  stats = options.stats;
}
