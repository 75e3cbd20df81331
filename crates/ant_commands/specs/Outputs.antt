-- What each command reads and writes: one equation for each command.
use Rattle.std.specs.Prelude.{◌≡◌, ℕ, ◌≤◌, ◌*◌, Bool, true, false, List, [], ◌∷◌, ◌++◌, length, map, nat_eq, slice_index_or, codes, decimal, Option, if◌then◌else◌}
use Rattle.std.specs.List.{list_any}
use Rattle.ant_base.specs.Layout.{◌+++◌}
use Rattle.game_reports.specs.Trace.{trace_text}
use Rattle.ant_turn.specs.Minds.{Minds, contest_minds}
use Rattle.ant_turn.specs.Rounds.{start_of}
use Rattle.ant_turn.specs.Sheet.{Sheet}
use Rattle.brain_minimise.specs.Minimised.{IsMinimised}
use Rattle.brain_minimise.specs.Text.{minimised_text, states_text}
use Rattle.brain_read.specs.declared.instr.Instr.{Instr}
use Rattle.brain_read.specs.Canonical.{brain_text}
use Rattle.ant_asm.specs.Labels.{labels_text}
use Rattle.ant_asm.specs.Places.{Address}
use Rattle.ant_asm.specs.Source.{ReadSource}
use Rattle.ant_asm.specs.StateLines.{state_lines_text}
use Rattle.brain_same.specs.Difference.{IsComparison}
use Rattle.brain_same.specs.Text.{comparison_text, way_text}
use Rattle.brain_same.specs.Way.{IsWayComparison}
use Rattle.brain_same.specs.declared.comparison.Comparison.{Comparison}
use Rattle.brain_same.specs.declared.way.Step.{Step}
use Rattle.break_view.specs.Texts.{IsViewText}
use Rattle.break_view.specs.declared.breaks.Break.{Break}
use Rattle.cell_world.specs.Grid.{Grid, world_of}
use Rattle.cell_world.specs.Score.{alive_of, score_of}
use Rattle.cell_world.specs.World.{World}
use Rattle.cell_world.specs.declared.ant.Colour.TheVariants.{Red, Black}
use Rattle.cell_world.specs.declared.score.Score.{Score}
use Rattle.ant_commands.specs.declared.commands.setups.GenShape.{GenShape}
use Rattle.command_words.specs.Slots.{DumpChoice}
use Rattle.command_words.specs.Table.{default_of}
use Rattle.command_words.specs.declared.table.Choice.TheVariants.{Blobs, Height, Rocks, Width, Window}
use Rattle.command_words.specs.Slots.DumpChoice.{NoDump, EveryDump, ChosenDumps}
use Rattle.game_reports.specs.Acts.{acts_text}
use Rattle.game_reports.specs.Events.{event_lines}
use Rattle.game_reports.specs.Profile.{profile_text}
use Rattle.game_reports.specs.Report.{report_text}
use Rattle.match_run.specs.Counts.{totals_of, whole_text}
use Rattle.match_run.specs.Run.{world_after}
use Rattle.match_save.specs.Advanced.{advanced}
use Rattle.match_save.specs.Resumed.{resumed_text}
use Rattle.match_save.specs.Saved.{SavedValue, save_text}
use Rattle.match_save.specs.Saves.{saved_after}
use Rattle.dump_print.specs.Texts.{seed_text, dump_text, score_text, stats_text}
use Rattle.ant_commands.specs.Setups.{ResumeSetup, RunSetup, ToldSetup, ReportSetup}
use Rattle.tournament.specs.Text.{IsCupText}
use Rattle.tournament.specs.Printed.{IsPrintedCupText, first_played, games_text}
use Rattle.tournament.specs.Seeds.{seed_at, world_at}
use Rattle.tournament.specs.declared.format.Format.{Format}
use Rattle.tournament.specs.declared.format.Seeds.{Seeds}
use Rattle.world_gen.specs.declared.shape.Shape.{Shape}
use Rattle.world_gen.specs.Food.{food_on}
use Rattle.world_gen.specs.Generated.{IsGenerated}
use Rattle.world_read.specs.Canonical.{canonical_text}
use Rattle.world_read.specs.Opened.{kinds_of}
use Rattle.ant_commands.specs.declared.commands.workload.Summary.{Summary}
use Rattle.ant_commands.specs.Files.{File, FileContent}
use Rattle.ant_commands.specs.Files.FileKind.{WorldFile, BrainFile, BreakFile, LabelledFile, SaveFile}
use Rattle.ant_commands.specs.Files.FileContent.{WorldContent, BrainContent, BreakContent, LabelledContent, SourceContent, SaveContent}
use Rattle.ant_commands.specs.Sample.{sample_brain}

-- a file with a world, one with a brain, and one with breaks
abbrev pub world_file : List ℕ → File
world_file name = record { name = name; kind = WorldFile }

abbrev pub brain_file : List ℕ → File
brain_file name = record { name = name; kind = BrainFile }

abbrev pub break_file : List ℕ → File
break_file name = record { name = name; kind = BreakFile }

-- a file with a labelled program, which is read for its brain, or for its labels and states
abbrev pub labelled_file : Bool → List ℕ → File
labelled_file source name = record { name = name; kind = LabelledFile source }

-- a file with a save that has at most this many rounds done
abbrev pub save_file : List ℕ → ℕ → File
save_file name rounds = record { name = name; kind = SaveFile rounds }

-- the files of a game
abbrev pub game_files : List ℕ → List ℕ → List ℕ → List File
game_files world red black = world_file world ∷ brain_file red ∷ brain_file black ∷ []

-- the files of a cup: its worlds, and then its brains; a name that is given twice is fetched twice
abbrev pub cup_files : List (List ℕ) → List (List ℕ) → List File
cup_files worlds brains = map world_file worlds ++ map brain_file brains

-- what was read from the files of a game
pub record ReadGame : Type 0 where
  pub world : Grid
  pub red : List Instr
  pub black : List Instr

-- what was read from the files of a game and its breaks
pub record ReadView : Type 0 where
  pub game : ReadGame
  pub breaks : List Break

-- what was read from the files of a cup
pub record ReadCup : Type 0 where
  pub worlds : List Grid
  pub players : List (List Instr)

-- what was read from the files of two brains
pub record ReadPair : Type 0 where
  pub first : List Instr
  pub second : List Instr

-- what was read from the file of a labelled program
pub record ReadProgram : Type 0 where
  pub brain : List Instr
  pub places : List Address

-- the contents of no file, of one, and of several
abbrev pub no_contents : Unit {0} → List FileContent
no_contents nothing = []

abbrev pub world_contents : Grid → List FileContent
world_contents grid = WorldContent grid ∷ []

abbrev pub brain_contents : List Instr → List FileContent
brain_contents list = BrainContent list ∷ []

abbrev pub pair_contents : ReadPair → List FileContent
pair_contents pair = BrainContent pair.first ∷ BrainContent pair.second ∷ []

abbrev pub program_contents : ReadProgram → List FileContent
program_contents program = LabelledContent program.brain program.places ∷ []

abbrev pub source_contents : ReadSource → List FileContent
source_contents source = SourceContent source ∷ []

abbrev pub save_contents : SavedValue → List FileContent
save_contents saved = SaveContent saved ∷ []

abbrev pub game_contents : ReadGame → List FileContent
game_contents game = WorldContent game.world ∷ BrainContent game.red ∷ BrainContent game.black ∷ []

abbrev pub view_contents : ReadView → List FileContent
view_contents view = game_contents view.game ++ BreakContent view.breaks ∷ []

abbrev pub cup_contents : List Grid → List (List Instr) → List FileContent
cup_contents worlds players = map WorldContent worlds ++ map BrainContent players

abbrev pub roster_contents : ReadCup → List FileContent
roster_contents cup = cup_contents cup.worlds cup.players

-- the contents are those of some value, and the text is a text of that value
pub record Tells {A : Type 0} (contents_of : A → List FileContent) (IsText : A → List ℕ → Type 0)
    (contents : List FileContent) (text : List ℕ) : Type 0 where
  pub value : A
  pub read : contents ≡ contents_of value
  pub told : IsText value text

-- the text is that of the value
abbrev pub is_text_of : {A : Type 0} → (A → List ℕ) → A → List ℕ → Type 0
is_text_of text_of value text = text ≡ text_of value

-- the output of `show`: the line of the seed, and the dump after round 0
unfoldable pub show_output : ℕ → Grid → List ℕ
show_output seed grid = seed_text seed +++ dump_text (world_of grid) 0

-- whether the words of a command choose a round: none, every one, or those of a list
abbrev pub chosen_rounds : DumpChoice → ℕ → Bool
chosen_rounds NoDump round = false
chosen_rounds EveryDump round = true
chosen_rounds (ChosenDumps numbers) round = list_any (λ number. nat_eq number round) numbers

-- the numbers of the rules that the words of a game name
abbrev pub sheet_named : RunSetup → Sheet
sheet_named setup = record { surround = setup.surround; corpse = setup.corpse; rest = setup.rest }

-- the numbers of the rules that the words of `events`, `acts`, `profile` or `trace` name
abbrev pub told_sheet : ToldSetup → Sheet
told_sheet setup = record { surround = setup.surround; corpse = setup.corpse; rest = setup.rest }

-- both brains of a game, and the numbers of its rules
abbrev pub minds_named : RunSetup → List Instr → List Instr → Minds
minds_named setup red black = record { red = red; black = black; sheet = sheet_named setup }

-- the output of `run`: the line of the seed, the chosen dumps, the score, and the counts if they are requested
unfoldable pub match_output : RunSetup → ReadGame → List ℕ
match_output setup game =
    whole_text (minds_named setup game.red game.black) setup.seed setup.rounds
    (chosen_rounds setup.dumps) setup.window setup.stats (world_of game.world)

-- the output of `save`: the save of the game after its rounds
unfoldable pub save_output : RunSetup → ReadGame → List ℕ
save_output setup game =
    save_text
    (saved_after (minds_named setup game.red game.black) setup.seed setup.window (world_of game.world) setup.rounds)

-- the output of `advance`: the save of the same game after the given total number of rounds
unfoldable pub advance_output : ℕ → SavedValue → List ℕ
advance_output rounds saved = save_text (advanced saved rounds)

-- the output of `resume`: what `run` prints of the rounds after the saved one
unfoldable pub resume_output : ResumeSetup → SavedValue → List ℕ
resume_output setup saved = resumed_text saved setup.rounds (chosen_rounds setup.dumps) setup.stats

-- both brains of such a game, and the numbers of its rules
abbrev pub told_minds : ToldSetup → ReadGame → Minds
told_minds setup game = record { red = game.red; black = game.black; sheet = told_sheet setup }

-- the output of `trace`: the line of the seed, and a line for one ant after each round from `--from` on, up to the
-- ant's death
unfoldable pub trace_output : ℕ → ReportSetup → ReadGame → List ℕ
trace_output id setup game =
    trace_text (told_minds setup.told game) setup.told.seed (world_of game.world) setup.told.rounds id setup.from

-- the output of `events`: the line of the seed, and then the lines of each turn from round `--from` on, in order. A
-- turn has a line for each ant that is killed in it. With `--food` it has a line for the particle that its ant takes or
-- drops. It has a line for the score if the score changed
unfoldable pub events_output : Bool → ReportSetup → ReadGame → List ℕ
events_output food setup game =
    report_text (event_lines food) setup.from (told_minds setup.told game) setup.told.seed
    (world_of game.world) setup.told.rounds

-- the output of `acts`: the line of the seed, and a line for each turn from round `--from` on in which an ant executes
-- an instruction; with `--ant` only those of this ant
unfoldable pub acts_output : Option ℕ → ReportSetup → ReadGame → List ℕ
acts_output one setup game =
    acts_text (told_minds setup.told game) setup.told.seed (world_of game.world) setup.told.rounds one setup.from

-- the output of `profile`: the line of the seed, and a line for each state of the red brain and then of the black one.
-- The turns from round `--from` on are counted
unfoldable pub profile_output : ReportSetup → ReadGame → List ℕ
profile_output setup game =
    profile_text (told_minds setup.told game) setup.told.seed (world_of game.world) setup.told.rounds setup.from

-- the comparison of the two brains
pub record TellsComparison (pair : ReadPair) (text : List ℕ) : Type 0 where
  pub comparison : Comparison
  pub is : IsComparison pair.first pair.second comparison
  pub told : text ≡ comparison_text comparison

-- the comparison, with the way to the difference
pub record TellsWay (pair : ReadPair) (text : List ℕ) : Type 0 where
  pub comparison : Comparison
  pub steps : List Step
  pub is : IsWayComparison pair.first pair.second comparison steps
  pub told : text ≡ way_text comparison steps

-- the output of `same`: whether the brains are the same, or the first place at which they differ; with `--way` the
-- answers that lead there too
abbrev pub TellsSame : Bool → ReadPair → List ℕ → Type 0
TellsSame false = TellsComparison
TellsSame true = TellsWay

-- what `minimise` prints: the brain after a comment line, or the new number of each old state
abbrev pub minimise_output : Bool → List Instr → List Instr → List (Option ℕ) → List ℕ
minimise_output false old new numbers = minimised_text old new
minimise_output true old new numbers = states_text numbers

-- the output of `minimise`: the canonical text of the minimised brain after a line of counts; with `--states` the new
-- number of each old state
pub record TellsMinimised (states : Bool) (old : List Instr) (text : List ℕ) : Type 0 where
  pub new : List Instr
  pub numbers : List (Option ℕ)
  pub minimised : IsMinimised old new numbers
  pub told : text ≡ minimise_output states old new numbers

-- the output of `view`: the first stop of the game in a round from `--from` on, and the cells at that stop. The game is
-- played by the contest's rules
abbrev pub IsViewOutput : ℕ → ℕ → ℕ → ReadView → List ℕ → Type 0
IsViewOutput seed rounds from view text =
    IsViewText (contest_minds view.game.red view.game.black) seed rounds from
    (world_of view.game.world) view.breaks text

-- no cells, for places after the end of a list
abbrev pub nowhere : Grid
nowhere = record { width = 0; height = 0; ids = 0; cells = [] }

-- The minds of a game by the contest's rules between two players of a list, the red one first. Players are counted from
-- 0.
abbrev pub minds_between : List (List Instr) → ℕ → ℕ → Minds
minds_between players red black = contest_minds (slice_index_or players red []) (slice_index_or players black [])

-- the score of a game of this many rounds on a world of a list, counted from 0, between two players
unfoldable pub score_between : List Grid → List (List Instr) → ℕ → ℕ → ℕ → ℕ → ℕ → Score
score_between worlds players seed rounds world red black =
    score_of
    (world_after (minds_between players red black) seed (world_of (slice_index_or worlds world nowhere)) rounds)

-- the score of a game of a cup; `n` is the number of a pair of a world and a seed
abbrev pub score_in_cup : List Grid → List (List Instr) → Seeds → ℕ → ℕ → ℕ → ℕ → Score
score_in_cup worlds players seeds rounds n red black =
    score_between worlds players (seed_at seeds n) rounds (world_at seeds n) red black

-- the output of `cup`: the standing of all games between the players on all worlds with all seeds; with `--games` the
-- line of each game before it
abbrev pub IsCupOutput : Bool → List (List ℕ) → List (List ℕ) → Format → ℕ → ReadCup → List ℕ → Type 0
IsCupOutput false worlds names format rounds cup text =
    IsCupText format.leads format.gauntlet names (length cup.players) (length cup.worlds * format.seeds.count)
    (score_in_cup cup.worlds cup.players format.seeds rounds) text
IsCupOutput true worlds names format rounds cup text =
    IsPrintedCupText format worlds names (score_in_cup cup.worlds cup.players format.seeds rounds) text

-- the lines of all games on the first worlds of such a cup; these may be none or all of its worlds
pub record TellsFirstWorlds (worlds names : List (List ℕ)) (format : Format) (rounds : ℕ) (cup : ReadCup)
    (text : List ℕ) : Type 0 where
  pub told : ℕ
  pub some : told ≤ length worlds
  pub is : text
      ≡ games_text format worlds names
      (first_played format names told (score_in_cup cup.worlds cup.players format.seeds rounds)) 1

-- the shape that the words of `gen` name
abbrev pub shape_named : GenShape → Shape
shape_named shape = record { width = shape.width; height = shape.height; rocks = shape.rocks; blobs = shape.blobs }

-- the output of `gen`: the canonical text of the world of this seed and shape
pub record TellsGenerated (seed : ℕ) (shape : Shape) (text : List ℕ) : Type 0 where
  pub world : Grid
  pub generated : IsGenerated seed shape world
  pub told : text ≡ canonical_text world.width world.height (kinds_of world)

-- the shape of a world of the contest: the one that `gen` uses without options
abbrev pub contest_shape : Shape
contest_shape = record {
  width = default_of Width;
  height = default_of Height;
  rocks = default_of Rocks;
  blobs = default_of Blobs;
}

-- the task's sample brain on both sides, by the contest's rules
abbrev pub sample_minds : Minds
sample_minds = contest_minds sample_brain sample_brain

-- The result of a workload. From the start it has the number of ants, and the food on all cells. From the end, after
-- this many rounds, it has the number of living ants of each side, the score and the counts of the turns. The rounds
-- are played in windows of the default size.
unfoldable pub summary_of : ℕ → ℕ → World → Summary
summary_of seed rounds w = record {
  ants = w.ids;
  food = food_on w;
  red = alive_of (world_after sample_minds seed w rounds) Red;
  black = alive_of (world_after sample_minds seed w rounds) Black;
  score = score_of (world_after sample_minds seed w rounds);
  totals = totals_of sample_minds seed (default_of Window) (start_of w) rounds;
}

-- the first four lines of a workload, the last without its end
unfoldable pub summary_lines : ℕ → ℕ → Summary → List ℕ
summary_lines seed rounds summary =
    codes "workload seed " +++ decimal seed +++ codes " rounds " +++ decimal rounds
    +++ codes "\nants " +++ decimal summary.ants
    +++ codes "\nfood " +++ decimal summary.food
    +++ codes "\nalive red " +++ decimal summary.red +++ codes " black " +++ decimal summary.black

-- the six lines of a workload; the text of a score begins with the end of the line before it
unfoldable pub workload_text : ℕ → ℕ → Summary → List ℕ
workload_text seed rounds summary =
    summary_lines seed rounds summary +++ score_text summary.score +++ stats_text summary.totals

-- the output of `workload`: a summary of a game on the world of this seed and the contest's shape. It doesn't have the
-- number of workers
pub record TellsWorkload (seed rounds : ℕ) (text : List ℕ) : Type 0 where
  pub world : Grid
  pub generated : IsGenerated seed contest_shape world
  pub told : text ≡ workload_text seed rounds (summary_of seed rounds (world_of world))

-- what `asm` prints instead of the brain: the labels if they are requested, and then the line of each state if those
-- lines are requested
abbrev pub source_text : Bool → Bool → ReadSource → List ℕ
source_text labels lines source =
    (if labels then labels_text source.labels else []) +++ (if lines then state_lines_text source.lines else [])

-- the output of `asm`: the canonical text of the brain; with `--labels` the state of each label, and with `--lines` the
-- line of each state
abbrev pub IsAsmOutput : Bool → Bool → List FileContent → List ℕ → Type 0
IsAsmOutput false false = Tells program_contents (is_text_of (λ program. brain_text program.brain))
IsAsmOutput labels lines = Tells source_contents (is_text_of (source_text labels lines))

-- what a `cup` with `--games` has written so far: the lines of all games on its first worlds
abbrev pub CupInPlay : Bool → List (List ℕ) → List (List ℕ) → Format → ℕ → List FileContent → List ℕ → Type 0
CupInPlay false worlds brains format rounds contents front = ⊥
CupInPlay true worlds brains format rounds contents front = Tells roster_contents (TellsFirstWorlds worlds brains format rounds) contents front
