-- The result of a game of three files (this project's own).
use Rattle.std.specs.Prelude.{◌≡◌, ℕ, List, Result, Ok, Err, codes}
use Rattle.ant_base.specs.Fetched.{Fetched}
use Rattle.ant_base.specs.Layout.{◌+++◌}
use Rattle.ant_turn.specs.Minds.{contest_minds}
use Rattle.brain_read.specs.declared.instr.Instr.{Instr}
use Rattle.cell_world.specs.declared.score.Score.{Score}
use Rattle.cell_world.specs.Grid.{Grid, world_of}
use Rattle.cell_world.specs.Score.{score_of}
use Rattle.dump_print.specs.Texts.{score_text}
use Rattle.match_run.specs.Run.{world_after}
use Rattle.sample_caller.specs.declared.refusal.Refusal.{Refusal}
use Rattle.sample_caller.specs.Files.{ReadsBrain, ReadsWorld, refusal_text}

-- the seed of the random numbers
abbrev pub sample_seed : ℕ
sample_seed = 12345

-- The result of a game of the files of a world, a red brain and a black one. The files are fetched and read in this
-- order, each only if those before it were opened. The first file that is refused ends it. Otherwise the result is the
-- score of the world after the given number of rounds by the contest's rules.
pub data PlaysFiles (log new_log : List Fetched) (world red black : List ℕ)
    (rounds : ℕ) : Result Score Refusal → Type 0 where
  WorldRefused : (refusal : Refusal) → ReadsWorld log new_log world (Err refusal)
      → PlaysFiles log new_log world red black rounds (Err refusal)
  RedRefused : (log_red : List Fetched) (grid : Grid) (refusal : Refusal) → ReadsWorld log log_red world (Ok grid)
      → ReadsBrain log_red new_log red (Err refusal) → PlaysFiles log new_log world red black rounds (Err refusal)
  BlackRefused : (log_red log_black : List Fetched) (grid : Grid) (first : List Instr) (refusal : Refusal)
      → ReadsWorld log log_red world (Ok grid)
      → ReadsBrain log_red log_black red (Ok first) → ReadsBrain log_black new_log black (Err refusal)
      → PlaysFiles log new_log world red black rounds (Err refusal)
  Played : (log_red log_black : List Fetched) (grid : Grid) (first second : List Instr) (score : Score)
      → ReadsWorld log log_red world (Ok grid)
      → ReadsBrain log_red log_black red (Ok first) → ReadsBrain log_black new_log black (Ok second)
      → score ≡ score_of (world_after (contest_minds first second) sample_seed (world_of grid) rounds)
      → PlaysFiles log new_log world red black rounds (Ok score)

-- what is printed: the score, or the line of the file that was refused
abbrev pub outcome_text : Result Score Refusal → List ℕ
outcome_text (Ok score) = score_text score
outcome_text (Err refusal) = refusal_text refusal.name.now refusal.fault +++ codes "\n"
