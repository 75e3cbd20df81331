-- The outcome of a workload's game.
use Rattle.std.proofs.Common.{◌≡◌, ℕ, List, ◌∙◌, ap, ap₂}
use Rattle.ant_turn.specs.Minds.{Minds}
use Rattle.ant_turn.specs.Sheet.{Sheet, contest}
use Rattle.brain_read.specs.declared.instr.Instr.{Instr}
use Rattle.ant_turn.specs.Rounds.{start_of}
use Rattle.cell_world.specs.Grid.{world_of}
use Rattle.cell_world.specs.Score.{alive_of, score_of}
use Rattle.cell_world.specs.World.{World}
use Rattle.cell_world.specs.declared.ant.Colour.TheVariants.{Red, Black}
use Rattle.command_words.specs.Table.{default_of}
use Rattle.command_words.specs.declared.table.Choice.TheVariants.{Window}
use Rattle.dump_print.specs.declared.totals.Totals.{Totals}
use Rattle.match_run.specs.Counts.{totals_of}
use Rattle.match_run.specs.Game.{GameValue}
use Rattle.match_run.specs.Run.{world_after}
use Rattle.world_gen.specs.Food.{food_on}
use Rattle.ant_commands.specs.declared.commands.workload.Summary.{Summary}
use Rattle.ant_commands.specs.Outputs.{sample_minds, summary_of}
use Rattle.ant_commands.specs.Sample.{sample_brain}

-- two lent brains that are the sample brain, by the contest's rules
pub sample_minds-of : (brain : List Instr) (sheet : Sheet) → brain ≡ sample_brain → sheet ≡ contest → ◌≡◌ {A = Minds} (record { red = brain; black = brain; sheet = sheet }) sample_minds
sample_minds-of brain sheet same by_contest =
    ap₂ (λ (b : List Instr) (s : Sheet). by_sheet b s) same by_contest
  where
    by_sheet : List Instr → Sheet → Minds
    by_sheet b s = record { red = b; black = b; sheet = s }

-- the result of a game that ended in this world with these totals
abbrev told : World → World → Totals → Summary
told w end totals = record { ants = w.ids; food = food_on w; red = alive_of end Red; black = alive_of end Black; score = score_of end; totals = totals }

-- the result of a game after its rounds
pub summary_of-played : (seed rounds : ℕ) (w : World) (minds : Minds) (game : GameValue) → minds ≡ sample_minds → world_of game.field.world ≡ world_after minds seed w rounds
    → game.totals ≡ totals_of minds seed (default_of Window) (start_of w) rounds
    → record { ants = w.ids; food = food_on w; red = alive_of (world_of game.field.world) Red; black = alive_of (world_of game.field.world) Black; score = score_of (world_of game.field.world); totals = game.totals } ≡ summary_of seed rounds w
unfolding summary_of
summary_of-played seed rounds w minds game same end totals =
    ap₂ (told w) end totals
    ∙ ap (λ (m : Minds). told w (world_after m seed w rounds) (totals_of m seed (default_of Window) (start_of w) rounds)) same
