-- the result is that of the game after its rounds
use Rattle.std.proofs.Common.{subst}
use Rattle.ant_turn.specs.Sheet.{sheet_of}
use Rattle.cell_world.specs.Grid.{world_of}
use Rattle.command_words.specs.Table.{default_of}
use Rattle.command_words.specs.declared.table.Choice.TheVariants.{Window}
use Rattle.match_run.specs.GameLaws.{IsAtRound}
use Rattle.round_book.specs.Book.{FieldValue}
use Rattle.ant_commands.proofs.Workloads.{sample_minds-of, summary_of-played}
use Rattle.ant_commands.proofs.commands.workload.summary_of.Goals as goal

pub returns : goal.returns
returns g c =
    let same = sample_minds-of c.args.brain.now (sheet_of c.contest.result) c.requires.sample c.contest.ensures in
    let at = subst (λ (f : FieldValue). IsAtRound f (default_of Window) c.args.rounds c.in_ok-game.game) c.in_ok-field.ensures c.in_ok-game.ensures in
    rw (c.ant_count-ants.ensures.ids, c.food_on_cells-food.ensures, c.alive.ensures.alive, c.alive-2.ensures.alive, c.score.ensures.score, c.totals.ensures.totals, c.world-end.ensures)
    (summary_of-played c.args.seed c.args.rounds (world_of c.args.world) _ c.in_ok-game.game same at.world at.totals)
