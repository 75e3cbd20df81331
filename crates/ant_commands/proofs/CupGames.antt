-- A game of a cup is a run.
use Rattle.std.proofs.Common.{ℕ, Bool, [], ap, ◌∙◌}
use Rattle.std.specs.Prelude.{slice_index_or}
use Rattle.ant_turn.specs.Minds.{Minds}
use Rattle.ant_turn.specs.Sheet.{Sheet}
use Rattle.cell_world.specs.Grid.{world_of}
use Rattle.cell_world.specs.World.{World}
use Rattle.command_words.specs.Slots.{DumpChoice}
use Rattle.command_words.specs.Slots.DumpChoice.{NoDump}
use Rattle.match_run.proofs.CountLaws.{counts_come_last}
use Rattle.match_run.proofs.RunLaws.{no_dumps}
use Rattle.match_run.specs.Counts.{whole_text}
use Rattle.ant_commands.specs.Laws.{CupGamesAreRuns}
use Rattle.ant_commands.specs.Outputs.{chosen_rounds, match_output, minds_between, nowhere, score_between}
use Rattle.ant_base.specs.Layout.{◌+++◌}
use Rattle.dump_print.specs.Texts.{score_text, seed_text}
use Rattle.tournament.specs.Seeds.{world_at}

pub cup_games_are_runs : CupGamesAreRuns
unfolding match_output score_between
cup_games_are_runs worlds players seeds setup n red black seed sheet none off =
    let world : ℕ = world_at seeds n in
    let w : World = world_of (slice_index_or worlds world nowhere) in
    let minds : Minds = minds_between players red black in
    let by_sheet : Sheet → Minds = λ (s : Sheet). record { red = slice_index_or players red []; black = slice_index_or players black []; sheet = s } in
    ap (λ (s : Sheet). whole_text (by_sheet s) setup.seed setup.rounds (chosen_rounds setup.dumps) setup.window setup.stats w) sheet
    ∙ ap (λ (dumps : DumpChoice). whole_text minds setup.seed setup.rounds (chosen_rounds dumps) setup.window setup.stats w) none
    ∙ ap (λ (stats : Bool). whole_text minds setup.seed setup.rounds (chosen_rounds NoDump) setup.window stats w) off
    ∙ counts_come_last.without minds setup.seed setup.rounds (chosen_rounds NoDump) setup.window w
    ∙ no_dumps minds setup.seed setup.rounds w
    ∙ ap (λ (s : ℕ). seed_text setup.seed +++ score_text (score_between worlds players s setup.rounds world red black)) seed
