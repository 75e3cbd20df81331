-- Each text that a command writes ends in LF.
use Rattle.std.proofs.Common.{◌≡◌, ◌⊎◌, inl, inr, ℕ, zero, suc, ◌≤◌, Bool, true, false, List, [], ◌∷◌, ◌++◌, length, map, get_or, Option, Some, None, ◌+◌, refl, sym, ◌∙◌, subst, append-nil, arith}
use Rattle.std.proofs.lemmas.Bool.{cond_both, false≢true}
use Rattle.std.proofs.lemmas.List.{length-map}
use Rattle.std.proofs.lemmas.List.Sorted.{length_permutation}
use Rattle.std.specs.List.{flat_map}
use Rattle.std.specs.Prelude.{◌-◌, ◌*◌, ◌%◌, ◌==◌, codes, cond, decimal, nat_lt, slice_index_or}
use Rattle.ant_asm.specs.Labels.{LabelState, label_text, labels_text, way_text as label_way_text}
use Rattle.ant_asm.specs.StateLines.{StateLine, state_line_text, state_lines_text, uses_text}
use Rattle.ant_base.proofs.Numbered.{numbered-list}
use Rattle.ant_base.proofs.Pushes.{ends_in_lf-append}
use Rattle.ant_base.specs.Layout.{numbered, ◌+++◌}
use Rattle.ant_base.specs.Lines.{ends_in_lf}
use Rattle.game_reports.specs.Trace.{lives_in_first, told_line, trace_text, unmade_text, way_line, way_text}
use Rattle.ant_turn.specs.Minds.{Minds}
use Rattle.ant_turn.specs.Rounds.{after_rounds, start_of}
use Rattle.ant_turn.specs.Turn.{instruction_at}
use Rattle.brain_minimise.specs.Minimised.{new_number}
use Rattle.brain_minimise.specs.Text.{became_text, minimised_text, state_line, states_text}
use Rattle.brain_read.specs.Canonical.{brain_text, instruction_text}
use Rattle.brain_read.specs.Forms.{fields_of}
use Rattle.brain_read.specs.declared.instr.Instr.{Instr}
use Rattle.brain_same.specs.Text.{comparison_text, found_text, step_text, way_text as difference_text}
use Rattle.brain_same.specs.declared.comparison.Comparison.{Comparison}
use Rattle.brain_same.specs.declared.comparison.Comparison.TheVariants.{Same, Different}
use Rattle.brain_same.specs.declared.comparison.Found.{Found}
use Rattle.brain_same.specs.declared.way.Step.{Step}
use Rattle.break_view.specs.Texts.{end_text, no_stop_line, stop_line, view_text}
use Rattle.break_view.specs.declared.stop.Stop.{Stop}
use Rattle.cell_world.specs.Grid.{Grid, world_of}
use Rattle.cell_world.specs.Score.{score_of}
use Rattle.cell_world.specs.World.{World, place_in}
use Rattle.hex_geometry.specs.declared.position.Pos.{Pos}
use Rattle.cell_world.specs.declared.ant.Colour.{Colour}
use Rattle.cell_world.specs.declared.ant.Colour.TheVariants.{Red, Black}
use Rattle.cell_world.specs.declared.cell.Cell.{Cell}
use Rattle.cell_world.specs.declared.kind.Kind.{Kind}
use Rattle.cell_world.specs.declared.kind.Kind.TheVariants.{Rock}
use Rattle.cell_world.specs.declared.score.Score.{Score}
use Rattle.ant_commands.specs.Setups.{ReportSetup, ResumeSetup, RunSetup, ToldSetup}
use Rattle.dump_print.specs.Content.{colour_text}
use Rattle.dump_print.specs.Texts.{cell_line, cell_words, cells_text, dump_text, row_text, score_text, seed_text, seed_words, stats_text}
use Rattle.dump_print.specs.declared.totals.Totals.{Totals}
use Rattle.game_reports.specs.Acts.{act_lines, acts_text}
use Rattle.game_reports.specs.Events.{event_lines}
use Rattle.game_reports.specs.Report.{report_lines, report_text}
use Rattle.game_reports.specs.Profile.{brain_lines, executed_in_rounds, met_of, met_text, profile_text, state_line as tally_of_state, tally_line, times_of}
use Rattle.match_run.specs.Seen.{Seen}
use Rattle.line_tokens.specs.Fields.{LineField, field_text, further_text, line_text}
use Rattle.match_run.specs.Counts.{counts_text, totals_of, whole_text, both}
use Rattle.match_run.specs.Run.{dumps_text, run_text, world_after}
use Rattle.match_run.specs.Later.{later_dumps, plain_later_text, later_text}
use Rattle.match_save.specs.Advanced.{advanced}
use Rattle.match_save.specs.Resumed.{moment_of, resumed_text}
use Rattle.match_save.specs.Saved.{SavedValue, draft_of, save_text}
use Rattle.match_save.specs.Saves.{saved_after}
use Rattle.match_save.specs.Text.{draft_lines, draft_text}
use Rattle.tournament.proofs.GamesLemmas.{length-below}
use Rattle.tournament.specs.Games.{all_played, below}
use Rattle.tournament.specs.Names.{name_of}
use Rattle.tournament.specs.Standing.{Ranks, line_of}
use Rattle.tournament.specs.Text.{lead_part, lead_text, standing_text, table_line_text}
use Rattle.tournament.specs.Printed.{IsPrintedCupText, cup_played, games_text}
use Rattle.tournament.specs.declared.format.Format.{Format}
use Rattle.tournament.specs.declared.standing.Line.{Line}
use Rattle.world_read.specs.Bytes.{byte_of}
use Rattle.world_read.specs.Canonical.{canonical_text, cell_text, line_of_row, space_if}
use Rattle.ant_commands.specs.declared.commands.workload.Summary.{Summary}
use Rattle.ant_commands.specs.Help.{head_lines, help_text, tail_lines, version_text}
use Rattle.command_words.specs.Help.{table_text}
use Rattle.ant_commands.specs.Outputs.{acts_output, ReadGame, advance_output, trace_output, chosen_rounds, events_output, match_output, minds_named, profile_output, resume_output, save_output, show_output, summary_lines, told_minds, workload_text}

-- a text that ends in LF
pub record EndsInLf (text : List ℕ) : Type 0 where
  pub is : ends_in_lf text ≡ true

-- a text that ends in LF, or has no bytes
abbrev pub AreLines : List ℕ → Type 0
AreLines text = (text ≡ []) ⊎ EndsInLf text

-- such a text has a byte
pub lf_some : (text : List ℕ) → EndsInLf text → 1 ≤ length text
lf_some [] ends = absurd (false≢true ends.is)
lf_some (byte ∷ text) ends = omega arith

-- what precedes a text that ends in LF changes nothing
pub lf_last : (a b : List ℕ) → EndsInLf b → EndsInLf (a ++ b)
lf_last a [] ends = absurd (false≢true ends.is)
lf_last a (byte ∷ b) ends = record { is = ends_in_lf-append a byte b ∙ ends.is }

-- nor does what follows it, if it is lines
lf_then : (a b : List ℕ) → EndsInLf a → AreLines b → EndsInLf (a ++ b)
lf_then a b ends lines =
    elim lines [
      | inl none ↦ subst (λ (t : List ℕ). EndsInLf (a ++ t)) (sym none) (subst EndsInLf (sym (append-nil a)) ends)
      | inr last ↦ lf_last a b last
    ]

lines_then : (a b : List ℕ) → AreLines a → AreLines b → AreLines (a ++ b)
lines_then a b first second =
    elim second [
      | inl none ↦ subst (λ (t : List ℕ). AreLines (a ++ t)) (sym none) (subst AreLines (sym (append-nil a)) first)
      | inr last ↦ inr (lf_last a b last)
    ]

lines_numbered : (f : ℕ → List ℕ) (n : ℕ) → ((i : ℕ) → AreLines (f i)) → AreLines (numbered f n)
unfolding numbered
lines_numbered f zero each = inl refl
lines_numbered f (suc n) each = lines_then (numbered f n) (f n) (lines_numbered f n each) (each n)

lf_numbered : (f : ℕ → List ℕ) (n : ℕ) → 1 ≤ n → ((i : ℕ) → EndsInLf (f i)) → EndsInLf (numbered f n)
unfolding numbered
lf_numbered f zero some each = absurd (omega arith)
lf_numbered f (suc n) some each = lf_last (numbered f n) (f n) (each n)

lf_flat_map : {X : Type 0} (f : X → List ℕ) (xs : List X) → 1 ≤ length xs → ((x : X) → EndsInLf (f x)) → EndsInLf (flat_map f xs)
lf_flat_map f [] some each = absurd (omega arith)
lf_flat_map f (x ∷ xs) some each = subst EndsInLf (numbered-list f (x ∷ xs) x) (lf_numbered (λ i. f (get_or (x ∷ xs) i x)) (length (x ∷ xs)) some (λ i. each (get_or (x ∷ xs) i x)))

lines_flat_map : {X : Type 0} (f : X → List ℕ) (xs : List X) → ((x : X) → EndsInLf (f x)) → AreLines (flat_map f xs)
lines_flat_map f [] each = inl refl
lines_flat_map f (x ∷ xs) each = inr (lf_flat_map f (x ∷ xs) (omega arith) each)

-- the end of a line
lf_end : EndsInLf (codes "\n")
lf_end = record { is = refl }

-- a brain's lines
lf_further : (fields : List LineField) → EndsInLf (further_text fields)
lf_further [] = lf_end
lf_further (field ∷ fields) = lf_last (codes " ") (field_text field +++ further_text fields) (lf_last (field_text field) (further_text fields) (lf_further fields))

lf_line : (fields : List LineField) → EndsInLf (line_text fields)
lf_line [] = lf_end
lf_line (field ∷ fields) = lf_last (field_text field) (further_text fields) (lf_further fields)

lf_instruction : (instruction : Instr) → EndsInLf (instruction_text instruction)
unfolding instruction_text
lf_instruction instruction = lf_line (fields_of instruction)

pub lf_brain : (list : List Instr) → 1 ≤ length list → EndsInLf (brain_text list)
unfolding brain_text
lf_brain list some = lf_flat_map instruction_text list some lf_instruction

pub lf_minimised : (old new : List Instr) → EndsInLf (minimised_text old new)
unfolding minimised_text brain_text
lf_minimised old new =
    let kept : List ℕ = codes " kept\n" +++ flat_map instruction_text new in
    let counted : List ℕ = decimal (length new) +++ kept in
    let states : List ℕ = codes " states, " +++ counted in
    let all : List ℕ = decimal (length old) +++ states in
    lf_last (codes "; ") all (lf_last (decimal (length old)) states (lf_last (codes " states, ") counted (lf_last (decimal (length new)) kept
    (lf_then (codes " kept\n") (flat_map instruction_text new) (record { is = refl }) (lines_flat_map instruction_text new lf_instruction)))))

-- the lines of old states
lf_state : (numbers : List (Option ℕ)) (state : ℕ) → EndsInLf (state_line numbers state)
lf_state numbers state =
    let became : List ℕ = became_text (new_number numbers state) +++ codes "\n" in
    lf_last (decimal state) (codes " " +++ became) (lf_last (codes " ") became (lf_last (became_text (new_number numbers state)) (codes "\n") lf_end))

pub lf_states : (numbers : List (Option ℕ)) → 1 ≤ length numbers → EndsInLf (states_text numbers)
unfolding states_text
lf_states numbers some = lf_numbered (state_line numbers) (length numbers) some (lf_state numbers)

-- the lines of labels; a program may have none
lf_label : (label : LabelState) → EndsInLf (label_text label)
lf_label label =
    let name : List ℕ = label.name +++ codes "\n" in
    let way : List ℕ = label_way_text label.way +++ name in
    lf_last (decimal label.state) (codes " " +++ way) (lf_last (codes " ") way (lf_last (label_way_text label.way) name (lf_last label.name (codes "\n") lf_end)))

pub lines_labels : (labels : List LabelState) → AreLines (labels_text labels)
lines_labels [] = inl refl
lines_labels (label ∷ labels) = inr (lf_then (label_text label) (labels_text labels) (lf_label label) (lines_labels labels))

-- the lines of states; a program has some
lf_state_line : (it : StateLine) → EndsInLf (state_line_text it)
lf_state_line it =
    let uses : List ℕ = uses_text (codes " ") it.way +++ codes "\n" in
    let line : List ℕ = decimal it.line +++ uses in
    lf_last (decimal it.state) (codes " " +++ line) (lf_last (codes " ") line (lf_last (decimal it.line) uses (lf_last (uses_text (codes " ") it.way) (codes "\n") lf_end)))

lines_state_lines : (list : List StateLine) → AreLines (state_lines_text list)
lines_state_lines [] = inl refl
lines_state_lines (it ∷ others) = inr (lf_then (state_line_text it) (state_lines_text others) (lf_state_line it) (lines_state_lines others))

pub lf_state_lines : (list : List StateLine) → 1 ≤ length list → EndsInLf (state_lines_text list)
lf_state_lines [] some = absurd (omega arith)
lf_state_lines (it ∷ others) some = lf_then (state_line_text it) (state_lines_text others) (lf_state_line it) (lines_state_lines others)

-- a dump's lines
lf_cell : (x y : ℕ) (cell : Cell) → EndsInLf (cell_line x y cell)
unfolding cell_line
lf_cell x y cell = lf_last (cell_words x y cell) (codes "\n") lf_end

lines_row : (w : World) (y : ℕ) → AreLines (row_text w y)
unfolding row_text
lines_row w y = lines_numbered (λ x. cell_line x y (w.cells (record { x = x; y = y }))) w.width (λ x. inr (lf_cell x y (w.cells (record { x = x; y = y }))))

lines_cells : (w : World) → AreLines (cells_text w)
unfolding cells_text
lines_cells w = lines_numbered (row_text w) w.height (lines_row w)

lf_dump : (w : World) (round : ℕ) → EndsInLf (dump_text w round)
unfolding dump_text
lf_dump w round =
    let end : List ℕ = codes "...\n" +++ cells_text w in
    lf_last (codes "\nAfter round ") (decimal round +++ end) (lf_last (decimal round) end (lf_then (codes "...\n") (cells_text w) (record { is = refl }) (lines_cells w)))

-- the line of a score, and that of the counts
lf_score : (score : Score) → EndsInLf (score_text score)
unfolding score_text
lf_score score =
    let black : List ℕ = decimal score.black +++ codes "\n" in
    let between : List ℕ = codes " black " +++ black in
    let red : List ℕ = decimal score.red +++ between in
    lf_last (codes "\nscore: red ") red (lf_last (decimal score.red) between (lf_last (codes " black ") black (lf_last (decimal score.black) (codes "\n") lf_end)))

lf_stats : (totals : Totals) → EndsInLf (stats_text totals)
unfolding stats_text
lf_stats totals =
    let redone : List ℕ = decimal totals.redone +++ codes "\n" in
    let last : List ℕ = codes " redone " +++ redone in
    let taken : List ℕ = decimal totals.taken +++ last in
    let between : List ℕ = codes " taken " +++ taken in
    let turns : List ℕ = decimal totals.turns +++ between in
    lf_last (codes "turns ") turns (lf_last (decimal totals.turns) between (lf_last (codes " taken ") taken (lf_last (decimal totals.taken) last (lf_last (codes " redone ") redone (lf_last (decimal totals.redone) (codes "\n") lf_end)))))

lines_counts : (asked : Bool) (totals : Totals) → AreLines (counts_text asked totals)
lines_counts false totals = inl refl
lines_counts true totals = inr (lf_stats totals)

-- the output of each command
pub lf_show : (seed : ℕ) (grid : Grid) → EndsInLf (show_output seed grid)
unfolding show_output
lf_show seed grid = lf_last (seed_text seed) (dump_text (world_of grid) 0) (lf_dump (world_of grid) 0)

pub lf_match : (setup : RunSetup) (game : ReadGame) → EndsInLf (match_output setup game)
unfolding match_output whole_text run_text dumps_text
lf_match setup game =
    let minds = minds_named setup game.red game.black in
    let w : World = world_of game.world in
    let dumps : List ℕ = dumps_text minds setup.seed (chosen_rounds setup.dumps) w (setup.rounds + 1) in
    let score : List ℕ = score_text (score_of (world_after minds setup.seed w setup.rounds)) in
    let counts : List ℕ = counts_text setup.stats (totals_of minds setup.seed setup.window (start_of w) setup.rounds) in
    lf_then (seed_text setup.seed +++ dumps +++ score) counts
    (lf_last (seed_text setup.seed) (dumps +++ score) (lf_last dumps score (lf_score (score_of (world_after minds setup.seed w setup.rounds)))))
    (lines_counts setup.stats (totals_of minds setup.seed setup.window (start_of w) setup.rounds))

-- the lines of a save
lf_save_line : (line : List ℕ) → EndsInLf (line ++ 10 ∷ [])
lf_save_line line = lf_last line (10 ∷ []) (record { is = refl })

lf_saved : (s : SavedValue) → EndsInLf (save_text s)
unfolding save_text draft_text draft_lines
lf_saved s = lf_flat_map (λ (line : List ℕ). line ++ 10 ∷ []) (draft_lines (draft_of s)) (omega arith) lf_save_line

pub lf_save : (setup : RunSetup) (game : ReadGame) → EndsInLf (save_output setup game)
unfolding save_output
lf_save setup game = lf_saved (saved_after (minds_named setup game.red game.black) setup.seed setup.window (world_of game.world) setup.rounds)

pub lf_advance : (rounds : ℕ) (saved : SavedValue) → EndsInLf (advance_output rounds saved)
unfolding advance_output
lf_advance rounds saved = lf_saved (advanced saved rounds)

pub lf_rest : (setup : ResumeSetup) (saved : SavedValue) → EndsInLf (resume_output setup saved)
unfolding resume_output resumed_text later_text plain_later_text
lf_rest setup saved =
    let more : ℕ = setup.rounds - saved.round in
    let score : List ℕ = score_text (score_of (after_rounds saved.minds saved.seed (moment_of saved) more).world) in
    let dumps : List ℕ = later_dumps saved.minds saved.seed (chosen_rounds setup.dumps) (moment_of saved) saved.round more in
    let all = both saved.totals (totals_of saved.minds saved.seed saved.window (moment_of saved) more) in
    lf_then (dumps +++ score) (counts_text setup.stats all) (lf_last dumps score (lf_score (score_of (after_rounds saved.minds saved.seed (moment_of saved) more).world))) (lines_counts setup.stats all)

lf_row : (width : ℕ) (kinds : List Kind) (y : ℕ) → EndsInLf (line_of_row width kinds y)
unfolding line_of_row
lf_row width kinds y =
    let cells : List ℕ = numbered (λ x. cell_text x (byte_of (slice_index_or kinds (y * width + x) Rock))) width in
    lf_last (space_if (y % 2 == 1)) (cells +++ codes "\n") (lf_last cells (codes "\n") lf_end)

pub lf_canonical : (width height : ℕ) (kinds : List Kind) → EndsInLf (canonical_text width height kinds)
unfolding canonical_text
lf_canonical width height kinds =
    let rows : List ℕ = numbered (line_of_row width kinds) height in
    let high : List ℕ = decimal height +++ codes "\n" +++ rows in
    lf_last (decimal width) (codes "\n" +++ high) (lf_last (codes "\n") high (lf_last (decimal height) (codes "\n" +++ rows)
    (lf_then (codes "\n") rows lf_end (lines_numbered (line_of_row width kinds) height (λ y. inr (lf_row width kinds y))))))

lf_stop : (stop : Stop) → EndsInLf (stop_line stop)
unfolding stop_line
lf_stop stop =
    let which : List ℕ = decimal stop.which +++ codes "\n" in
    let broken : List ℕ = codes ", break " +++ which in
    let id : List ℕ = decimal stop.id +++ broken in
    let ant : List ℕ = codes ", ant " +++ id in
    let round : List ℕ = decimal stop.round +++ ant in
    lf_last (codes "stop: round ") round (lf_last (decimal stop.round) ant (lf_last (codes ", ant ") id (lf_last (decimal stop.id) broken (lf_last (codes ", break ") which (lf_last (decimal stop.which) (codes "\n") lf_end)))))

lf_no_stop : (rounds : ℕ) → EndsInLf (no_stop_line rounds)
unfolding no_stop_line
lf_no_stop rounds = lf_last (codes "no stop in ") (decimal rounds +++ codes " rounds\n") (lf_last (decimal rounds) (codes " rounds\n") (record { is = refl }))

lf_end_of : (w : World) (rounds : ℕ) (stop : Option Stop) → EndsInLf (end_text w rounds stop)
lf_end_of w rounds None = lf_no_stop rounds
lf_end_of w rounds (Some stop) = lf_then (stop_line stop) (cells_text w) (lf_stop stop) (lines_cells w)

pub lf_view : (w : World) (seed rounds : ℕ) (stop : Option Stop) → EndsInLf (view_text w seed rounds stop)
unfolding view_text
lf_view w seed rounds stop = lf_last (seed_text seed) (end_text w rounds stop) (lf_end_of w rounds stop)

lf_lead_part : (leads : Bool) (line : Line) → EndsInLf (lead_part leads line)
lf_lead_part false line = record { is = refl }
lf_lead_part true line =
    let lead : List ℕ = lead_text line +++ codes "\n" in
    lf_last (codes ", lead ") lead (lf_last (lead_text line) (codes "\n") (record { is = refl }))

lf_table_line : (leads : Bool) (names : List (List ℕ)) (line : Line) → EndsInLf (table_line_text leads names line)
unfolding table_line_text
lf_table_line leads names line =
    let end : List ℕ = codes " lost)" +++ lead_part leads line in
    let lost : List ℕ = decimal line.lost +++ end in
    let third : List ℕ = codes " drawn, " +++ lost in
    let drawn : List ℕ = decimal line.drawn +++ third in
    let second : List ℕ = codes " won, " +++ drawn in
    let won : List ℕ = decimal line.won +++ second in
    let first : List ℕ = codes " (" +++ won in
    let name : List ℕ = name_of names line.player +++ first in
    let points : List ℕ = codes " points: " +++ name in
    lf_last (decimal line.points) points (lf_last (codes " points: ") name (lf_last (name_of names line.player) first (lf_last (codes " (") won (lf_last (decimal line.won) second
    (lf_last (codes " won, ") drawn (lf_last (decimal line.drawn) third (lf_last (codes " drawn, ") lost (lf_last (decimal line.lost) end
    (lf_last (codes " lost)") (lead_part leads line) (lf_lead_part leads line))))))))))

pub lf_workload : (seed rounds : ℕ) (summary : Summary) → EndsInLf (workload_text seed rounds summary)
unfolding workload_text
lf_workload seed rounds summary =
    lf_last (summary_lines seed rounds summary) (score_text summary.score +++ stats_text summary.totals) (lf_last (score_text summary.score) (stats_text summary.totals) (lf_stats summary.totals))

pub lf_help : EndsInLf help_text
unfolding help_text tail_lines
lf_help = lf_last head_lines _ (lf_last table_text tail_lines (record { is = refl }))

pub lf_version : EndsInLf version_text
unfolding version_text
lf_version = record { is = refl }

-- a standing has a line for each player
pub lf_standing : (leads gauntlet : Bool) (names : List (List ℕ)) (players worlds : ℕ) (score : ℕ → ℕ → ℕ → Score) (lines : List Line) → 1 ≤ players → Ranks players (all_played gauntlet players worlds score) lines → EndsInLf (standing_text leads names lines)
lf_standing leads gauntlet names players worlds score lines some at =
    let counted = length_permutation (map (line_of (all_played gauntlet players worlds score)) (below players)) lines at.each in
    let each = length-map (below players) (line_of (all_played gauntlet players worlds score)) in
    let all = length-below players in
    lf_flat_map (table_line_text leads names) lines (omega (arith, counted, each, all, some)) (lf_table_line leads names)

-- the lines of games precede it
pub lf_printed : (format : Format) (worlds names : List (List ℕ)) (score : ℕ → ℕ → ℕ → Score) (text : List ℕ) → 1 ≤ length names → IsPrintedCupText format worlds names score text → EndsInLf text
lf_printed format worlds names score text some told =
    subst EndsInLf (sym told.is)
    (lf_last (games_text format worlds names (cup_played format worlds names score) 1) (standing_text format.leads names told.lines)
    (lf_standing format.leads format.gauntlet names (length names) (length worlds * format.seeds.count) score told.lines some told.standing))

-- the line of the seed
lf_seed : (seed : ℕ) → EndsInLf (seed_text seed)
unfolding seed_text
lf_seed seed = lf_last (seed_words seed) (codes "\n") lf_end

-- the lines of an ant's way
lf_way : (round : ℕ) (w : World) (place : Option Pos) → EndsInLf (way_line round w place)
lf_way round w None = lf_last (codes "round ") (decimal round +++ codes ": dead\n") (lf_last (decimal round) (codes ": dead\n") (record { is = refl }))
lf_way round w (Some p) =
    let cell : List ℕ = cell_line p.x p.y (w.cells p) in
    let after : List ℕ = codes ": " +++ cell in
    lf_last (codes "round ") (decimal round +++ after) (lf_last (decimal round) after (lf_last (codes ": ") cell (lf_cell p.x p.y (w.cells p))))

lines_told : (worlds : ℕ → World) (id from i : ℕ) → AreLines (told_line worlds id from i)
unfolding told_line
lines_told worlds id from i = go (lives_in_first worlds id i) where
  go : (b : Bool) → AreLines (cond b (way_line (from + i) (worlds i) (place_in (worlds i) id)) [])
  go true = inr (lf_way (from + i) (worlds i) (place_in (worlds i) id))
  go false = inl refl

lines_end : (unmade : Bool) (worlds : ℕ → World) (id from n : ℕ) → AreLines (cond unmade (way_text worlds id from n) (unmade_text id))
unfolding way_text unmade_text
lines_end true worlds id from n = lines_numbered (told_line worlds id from) n (lines_told worlds id from)
lines_end false worlds id from n = inr (lf_last (codes "no ant of id ") (decimal id +++ codes "\n") (lf_last (decimal id) (codes "\n") lf_end))

pub lf_trace : (id : ℕ) (setup : ReportSetup) (game : ReadGame) → EndsInLf (trace_output id setup game)
unfolding trace_output trace_text
lf_trace id setup game =
    let told : ToldSetup = setup.told in
    let w : World = world_of game.world in
    lf_then (seed_text told.seed) _ (lf_seed told.seed)
    (lines_end (nat_lt id w.ids) (λ i. world_after (told_minds told game) told.seed w (setup.from + i)) id setup.from (told.rounds + 1 - setup.from))

-- any lines of what is seen of turns
lf_report : (told : Seen → List (List ℕ)) (from : ℕ) (minds : Minds) (seed : ℕ) (w : World) (rounds : ℕ) → EndsInLf (report_text told from minds seed w rounds)
unfolding report_text
lf_report told from minds seed w rounds =
    let lines : List (List ℕ) = report_lines told from minds seed w rounds in
    lf_then (seed_text seed) (flat_map (λ words. words +++ codes "\n") lines) (lf_seed seed)
    (lines_flat_map (λ words. words +++ codes "\n") lines (λ words. lf_last words (codes "\n") lf_end))

-- deaths, food that was taken and dropped, and changes of the score
pub lf_events : (food : Bool) (setup : ReportSetup) (game : ReadGame) → EndsInLf (events_output food setup game)
unfolding events_output
lf_events food setup game = lf_report (event_lines food) setup.from (told_minds setup.told game) setup.told.seed (world_of game.world) setup.told.rounds

-- what the ants executed
pub lf_acts : (one : Option ℕ) (setup : ReportSetup) (game : ReadGame) → EndsInLf (acts_output one setup game)
unfolding acts_output acts_text unmade_text
lf_acts None setup game = lf_report (act_lines None) setup.from (told_minds setup.told game) setup.told.seed (world_of game.world) setup.told.rounds
lf_acts (Some id) setup game =
    cond_both (nat_lt id (world_of game.world).ids) _ _ EndsInLf
    (λ _. lf_report (act_lines (Some id)) setup.from (told_minds setup.told game) setup.told.seed (world_of game.world) setup.told.rounds)
    (λ _. lf_last (seed_text setup.told.seed) _ (lf_last (codes "no ant of id ") (decimal id +++ codes "\n") (lf_last (decimal id) (codes "\n") lf_end)))

-- how often each state was executed
lf_tally : (colour : Colour) (state : ℕ) (instruction : Instr) (times met : ℕ) → EndsInLf (tally_line colour state instruction times met)
unfolding tally_line
lf_tally colour state instruction times met =
    let line : List ℕ = codes ": " +++ instruction_text instruction in
    let answers : List ℕ = met_text instruction met +++ line in
    let often : List ℕ = decimal times +++ codes " times" +++ answers in
    lf_last (colour_text colour) _ (lf_last (codes " ") _ (lf_last (decimal state) _ (lf_last (codes ": ") often (lf_last (decimal times) _ (lf_last (codes " times") answers
    (lf_last (met_text instruction met) line (lf_last (codes ": ") (instruction_text instruction) (lf_instruction instruction))))))))

lines_tallies : (minds : Minds) (seed : ℕ) (w : World) (rounds from : ℕ) (colour : Colour) (brain : List Instr) → AreLines (brain_lines colour brain (executed_in_rounds minds seed w rounds from))
unfolding brain_lines
lines_tallies minds seed w rounds from colour brain =
    let list = executed_in_rounds minds seed w rounds from in
    lines_numbered (tally_of_state colour brain list) (length brain)
    (λ state. inr (lf_tally colour state (instruction_at brain state) (times_of list colour state) (met_of list colour state)))

pub lf_profile : (setup : ReportSetup) (game : ReadGame) → EndsInLf (profile_output setup game)
unfolding profile_output profile_text
lf_profile setup game =
    let told : ToldSetup = setup.told in
    let minds : Minds = told_minds told game in
    let w : World = world_of game.world in
    let list = executed_in_rounds minds told.seed w told.rounds setup.from in
    lf_then (seed_text told.seed) (brain_lines Red game.red list +++ brain_lines Black game.black list) (lf_seed told.seed)
    (lines_then (brain_lines Red game.red list) (brain_lines Black game.black list) (lines_tallies minds told.seed w told.rounds setup.from Red game.red) (lines_tallies minds told.seed w told.rounds setup.from Black game.black))

-- the comparison of two brains
lf_found : (found : Found) → EndsInLf (found_text found)
unfolding found_text
lf_found found =
    let line : List ℕ = instruction_text found.instruction in
    lf_last (decimal found.state) (codes ": " +++ line) (lf_last (codes ": ") line (lf_instruction found.instruction))

pub lf_comparison : (comparison : Comparison) → EndsInLf (comparison_text comparison)
unfolding comparison_text
lf_comparison Same = record { is = refl }
lf_comparison (Different answers first second) =
    let last : List ℕ = codes "second " +++ found_text second in
    let one : List ℕ = found_text first +++ last in
    let behind : List ℕ = codes " answers\nfirst " +++ one in
    lf_last (codes "different after ") (decimal answers +++ behind) (lf_last (decimal answers) behind (lf_last (codes " answers\nfirst ") one
    (lf_last (found_text first) last (lf_last (codes "second ") (found_text second) (lf_found second)))))

pub lf_difference : (comparison : Comparison) (steps : List Step) → EndsInLf (difference_text comparison steps)
unfolding difference_text
lf_difference Same steps = record { is = refl }
lf_difference (Different answers first second) steps =
    let last : List ℕ = codes "second " +++ found_text second in
    let one : List ℕ = found_text first +++ last in
    let two : List ℕ = codes "first " +++ one in
    let way : List ℕ = flat_map step_text steps +++ two in
    let behind : List ℕ = codes " answers\n" +++ way in
    lf_last (codes "different after ") (decimal answers +++ behind) (lf_last (decimal answers) behind (lf_last (codes " answers\n") way
    (lf_last (flat_map step_text steps) two (lf_last (codes "first ") one (lf_last (found_text first) last (lf_last (codes "second ") (found_text second) (lf_found second)))))))
