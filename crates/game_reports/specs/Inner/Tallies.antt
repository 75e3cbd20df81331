-- How often each state was executed, as it is counted.
use Rattle.std.specs.Prelude.{◌≡◌, ℕ, ◌+◌, ◌<◌, ◌^◌, ◌++◌, List, length, slice_index_or, slice_set}
use Rattle.ant_base.specs.Layout.{numbered}
use Rattle.ant_turn.specs.Minds.{Minds, mind_of}
use Rattle.ant_turn.specs.Turn.{instruction_at}
use Rattle.brain_read.specs.declared.instr.Instr.{Instr}
use Rattle.cell_world.specs.declared.ant.Colour.{Colour}
use Rattle.cell_world.specs.declared.ant.Colour.TheVariants.{Red, Black}
use Rattle.cell_world.specs.Cell.{one_if}
use Rattle.game_reports.specs.declared.executed.Executed.{Executed}
use Rattle.game_reports.specs.declared.tally.Tally.{Tally}
use Rattle.game_reports.specs.declared.tally.Tallies.{Tallies}
use Rattle.game_reports.specs.Profile.{met_of, tally_line, times_of}

-- nothing is counted
abbrev pub no_tally : Tally
no_tally = record { times = 0; met = 0 }

-- what is counted for a state
abbrev pub tally_of : List Executed → Colour → ℕ → Tally
tally_of list colour state = record { times = times_of list colour state; met = met_of list colour state }

-- each of this many states of a colour's brain is counted
pub record IsTallied (colour : Colour) (states : ℕ) (list : List Executed) (tallies : List Tally) : Type 0 where
  pub each : length tallies ≡ states
  pub are : (state : ℕ) → state < states → slice_index_or tallies state no_tally ≡ tally_of list colour state

-- the tallies of a colour's states
abbrev pub tallies_of : Tallies → Colour → List Tally
tallies_of tallies Red = tallies.red.items
tallies_of tallies Black = tallies.black.items

-- each state of both brains is counted
abbrev pub AreTallied : Minds → List Executed → Tallies → Type 0
AreTallied minds list tallies =
    (colour : Colour) → IsTallied colour (length (mind_of minds colour)) list (tallies_of tallies colour)

-- one more is counted
abbrev pub counted_on : List Tally → Executed → List Tally
counted_on tallies executed =
    let tally = slice_index_or tallies executed.state no_tally in
    slice_set tallies executed.state (record { times = tally.times + 1; met = tally.met + one_if executed.met })

-- this many more turns may be counted: no count is near its largest value
pub record AreFew (tallies : Tallies) (left : ℕ) : Type 0 where
  pub times : (colour : Colour) (state : ℕ)
      → (slice_index_or (tallies_of tallies colour) state no_tally).times + left < 2 ^ 64
  pub met : (colour : Colour) (state : ℕ)
      → (slice_index_or (tallies_of tallies colour) state no_tally).met + left < 2 ^ 64

-- there is a tally for each state of both brains
abbrev pub HaveStates : Minds → Tallies → Type 0
HaveStates minds tallies = (colour : Colour) → length (tallies_of tallies colour) ≡ length (mind_of minds colour)

-- these were counted, in this many turns, in addition to what was counted before
pub record CountsOn (minds : Minds) (more : List Executed) (turns : ℕ) (old new : Tallies) : Type 0 where
  pub on : (list : List Executed) → AreTallied minds list old → AreTallied minds (list ++ more) new
  pub few : (left : ℕ) → AreFew old (left + turns) → AreFew new left
  pub states : HaveStates minds old → HaveStates minds new

-- these were counted in addition to what was counted before
abbrev pub CountsMore : List Executed → Tallies → Tallies → Type 0
CountsMore more old new =
    (minds : Minds) (list : List Executed) → AreTallied minds list old → AreTallied minds (list ++ more) new

-- the line of a state of a colour's brain, from its tally
abbrev pub counted_line : Colour → List Instr → List Tally → ℕ → List ℕ
counted_line colour brain tallies state =
    let tally = slice_index_or tallies state no_tally in
    tally_line colour state (instruction_at brain state) tally.times tally.met

-- the lines of a colour's brain
abbrev pub tally_lines : Colour → List Instr → List Tally → List ℕ
tally_lines colour brain tallies = numbered (counted_line colour brain tallies) (length brain)
