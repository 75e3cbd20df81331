-- A saved game that is continued (this project's own).
use Rattle.std.specs.Prelude.{◌≡◌, ℕ, ◌+◌, ◌≤◌, Bool, true, List, None, Result, Ok, Err, ⊤}
use Rattle.ant_base.specs.Layout.{◌+++◌}
use Rattle.ant_base.specs.Sink.{SinkState}
use Rattle.ant_turn.specs.Rounds.{Moment, after_rounds, start_of}
use Rattle.cell_world.specs.Grid.{world_of}
use Rattle.cell_world.specs.World.{World}
use Rattle.dump_print.specs.Texts.{seed_text}
use Rattle.match_run.specs.Counts.{totals_of, whole_text}
use Rattle.ant_base.specs.declared.push_fault.PushFault.{PushFault}
use Rattle.ant_base.specs.declared.push_fault.PushFault.TheVariants.{WriteFault, OutOfMemory}
use Rattle.match_run.specs.Later.{later_text}
use Rattle.match_run.specs.Run.{dumps_text}
use Rattle.round_book.specs.Book.{FieldValue}
use Rattle.match_save.specs.Saved.{SavedValue}

-- the moment of a saved game: its world and its place
abbrev pub moment_of : SavedValue → Moment
moment_of s = record { world = world_of s.world; place = s.place }

-- its moment after this many more rounds
abbrev pub later_moment : SavedValue → ℕ → Moment
later_moment s rounds = after_rounds s.minds s.seed (moment_of s) rounds

-- its world then
abbrev pub later_world : SavedValue → ℕ → World
later_world s rounds = (later_moment s rounds).world

-- the text of its rest up to this many rounds in total: the dumps of the later rounds that are chosen, the score at the
-- end, and the counts of all rounds if they are requested
unfoldable pub resumed_text : SavedValue → ℕ → (ℕ → Bool) → Bool → List ℕ
resumed_text s rounds chosen stats =
    later_text s.minds s.seed s.window (moment_of s) s.round s.totals rounds chosen stats

-- a save is at the moment after its rounds of a game that starts in w, and counts their turns
pub record IsOfGame (s : SavedValue) (w : World) : Type 0 where
  pub moment : moment_of s ≡ after_rounds s.minds s.seed (start_of w) s.round
  pub totals : s.totals ≡ totals_of s.minds s.seed s.window (start_of w) s.round

-- the text of an uninterrupted run is the line of the seed, the chosen dumps up to the saved round, and the rest of the
-- save's
abbrev pub SavesGoOn : Type 0
SavesGoOn =
    (s : SavedValue) (w : World) (rounds : ℕ) (chosen : ℕ → Bool) (stats : Bool) → IsOfGame s w → s.round ≤ rounds →
    whole_text s.minds s.seed rounds chosen s.window stats w
    ≡ seed_text s.seed +++ dumps_text s.minds s.seed chosen w (s.round + 1) +++ resumed_text s rounds chosen stats

-- if memory ran out, nothing was pushed
abbrev pub UnwrittenByMemory : {A : Type 0} → SinkState → SinkState → Result A PushFault → Type 0
UnwrittenByMemory old new (Ok _) = ⊤
UnwrittenByMemory old new (Err WriteFault) = ⊤
UnwrittenByMemory old new (Err OutOfMemory) = new ≡ old

-- a saved game as a field
abbrev pub field_of : SavedValue → FieldValue
field_of s = record { world = s.world; minds = s.minds; seed = s.seed; place = s.place; whole = true; lent = None }
