-- Games that are played window by window (the task's game play; windows are this project's own).
use Rattle.std.specs.Prelude.{◌≡◌, ℕ, ◌+◌, ◌-◌, ◌*◌, ◌%◌, ◌<◌, ◌≤◌, ◌^◌, true, min}
use Rattle.ant_turn.specs.Rounds.{Moment, after_rounds, after_turns}
use Rattle.dump_print.specs.declared.totals.Totals.{Totals}
use Rattle.round_book.specs.Book.{FieldValue, field_moment}
use Rattle.match_run.specs.Counts.{both, no_turns, sum_windows, totals_of, windows_of}
use Rattle.match_run.specs.Run.{most_rounds}

-- what a contract sees of a game: its field, how many turns a window has, the place in the stream at which it began,
-- how many rounds are done, the next turn of the current round, and the counts of the turns so far
pub record GameValue : Type 0 where
  pub field : FieldValue
  pub window : ℕ
  pub first_place : ℕ
  pub done : ℕ
  pub next : ℕ
  pub totals : Totals

-- a game that begins on a field
abbrev pub beginning : FieldValue → ℕ → GameValue
beginning field window = record {
  field = field;
  window = window;
  first_place = field.place;
  done = 0;
  next = 0;
  totals = no_turns;
}

-- a game that began at place 0, of which this many rounds are done with these turns, and that continues from a field
abbrev pub game_at_round : FieldValue → ℕ → ℕ → Totals → GameValue
game_at_round field window done totals = record {
  field = field;
  window = window;
  first_place = 0;
  done = done;
  next = 0;
  totals = totals;
}

-- such a game can continue: its field is whole; a window has a turn; few rounds are done; its turns are those of these
-- rounds, each taken or redone; and each drew at most one random number
pub record CanGoOn (field : FieldValue) (window done : ℕ) (totals : Totals) : Type 0 where
  pub whole : field.whole ≡ true
  pub sized : 1 ≤ window
  pub few : done ≤ most_rounds
  pub turns : totals.turns ≡ field.world.ids * done
  pub add_up : totals.taken + totals.redone ≡ totals.turns
  pub place : field.place ≤ totals.turns

-- what holds of every game: its field is whole; few rounds are done; the next turn is 0 or the first of a window; its
-- turns are those of the rounds that are done and of the windows since, each taken or redone; and each drew at most one
-- random number
pub record IsGame (game : GameValue) : Type 0 where
  pub whole : game.field.whole ≡ true
  pub few : game.done ≤ most_rounds
  pub sized : 1 ≤ game.window
  pub at_window : game.next % game.window ≡ 0
  pub not_last : 0 < game.next → game.next < game.field.world.ids
  pub turns : game.totals.turns ≡ game.field.world.ids * game.done + game.next
  pub add_up : game.totals.taken + game.totals.redone ≡ game.totals.turns
  pub place_from : game.first_place ≤ game.field.place
  pub place_to : game.field.place ≤ game.first_place + game.totals.turns
  pub early : game.first_place < 2 ^ 62

-- the moment of a game: its world and its place
abbrev pub now_of : GameValue → Moment
now_of game = field_moment game.field

-- how many turns of the round are left
abbrev pub turns_left : GameValue → ℕ
turns_left game = game.field.world.ids - game.next

-- the moment after this many more turns of the round
abbrev pub moment_ahead : GameValue → ℕ → Moment
moment_ahead game turns = after_turns game.field.minds game.field.seed (now_of game) game.next turns

-- the counts of the turns of this many more windows of the round
abbrev pub totals_ahead : GameValue → ℕ → Totals
totals_ahead game windows = sum_windows game.field.minds game.field.seed game.window (now_of game) game.next windows

-- what no round changes
pub record IsSameGame (old new : GameValue) : Type 0 where
  pub minds : new.field.minds ≡ old.field.minds
  pub seed : new.field.seed ≡ old.field.seed
  pub ids : new.field.world.ids ≡ old.field.world.ids
  pub window : new.window ≡ old.window
  pub first_place : new.first_place ≡ old.first_place

-- a round was played to its end: each turn that was left, and each window of them
pub record IsRoundPlayed (old new : GameValue) : Type 0 where
  pub now : now_of new ≡ moment_ahead old (turns_left old)
  pub totals : new.totals ≡ both old.totals (totals_ahead old (windows_of old.window (turns_left old)))
  pub done : new.done ≡ old.done + 1
  pub next : new.next ≡ 0
  pub same : IsSameGame old new

-- a window of the round was refused: this many windows were played, and the next turn is the first one of the refused
-- window
pub record IsRoundRefused (old new : GameValue) : Type 0 where
  pub windows : ℕ
  pub now : now_of new ≡ moment_ahead old (windows * old.window)
  pub totals : new.totals ≡ both old.totals (totals_ahead old windows)
  pub done : new.done ≡ old.done
  pub next : new.next ≡ old.next + windows * old.window
  pub is_left : new.next < old.field.world.ids
  pub same : IsSameGame old new

-- a game at the end of a round was played for this many rounds: its moment is that after these rounds of the rules, and
-- it has added the counts of their turns to the earlier ones
pub record GoesOnFor (old new : GameValue) (rounds : ℕ) : Type 0 where
  pub now : now_of new ≡ after_rounds old.field.minds old.field.seed (now_of old) rounds
  pub totals : new.totals ≡ both old.totals (totals_of old.field.minds old.field.seed old.window (now_of old) rounds)
  pub done : new.done ≡ old.done + rounds
  pub next : new.next ≡ 0
  pub same : IsSameGame old new

-- a count of turns after some more, which stays at the largest u64
abbrev pub counted_on : ℕ → ℕ → ℕ
counted_on turns more = min (turns + more) (2 ^ 64 - 1)

-- a count of turns has risen by at most this many
abbrev pub RisesUpTo : ℕ → ℕ → ℕ → Type 0
RisesUpTo old new turns = (old ≤ new) × (new ≤ old + turns)
