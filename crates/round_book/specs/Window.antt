-- A window of turns, and what its turns do one after another (this project's own).
use Rattle.std.specs.Prelude.{◌≡◌, ◌≢◌, ℕ, ◌+◌, ◌-◌, ◌<◌, ◌≤◌, ◌^◌, true, List, [], ◌∷◌, ◌++◌, zero, suc}
use Rattle.std.specs.List.{AllByRecursion, Contains}
use Rattle.hex_geometry.specs.declared.position.Pos.{Pos}
use Rattle.cell_world.specs.declared.part.Part.{Part}
use Rattle.cell_world.specs.Parts.{Agree, Alike, has_part}
use Rattle.cell_world.specs.Valid.{Valid}
use Rattle.cell_world.specs.World.{World}
use Rattle.ant_turn.specs.Minds.{Minds, Fits, AreSound}
use Rattle.ant_turn.specs.Rounds.{Moment, after_turns}
use Rattle.spec_record.specs.Claims.{Claim}
use Rattle.spec_record.specs.Guess.{flips, guess, guesses_of}
use Rattle.spec_record.specs.Holds.{Holds}
use Rattle.spec_record.specs.Look.{LookValue, look_of}
use Rattle.spec_record.specs.Reads.{reads}
use Rattle.round_book.specs.declared.verdict.Cause.TheVariants as cause
use Rattle.round_book.specs.declared.verdict.Verdict.{Verdict}
use Rattle.round_book.specs.declared.verdict.Verdict.TheVariants.{Taken, Redone}

-- a window: the brains and the seed of its game, the world and the place in the stream at its start (its base), and its
-- turns: those of the ids from `from` up to, but not including, `to`
pub record Window : Type 0 where
  pub minds : Minds
  pub seed : ℕ
  pub base : World
  pub place : ℕ
  pub from : ℕ
  pub to : ℕ

-- a sound window: its base is a world, its brains are sound and fit it, and it doesn't end before it begins
pub record IsSound (window : Window) : Type 0 where
  pub valid : Valid window.base
  pub sound : AreSound window.minds
  pub fits : Fits window.base window.minds
  pub forwards : window.from ≤ window.to

-- a window that may be played: its brains are sound and fit its base, its turns are ids of it, and the stream is long
-- enough for them
pub record IsPlayable (window : Window) : Type 0 where
  pub valid : Valid window.base
  pub sound : AreSound window.minds
  pub fits : Fits window.base window.minds
  pub forwards : window.from ≤ window.to
  pub ids : window.to ≤ window.base.ids
  pub lasting : window.place + (window.to - window.from) < 2 ^ 63

-- the world and the place after the turns from `from` up to, but not including, turn t, one after another
unfoldable pub moment_before : Window → ℕ → Moment
moment_before window t =
    after_turns window.minds window.seed (record { world = window.base; place = window.place }) window.from
    (t - window.from)

-- the guess for a turn of the window
unfoldable pub guess_for : Window → ℕ → ℕ
guess_for window t = guess window.minds window.base window.place window.from t

-- the guesses of the window's turns, in order
abbrev pub guesses_for : Window → List ℕ
guesses_for window = guesses_of window.minds window.base window.place window.from window.from (window.to - window.from)

-- the look at a turn of the window, on the base at the turn's guess
unfoldable pub look_for : Window → ℕ → LookValue
look_for window t = look_of window.minds window.seed window.base (guess_for window t) t

-- the look at turn t is valid in a world at a place
abbrev pub HoldsIn : Window → Moment → ℕ → Type 0
HoldsIn window now t = Holds window.minds window.base (guess_for window t) now.world now.place t

-- a part of a position that turn t reads, in which the base and the world `now` differ
pub record IsOther (window : Window) (now : World) (t : ℕ) (at : Pos) (k : Part) : Type 0 where
  pub read : Claim
  pub is_read : Contains (reads window.minds window.base t) read
  pub here : read.at ≡ at
  pub named : has_part read.parts k ≡ true
  pub differs : ¬ Alike k (window.base.cells at) (now.cells at)

-- every part that turn t reads is as in the base, and its random number is not the guessed one
pub record IsElsewhere (window : Window) (now : Moment) (t guessed actual : ℕ) : Type 0 where
  pub unchanged : AllByRecursion (λ read. Agree read.parts (window.base.cells read.at) (now.world.cells read.at)) (reads window.minds window.base t)
  pub flips : flips window.minds window.base t ≡ true
  pub is_guess : guessed ≡ guess_for window t
  pub is_actual : actual ≡ now.place
  pub differs : actual ≢ guessed

-- the verdict on turn t, if the turns before it led to this moment: taken, if its look is valid; otherwise redone, with
-- a part that it reads and that differs or, if none differs, with the guessed and the actual place
abbrev pub IsVerdict : Window → Moment → ℕ → Verdict → Type 0
IsVerdict window now t Taken = HoldsIn window now t
IsVerdict window now t (Redone (cause.Part at k)) = IsOther window now.world t at k
IsVerdict window now t (Redone (cause.Place guessed actual)) = IsElsewhere window now t guessed actual

-- the verdicts of n turns from `from` on, in order, each once
abbrev pub AreVerdicts : Window → ℕ → List Verdict → Type 0
AreVerdicts window zero verdicts = verdicts ≡ []
AreVerdicts window (suc n) verdicts =
    let t = window.from + n in
    (before : List Verdict) × (last : Verdict) × (verdicts ≡ before ++ last ∷ []) × AreVerdicts window n before
    × IsVerdict window (moment_before window t) t last
