-- What is seen of a game after each round.
use Rattle.std.proofs.Common.{◌≡◌, ℕ, ◌+◌, Bool, true, false, None, inl, inr, sym, ◌∙◌, ap, subst, arith}
use Rattle.std.proofs.lemmas.Bool.{cases_lt}
use Rattle.ant_turn.specs.Minds.{Minds}
use Rattle.ant_turn.specs.Rounds.{after_rounds}
use Rattle.cell_world.specs.Grid.{Grid, world_of}
use Rattle.match_run.specs.Game.{GameValue, GoesOnFor, beginning, now_of}
use Rattle.match_run.specs.Run.{world_after}
use Rattle.match_run.proofs.PlayLemmas.{GoesOnFor-world}
use Rattle.round_book.specs.Book.{FieldValue, field_moment}
use Rattle.sample_caller.specs.Watched.{MeetsNone, is_laden}

-- the field on which a game of a world begins
abbrev pub first_field : Grid → Minds → ℕ → FieldValue
first_field world minds seed = record { world = world; minds = minds; seed = seed; place = 0; whole = true; lent = None }

-- the rounds of a game that begins there lead where those of the rules do
pub begun-world : (game : GameValue) (field : FieldValue) (window : ℕ) (world : Grid) (minds : Minds) (seed round : ℕ) → game ≡ beginning field window → field ≡ first_field world minds seed
    → world_after minds seed (world_of world) round ≡ (after_rounds game.field.minds game.field.seed (now_of game) round).world
unfolding world_after
begun-world game field window world minds seed round begins is =
    ap (λ (f : FieldValue). (after_rounds f.minds f.seed (field_moment f) round).world) (sym is)
    ∙ ap (λ (g : GameValue). (after_rounds g.field.minds g.field.seed (now_of g) round).world) (sym begins)

-- a test of the world that a game shows is a test of the world after the game's rounds
pub laden-shown : {game new : GameValue} {round : ℕ} → GoesOnFor game new round → (id : ℕ) (shown : Grid) (b : Bool) → shown ≡ new.field.world → b ≡ is_laden id (world_of shown)
    → is_laden id (after_rounds game.field.minds game.field.seed (now_of game) round).world ≡ b
laden-shown on id shown b same is =
    ap (is_laden id) (sym (GoesOnFor-world on)) ∙ ap (λ (grid : Grid). is_laden id (world_of grid)) (sym same) ∙ sym is

-- one more round doesn't meet a test
pub MeetsNone-more : (test : ℕ → Bool) (n : ℕ) → MeetsNone test n → test (n + 1) ≡ false → MeetsNone test (n + 1)
MeetsNone-more test n none last = λ round low high. elim (cases_lt round (n + 1)) [
  | inl below ↦ none round low (omega arith)
  | inr above ↦ let here : n + 1 ≡ round = omega arith in subst (λ (r : ℕ). test r ≡ false) here last
]
