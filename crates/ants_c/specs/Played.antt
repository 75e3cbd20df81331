-- What was played (this project's own).
use Rattle.std.specs.Prelude.{◌≡◌, ◌⊎◌, ℕ, List, ◌++◌, drop, length, map}
use Rattle.ant_turn.specs.Minds.{contest_minds}
use Rattle.brain_read.specs.declared.instr.Instr.{Instr}
use Rattle.cell_world.specs.declared.score.Score.{Score}
use Rattle.cell_world.specs.Grid.{Grid, world_of}
use Rattle.cell_world.specs.Score.{score_of}
use Rattle.match_run.specs.Run.{world_after}
use Rattle.text_fault.specs.Opens.{GivesBrain, GivesWorld}
use Rattle.world_read.specs.Opened.{IsOpeningWorld}
use Rattle.ants_c.specs.declared.score.AntsScore.{AntsScore}
use Rattle.ants_c.specs.declared.read.Setting.{Setting}

-- a status is one of these: done, a number outside its limits, no room, refused, out of memory
abbrev pub IsStatus : ℕ → Type 0
IsStatus status = (status ≡ 0) ⊎ ((status ≡ 2) ⊎ ((status ≡ 4) ⊎ ((status ≡ 5) ⊎ (status ≡ 6))))

-- the content of three texts
pub record IsSetting (world red black : List ℕ) (setting : Setting) : Type 0 where
  pub opening : IsOpeningWorld setting.world
  pub is_world : GivesWorld world setting.world
  pub is_red : GivesBrain red setting.red
  pub is_black : GivesBrain black setting.black

-- three texts are those of a world and of two brains
pub record IsGame (world_text red_text black_text : List ℕ) (world : Grid) (red black : List Instr) : Type 0 where
  pub is_world : GivesWorld world_text world
  pub is_red : GivesBrain red_text red
  pub is_black : GivesBrain black_text black

-- the score as C sees it
abbrev pub seen_score : Score → AntsScore
seen_score score = record { red = score.red; black = score.black }

-- the score of a game by the contest's rules: the game of these brains on this world, after this many rounds, with this
-- seed
abbrev pub game_score : (world : Grid) (red black : List Instr) → ℕ → ℕ → AntsScore
game_score world red black rounds seed =
    seen_score (score_of (world_after (contest_minds red black) seed (world_of world) rounds))

-- three texts are those of a game, and this is its score after this many rounds with this seed
pub record IsScored (world_text red_text black_text : List ℕ) (seed rounds : ℕ) (score : AntsScore) : Type 0 where
  pub world : Grid
  pub red : List Instr
  pub black : List Instr
  pub is_game : IsGame world_text red_text black_text world red black
  pub is_score : score ≡ game_score world red black rounds seed

-- Three texts are those of a game. Its scores are at the front of the caller's room, one for each seed, in order. What
-- follows them is unchanged.
pub record AreScored (world_text red_text black_text : List ℕ) (seeds : List ℕ) (rounds : ℕ)
    (before after : List AntsScore) : Type 0 where
  pub world : Grid
  pub red : List Instr
  pub black : List Instr
  pub is_game : IsGame world_text red_text black_text world red black
  pub are : after ≡ map (game_score world red black rounds) seeds ++ drop (length seeds) before
