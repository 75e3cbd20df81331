-- Brains fit the world with which a game begins, and a minimised brain has the scores of the brain.
use Rattle.std.proofs.Common.{◌≡◌, ℕ, ◌≤◌, List, length, Option, Ok, Err, sym, ◌∙◌, subst, arith}
use Rattle.ant_base.specs.Fetched.{Fetched}
use Rattle.ant_turn.specs.Minds.{Fits, Minds, contest_minds}
use Rattle.ant_turn.proofs.FitLemmas.{Fits-opening}
use Rattle.brain_minimise.specs.Minimised.{IsMinimised}
use Rattle.brain_minimise.proofs.MinimisedGames.{Carries-minimised, score_minimised}
use Rattle.brain_minimise.proofs.Ranks.{zero-number}
use Rattle.brain_read.specs.declared.instr.Instr.{Instr}
use Rattle.cell_world.specs.declared.ant.Colour.TheVariants.{Red, Black}
use Rattle.cell_world.specs.Grid.{Grid, world_of}
use Rattle.cell_world.specs.Score.{score_of}
use Rattle.match_run.specs.Run.{world_after}
use Rattle.world_read.specs.Opened.{IsOpeningWorld}
use Rattle.sample_caller.specs.Files.{ReadsBrain, ReadsWorld}
use Rattle.sample_caller.specs.Files.ReadsFile.{Opened}

-- brains of at least one state fit it
pub Fits-opened : (grid : Grid) (minds : Minds) → IsOpeningWorld grid → 1 ≤ length minds.red → 1 ≤ length minds.black → Fits (world_of grid) minds
Fits-opened grid minds opening red black =
    subst (λ (it : Grid). Fits (world_of it) minds) (sym opening.is) (Fits-opening grid.width grid.height opening.kinds minds red black)

-- the world of a file is one with which a game begins
pub opening-read : {log new_log : List Fetched} {name : List ℕ} {grid : Grid} → ReadsWorld log new_log name (Ok grid) → IsOpeningWorld grid
opening-read (Opened bytes (Ok world) _ fetched opens named) = record { kinds = opens.is.kinds; plan = rw named opens.is.is.plan; is = rw named opens.is.opened }
opening-read (Opened bytes (Err stop) _ fetched opens named) = absurd named

-- the brain of a file has at least one state
pub some-read : {log new_log : List Fetched} {name : List ℕ} {list : List Instr} → ReadsBrain log new_log name (Ok list) → 1 ≤ length list
some-read (Opened bytes (Ok brain) _ fetched opens named) = rw named opens.is.some
some-read (Opened bytes (Err stop) _ fetched opens named) = absurd named

-- a minimised brain has at least one state
pub some-minimised : (old new : List Instr) (numbers : List (Option ℕ)) → IsMinimised old new numbers → 1 ≤ length new
some-minimised old new numbers minimised =
    let inside = (Carries-minimised old new numbers minimised).inside 0 0 (zero-number old new numbers minimised) in
    omega (arith, inside.1)

-- If both sides play by a minimised brain, the score is that of the game in which both play by the brain itself.
pub score-of-both : (grid : Grid) (old new : List Instr) (numbers : List (Option ℕ)) (seed rounds : ℕ) → IsOpeningWorld grid → IsMinimised old new numbers
    → score_of (world_after (contest_minds new new) seed (world_of grid) rounds) ≡ score_of (world_after (contest_minds old old) seed (world_of grid) rounds)
unfolding world_after
score-of-both grid old new numbers seed rounds opening minimised =
    subst (λ (it : Grid). score_of (world_after (contest_minds new new) seed (world_of it) rounds) ≡ score_of (world_after (contest_minds old old) seed (world_of it) rounds)) (sym opening.is)
    (score_minimised (contest_minds new old) Black new numbers seed grid.width grid.height opening.kinds rounds minimised
    ∙ score_minimised (contest_minds old old) Red new numbers seed grid.width grid.height opening.kinds rounds minimised)
