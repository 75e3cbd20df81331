-- A game can be played with what was accepted of its files.
use Rattle.std.proofs.Common.{List, [], ◌∷◌, ℕ, sym, subst}
use Rattle.ant_base.specs.Fetched.{Fetched}
use Rattle.ant_turn.specs.Minds.{Fits}
use Rattle.ant_turn.proofs.FitLemmas.{Fits-opening}
use Rattle.brain_read.specs.declared.instr.Instr.{Instr}
use Rattle.brain_read.proofs.SoundnessLemmas.{brain_of}
use Rattle.ant_turn.specs.Sheet.{Sheet}
use Rattle.cell_world.specs.Grid.{Grid, world_of}
use Rattle.world_read.specs.Opened.{IsOpeningWorld}
use Rattle.ant_commands.specs.Files.{AreAccepted, IsAccepted}
use Rattle.ant_commands.specs.Files.FileContent.{WorldContent, BrainContent}
use Rattle.ant_commands.specs.Outputs.{brain_file, game_files, world_file}

fits : (name red_name black_name : List ℕ) (grid : Grid) (red black : List Instr) (sheet : Sheet) (a b c : Fetched) → IsAccepted (world_file name) a (WorldContent grid) → IsAccepted (brain_file red_name) b (BrainContent red)
    → IsAccepted (brain_file black_name) c (BrainContent black) → Fits (world_of grid) (record { red = red; black = black; sheet = sheet })
fits name red_name black_name grid red black sheet a b c world first second =
    subst (λ (g : Grid). Fits (world_of g) (record { red = red; black = black; sheet = sheet })) (sym world.reads.opened)
    (Fits-opening grid.width grid.height world.reads.kinds (record { red = red; black = black; sheet = sheet }) (brain_of first.bytes red first.reads).some (brain_of second.bytes black second.reads).some)

-- a world and two brains that were accepted fit
pub fits_accepted : (name red_name black_name : List ℕ) (fetches : List Fetched) (grid : Grid) (red black : List Instr) (sheet : Sheet)
    → AreAccepted (game_files name red_name black_name) fetches (WorldContent grid ∷ BrainContent red ∷ BrainContent black ∷ []) → Fits (world_of grid) (record { red = red; black = black; sheet = sheet })
fits_accepted name red_name black_name [] grid red black sheet are = absurd are
fits_accepted name red_name black_name (a ∷ []) grid red black sheet are = absurd are.1
fits_accepted name red_name black_name (a ∷ b ∷ []) grid red black sheet are = absurd are.1.1
fits_accepted name red_name black_name (a ∷ b ∷ c ∷ fetches) grid red black sheet are = fits name red_name black_name grid red black sheet a b c are.0 are.1.0 are.1.1.0

-- such a world is one at the start of a game
pub opened_accepted : (name red_name black_name : List ℕ) (fetches : List Fetched) (grid : Grid) (red black : List Instr)
    → AreAccepted (game_files name red_name black_name) fetches (WorldContent grid ∷ BrainContent red ∷ BrainContent black ∷ []) → IsOpeningWorld grid
opened_accepted name red_name black_name [] grid red black are = absurd are
opened_accepted name red_name black_name (a ∷ fetches) grid red black are = (let opens = are.0.reads in record { kinds = opens.kinds; plan = opens.is.plan; is = opens.opened })
