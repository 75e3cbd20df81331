-- The results of assembling a text (this project's own).
use Rattle.std.specs.Prelude.{◌≡◌, ℕ, List, Result, Ok, Err}
use Rattle.cell_world.specs.declared.ant.Colour.{Colour}
use Rattle.cell_world.specs.declared.kind.Kind.{Kind}
use Rattle.cell_world.specs.Grid.{world_of}
use Rattle.cell_world.specs.Opening.{opening}
use Rattle.cell_world.specs.Valid.{Valid}
use Rattle.brain_read.specs.declared.instr.Instr.{Instr}
use Rattle.ant_turn.specs.Minds.{AreSound, Minds}
use Rattle.ant_turn.specs.Renumber.{with_mind}
use Rattle.ant_turn.specs.Rounds.{after_rounds, start_of}
use Rattle.ant_asm.specs.declared.assembly.Assembled as code
use Rattle.ant_asm.specs.declared.fault.AsmFault.{AsmFault}
use Rattle.ant_asm.specs.declared.fault.AsmFault.TheVariants.{OutOfMemory}
use Rattle.ant_asm.specs.Program.{Items}
use Rattle.ant_asm.specs.Places.{Address}
use Rattle.ant_asm.specs.Assembled.{IsAssembled}
use Rattle.ant_asm.specs.Match.{label_game, numbered_moment}
use Rattle.ant_asm.specs.Text.{IsAsmText}

-- a text is a program that is assembled to this brain with these places
pub record IsAssembledText (text : List ℕ) (brain : List Instr) (places : List Address) : Type 0 where
  pub main : Items
  pub is : IsAsmText text main
  pub assembled : IsAssembled main brain places

-- the result is the assembled program, or out of memory
abbrev pub AnswersProgram : Result code.Assembled AsmFault → Items → Type 0
AnswersProgram (Ok made) main = IsAssembled main made.brain made.places
AnswersProgram (Err fault) main = fault ≡ OutOfMemory

-- The game with the returned brain on one side is the labelled game of the text's program, with each address replaced
-- by its number. It is at the same place of the stream. This holds for any opening world, other brain, numbers of the
-- rules, seed, side and number of rounds.
abbrev pub PlaysText : List ℕ → Result code.Assembled AsmFault → Type 0
PlaysText text (Ok made) =
    (main : Items) → IsAsmText text main
    → (side : Colour) (minds : Minds) (seed width height : ℕ) (kinds : List Kind) (r : ℕ) →
    AreSound (with_mind minds side made.brain) → Valid (world_of (opening width height kinds)) →
    after_rounds (with_mind minds side made.brain) seed (start_of (world_of (opening width height kinds))) r
    ≡ numbered_moment made.places side (label_game main side minds seed width height kinds r)
PlaysText text (Err fault) = Unit {0}

-- the program of a text is assembled to exactly one brain, with exactly one list of places
pub record OneBrain : Type 0 where
  pub some : (text : List ℕ) (main : Items) → IsAsmText text main
      → (brain : List Instr) × (list : List Address) × IsAssembled main brain list
  pub one : (main : Items) (a b : List Instr) (first second : List Address) → IsAssembled main a first
      → IsAssembled main b second → (a ≡ b) × (first ≡ second)
