-- What the code has read so far of a program, as the state above a line, and the reading of the lines that are left.
use Rattle.std.specs.Prelude.{◌≡◌, ◌⊎◌, ℕ, ◌-◌, ◌<◌, ◌≤◌, List, [], ◌∷◌, length, Option, Some, None, Result, Ok, Err, slice_get}
use Rattle.std.specs.Borrow.{Bor}
use Rattle.line_tokens.specs.TokenLines.{TokenLine, token_lines}
use Rattle.ant_asm.specs.declared.body.Body.{Body}
use Rattle.ant_asm.specs.declared.fault.AsmFault.{AsmFault}
use Rattle.ant_asm.specs.declared.fault.AsmFault.TheVariants.{OutOfMemory}
use Rattle.ant_asm.specs.declared.open.OpenBody.{OpenBody}
use Rattle.ant_asm.specs.declared.program.Outer.{Outer}
use Rattle.ant_asm.specs.declared.program.Program.{Program}
use Rattle.ant_asm.specs.Program.{Items, size_of}
use Rattle.ant_asm.specs.Lines.{Line}
use Rattle.ant_asm.specs.Standing.{Begun, Block, Standing, below, place_fault}
use Rattle.ant_asm.specs.Text.{IsAsmFault, IsAsmText}
use Rattle.ant_asm.specs.Inner.Flat.{AreGood, tree_at, trees_of}
use Rattle.ant_asm.specs.Inner.Ranged.{AreRanged}
use Rattle.ant_asm.specs.Inner.Reading.{Read, fault_at, read_line}
use Rattle.ant_asm.specs.Inner.Scopes.{known_as}
use Rattle.ant_asm.specs.Inner.View.{IsGoodOpen, open_seen, parameters_in}

-- the block with a number, if there is one
abbrev pub block_in : List Body → Option ℕ → Option Block
block_in bodies None = None
block_in bodies (Some n) = Some (record { parameters = parameters_in (slice_get bodies n); items = tree_at bodies n })

-- the block of each name
abbrev pub blocks_seen : List Body → List (Bor (List ℕ) × ℕ) → List ℕ → Option Block
blocks_seen bodies entries name = block_in bodies (known_as entries name)

-- main, whether lines are added to it or to a block
abbrev pub main_of : Option Outer → OpenBody → OpenBody
main_of None current = current
main_of (Some outer) current = outer.main

-- the block that has begun
abbrev pub begun_seen : List Items → Option Outer → OpenBody → Option Begun
begun_seen trees None current = None
begun_seen trees (Some outer) current =
    Some (record { name = outer.name.now; line = outer.line; draft = open_seen trees current })

-- the state above a line
abbrev pub standing_of : List Body → Option Outer → OpenBody → List (Bor (List ℕ) × ℕ) → Option ℕ → Standing
standing_of bodies outer current blocks unknown = record {
  main = open_seen (trees_of bodies) (main_of outer current);
  count = length bodies;
  blocks = blocks_seen bodies blocks;
  begun = begun_seen (trees_of bodies) outer current;
  unknown = unknown;
}

abbrev pub program_seen : Program → Standing
program_seen program =
    standing_of program.bodies.items program.outer program.current program.blocks.entries program.unknown

-- if a block has begun, main is good, and there is room for one more block
abbrev pub IsGoodOuter : List Body → Option Outer → Type 0
IsGoodOuter bodies None = Unit {0}
IsGoodOuter bodies (Some outer) = IsGoodOpen bodies outer.main × (length bodies < 256)

-- the blocks that have ended are good
pub record AreGoodBlocks (bodies : List Body) : Type 0 where
  pub good : AreGood bodies
  pub some : (n : ℕ) → n < length bodies → 1 ≤ size_of (tree_at bodies n)
  pub ranged : (n : ℕ) → n < length bodies → AreRanged (tree_at bodies n)

-- what was read so far is good
pub record IsGoodProgram (program : Program) : Type 0 where
  pub bodies : AreGoodBlocks program.bodies.items
  pub few : length program.bodies.items ≤ 256
  pub blocks : (name : List ℕ) (n : ℕ) → known_as program.blocks.entries name ≡ Some n → n < length program.bodies.items
  pub current : IsGoodOpen program.bodies.items program.current
  pub outer : IsGoodOuter program.bodies.items program.outer
  pub main : (main_of program.outer program.current).parameters ≡ 0

-- a line without a fault leads from the state above it to the state below it
pub record IsReadInto (above : Standing) (number : ℕ) (line : Line) (under : Standing) : Type 0 where
  pub free : place_fault above number line ≡ None
  pub is : under ≡ below above number line

-- the state below a line without a fault, or its fault
abbrev pub placed_or : Option AsmFault → Standing → Result Standing AsmFault
placed_or None under = Ok under
placed_or (Some fault) under = Err fault

-- the state below a line that was read, or the fault of the line
abbrev pub stepped : Standing → ℕ → Read Line → Result Standing AsmFault
stepped above number (Ok line) = placed_or (place_fault above number line) (below above number line)
stepped above number (Err fault) = Err (fault_at number fault)

-- if a line has no fault, reading continues from the state below it
abbrev pub then_lines : Result Standing AsmFault → (Standing → Result Standing AsmFault) → Result Standing AsmFault
then_lines (Ok under) later = later under
then_lines (Err fault) later = Err fault

-- the lines that are left, one after another
abbrev pub reading : Standing → List TokenLine → Result Standing AsmFault
reading above [] = Ok above
reading above (line ∷ lines) =
    then_lines (stepped above line.number (read_line line.tokens)) (λ under. reading under lines)

-- the same for lines that may have no token; the first has this number
unfoldable pub reading_from : Standing → ℕ → List (List ℕ) → Result Standing AsmFault
reading_from above number lines = reading above (token_lines number lines)

-- a result's fault is that of the reading, or out of memory
abbrev pub FailsAs : AsmFault → Result Standing AsmFault → Type 0
FailsAs fault made = (made ≡ Err fault) ⊎ (fault ≡ OutOfMemory)

-- a result's fault is the text's, or out of memory
abbrev pub FailsText : List ℕ → AsmFault → Type 0
FailsText text fault = IsAsmFault text fault ⊎ (fault ≡ OutOfMemory)

-- the number of main
abbrev pub last_of : List Body → ℕ
last_of bodies = length bodies - 1

-- the bodies are a text's blocks, and main last
pub record AreBodiesOf (text : List ℕ) (bodies : List Body) : Type 0 where
  pub blocks : AreGoodBlocks bodies
  pub some : 1 ≤ length bodies
  pub few : length bodies ≤ 257
  pub main : IsAsmText text (tree_at bodies (last_of bodies))
  pub plain : parameters_in (slice_get bodies (last_of bodies)) ≡ 0
