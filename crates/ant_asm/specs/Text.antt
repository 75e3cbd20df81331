-- Which texts are labelled programs, and what is wrong with the others (this project's own).
use Rattle.std.specs.Prelude.{◌≡◌, ◌⊎◌, ℕ, List, [], ◌∷◌, ◌++◌, Option, Some, None, length, option_map, if◌then◌else◌, ◌==◌}
use Rattle.line_tokens.specs.TokenLines.{TokenLine, lines_with_tokens}
use Rattle.ant_asm.specs.declared.fault.AsmFault.{AsmFault}
use Rattle.ant_asm.specs.declared.fault.AsmFault.TheVariants.{Misplaced, Empty, NoLabel}
use Rattle.ant_asm.specs.Program.{Items}
use Rattle.ant_asm.specs.Lines.{Line, Says}
use Rattle.ant_asm.specs.LineFaults.{spelling_fault}
use Rattle.ant_asm.specs.Standing.{Begun, Standing, below, earlier, items_of, nothing_yet, place_fault, unknown_of}

-- these lines lead from one state to another, and none of them is at fault
abbrev pub Leads : Standing → List TokenLine → Standing → Type 0
Leads standing [] last = standing ≡ last
Leads standing (line ∷ lines) last =
    (said : Line) × Says line.tokens said × (place_fault standing line.number said ≡ None)
    × Leads (below standing line.number said) lines last

-- the fault of a text, if no line is at fault and every block has ended
abbrev pub main_fault : Standing → Option AsmFault
main_fault standing =
    if length standing.main.items == 0
    then Some Empty
    else option_map NoLabel (earlier standing.unknown (unknown_of standing.main))

-- the fault of a text, if no line is at fault
abbrev pub last_fault : Option Begun → Standing → Option AsmFault
last_fault (Some begun) standing = Some (Misplaced begun.line)
last_fault None standing = main_fault standing

-- the text is a labelled program with this main
pub record IsAsmText (text : List ℕ) (main : Items) : Type 0 where
  pub standing : Standing
  pub leads : Leads nothing_yet (lines_with_tokens text) standing
  pub good : last_fault standing.begun standing ≡ None
  pub is : main ≡ items_of standing.main

-- the fault of a line: of its spelling; or of its place, if it says something
pub data IsLineFault (standing : Standing) (line : TokenLine) (fault : AsmFault) : Type 0 where
  OfSpelling : spelling_fault line.number line.tokens ≡ Some fault → IsLineFault standing line fault
  OfPlace : (said : Line) → Says line.tokens said → place_fault standing line.number said ≡ Some fault
      → IsLineFault standing line fault

-- a line has this fault, and none before it is at fault
pub record HasLineFault (text : List ℕ) (fault : AsmFault) : Type 0 where
  pub before : List TokenLine
  pub line : TokenLine
  pub after : List TokenLine
  pub lines : lines_with_tokens text ≡ before ++ line ∷ after
  pub standing : Standing
  pub leads : Leads nothing_yet before standing
  pub wrong : IsLineFault standing line fault

-- the fault of a text: that of its first line at fault; or, if no line is at fault, that of the text as a whole
pub data IsAsmFault (text : List ℕ) (fault : AsmFault) : Type 0 where
  OfLine : HasLineFault text fault → IsAsmFault text fault
  OfWhole : (standing : Standing) → Leads nothing_yet (lines_with_tokens text) standing
      → last_fault standing.begun standing ≡ Some fault → IsAsmFault text fault

-- every text has one program or one fault, and never both
pub record OneProgramOrOneFault : Type 0 where
  pub some : (text : List ℕ) → ((main : Items) × IsAsmText text main) ⊎ ((fault : AsmFault) × IsAsmFault text fault)
  pub one_program : (text : List ℕ) (a b : Items) → IsAsmText text a → IsAsmText text b → a ≡ b
  pub one_fault : (text : List ℕ) (a b : AsmFault) → IsAsmFault text a → IsAsmFault text b → a ≡ b
  pub never_both : (text : List ℕ) (main : Items) (fault : AsmFault) → IsAsmText text main → IsAsmFault text fault → ⊥
