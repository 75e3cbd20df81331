-- Each law, used at a program of three blocks, one inside another: a weaker law would not do.
use Rattle.std.proofs.Common.{◌≡◌, ℕ, suc, List, [], ◌∷◌, length, codes, Ok, refl, arith}
use Rattle.std.specs.Prelude.{◌⊎◌}
use Rattle.std.specs.List.{AllByRecursion}
use Rattle.cell_world.specs.declared.ant.Colour.TheVariants.{Red}
use Rattle.cell_world.specs.Grid.{world_of}
use Rattle.cell_world.specs.Opening.{opening}
use Rattle.cell_world.specs.Score.{score_of}
use Rattle.cell_world.specs.Valid.{Valid}
use Rattle.cell_world.proofs.OpeningValid.{IsWorld-opening}
use Rattle.cell_world.proofs.OpeningWorked.{IsPlan-three_hills, three_hills}
use Rattle.brain_read.specs.declared.instr.Instr.{Instr}
use Rattle.brain_read.specs.declared.instr.Instr.TheVariants as instr
use Rattle.brain_read.specs.Forms.{form_words}
use Rattle.line_tokens.specs.TokenLines.{lines_with_tokens}
use Rattle.ant_turn.specs.Minds.{AreSound, contest_minds}
use Rattle.ant_turn.specs.Rounds.{after_rounds, start_of}
use Rattle.ant_asm.specs.declared.action.Action.TheVariants.{Drop}
use Rattle.ant_asm.specs.declared.action.Label.TheVariants.{Next}
use Rattle.ant_asm.specs.declared.fault.AsmFault.{AsmFault}
use Rattle.ant_asm.specs.declared.fault.AsmFault.TheVariants.{NoBlock}
use Rattle.ant_asm.specs.Program.{Items}
use Rattle.ant_asm.specs.Program.Items.{End, Do, Use}
use Rattle.ant_asm.specs.Names.{is_name, is_next}
use Rattle.ant_asm.specs.Names.Named.{NextWord}
use Rattle.ant_asm.specs.Lines.Line.{Begins, Ends, Uses, Instructs}
use Rattle.ant_asm.specs.Places.{Address, beginning}
use Rattle.ant_asm.specs.Assembled.{IsAssembled}
use Rattle.ant_asm.specs.Answers.{IsAssembledText, OneBrain}
use Rattle.ant_asm.specs.Match.{PlaysLabelled, ScoresLabelled, label_game, numbered_moment}
use Rattle.ant_asm.specs.Standing.{Standing, nothing_yet}
use Rattle.ant_asm.specs.Text.{IsAsmFault, IsAsmText, OneProgramOrOneFault}
use Rattle.ant_asm.specs.Text.IsAsmFault.{OfLine}
use Rattle.ant_asm.specs.Labels.{WayStep}
use Rattle.ant_asm.specs.StateLines.{AreStateLinesOf, LineForEachState, SaysInstruction, SaysUse, StateLine}
use Rattle.ant_asm.specs.Inner.Outlines.{lines_said}
use Rattle.ant_asm.specs.Inner.ProgramView.{reading}
use Rattle.ant_asm.specs.Inner.Reading.{keyword_words, read_drop, read_label, read_line, read_name, read_named}
use Rattle.ant_asm.proofs.Emission.{emitted-assembled}
use Rattle.ant_asm.proofs.OutlineFits.{text-said}
use Rattle.ant_asm.proofs.ReadingLemmas.{reading-leads}
use Rattle.ant_asm.proofs.Worked.{below_all, worked_lines}

-- main uses block c, the first item of block c uses block b, and block b uses block a twice
abbrev text : List ℕ
text = codes "block a\nDrop next\nend\nblock b\nuse a\nuse a\nend\nblock c\nuse b\nDrop next\nend\nuse c\n"

abbrev standing : Standing
standing = below_all nothing_yet 1
    (Begins (codes "a") [] ∷ Instructs (Drop NextWord) ∷ Ends
    ∷ Begins (codes "b") [] ∷ Uses (codes "a") [] ∷ Uses (codes "a") [] ∷ Ends
    ∷ Begins (codes "c") [] ∷ Uses (codes "b") [] ∷ Instructs (Drop NextWord) ∷ Ends
    ∷ Uses (codes "c") [] ∷ [])

abbrev program : Items
program = Use [] (Use [] (Use [] (Do (Drop Next) End) (Use [] (Do (Drop Next) End) End)) (Do (Drop Next) End)) End

abbrev brain : List Instr
brain = instr.Drop 1 ∷ instr.Drop 2 ∷ instr.Drop 0 ∷ []

abbrev addresses : List Address
addresses = (0 ∷ 0 ∷ 0 ∷ 0 ∷ []) ∷ (0 ∷ 0 ∷ 1 ∷ 0 ∷ []) ∷ (0 ∷ 1 ∷ []) ∷ []

read : reading nothing_yet (lines_with_tokens text) ≡ Ok standing
unfolding form_words keyword_words read_drop read_label read_line read_name read_named is_name is_next
read = refl

is_text : IsAsmText text program
is_text = record {
  standing = standing;
  leads = reading-leads nothing_yet (lines_with_tokens text) standing read;
  good = refl;
  is = refl;
}

is_assembled : IsAssembled program brain addresses
unfolding beginning
is_assembled = emitted-assembled program (omega arith)

is_assembled_text : IsAssembledText text brain addresses
is_assembled_text = record { main = program; is = is_text; assembled = is_assembled }

-- The text has this one program and no fault. A use of a block that doesn't exist has one fault and no program.
pub one_program_or_one_fault_used : OneProgramOrOneFault →
    (((main : Items) × IsAsmText text main) ⊎ ((fault : AsmFault) × IsAsmFault text fault))
    × ((main : Items) → IsAsmText text main → main ≡ program)
    × ((fault : AsmFault) → IsAsmFault text fault → ⊥)
    × ((fault : AsmFault) → IsAsmFault (codes "use a\nfoo\n") fault → fault ≡ NoBlock 1)
one_program_or_one_fault_used law = (
  law.some text,
  (λ main is. law.one_program text main program is is_text),
  (λ fault wrong. law.never_both text program fault is_text wrong),
  (λ fault wrong. law.one_fault (codes "use a\nfoo\n") fault (NoBlock 1) wrong (OfLine worked_lines)),
)

-- the text is assembled to some brain, and only to these three instructions
pub one_brain_used : OneBrain →
    ((made : List Instr) × (list : List Address) × IsAssembled program made list)
    × ((made : List Instr) (list : List Address) → IsAssembled program made list →
    (made ≡ instr.Drop 1 ∷ instr.Drop 2 ∷ instr.Drop 0 ∷ []) × (list ≡ (0 ∷ 0 ∷ 0 ∷ 0 ∷ []) ∷ (0 ∷ 0 ∷ 1 ∷ 0 ∷ []) ∷ (0 ∷ 1 ∷ []) ∷ []))
one_brain_used law = (law.some text program is_text, (λ made list is. law.one program made brain list addresses is is_assembled))

-- the world of three hill cells
three_valid : Valid (world_of (opening 5 3 three_hills))
three_valid = (IsWorld-opening 5 3 three_hills IsPlan-three_hills).valid

-- two rounds of red ants
pub plays_labelled_used : PlaysLabelled → (black : List Instr) (seed : ℕ) → AreSound (contest_minds (instr.Drop 1 ∷ instr.Drop 2 ∷ instr.Drop 0 ∷ []) black) →
    after_rounds (contest_minds (instr.Drop 1 ∷ instr.Drop 2 ∷ instr.Drop 0 ∷ []) black) seed (start_of (world_of (opening 5 3 three_hills))) 2
    ≡ numbered_moment ((0 ∷ 0 ∷ 0 ∷ 0 ∷ []) ∷ (0 ∷ 0 ∷ 1 ∷ 0 ∷ []) ∷ (0 ∷ 1 ∷ []) ∷ []) Red (label_game program Red (contest_minds [] black) seed 5 3 three_hills 2)
plays_labelled_used law black seed sound = law program brain addresses is_assembled Red (contest_minds [] black) seed 5 3 three_hills 2 sound three_valid

pub scores_labelled_used : ScoresLabelled → (black : List Instr) (seed : ℕ) → AreSound (contest_minds (instr.Drop 1 ∷ instr.Drop 2 ∷ instr.Drop 0 ∷ []) black) →
    score_of (after_rounds (contest_minds (instr.Drop 1 ∷ instr.Drop 2 ∷ instr.Drop 0 ∷ []) black) seed (start_of (world_of (opening 5 3 three_hills))) 2).world
    ≡ score_of (label_game program Red (contest_minds [] black) seed 5 3 three_hills 2).world
scores_labelled_used law black seed sound = law program brain addresses is_assembled Red (contest_minds [] black) seed 5 3 three_hills 2 sound three_valid

-- the uses on the way to state 1, and the lines of the three states
abbrev told_way : List WayStep
told_way = (record { name = codes "c"; line = 12 }) ∷ (record { name = codes "b"; line = 9 }) ∷ (record { name = codes "a"; line = 6 }) ∷ []

abbrev lines : List StateLine
lines =
    (record { state = 0; line = 2; way = (record { name = codes "c"; line = 12 }) ∷ (record { name = codes "b"; line = 9 }) ∷ (record { name = codes "a"; line = 5 }) ∷ [] })
    ∷ (record { state = 1; line = 2; way = told_way })
    ∷ (record { state = 2; line = 10; way = (record { name = codes "c"; line = 12 }) ∷ [] }) ∷ []

are_lines : AreStateLinesOf text lines
unfolding form_words keyword_words read_drop read_label read_line read_name read_named is_name is_next
are_lines = record { main = program; is = is_text; lines = lines_said text; said = text-said text program is_text; are = refl }

pub line_for_each_state_used : LineForEachState →
    (length lines ≡ 3) × ((list : List StateLine) (it : StateLine) → AreStateLinesOf text (it ∷ list) → it.state ≡ 0) × SaysInstruction text addresses 2 10 (instr.Drop 0)
    × (4 ≡ suc (length told_way)) × AllByRecursion (SaysUse text) told_way
line_for_each_state_used law =
    let uses = law.uses text brain addresses lines 1 (record { state = 1; line = 2; way = told_way }) (0 ∷ 0 ∷ 1 ∷ 0 ∷ []) is_assembled_text are_lines refl refl in (
      law.as_many text brain addresses lines is_assembled_text are_lines,
      (λ list it are. law.in_order text (it ∷ list) 0 it are refl),
      law.says text brain addresses lines 2 (record { state = 2; line = 10; way = (record { name = codes "c"; line = 12 }) ∷ [] }) (instr.Drop 0) is_assembled_text are_lines refl refl,
      uses.0,
      uses.1,
    )
