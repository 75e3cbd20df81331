-- The state of each label (this project's own).
use Rattle.std.specs.Prelude.{◌≡◌, ℕ, suc, Bool, true, false, List, [], ◌∷◌, ◌++◌, Option, Some, None, codes, decimal}
use Rattle.ant_base.specs.Layout.{◌+++◌}
use Rattle.line_tokens.specs.TokenLines.{TokenLine, lines_with_tokens}
use Rattle.ant_asm.specs.declared.action.Label.{Label}
use Rattle.ant_asm.specs.Program.{Items, from_place}
use Rattle.ant_asm.specs.Program.Items.{End, Do, Use}
use Rattle.ant_asm.specs.Lines.{Line, Says}
use Rattle.ant_asm.specs.Lines.Line.{Marks, Begins, Ends, Uses, Instructs}
use Rattle.ant_asm.specs.Places.{Address, Frame, first_at, inner, main_frame, places}
use Rattle.ant_asm.specs.Assembled.{number_in}
use Rattle.ant_asm.specs.Standing.{with_name}
use Rattle.ant_asm.specs.Text.{IsAsmText}

-- what a line says, and its number
pub data NumberedLine : Type 0 where
  At : (number : ℕ) → (says : Line) → NumberedLine

-- these lines, which all have tokens, say this one by one, and have these numbers
abbrev pub AreSaid : List TokenLine → List NumberedLine → Type 0
AreSaid [] [] = Unit {0}
AreSaid [] (said ∷ others) = ⊥
AreSaid (line ∷ lines) [] = ⊥
AreSaid (line ∷ lines) (At number said ∷ others) = (number ≡ line.number) × Says line.tokens said × AreSaid lines others

-- The lines of a body, in order. Each is a label with its name, an instruction with its line's number, or a use. A use
-- has its line's number, the name of its block, and the lines of that block.
pub data Outline : Type 0 where
  Closed : Outline
  Labelled : (name : List ℕ) → (others : Outline) → Outline
  Instructed : (line : ℕ) → (others : Outline) → Outline
  Used : (line : ℕ) → (name : List ℕ) → (block : Outline) → (others : Outline) → Outline

-- A use of a block, before other lines. In a program the block always exists, since a program only uses blocks that
-- have ended above.
abbrev pub with_use : ℕ → List ℕ → Option Outline → Outline → Outline
with_use line name None others = others
with_use line name (Some block) others = Used line name block others

-- The lines of a block up to its end. The list has the lines of the text that follow the one that begins the block.
-- `blocks` has the blocks that have ended above, by name.
abbrev pub block_outline : List NumberedLine → (List ℕ → Option Outline) → Outline
block_outline [] blocks = Closed
block_outline (At number (Marks name) ∷ lines) blocks = Labelled name (block_outline lines blocks)
block_outline (At number (Begins name parameters) ∷ lines) blocks = block_outline lines blocks
block_outline (At number Ends ∷ lines) blocks = Closed
block_outline (At number (Uses name handed) ∷ lines) blocks =
    with_use number name (blocks name) (block_outline lines blocks)
block_outline (At number (Instructs action) ∷ lines) blocks = Instructed number (block_outline lines blocks)

-- The lines of main, which are those outside blocks. `inside` says whether the list begins inside a block.
abbrev pub main_outline : List NumberedLine → Bool → (List ℕ → Option Outline) → Outline
main_outline [] inside blocks = Closed
main_outline (At number (Begins name parameters) ∷ lines) false blocks =
    main_outline lines true (with_name name (block_outline lines blocks) blocks)
main_outline (At number Ends ∷ lines) false blocks = main_outline lines false blocks
main_outline (At number (Marks name) ∷ lines) false blocks = Labelled name (main_outline lines false blocks)
main_outline (At number (Uses name handed) ∷ lines) false blocks =
    with_use number name (blocks name) (main_outline lines false blocks)
main_outline (At number (Instructs action) ∷ lines) false blocks = Instructed number (main_outline lines false blocks)
main_outline (At number (Begins name parameters) ∷ lines) true blocks = main_outline lines true blocks
main_outline (At number Ends ∷ lines) true blocks = main_outline lines false blocks
main_outline (At number (Marks name) ∷ lines) true blocks = main_outline lines true blocks
main_outline (At number (Uses name handed) ∷ lines) true blocks = main_outline lines true blocks
main_outline (At number (Instructs action) ∷ lines) true blocks = main_outline lines true blocks

-- the lines of a whole program
abbrev pub outline_of : List NumberedLine → Outline
outline_of lines = main_outline lines false (λ name. None)

-- the block that the first of these items uses, and the labels that the item gives to it
abbrev pub block_at : Items → Items
block_at End = End
block_at (Do action others) = End
block_at (Use handed block others) = block

abbrev pub handed_at : Items → List Label
handed_at End = []
handed_at (Do action others) = []
handed_at (Use handed block others) = handed

-- a use on the way to a body: the name of its block, and its line
pub record WayStep : Type 0 where
  pub name : List ℕ
  pub line : ℕ

-- a label of a body in use: the uses on the way there, its name, and the state to which it leads
pub record LabelState : Type 0 where
  pub way : List WayStep
  pub name : List ℕ
  pub state : ℕ

-- a body in use: the state of each address, the body's items, its frame, and the uses on the way to it
pub record PutBody : Type 0 where
  pub state : Address → ℕ
  pub items : Items
  pub frame : Frame
  pub way : List WayStep

-- the block that the body's k-th item uses, if that item is a use with this name on this line
abbrev pub put_inside : PutBody → ℕ → List ℕ → ℕ → PutBody
put_inside body k name line = record {
  state = body.state;
  items = block_at (from_place k body.items);
  frame = inner body.items body.frame k (handed_at (from_place k body.items));
  way = body.way ++ (record { name = name; line = line }) ∷ [];
}

-- The labels of a body's own lines, in order. The outline has the lines that are left. The next item is the k-th of the
-- body.
abbrev pub own_labels : Outline → PutBody → ℕ → List LabelState
own_labels Closed body k = []
own_labels (Labelled name others) body k =
    (record { way = body.way; name = name; state = body.state (first_at body.items body.frame k) })
    ∷ own_labels others body k
own_labels (Instructed line others) body k = own_labels others body (suc k)
own_labels (Used line name block others) body k = own_labels others body (suc k)

-- The labels of the blocks that the body uses, use by use. For each block, the labels of its own lines come first, and
-- then those of the blocks that it uses.
abbrev pub inner_labels : Outline → PutBody → ℕ → List LabelState
inner_labels Closed body k = []
inner_labels (Labelled name others) body k = inner_labels others body k
inner_labels (Instructed line others) body k = inner_labels others body (suc k)
inner_labels (Used line name block others) body k =
    (own_labels block (put_inside body k name line) 0 ++ inner_labels block (put_inside body k name line) 0)
    ++ inner_labels others body (suc k)

-- main as a body in use
abbrev pub put_main : Items → PutBody
put_main main = record { state = number_in (places main); items = main; frame = main_frame main; way = [] }

-- the labels of a program whose lines say this
abbrev pub labels_of : Items → List NumberedLine → List LabelState
labels_of main lines =
    own_labels (outline_of lines) (put_main main) 0 ++ inner_labels (outline_of lines) (put_main main) 0

-- these are the labels of the text's program
pub record AreLabelsOf (text : List ℕ) (labels : List LabelState) : Type 0 where
  pub main : Items
  pub is : IsAsmText text main
  pub lines : List NumberedLine
  pub said : AreSaid (lines_with_tokens text) lines
  pub are : labels ≡ labels_of main lines

-- the text of the uses on the way
abbrev pub way_text : List WayStep → List ℕ
way_text [] = []
way_text (step ∷ steps) = (step.name +++ codes "@" +++ decimal step.line +++ codes "/") ++ way_text steps

-- the line of a label
abbrev pub label_text : LabelState → List ℕ
label_text label = decimal label.state +++ codes " " +++ way_text label.way +++ label.name +++ codes "\n"

-- a line for each label, in order
abbrev pub labels_text : List LabelState → List ℕ
labels_text [] = []
labels_text (label ∷ labels) = label_text label ++ labels_text labels
