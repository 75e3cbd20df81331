-- Bodies as lists of lines with names, as the code has them; and the labels of bodies, with numbers of instructions.
use Rattle.std.specs.Prelude.{◌≡◌, ℕ, suc, ◌+◌, ◌-◌, ◌<◌, ◌≤◌, ◌==◌, true, false, List, [], ◌∷◌, ◌++◌, length, Option, Some, None, Ok, Err, if◌then◌else◌, slice_get, slice_index_or}
use Rattle.std.specs.Borrow.{Bor}
use Rattle.std.specs.List.{AllByRecursion}
use Rattle.line_tokens.specs.TokenLines.{TokenLine, lines_with_tokens, token_lines}
use Rattle.ant_asm.specs.declared.named.NamedBody.{NamedBody}
use Rattle.ant_asm.specs.declared.named.NamedLine.{NamedLine}
use Rattle.ant_asm.specs.declared.outline.Around.{Around}
use Rattle.ant_asm.specs.declared.outline.Outlines.{Outlines}
use Rattle.ant_asm.specs.Lines.{Line}
use Rattle.ant_asm.specs.Standing.{most_blocks, with_name}
use Rattle.ant_asm.specs.Labels.{LabelState, NumberedLine, Outline, WayStep, block_outline, main_outline, outline_of}
use Rattle.ant_asm.specs.Labels.NumberedLine.{At}
use Rattle.ant_asm.specs.Labels.Outline.{Closed, Labelled, Instructed, Used}
use Rattle.ant_asm.specs.Source.{ReadSource}
use Rattle.ant_asm.specs.StateLines.{StateLine}
use Rattle.ant_asm.specs.Inner.Flat.{most}
use Rattle.ant_asm.specs.Inner.Reading.{Read, read_line}
use Rattle.ant_asm.specs.Inner.Scopes.{known_as}

-- how many instructions the lines of a body expand to
abbrev pub outline_size : Outline → ℕ
outline_size Closed = 0
outline_size (Labelled name others) = outline_size others
outline_size (Instructed line others) = suc (outline_size others)
outline_size (Used line name block others) = outline_size block + outline_size others

-- the largest number of instructions that the code counts
abbrev pub most_size : ℕ
most_size = 65535

-- a line before others, if the blocks have these outlines
abbrev pub line_before : List Outline → NamedLine → Outline → Outline
line_before blocks (NamedLine.Label name) others = Labelled name.items others
line_before blocks (NamedLine.Instruction line) others = Instructed line others
line_before blocks (NamedLine.Use line name block) others =
    Used line name.items (slice_index_or blocks block Closed) others

-- several lines before others
abbrev pub lines_before : List Outline → List NamedLine → Outline → Outline
lines_before blocks [] others = others
lines_before blocks (line ∷ lines) others = line_before blocks line (lines_before blocks lines others)

-- the outline of a body, if the blocks have these outlines
abbrev pub outline_in : List Outline → NamedBody → Outline
outline_in blocks body = lines_before blocks body.lines.items Closed

-- the outlines of all bodies: of the earlier ones, which are given, and then of these
abbrev pub outlines_from : List Outline → List NamedBody → List Outline
outlines_from blocks [] = blocks
outlines_from blocks (body ∷ bodies) = outlines_from (blocks ++ outline_in blocks body ∷ []) bodies

-- the outline of each body
abbrev pub outlines_of : List NamedBody → List Outline
outlines_of bodies = outlines_from [] bodies

-- the outline of the body with this number
abbrev pub outline_at : List NamedBody → ℕ → Outline
outline_at bodies number = slice_index_or (outlines_of bodies) number Closed

-- if the line is a use, its block is one of the first `count`
abbrev pub IsUseBelow : ℕ → NamedLine → Type 0
IsUseBelow count (NamedLine.Label name) = Unit {0}
IsUseBelow count (NamedLine.Instruction line) = Unit {0}
IsUseBelow count (NamedLine.Use line name block) = block < count

-- the places of the lines that aren't labels, if the first line has this place
abbrev pub counted_from : ℕ → List NamedLine → List ℕ
counted_from place [] = []
counted_from place (NamedLine.Label name ∷ lines) = counted_from (suc place) lines
counted_from place (NamedLine.Instruction line ∷ lines) = place ∷ counted_from (suc place) lines
counted_from place (NamedLine.Use line name block ∷ lines) = place ∷ counted_from (suc place) lines

-- A body uses only the blocks with these outlines. It knows the places of its items. It also knows its size, if that is
-- at most the largest number that the code counts.
pub record IsGoodNamed (blocks : List Outline) (body : NamedBody) : Type 0 where
  pub uses : AllByRecursion (IsUseBelow (length blocks)) body.lines.items
  pub counted : body.counted.items ≡ counted_from 0 body.lines.items
  pub size : outline_size (outline_in blocks body) ≤ most_size → body.size ≡ outline_size (outline_in blocks body)

-- each body is good, and uses only the blocks before it
abbrev pub AreGoodNamed : List Outline → List NamedBody → Type 0
AreGoodNamed blocks [] = Unit {0}
AreGoodNamed blocks (body ∷ bodies) =
    IsGoodNamed blocks body × AreGoodNamed (blocks ++ outline_in blocks body ∷ []) bodies

-- how many instructions a line of a body expands to, by the sizes that the bodies know
abbrev pub size_in : Option NamedBody → ℕ
size_in None = 0
size_in (Some body) = body.size

abbrev pub line_size : List NamedBody → NamedLine → ℕ
line_size bodies (NamedLine.Label name) = 0
line_size bodies (NamedLine.Instruction line) = 1
line_size bodies (NamedLine.Use line name block) = size_in (slice_get bodies block)

-- the block of each name
abbrev pub outline_in_map : List Outline → Option ℕ → Option Outline
outline_in_map blocks None = None
outline_in_map blocks (Some n) = Some (slice_index_or blocks n Closed)

abbrev pub blocks_named : List NamedBody → List (Bor (List ℕ) × ℕ) → List ℕ → Option Outline
blocks_named bodies entries name = outline_in_map (outlines_of bodies) (known_as entries name)

-- The outline of main, if these lines are still to be read. What was read of main, and of a block that has begun, comes
-- before what they add.
abbrev pub rest_around : List NamedBody → Option Around → NamedBody → (List ℕ → Option Outline) → List NumberedLine
    → Outline
rest_around bodies None current blocks lines =
    lines_before (outlines_of bodies) current.lines.items (main_outline lines false blocks)
rest_around bodies (Some around) current blocks lines =
    lines_before (outlines_of bodies) around.main.lines.items
    (main_outline lines true
    (with_name around.name.now
    (lines_before (outlines_of bodies) current.lines.items (block_outline lines blocks)) blocks))

abbrev pub rest_of : Outlines → List NumberedLine → Outline
rest_of outlines lines =
    rest_around outlines.bodies.items outlines.around outlines.current
    (blocks_named outlines.bodies.items outlines.blocks.entries) lines

-- what those lines of a text that have a token say
abbrev pub said_before : ℕ → Read Line → List NumberedLine → List NumberedLine
said_before number (Ok line) others = At number line ∷ others
said_before number (Err fault) others = others

abbrev pub said_by : List TokenLine → List NumberedLine
said_by [] = []
said_by (line ∷ lines) = said_before line.number (read_line line.tokens) (said_by lines)

abbrev pub lines_said : List ℕ → List NumberedLine
lines_said text = said_by (lines_with_tokens text)

-- the same for lines that may have no token; the first has this number
unfoldable pub rest_from : Outlines → ℕ → List (List ℕ) → Outline
rest_from outlines number lines = rest_of outlines (said_by (token_lines number lines))

-- if lines are added to a block, main is good
abbrev pub IsGoodAround : List Outline → Option Around → Type 0
IsGoodAround blocks None = Unit {0}
IsGoodAround blocks (Some around) = IsGoodNamed blocks around.main

-- what was read so far is good
pub record IsGoodOutlines (outlines : Outlines) : Type 0 where
  pub bodies : AreGoodNamed [] outlines.bodies.items
  pub few : length outlines.bodies.items ≤ most_blocks
  pub blocks : (name : List ℕ) (n : ℕ) → known_as outlines.blocks.entries name ≡ Some n
      → n < length outlines.bodies.items
  pub current : IsGoodNamed (outlines_of outlines.bodies.items) outlines.current
  pub around : IsGoodAround (outlines_of outlines.bodies.items) outlines.around

-- the number of main
abbrev pub main_of : List NamedBody → ℕ
main_of bodies = length bodies - 1

-- the bodies are those of a program whose lines say this, and main is the last
pub record AreOutlinesOf (lines : List NumberedLine) (bodies : List NamedBody) : Type 0 where
  pub good : AreGoodNamed [] bodies
  pub some : 1 ≤ length bodies
  pub short : length bodies ≤ suc most_blocks
  pub main : outline_at bodies (main_of bodies) ≡ outline_of lines

-- The state to which a label leads. If `left` instructions of its body follow it, and that is at least one, it is `at`,
-- the number of the next one. Otherwise it is `after`, the number of what follows the body.
abbrev pub state_at : ℕ → ℕ → ℕ → ℕ
state_at left at after = if left == 0 then after else at

-- The labels of a body's own lines, each with the state to which it leads. The outline has the lines that are left.
-- `at` is the number of the body's next instruction, and `after` is the number of what follows the body.
abbrev pub own_states : Outline → ℕ → ℕ → List WayStep → List LabelState
own_states Closed at after way = []
own_states (Labelled name others) at after way =
    (record { way = way; name = name; state = state_at (outline_size others) at after })
    ∷ own_states others at after way
own_states (Instructed line others) at after way = own_states others (at + 1) after way
own_states (Used line name block others) at after way = own_states others (at + outline_size block) after way

-- the way through a use
abbrev pub further : List WayStep → List ℕ → ℕ → List WayStep
further way name line = way ++ (record { name = name; line = line }) ∷ []

-- the labels of the blocks that the body uses
abbrev pub inner_states : Outline → ℕ → ℕ → List WayStep → List LabelState
inner_states Closed at after way = []
inner_states (Labelled name others) at after way = inner_states others at after way
inner_states (Instructed line others) at after way = inner_states others (at + 1) after way
inner_states (Used line name block others) at after way =
    (own_states block at (state_at (outline_size others) (at + outline_size block) after) (further way name line)
    ++ inner_states block at (state_at (outline_size others) (at + outline_size block) after) (further way name line))
    ++ inner_states others (at + outline_size block) after way

-- the labels of the body's own lines, and then those of the blocks that it uses
abbrev pub all_states : Outline → ℕ → ℕ → List WayStep → List LabelState
all_states outline at after way = own_states outline at after way ++ inner_states outline at after way

-- The line of each instruction of a body and of the blocks that it uses, in order. The first instruction has this
-- number.
abbrev pub told_lines : Outline → ℕ → List WayStep → List StateLine
told_lines Closed at way = []
told_lines (Labelled name others) at way = told_lines others at way
told_lines (Instructed line others) at way =
    (record { state = at; line = line; way = way }) ∷ told_lines others (at + 1) way
told_lines (Used line name block others) at way =
    told_lines block at (further way name line) ++ told_lines others (at + outline_size block) way

-- the labels of main and of all bodies that it uses, and the lines of their instructions
abbrev pub source_seen : List NamedBody → ReadSource
source_seen bodies = record {
  labels = all_states (outline_at bodies (main_of bodies)) 0 0 [];
  lines = told_lines (outline_at bodies (main_of bodies)) 0 [];
}

-- the label that a line is, if it is one
abbrev pub label_of : NamedLine → ℕ → List WayStep → List LabelState
label_of (NamedLine.Label name) state way = (record { way = way; name = name.items; state = state }) ∷ []
label_of (NamedLine.Instruction line) state way = []
label_of (NamedLine.Use line name block) state way = []

-- the bodies are good, main is one of them, and it expands to no more instructions than a brain may have
pub record AreListed (bodies : List NamedBody) : Type 0 where
  pub good : AreGoodNamed [] bodies
  pub some : 1 ≤ length bodies
  pub short : length bodies ≤ suc most_blocks
  pub few : outline_size (outline_at bodies (main_of bodies)) ≤ most
