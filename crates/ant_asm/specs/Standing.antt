-- The state above a line of a labelled program, and what the line adds (this project's own).
use Rattle.std.specs.Prelude.{ℕ, suc, ◌+◌, Bool, false, not, ◌||◌, nat_lt, nat_le, ◌==◌, List, [], ◌∷◌, ◌++◌, length, map, min, Option, Some, None, is_none, is_some, unwrap_or, if◌then◌else◌, bytes_eq}
use Rattle.std.specs.List.{list_any}
use Rattle.ant_base.specs.Names.{has_name}
use Rattle.brain_read.specs.Soundness.{most_states}
use Rattle.ant_asm.specs.declared.action.Action.{Action}
use Rattle.ant_asm.specs.declared.action.Action.TheVariants.{Sense, Mark, Unmark, PickUp, Drop, Turn, Move, Flip}
use Rattle.ant_asm.specs.declared.action.Label.{Label}
use Rattle.ant_asm.specs.declared.action.Label.TheVariants.{Next, Place, Parameter}
use Rattle.ant_asm.specs.declared.fault.AsmFault.{AsmFault}
use Rattle.ant_asm.specs.declared.fault.AsmFault.TheVariants.{Misplaced, Twice, NoBlock, WrongCount, TooMany, EmptyBlock}
use Rattle.ant_asm.specs.Program.{Items, size_of}
use Rattle.ant_asm.specs.Program.Items.{End, Do, Use}
use Rattle.ant_asm.specs.Names.{Named}
use Rattle.ant_asm.specs.Names.Named.{NextWord, Name}
use Rattle.ant_asm.specs.Lines.{Line}
use Rattle.ant_asm.specs.Lines.Line.{Marks, Begins, Ends, Uses, Instructs}

-- the largest number of blocks
abbrev pub most_blocks : ℕ
most_blocks = 256

-- an item as it was read, with names: an instruction, or a use with the items of its block
pub data Item : Type 0 where
  Instruction : Action Named → Item
  Call : (handed : List Named) → (block : Items) → Item

-- an item on its line
pub record ItemLine : Type 0 where
  pub line : ℕ
  pub item : Item

-- A body that may get more lines: how many parameters it has, the meaning of each of its names, its items, and how many
-- instructions they expand to.
pub record Draft : Type 0 where
  pub parameters : ℕ
  pub meaning : List ℕ → Option Label
  pub items : List ItemLine
  pub size : ℕ

-- a block that has ended
pub record Block : Type 0 where
  pub parameters : ℕ
  pub items : Items

-- a block that begins on this line and has not ended
pub record Begun : Type 0 where
  pub name : List ℕ
  pub line : ℕ
  pub draft : Draft

-- The state above a line: main so far; how many blocks have ended; the block of each name; and the block that has begun
-- and not ended, if there is one. `unknown` is the first line of an ended block that names a label which its body
-- doesn't have.
pub record Standing : Type 0 where
  pub main : Draft
  pub count : ℕ
  pub blocks : List ℕ → Option Block
  pub begun : Option Begun
  pub unknown : Option ℕ

-- the meaning of each name, with one name more
abbrev pub with_name : {A : Type 0} → List ℕ → A → (List ℕ → Option A) → List ℕ → Option A
with_name name thing meaning other = if bytes_eq name other then Some thing else meaning other

-- the meaning of each name among parameters, if the first has this number
abbrev pub parameter_names : ℕ → List (List ℕ) → List ℕ → Option Label
parameter_names i [] = λ name. None
parameter_names i (parameter ∷ parameters) = with_name parameter (Parameter i) (parameter_names (suc i) parameters)

-- a body with these parameters and nothing else
abbrev pub new_draft : List (List ℕ) → Draft
new_draft parameters = record {
  parameters = length parameters;
  meaning = parameter_names 0 parameters;
  items = [];
  size = 0;
}

-- the state above the first line, before anything was read
abbrev pub nothing_yet : Standing
nothing_yet = record { main = new_draft []; count = 0; blocks = λ name. None; begun = None; unknown = None }

-- the meaning of a label, if its body has it
abbrev pub way_of : (List ℕ → Option Label) → Named → Option Label
way_of meaning NextWord = Some Next
way_of meaning (Name name) = meaning name

-- the meaning of a label; the next item if its body doesn't have it
abbrev pub way_or_next : (List ℕ → Option Label) → Named → Label
way_or_next meaning label = unwrap_or (way_of meaning label) Next

-- an instruction with each label mapped
abbrev pub mapped : {A B : Type 0} → (A → B) → Action A → Action B
mapped f (Sense sight met unmet condition) = Sense sight (f met) (f unmet) condition
mapped f (Mark i on) = Mark i (f on)
mapped f (Unmark i on) = Unmark i (f on)
mapped f (PickUp met unmet) = PickUp (f met) (f unmet)
mapped f (Drop on) = Drop (f on)
mapped f (Turn side on) = Turn side (f on)
mapped f (Move met unmet) = Move (f met) (f unmet)
mapped f (Flip bound met unmet) = Flip bound (f met) (f unmet)

-- the labels of an instruction, in the order of its line
abbrev pub labels_of : {L : Type 0} → Action L → List L
labels_of (Sense sight met unmet condition) = met ∷ unmet ∷ []
labels_of (Mark i on) = on ∷ []
labels_of (Unmark i on) = on ∷ []
labels_of (PickUp met unmet) = met ∷ unmet ∷ []
labels_of (Drop on) = on ∷ []
labels_of (Turn side on) = on ∷ []
labels_of (Move met unmet) = met ∷ unmet ∷ []
labels_of (Flip bound met unmet) = met ∷ unmet ∷ []

-- the labels of an item
abbrev pub labels_in : Item → List Named
labels_in (Instruction action) = labels_of action
labels_in (Call handed block) = handed

-- whether one of the labels has no meaning
abbrev pub has_unknown : (List ℕ → Option Label) → List Named → Bool
has_unknown meaning labels = list_any (λ label. is_none (way_of meaning label)) labels

-- an item before others, with the meanings of its labels
abbrev pub with_item : (Named → Label) → Item → Items → Items
with_item way (Instruction action) others = Do (mapped way action) others
with_item way (Call handed block) others = Use (map way handed) block others

-- the items of a body, with the meanings of their labels
abbrev pub items_by : (Named → Label) → List ItemLine → Items
items_by way [] = End
items_by way (read ∷ others) = with_item way read.item (items_by way others)

abbrev pub items_of : Draft → Items
items_of draft = items_by (way_or_next draft.meaning) draft.items

-- the line of the first item that names a label which its body doesn't have
abbrev pub unknown_in : (List ℕ → Option Label) → List ItemLine → Option ℕ
unknown_in meaning [] = None
unknown_in meaning (read ∷ others) =
    if has_unknown meaning (labels_in read.item) then Some read.line else unknown_in meaning others

abbrev pub unknown_of : Draft → Option ℕ
unknown_of draft = unknown_in draft.meaning draft.items

-- the earlier of two lines; either may be missing
abbrev pub earlier : Option ℕ → Option ℕ → Option ℕ
earlier None other = other
earlier (Some line) None = Some line
earlier (Some line) (Some other) = Some (min line other)

-- how many instructions an item expands to
abbrev pub item_size : Item → ℕ
item_size (Instruction action) = 1
item_size (Call handed block) = size_of block

-- whether a name is there twice
abbrev pub has_twice : List (List ℕ) → Bool
has_twice [] = false
has_twice (name ∷ names) = has_name names name || has_twice names

-- the body to which a line is added: the block that has begun, or main
abbrev pub current_of : Option Begun → Draft → Draft
current_of None main = main
current_of (Some begun) main = begun.draft

abbrev pub current : Standing → Draft
current standing = current_of standing.begun standing.main

-- the state, with this body as the one to which lines are added
abbrev pub with_current_of : Option Begun → Standing → Draft → Standing
with_current_of None standing draft = record standing { main = draft }
with_current_of (Some begun) standing draft = record standing { begun = Some (record begun { draft = draft }) }

abbrev pub with_current : Standing → Draft → Standing
with_current standing draft = with_current_of standing.begun standing draft

-- the fault of a line whose item expands to too many instructions, after the `size` instructions that its body has
abbrev pub size_fault : ℕ → ℕ → ℕ → Option AsmFault
size_fault size more line = if nat_lt most_states (size + more) then Some (TooMany line) else None

-- the fault of a line that names the next item, if the name already has a meaning
abbrev pub mark_fault : Option Label → ℕ → Option AsmFault
mark_fault None line = None
mark_fault (Some label) line = Some (Twice line)

-- the fault of a line that uses a block; the block is given if it has ended
abbrev pub use_fault : ℕ → Option Block → List Named → ℕ → Option AsmFault
use_fault size None handed line = Some (NoBlock line)
use_fault size (Some block) handed line =
    if not (length handed == block.parameters)
    then Some (WrongCount line)
    else size_fault size (size_of block.items) line

-- the fault of a line that begins a block; `taken` is the ended block that already has its name, if there is one
abbrev pub begin_fault : Option Begun → Option Block → ℕ → List (List ℕ) → ℕ → Option AsmFault
begin_fault (Some begun) taken count parameters line = Some (Misplaced line)
begin_fault None taken count parameters line =
    if has_twice parameters || is_some taken
    then Some (Twice line)
    else (if nat_le most_blocks count then Some (TooMany line) else None)

-- the fault of a line that ends a block
abbrev pub end_fault : Option Begun → ℕ → Option AsmFault
end_fault None line = Some (Misplaced line)
end_fault (Some begun) line = if length begun.draft.items == 0 then Some (EmptyBlock line) else None

-- the fault of a line that is spelled correctly, in the state above it
abbrev pub place_fault : Standing → ℕ → Line → Option AsmFault
place_fault standing line (Marks name) = mark_fault ((current standing).meaning name) line
place_fault standing line (Begins name parameters) =
    begin_fault standing.begun (standing.blocks name) standing.count parameters line
place_fault standing line Ends = end_fault standing.begun line
place_fault standing line (Uses name handed) = use_fault (current standing).size (standing.blocks name) handed line
place_fault standing line (Instructs action) = size_fault (current standing).size 1 line

-- a body with one more name, for the next item
abbrev pub with_mark : Draft → List ℕ → Draft
with_mark draft name = record draft { meaning = with_name name (Place (length draft.items)) draft.meaning }

-- a body with one item more
abbrev pub with_line : Draft → ℕ → Item → Draft
with_line draft line item = record draft {
  items = draft.items ++ (record { line = line; item = item }) ∷ [];
  size = draft.size + item_size item;
}

-- the block of a body
abbrev pub block_of : Draft → Block
block_of draft = record { parameters = draft.parameters; items = items_of draft }

-- the state after the end of a block
abbrev pub ended : Option Begun → Standing → Standing
ended None standing = standing
ended (Some begun) standing = record standing {
  count = suc standing.count;
  blocks = with_name begun.name (block_of begun.draft) standing.blocks;
  begun = None;
  unknown = earlier standing.unknown (unknown_of begun.draft);
}

-- the state after the use of a block
abbrev pub used : Option Block → Standing → ℕ → List Named → Standing
used None standing line handed = standing
used (Some block) standing line handed =
    with_current standing (with_line (current standing) line (Call handed block.items))

-- the state below a line without a fault
abbrev pub below : Standing → ℕ → Line → Standing
below standing line (Marks name) = with_current standing (with_mark (current standing) name)
below standing line (Begins name parameters) =
    record standing { begun = Some (record { name = name; line = line; draft = new_draft parameters }) }
below standing line Ends = ended standing.begun standing
below standing line (Uses name handed) = used (standing.blocks name) standing line handed
below standing line (Instructs action) = with_current standing (with_line (current standing) line (Instruction action))
