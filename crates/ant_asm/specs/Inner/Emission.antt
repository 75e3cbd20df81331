-- The instructions of a program, one after another, with numbers instead of addresses.
use Rattle.std.specs.Prelude.{ℕ, zero, suc, ◌+◌, ◌==◌, List, [], ◌∷◌, ◌++◌, map, if◌then◌else◌, slice_index_or}
use Rattle.brain_read.specs.declared.instr.Instr.{Instr}
use Rattle.ant_asm.specs.declared.action.Label.{Label}
use Rattle.ant_asm.specs.declared.action.Label.TheVariants.{Next, Place, Parameter}
use Rattle.ant_asm.specs.Program.{Items, from_place, size_of}
use Rattle.ant_asm.specs.Program.Items.{End, Do, Use}
use Rattle.ant_asm.specs.Places.{Address}
use Rattle.ant_asm.specs.LabelGame.{instruction_by}

-- how many instructions the first k items expand to
abbrev pub offset : ℕ → Items → ℕ
offset zero items = 0
offset (suc k) End = 0
offset (suc k) (Do action others) = suc (offset k others)
offset (suc k) (Use handed block others) = size_of block + offset k others

-- the numbers of a body in use: that of its first instruction, that of what follows it, and those given for its
-- parameters
pub record Numbers : Type 0 where
  pub base : ℕ
  pub after : ℕ
  pub given : List ℕ

-- the number of the first instruction from the k-th item on
abbrev pub number_first : Items → Numbers → ℕ → ℕ
number_first items numbers k =
    if size_of (from_place k items) == 0 then numbers.after else numbers.base + offset k items

-- the number to which a label of the k-th item leads
abbrev pub number_target : Items → Numbers → ℕ → Label → ℕ
number_target items numbers k Next = number_first items numbers (suc k)
number_target items numbers k (Place j) = number_first items numbers j
number_target items numbers k (Parameter i) = slice_index_or numbers.given i numbers.after

-- the numbers of a block that the k-th item uses
abbrev pub inner_numbers : Items → Numbers → ℕ → List Label → Numbers
inner_numbers items numbers k handed = record {
  base = numbers.base + offset k items;
  after = number_first items numbers (suc k);
  given = map (number_target items numbers k) handed;
}

-- the instructions of some items of a body, beginning with the k-th
abbrev pub emitted : Items → Items → Numbers → ℕ → List Instr
emitted End body numbers k = []
emitted (Do action others) body numbers k =
    instruction_by (number_target body numbers k) action ∷ emitted others body numbers (suc k)
emitted (Use handed block others) body numbers k =
    emitted block block (inner_numbers body numbers k handed) 0 ++ emitted others body numbers (suc k)

-- the numbers of main
abbrev pub main_numbers : Numbers
main_numbers = record { base = 0; after = 0; given = [] }

-- The number of the instruction to which an address leads. The address has led to the first of these items so far, and
-- only the rest of it is given. `before` instructions precede that item. The next number of the address is a place in
-- the block that the item uses.
abbrev pub number_walk : Address → ℕ → Items → ℕ
number_walk [] before items = before
number_walk (k ∷ address) before End = before
number_walk (k ∷ address) before (Do action others) = before
number_walk (k ∷ address) before (Use handed block others) =
    number_walk address (before + offset k block) (from_place k block)

-- the number of an address of a program
abbrev pub number_of : Items → Address → ℕ
number_of main [] = 0
number_of main (k ∷ address) = number_walk address (offset k main) (from_place k main)
