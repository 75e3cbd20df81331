-- Every labelled program is assembled, to one brain with one list of places.
use Rattle.std.proofs.Common.{◌≡◌, ◌⊎◌, inl, inr, ℕ, ◌≤◌, List, [], ◌∷◌, ◌++◌, length, Option, Some, None, refl, sym, ◌∙◌, subst, arith}
use Rattle.std.specs.Prelude.{bytes_eq, ◌==◌, option_map}
use Rattle.std.proofs.lemmas.Bool.{cases_Bool, cond-true, cond-false, eq-eqb}
use Rattle.std.proofs.lemmas.Option.{same_Some}
use Rattle.list_lemmas.proofs.Entries.{same_entries}
use Rattle.brain_read.specs.declared.instr.Instr.{Instr}
use Rattle.line_tokens.specs.TokenLines.{TokenLine, lines_with_tokens}
use Rattle.ant_asm.specs.declared.action.Label.{Label}
use Rattle.ant_asm.specs.declared.fault.AsmFault.{AsmFault}
use Rattle.ant_asm.specs.declared.fault.AsmFault.TheVariants.{Empty, EmptyBlock, NoLabel}
use Rattle.ant_asm.specs.Program.{Items, size_of}
use Rattle.ant_asm.specs.Places.{Address, places}
use Rattle.ant_asm.specs.Names.{Named}
use Rattle.ant_asm.specs.Lines.{Line}
use Rattle.ant_asm.specs.Lines.Line.{Marks, Begins, Ends, Uses, Instructs}
use Rattle.ant_asm.specs.Standing.{Begun, Block, Draft, Item, ItemLine, Standing, below, block_of, current_of, earlier, end_fault, ended, item_size, items_by, nothing_yet, place_fault, unknown_of, used, way_or_next, with_current_of, with_item, with_line, with_mark}
use Rattle.ant_asm.specs.Standing.Item.{Instruction, Call}
use Rattle.ant_asm.specs.Assembled.{IsAssembled}
use Rattle.ant_asm.specs.Answers.{IsAssembledText, OneBrain}
use Rattle.ant_asm.specs.Text.{IsAsmFault, IsAsmText, Leads, last_fault}
use Rattle.ant_asm.specs.Inner.Emission.{emitted, main_numbers}
use Rattle.ant_asm.proofs.Brains.{element}
use Rattle.ant_asm.proofs.Emission.{emitted-assembled, places_of-size}
use Rattle.ant_asm.proofs.LineLemmas.{lines_decide}
use Rattle.ant_asm.proofs.TextLemmas.{one_program, some}

-- each item expands to at least one instruction
abbrev AreSized : List ItemLine → Type 0
AreSized [] = Unit {0}
AreSized (read ∷ others) = (1 ≤ item_size read.item) × AreSized others

abbrev IsSizedBegun : Option Begun → Type 0
IsSizedBegun None = Unit {0}
IsSizedBegun (Some begun) = AreSized begun.draft.items

-- so do the items of main, of the block that has begun, and of each block that has ended
record IsSized (standing : Standing) : Type 0 where
  main : AreSized standing.main.items
  begun : IsSizedBegun standing.begun
  blocks : (name : List ℕ) (block : Block) → standing.blocks name ≡ Some block → 1 ≤ size_of block.items

AreSized-append : (items : List ItemLine) (last : ItemLine) → AreSized items → 1 ≤ item_size last.item → AreSized (items ++ last ∷ [])
AreSized-append [] last are is = (is, tt)
AreSized-append (read ∷ others) last are is = (are.0, AreSized-append others last are.1 is)

-- the items of a body that has some
items_by-sized : (way : Named → Label) (items : List ItemLine) → AreSized items → (length items ≡ 0 → ⊥) → 1 ≤ size_of (items_by way items)
items_by-sized way [] are some_items = absurd (some_items refl)
items_by-sized way (read ∷ others) are some_items = go read.item are.0
  where
    go : (item : Item) → 1 ≤ item_size item → 1 ≤ size_of (with_item way item (items_by way others))
    go (Instruction action) is = omega arith
    go (Call handed block) is = omega (arith, is)

with_current-sized : (o : Option Begun) (standing : Standing) (draft : Draft) → IsSized standing → AreSized draft.items → IsSized (with_current_of o standing draft)
with_current-sized None standing draft is are = record { main = are; begun = is.begun; blocks = is.blocks }
with_current-sized (Some begun) standing draft is are = record { main = is.main; begun = are; blocks = is.blocks }

current-sized : (o : Option Begun) (main : Draft) → IsSizedBegun o → AreSized main.items → AreSized (current_of o main).items
current-sized None main is are = are
current-sized (Some begun) main is are = is

-- a block that ends has items
ends-some : (begun : Begun) (line : ℕ) → end_fault (Some begun) line ≡ None → length begun.draft.items ≡ 0 → ⊥
ends-some begun line good none =
    let wrong : Some (EmptyBlock line) ≡ None = sym (cond-true (length begun.draft.items == 0) (Some (EmptyBlock line)) None (eq-eqb (length begun.draft.items) 0 none)) ∙ good in
    absurd (cc)

ended-sized : (o : Option Begun) (standing : Standing) (line : ℕ) → end_fault o line ≡ None → IsSizedBegun o → IsSized standing → IsSized (ended o standing)
ended-sized None standing line good begun is = is
ended-sized (Some begun) standing line good are is = record {
  main = is.main;
  begun = tt;
  blocks = λ name block at. elim (cases_Bool (bytes_eq begun.name name)) [
    | inl one ↦
        let same : block_of begun.draft ≡ block = same_Some _ _ (sym (cond-true (bytes_eq begun.name name) (Some (block_of begun.draft)) (standing.blocks name) one) ∙ at) in
        subst (λ (b : Block). 1 ≤ size_of b.items) same (items_by-sized (way_or_next begun.draft.meaning) begun.draft.items are (ends-some begun line good))
    | inr other ↦ is.blocks name block (sym (cond-false (bytes_eq begun.name name) (Some (block_of begun.draft)) (standing.blocks name) other) ∙ at)
  ];
}

used-sized : (o : Option Block) (standing : Standing) (line : ℕ) (handed : List Named) → IsSized standing → ((block : Block) → o ≡ Some block → 1 ≤ size_of block.items) → IsSized (used o standing line handed)
used-sized None standing line handed is blocks = is
used-sized (Some block) standing line handed is blocks =
    with_current-sized standing.begun standing (with_line (current_of standing.begun standing.main) line (Call handed block.items)) is
    (AreSized-append (current_of standing.begun standing.main).items (record { line = line; item = Call handed block.items })
    (current-sized standing.begun standing.main is.begun is.main) (blocks block refl))

below-sized : (standing : Standing) (line : ℕ) (said : Line) → place_fault standing line said ≡ None → IsSized standing → IsSized (below standing line said)
below-sized standing line (Marks name) good is =
    with_current-sized standing.begun standing (with_mark (current_of standing.begun standing.main) name) is (current-sized standing.begun standing.main is.begun is.main)
below-sized standing line (Begins name parameters) good is = record { main = is.main; begun = tt; blocks = is.blocks }
below-sized standing line Ends good is = ended-sized standing.begun standing line good is.begun is
below-sized standing line (Uses name handed) good is = used-sized (standing.blocks name) standing line handed is (is.blocks name)
below-sized standing line (Instructs action) good is =
    with_current-sized standing.begun standing (with_line (current_of standing.begun standing.main) line (Instruction action)) is
    (AreSized-append (current_of standing.begun standing.main).items (record { line = line; item = Instruction action })
    (current-sized standing.begun standing.main is.begun is.main) (omega arith))

leads-sized : (standing : Standing) (lines : List TokenLine) (last : Standing) → Leads standing lines last → IsSized standing → IsSized last
leads-sized standing [] last leads is = subst IsSized leads is
leads-sized standing (line ∷ lines) last leads is = leads-sized (below standing line.number leads.0) lines last leads.3 (below-sized standing line.number leads.0 leads.2 is)

-- main has items
main-some : (o : Option Begun) (standing : Standing) → last_fault o standing ≡ None → length standing.main.items ≡ 0 → ⊥
main-some None standing good none =
    let wrong : Some Empty ≡ None =
    sym (cond-true (length standing.main.items == 0) (Some Empty) (option_map NoLabel (earlier standing.unknown (unknown_of standing.main))) (eq-eqb (length standing.main.items) 0 none)) ∙ good in
    absurd (cc)
main-some (Some begun) standing good none = absurd (cc)

-- a program has an instruction
pub program-sized : (text : List ℕ) (main : Items) → IsAsmText text main → 1 ≤ size_of main
program-sized text main is =
    let sized = leads-sized nothing_yet (lines_with_tokens text) is.standing is.leads (record { main = tt; begun = tt; blocks = λ name block at. absurd (cc) }) in
    subst (λ (m : Items). 1 ≤ size_of m) (sym is.is)
    (items_by-sized (way_or_next is.standing.main.meaning) is.standing.main.items sized.main (main-some is.standing.begun is.standing is.good))

-- so it is assembled
pub has_assembled : (text : List ℕ) (main : Items) → IsAsmText text main → (brain : List Instr) × (list : List Address) × IsAssembled main brain list
has_assembled text main is =
    let all = places_of-size main [] 0 in
    let sized = program-sized text main is in
    (emitted main main main_numbers 0, places main, emitted-assembled main (omega (arith, all, sized)))

-- and is so in one way
pub one-assembled : (main : Items) (a b : List Instr) (first second : List Address) → IsAssembled main a first → IsAssembled main b second → (a ≡ b) × (first ≡ second)
one-assembled main a b first second x y =
    let list : first ≡ second = x.places ∙ sym y.places in
    let z : IsAssembled main b first = subst (λ (l : List Address). IsAssembled main b l) (sym list) y in (
      same_entries a b (x.as_many ∙ sym z.as_many) (λ k below.
          let there = element first k (let many = x.as_many in omega (arith, below, many)) in
          x.each k there.0 there.1 ∙ sym (z.each k there.0 there.1)),
      list,
    )

pub one_brain : OneBrain
one_brain = record { some = has_assembled; one = one-assembled }

-- a text is a program assembled in one way
pub one-reading : (text : List ℕ) (a b : List Instr) (first second : List Address) → IsAssembledText text a first → IsAssembledText text b second → (a ≡ b) × (first ≡ second)
one-reading text a b first second x y =
    one-assembled y.main a b first second (subst (λ (m : Items). IsAssembled m a first) (one_program lines_decide text x.main y.main x.is y.is) x.assembled) y.assembled

-- a text is a program assembled, or has a fault
pub some-reading : (text : List ℕ) → ((brain : List Instr) × (list : List Address) × IsAssembledText text brain list) ⊎ ((fault : AsmFault) × IsAsmFault text fault)
some-reading text = elim (some lines_decide text) [
  | inl program ↦ (let made = has_assembled text program.0 program.1 in inl (made.0, made.1, record { main = program.0; is = program.1; assembled = made.2 }))
  | inr wrong ↦ inr wrong
]

-- the brain of a program has an instruction
pub assembled-some : (text : List ℕ) (brain : List Instr) (list : List Address) → IsAssembledText text brain list → 1 ≤ length brain
assembled-some text brain list made = (let many = made.assembled.as_many in let one = made.assembled.some in omega (arith, many, one))
