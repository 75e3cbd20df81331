-- Worked programs, by computation.
use Rattle.std.proofs.Common.{◌≡◌, ℕ, suc, List, [], ◌∷◌, Some, None, refl, map, arith}
use Rattle.std.specs.Prelude.{codes}
use Rattle.hex_geometry.specs.declared.direction.Side.TheVariants.{Left}
use Rattle.brain_read.specs.declared.instr.Instr.{Instr}
use Rattle.brain_read.specs.declared.instr.Instr.TheVariants as instr
use Rattle.ant_asm.specs.declared.action.Action.TheVariants.{Drop, Move, Turn}
use Rattle.ant_asm.specs.declared.fault.AsmFault.TheVariants.{NoLabel, Twice, NoBlock, EmptyBlock, TooMany, UnknownWord, BadName, ExtraToken, Misplaced, WrongCount}
use Rattle.ant_asm.specs.Program.{Items}
use Rattle.ant_asm.specs.Names.Named.{NextWord, Name}
use Rattle.ant_asm.specs.Lines.{Line}
use Rattle.ant_asm.specs.Lines.Line.{Marks, Begins, Ends, Uses, Instructs}
use Rattle.ant_asm.specs.LineFaults.{spelling_fault}
use Rattle.ant_asm.specs.Names.{is_name, is_next}
use Rattle.ant_asm.specs.Places.{Address, beginning, placed, places}
use Rattle.ant_asm.specs.LabelGame.{instruction_by}
use Rattle.ant_asm.specs.Assembled.{number_in}
use Rattle.ant_asm.specs.Standing.{Standing, below, items_of, nothing_yet, place_fault}
use Rattle.ant_asm.specs.Text.{HasLineFault, last_fault}
use Rattle.ant_asm.specs.Text.IsLineFault.{OfPlace}
use Rattle.std.specs.Fmt.{digits}
use Rattle.ant_asm.specs.FaultText.{asm_fault_text}
use Rattle.ant_asm.specs.declared.fault.AsmFault.TheVariants as fault

-- the state below some lines; the first line has this number
abbrev pub below_all : Standing → ℕ → List Line → Standing
below_all standing number [] = standing
below_all standing number (line ∷ lines) = below_all (below standing number line) (suc number) lines

-- block back done / Turn Left next / Turn Left next / Turn Left done / end / go: / Move go stuck / stuck: / use back go
abbrev row : Standing
row = below_all nothing_yet 1
    (Begins (codes "back") (codes "done" ∷ []) ∷ Instructs (Turn Left NextWord) ∷ Instructs (Turn Left NextWord) ∷ Instructs (Turn Left (Name (codes "done"))) ∷ Ends
    ∷ Marks (codes "go") ∷ Instructs (Move (Name (codes "go")) (Name (codes "stuck"))) ∷ Marks (codes "stuck") ∷ Uses (codes "back") (Name (codes "go") ∷ []) ∷ [])

-- the instruction at an address, with numbers for labels
abbrev assembled : Items → Address → Instr
assembled program address = instruction_by (λ label. number_in (places program) ((placed program address).target label)) (placed program address).action

worked_good : last_fault row.begun row ≡ None
worked_good = refl

worked_places : places (items_of row.main) ≡ (0 ∷ []) ∷ (1 ∷ 0 ∷ []) ∷ (1 ∷ 1 ∷ []) ∷ (1 ∷ 2 ∷ []) ∷ []
worked_places = refl

worked_brain : map (assembled (items_of row.main)) (places (items_of row.main)) ≡ instr.Move 0 1 ∷ instr.Turn Left 2 ∷ instr.Turn Left 3 ∷ instr.Turn Left 0 ∷ []
unfolding placed beginning
worked_brain = refl

-- Move go go
worked_unknown : (let s : Standing = below_all nothing_yet 1 (Instructs (Move (Name (codes "go")) (Name (codes "go"))) ∷ []) in last_fault s.begun s) ≡ Some (NoLabel 1)
worked_unknown = refl

-- Drop zz / block a / Drop nope / end: the first line counts, though the block ended before main did
worked_first : (let s : Standing = below_all nothing_yet 1 (Instructs (Drop (Name (codes "zz"))) ∷ Begins (codes "a") [] ∷ Instructs (Drop (Name (codes "nope"))) ∷ Ends ∷ []) in last_fault s.begun s) ≡ Some (NoLabel 1)
worked_first = refl

-- Drop x / Drop y: the first line of a body counts
worked_first_of_body : (let s : Standing = below_all nothing_yet 1 (Instructs (Drop (Name (codes "x"))) ∷ Instructs (Drop (Name (codes "y"))) ∷ []) in last_fault s.begun s) ≡ Some (NoLabel 1)
worked_first_of_body = refl

-- block a / Drop x / end / block b / Drop next / end / use b: that of a block above the last one counts too
worked_first_of_blocks : (let s : Standing = below_all nothing_yet 1
    (Begins (codes "a") [] ∷ Instructs (Drop (Name (codes "x"))) ∷ Ends ∷ Begins (codes "b") [] ∷ Instructs (Drop NextWord) ∷ Ends ∷ Uses (codes "b") [] ∷ []) in
    last_fault s.begun s) ≡ Some (NoLabel 2)
worked_first_of_blocks = refl

-- block b p q p
worked_parameters : place_fault nothing_yet 1 (Begins (codes "b") (codes "p" ∷ codes "q" ∷ codes "p" ∷ [])) ≡ Some (Twice 1)
worked_parameters = refl

-- block b p / p:
worked_twice : place_fault (below nothing_yet 1 (Begins (codes "b") (codes "p" ∷ []))) 2 (Marks (codes "p")) ≡ Some (Twice 2)
worked_twice = refl

-- block a / use a; block a / end
worked_no_block : place_fault (below nothing_yet 1 (Begins (codes "a") [])) 2 (Uses (codes "a") []) ≡ Some (NoBlock 2)
worked_no_block = refl

worked_empty : place_fault (below nothing_yet 1 (Begins (codes "a") [])) 2 Ends ≡ Some (EmptyBlock 2)
worked_empty = refl

-- a: / block a
worked_kinds : place_fault (below nothing_yet 1 (Marks (codes "a"))) 2 (Begins (codes "a") []) ≡ None
worked_kinds = refl

-- block b / Drop next / Drop next / end; after it, main with this many instructions; then use b
abbrev after_so_many : ℕ → Standing
after_so_many size =
    let two : Standing = below_all nothing_yet 1 (Begins (codes "b") [] ∷ Instructs (Drop NextWord) ∷ Instructs (Drop NextWord) ∷ Ends ∷ []) in
    record two { main = record two.main { size = size } }

worked_room : (place_fault (after_so_many 9998) 5 (Uses (codes "b") []) ≡ None) × (place_fault (after_so_many 9999) 5 (Uses (codes "b") []) ≡ Some (TooMany 5))
    × (place_fault (after_so_many 9999) 5 (Instructs (Drop NextWord)) ≡ None) × (place_fault (after_so_many 10000) 5 (Instructs (Drop NextWord)) ≡ Some (TooMany 5))
worked_room = (refl, refl, refl, refl)

-- block z, after this many blocks
worked_blocks : (place_fault (record nothing_yet { count = 255 }) 1 (Begins (codes "z") []) ≡ None) × (place_fault (record nothing_yet { count = 256 }) 1 (Begins (codes "z") []) ≡ Some (TooMany 1))
worked_blocks = (refl, refl)

-- Which fault of a line counts. After 256 blocks, for block z p p and for block b, if b exists: the name is there
-- already. Inside a block, for block z: it is misplaced. If no instruction has room, for use b next, where b has no
-- parameters: the number of labels.
worked_order : (place_fault (record nothing_yet { count = 256 }) 1 (Begins (codes "z") (codes "p" ∷ codes "p" ∷ [])) ≡ Some (Twice 1))
    × (place_fault (record (after_so_many 0) { count = 256 }) 5 (Begins (codes "b") []) ≡ Some (Twice 5))
    × (place_fault (record (below nothing_yet 1 (Begins (codes "a") [])) { count = 256 }) 2 (Begins (codes "z") []) ≡ Some (Misplaced 2))
    × (place_fault (after_so_many 9999) 5 (Uses (codes "b") (NextWord ∷ [])) ≡ Some (WrongCount 5))
worked_order = (refl, refl, refl, refl)

-- use a / foo: a line that stands wrongly counts before one below it that is spelled wrongly
pub worked_lines : HasLineFault (codes "use a\nfoo\n") (NoBlock 1)
unfolding is_name is_next
worked_lines = record {
  before = [];
  line = record { number = 1; tokens = codes "use" ∷ codes "a" ∷ [] };
  after = record { number = 2; tokens = codes "foo" ∷ [] } ∷ [];
  lines = refl;
  standing = nothing_yet;
  leads = refl;
  wrong = OfPlace (Uses (codes "a") []) (record { spelled = (refl, ((refl, refl), tt)); in_range = omega arith }) refl;
}

-- next: · move: · end x · Move go 1 · block next · a: b
worked_next : spelling_fault 1 (codes "next:" ∷ []) ≡ Some (UnknownWord 1)
unfolding spelling_fault is_name is_next
worked_next = refl

worked_keyword : spelling_fault 1 (codes "move:" ∷ []) ≡ None
unfolding spelling_fault is_name is_next
worked_keyword = refl

worked_end : spelling_fault 3 (codes "end" ∷ codes "x" ∷ []) ≡ Some (ExtraToken 3)
unfolding spelling_fault is_name is_next
worked_end = refl

worked_number : spelling_fault 1 (codes "Move" ∷ codes "go" ∷ codes "1" ∷ []) ≡ Some (BadName 1)
unfolding spelling_fault is_name is_next
worked_number = refl

worked_block : spelling_fault 1 (codes "block" ∷ codes "next" ∷ []) ≡ Some (BadName 1)
unfolding spelling_fault is_name is_next
worked_block = refl

worked_two : spelling_fault 1 (codes "a:" ∷ codes "b" ∷ []) ≡ Some (UnknownWord 1)
unfolding spelling_fault is_name is_next
worked_two = refl

worked_many : spelling_fault 1 (codes "block" ∷ codes "b" ∷ codes "p1" ∷ codes "p2" ∷ codes "p3" ∷ codes "p4" ∷ codes "p5" ∷ codes "p6" ∷ codes "p7" ∷ codes "p8" ∷ codes "9" ∷ []) ≡ Some (ExtraToken 1)
unfolding spelling_fault is_name is_next
worked_many = refl

worked_long : spelling_fault 1 (codes "a23456789012345678901234567890123:" ∷ []) ≡ Some (UnknownWord 1)
unfolding spelling_fault is_name is_next
worked_long = refl

-- what each fault says
worked_faults : map asm_fault_text (fault.BadByte 1 ∷ fault.UnknownWord 2 ∷ fault.MissingToken 3 ∷ fault.BadNumber 4 ∷ fault.ExtraToken 5 ∷ fault.BadName 6 ∷ fault.Misplaced 7 ∷ fault.Twice 8 ∷ [])
    ≡ codes "line 1: bad byte" ∷ codes "line 2: unknown word" ∷ codes "line 3: missing token" ∷ codes "line 4: bad number" ∷ codes "line 5: extra token" ∷ codes "line 6: bad name"
    ∷ codes "line 7: misplaced" ∷ codes "line 8: name taken" ∷ []
unfolding digits
worked_faults = refl

worked_more_faults : map asm_fault_text (fault.NoBlock 1 ∷ fault.WrongCount 2 ∷ fault.TooMany 3 ∷ fault.EmptyBlock 4 ∷ fault.Empty ∷ fault.NoLabel 5 ∷ fault.OutOfMemory ∷ [])
    ≡ codes "line 1: no such block" ∷ codes "line 2: wrong number of labels" ∷ codes "line 3: too many" ∷ codes "line 4: empty block" ∷ codes "no instruction" ∷ codes "line 5: no such label"
    ∷ codes "out of memory" ∷ []
unfolding digits
worked_more_faults = refl
