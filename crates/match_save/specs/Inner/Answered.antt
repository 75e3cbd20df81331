-- What the calls that read return.
use Rattle.std.specs.Prelude.{◌≡◌, ℕ, List, ◌++◌, Option, Some, None, Result, Ok, Err}
use Rattle.std.specs.Borrow.{Bor}
use Rattle.match_save.specs.Inner.Readers.{Left}
use Rattle.match_save.specs.declared.fault.RefusedLine.{RefusedLine}
use Rattle.match_save.specs.declared.fault.SaveFault.{SaveFault}
use Rattle.match_save.specs.declared.fault.SaveFault.TheVariants.{BadLine, BadState, OutOfMemory}

-- what a call read from tokens, with those that it left
abbrev pub leaving : {E A : Type 0} → Left E → Result A ℕ → Result (A × Left E) ℕ
leaving left (Ok x) = Ok (x, left)
leaving left (Err number) = Err number

-- the same for a token
abbrev pub leaving_slice : {E : Type 0} → Left E → Result (Bor (List ℕ)) ℕ → Result (List ℕ × Left E) ℕ
leaving_slice left (Ok x) = Ok (x.now, left)
leaving_slice left (Err number) = Err number

-- what a call read from lines, with those that it left
abbrev pub line_left : {E A : Type 0} → Left E → Result A RefusedLine → Result (A × Left E) ℕ
line_left left (Ok x) = Ok (x, left)
line_left left (Err line) = Err line.0

-- the same for a line
abbrev pub line_left_slice : {E : Type 0} → Left E → Result (Bor (List ℕ)) RefusedLine → Result (List ℕ × Left E) ℕ
line_left_slice left (Ok x) = Ok (x.now, left)
line_left_slice left (Err line) = Err line.0

-- the result of a call that checks lines
abbrev pub line_told : {A : Type 0} → Result A RefusedLine → Result A ℕ
line_told (Ok x) = Ok x
line_told (Err line) = Err line.0

-- a fault is the line that was judged bad; out of memory says nothing
abbrev pub FaultTold : {A : Type 0} → Result A ℕ → SaveFault → Type 0
FaultTold told (BadLine line) = told ≡ Err line
FaultTold told BadState = ⊥
FaultTold told OutOfMemory = Unit {0}

-- a call that takes memory read what was judged, or its fault is the line that was judged bad
abbrev pub ReadsAs : {E A V : Type 0} → Result (A × Left E) ℕ → (V → A) → Left E → Result V SaveFault → Type 0
ReadsAs told view left (Ok v) = told ≡ Ok (view v, left)
ReadsAs told view left (Err fault) = FaultTold told fault

-- what is read, after what is there
abbrev pub behind : {E A : Type 0} → List A → Result (List A × Left E) ℕ → Result (List A × Left E) ℕ
behind front (Ok read) = Ok (front ++ read.0, read.1)
behind front (Err number) = Err number

-- the result of a call that fills a list: the list is what was judged, or its fault is the line that was judged bad
abbrev pub Fills : {E A : Type 0} → Result (List A × Left E) ℕ → List A → Left E → Result (Unit {0}) SaveFault → Type 0
Fills told list left (Ok _) = told ≡ Ok (list, left)
Fills told list left (Err fault) = FaultTold told fault

-- a row's values after others, if it is a row
abbrev pub row_behind : {A : Type 0} → List A → Option (List A) → Option (List A)
row_behind front None = None
row_behind front (Some row) = Some (front ++ row)

-- the result of a call that reads one row with this number: the row's values are after those that were there, or it
-- isn't a row
abbrev pub RowFills : {A : Type 0} → Option (List A) → ℕ → List A → List A → Result (Unit {0}) SaveFault → Type 0
RowFills told number old new (Ok _) = row_behind old told ≡ Some new
RowFills told number old new (Err (BadLine line)) = (told ≡ None) × (line ≡ number)
RowFills told number old new (Err BadState) = ⊥
RowFills told number old new (Err OutOfMemory) = Unit {0}
