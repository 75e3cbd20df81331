-- What the code reads from a line, as contracts see it.
use Rattle.std.specs.Prelude.{◌≡◌, ◌⊎◌, ℕ, List, ◌++◌, map, Result, Ok, Err}
use Rattle.std.specs.Borrow.{Bor}
use Rattle.ant_asm.specs.declared.action.Action.{Action}
use Rattle.ant_asm.specs.declared.line.Keyword as code
use Rattle.ant_asm.specs.declared.line.Line as code_line
use Rattle.ant_asm.specs.declared.spelling.Source.{Source}
use Rattle.ant_asm.specs.declared.spelling.SpellingFault.{SpellingFault}
use Rattle.ant_asm.specs.declared.spelling.SpellingFault.TheVariants.{OutOfMemory}
use Rattle.ant_asm.specs.Names.{Named}
use Rattle.ant_asm.specs.Lines.{Keyword, Line}
use Rattle.ant_asm.specs.Lines.Keyword.{BlockWord, EndWord, UseWord}
use Rattle.ant_asm.specs.Lines.Line.{Marks, Begins, Ends, Uses, Instructs}
use Rattle.ant_asm.specs.Standing.{mapped}
use Rattle.ant_asm.specs.Inner.Reading.{Read, Step, seen}

-- a keyword
abbrev pub keyword_seen : code.Keyword → Keyword
keyword_seen code.Keyword.Block = BlockWord
keyword_seen code.Keyword.End = EndWord
keyword_seen code.Keyword.Use = UseWord

-- names, and labels
abbrev pub names_seen : List (Bor (List ℕ)) → List (List ℕ)
names_seen names = map (λ (name : Bor (List ℕ)). name.now) names

abbrev pub labels_seen : List Source → List Named
labels_seen labels = map seen labels

-- a line
abbrev pub line_seen : code_line.Line → Line
line_seen (code_line.Line.Mark name) = Marks name.now
line_seen (code_line.Line.Begin name parameters) = Begins name.now (names_seen parameters.items)
line_seen code_line.Line.End = Ends
line_seen (code_line.Line.Use name handed) = Uses name.now (labels_seen handed.items)
line_seen (code_line.Line.Instruct action) = Instructs (mapped seen action)

-- the line of an instruction that was read
abbrev pub action_read : Result (Action Source) SpellingFault → Read Line
action_read (Ok action) = Ok (Instructs (mapped seen action))
action_read (Err fault) = Err fault

-- a result's fault is that of what is read, or out of memory
abbrev pub StopsAs : {A : Type 0} → Read A → SpellingFault → Type 0
StopsAs made fault = (made ≡ Err fault) ⊎ (fault ≡ OutOfMemory)

-- a result is what is read, or out of memory
abbrev pub ReadsAs : {A B : Type 0} → (B → A) → Read A → Result B SpellingFault → Type 0
ReadsAs see made (Ok x) = made ≡ Ok (see x)
ReadsAs see made (Err fault) = StopsAs made fault

-- a line is read in this way
abbrev pub Reads : Read Line → Result code_line.Line SpellingFault → Type 0
Reads made result = ReadsAs line_seen made result

-- the same with these elements in front
abbrev pub all_before : {A : Type 0} → List A → Step (List A) → Step (List A)
all_before front (Ok others) = Ok (front ++ others.0, others.1)
all_before front (Err fault) = Err fault
