-- What the calls that read parts of a text return.
use Rattle.std.specs.Prelude.{◌≡◌, Result, Ok, Err}
use Rattle.brain_read.specs.declared.draft.Draft.{Draft}
use Rattle.brain_read.specs.declared.fault.BrainFault.{BrainFault}
use Rattle.brain_read.specs.declared.fault.BrainFault.TheVariants.{OutOfMemory}
use Rattle.brain_read.specs.declared.instr.Instr.{Instr}
use Rattle.brain_read.specs.declared.read.DraftLine.{DraftLine}
use Rattle.brain_read.specs.Drafts.{drafted}
use Rattle.brain_read.specs.Inner.Verdict.{Placed, Judgement}

-- the instruction of a draft, with its line
abbrev pub placed_of : DraftLine → Placed
placed_of d = record { line = d.line; instruction = drafted d.draft }

-- a returned fault is the one that was judged; out of memory says nothing
abbrev pub FailsAs : {A : Type 0} → BrainFault → Judgement A → Type 0
FailsAs OutOfMemory judged = Unit {0}
FailsAs fault judged = judged ≡ Err fault

-- a result, seen by view, is what was judged
abbrev pub Gives : {X A : Type 0} → (X → A) → Result X BrainFault → Judgement A → Type 0
Gives view (Ok x) judged = judged ≡ Ok (view x)
Gives view (Err fault) judged = FailsAs fault judged

-- what reading a line returned
abbrev pub as_judged : Result Draft BrainFault → Judgement Instr
as_judged (Ok draft) = Ok (drafted draft)
as_judged (Err fault) = Err fault
