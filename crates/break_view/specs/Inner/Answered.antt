-- What the private calls that read a text return.
use Rattle.std.specs.Prelude.{◌≡◌, List, Result, Ok, Err}
use Rattle.break_view.specs.declared.breaks.Break.{Break}
use Rattle.break_view.specs.declared.fault.BreakFault.{BreakFault}
use Rattle.break_view.specs.declared.fault.BreakFault.TheVariants.{OutOfMemory}
use Rattle.break_view.specs.Inner.Verdict.{Judgement}

-- a returned fault is the one that was judged; out of memory says nothing
abbrev pub FailsAs : BreakFault → Judgement (List Break) → Type 0
FailsAs OutOfMemory judged = Unit {0}
FailsAs fault judged = judged ≡ Err fault

-- a result is what was judged
abbrev pub Gives : Result (List Break) BreakFault → Judgement (List Break) → Type 0
Gives (Ok list) judged = judged ≡ Ok list
Gives (Err fault) judged = FailsAs fault judged
