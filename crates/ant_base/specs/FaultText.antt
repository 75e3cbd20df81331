-- The texts of the faults (this project's own).
use Rattle.std.specs.Prelude.{ℕ, List, codes, decimal}
use Rattle.ant_base.specs.Layout.{◌+++◌}
use Rattle.ant_base.specs.declared.push_fault.PushFault.{PushFault}
use Rattle.ant_base.specs.declared.push_fault.PushFault.TheVariants as push
use Rattle.ant_base.specs.declared.shelf.FetchFault.{FetchFault}
use Rattle.ant_base.specs.declared.shelf.FetchFault.TheVariants.{Failed, TooLong, OutOfMemory}

-- a text after the number of its line, which is counted from 1
abbrev pub line_says : ℕ → List ℕ → List ℕ
line_says line says = codes "line " +++ decimal line +++ codes ": " +++ says

-- the text if memory ran out
abbrev pub memory_text : List ℕ
memory_text = codes "out of memory"

-- the text of a failed push
abbrev pub failed_text : List ℕ
failed_text = codes "output failed"

-- why a text that is built while it is pushed wasn't pushed whole
abbrev pub push_fault_text : PushFault → List ℕ
push_fault_text push.WriteFault = failed_text
push_fault_text push.OutOfMemory = memory_text

-- why the content of a name wasn't fetched
abbrev pub fetch_fault_text : FetchFault → List ℕ
fetch_fault_text Failed = codes "not read"
fetch_fault_text TooLong = codes "too long"
fetch_fault_text OutOfMemory = memory_text
