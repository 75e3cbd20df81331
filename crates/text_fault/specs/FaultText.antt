-- The texts for a text that is not opened (this project's own).
use Rattle.std.specs.Prelude.{ℕ, List}
use Rattle.ant_asm.specs.FaultText.{asm_fault_text}
use Rattle.ant_base.specs.FaultText.{fetch_fault_text, memory_text}
use Rattle.ant_base.specs.declared.shelf.FetchFault.TheVariants as fetch
use Rattle.brain_read.specs.FaultText.{brain_fault_text}
use Rattle.match_save.specs.FaultText.{already_at_text, save_fault_text}
use Rattle.text_fault.specs.declared.fault.TextFault.{TextFault}
use Rattle.text_fault.specs.declared.fault.TextFault.TheVariants.{TooLong, World, Brain, Labelled, Save, AlreadyAt}
use Rattle.text_fault.specs.declared.stop.TextStop.{TextStop}
use Rattle.text_fault.specs.declared.stop.TextStop.TheVariants.{OutOfMemory, Refused}
use Rattle.world_read.specs.FaultText.{world_fault_text}

-- the text of a text's fault: if it is too long, the shell's, and otherwise its reader's
abbrev pub text_fault_text : TextFault → List ℕ
text_fault_text TooLong = fetch_fault_text fetch.TooLong
text_fault_text (World fault) = world_fault_text fault
text_fault_text (Brain fault) = brain_fault_text fault
text_fault_text (Labelled fault) = asm_fault_text fault
text_fault_text (Save fault) = save_fault_text fault
text_fault_text (AlreadyAt round) = already_at_text round

-- why a text is not opened
abbrev pub text_stop_text : TextStop → List ℕ
text_stop_text OutOfMemory = memory_text
text_stop_text (Refused fault) = text_fault_text fault
