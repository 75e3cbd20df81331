-- How a run ends, why a command stops, and the line that says so.
use Rattle.std.specs.Prelude.{ℕ, List, Option, Some, None, codes}
use Rattle.ant_base.specs.Layout.{◌+++◌}
use Rattle.ant_base.specs.FaultText.{failed_text, fetch_fault_text, memory_text}
use Rattle.ant_base.specs.declared.shelf.FetchFault.TheVariants as fetch
use Rattle.break_view.specs.FaultText.{break_fault_text}
use Rattle.command_words.specs.FaultText.{refused_text}
use Rattle.text_fault.specs.FaultText.{text_fault_text}
use Rattle.world_gen.specs.FaultText.{gen_fault_text}
use Rattle.world_gen.specs.declared.generator.GenFault.TheVariants as gen
use Rattle.ant_commands.specs.declared.status.Status.{Status}
use Rattle.ant_commands.specs.declared.status.Status.TheVariants as status
use Rattle.ant_commands.specs.declared.stop.FileFault.{FileFault}
use Rattle.ant_commands.specs.declared.stop.FileFault.TheVariants.{Breaks, Text}
use Rattle.ant_commands.specs.declared.stop.CommandStop.{CommandStop}
use Rattle.ant_commands.specs.declared.stop.CommandStop.TheVariants as stop
use Rattle.ant_commands.specs.declared.stop.Ended.{Ended}
use Rattle.ant_commands.specs.declared.stop.Ended.TheVariants as ended

-- why a command stopped: a file was not read, the output failed, a file was refused, an element of a generated world
-- has no room, or memory ran out
pub data Reason : Type 0 where
  AtFile : List ℕ → Reason
  AtOutput : Reason
  AtInput : List ℕ → FileFault → Reason
  AtRoom : ℕ → Reason
  AtMemory : Reason

-- how a run ended: with its whole text, at a word that is refused, or because its command stopped
pub data Ending : Type 0 where
  Done : Ending
  RefusedWord : ℕ → Ending
  Stopped : Reason → Ending

-- the reason of a stop: each name as its bytes, without its address
abbrev pub reason_of : CommandStop → Reason
reason_of (stop.Read name) = AtFile name.now
reason_of stop.Write = AtOutput
reason_of (stop.Input name fault) = AtInput name.now fault
reason_of (stop.NoRoom element) = AtRoom element
reason_of stop.Memory = AtMemory

-- the ending of a command: done if it had no reason to stop, otherwise stopped for this reason
abbrev pub ending_by : Option Reason → Ending
ending_by None = Done
ending_by (Some reason) = Stopped reason

-- an ending, with each name as its bytes, without its address
abbrev pub plain_ending : Ended → Ending
plain_ending ended.Done = Done
plain_ending (ended.RefusedWord word) = RefusedWord word
plain_ending (ended.Stopped why) = Stopped (reason_of why)

-- the status of a command that stopped for a reason
abbrev pub status_of : Reason → Status
status_of (AtFile name) = status.Read
status_of AtOutput = status.Write
status_of (AtInput name fault) = status.Input
status_of (AtRoom element) = status.Input
status_of AtMemory = status.Memory

-- the status of an ending
abbrev pub ending_status : Ending → Status
ending_status Done = status.Done
ending_status (RefusedWord word) = status.Words
ending_status (Stopped reason) = status_of reason

-- the text of a file's fault
abbrev pub file_fault_text : FileFault → List ℕ
file_fault_text (Text fault) = text_fault_text fault
file_fault_text (Breaks fault) = break_fault_text fault

-- the text of a reason
abbrev pub reason_text : Reason → List ℕ
reason_text (AtFile name) = name +++ codes ": " +++ fetch_fault_text fetch.Failed
reason_text AtOutput = failed_text
reason_text (AtInput name fault) = name +++ codes ": " +++ file_fault_text fault
reason_text (AtRoom element) = gen_fault_text (gen.NoRoom element)
reason_text AtMemory = memory_text

-- the line of a refused word, which is written to the errors
unfoldable pub word_line : ℕ → List ℕ
word_line word = codes "ants: " +++ refused_text word +++ codes "\n"

-- the line of a command that stopped, which is written to the errors
unfoldable pub fault_line : Reason → List ℕ
fault_line reason = codes "ants: " +++ reason_text reason +++ codes "\n"
