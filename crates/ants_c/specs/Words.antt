-- The words about a refused text (this project's own).
use Rattle.std.specs.Prelude.{ℕ, List}
use Rattle.ant_commands.specs.FaultLines.{file_fault_text}
use Rattle.world_gen.specs.FaultText.{gen_fault_text}
use Rattle.world_gen.specs.declared.generator.GenFault.TheVariants as gen
use Rattle.ants_c.specs.declared.refusal.CallFault.{CallFault}
use Rattle.ants_c.specs.declared.refusal.CallFault.TheVariants.{File, NoRoom}

-- the words of a fault: those that the program prints after the name of the file, or for an element without room
abbrev pub fault_words : CallFault → List ℕ
fault_words (File fault) = file_fault_text fault
fault_words (NoRoom element) = gen_fault_text (gen.NoRoom element)
