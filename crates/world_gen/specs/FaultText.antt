-- The texts of the faults if no world was generated (this project's own).
use Rattle.std.specs.Prelude.{ℕ, List, codes, decimal}
use Rattle.ant_base.specs.Layout.{◌+++◌}
use Rattle.ant_base.specs.FaultText.{memory_text}
use Rattle.world_gen.specs.declared.generator.GenFault.{GenFault}
use Rattle.world_gen.specs.declared.generator.GenFault.TheVariants.{NoRoom, OutOfMemory}

-- why no world was generated
abbrev pub gen_fault_text : GenFault → List ℕ
gen_fault_text (NoRoom element) = codes "no room for element " +++ decimal element
gen_fault_text OutOfMemory = memory_text
