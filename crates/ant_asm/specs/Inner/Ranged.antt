-- Programs whose markers and bounds are in their ranges.
use Rattle.brain_read.specs.Forms.{IsInRange}
use Rattle.ant_asm.specs.Program.{Items}
use Rattle.ant_asm.specs.Program.Items.{End, Do, Use}
use Rattle.ant_asm.specs.LabelGame.{instruction_by}

-- the markers and bounds of all instructions are in their ranges
abbrev pub AreRanged : Items → Type 0
AreRanged End = Unit {0}
AreRanged (Do action others) = IsInRange (instruction_by (λ label. 0) action) × AreRanged others
AreRanged (Use handed block others) = AreRanged block × AreRanged others
