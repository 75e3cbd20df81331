-- Which text is refused, and why (this project's own).
use Rattle.std.specs.Prelude.{◌≡◌, ℕ, List}
use Rattle.brain_read.specs.declared.instr.Instr.{Instr}
use Rattle.cell_world.specs.Grid.{Grid}
use Rattle.text_fault.specs.declared.fault.TextFault.{TextFault}
use Rattle.text_fault.specs.Opens.{GivesBrain, GivesWorld}
use Rattle.text_fault.specs.Refusals.{IsNoBrain, IsNoWorld, IsRefusal}
use Rattle.ant_commands.specs.declared.stop.FileFault.TheVariants.{Text}
use Rattle.ants_c.specs.declared.refusal.CallFault.TheVariants.{File}
use Rattle.ants_c.specs.declared.refusal.Refusal.{Refusal}

-- the text with this number is refused, because it is too long or this is wrong with it
pub record IsRefusedText (number : ℕ) (Wrong : List ℕ → TextFault → Type 0) (text : List ℕ)
    (refusal : Refusal) : Type 0 where
  pub fault : TextFault
  pub why : IsRefusal Wrong text fault
  pub is : refusal ≡ record { text = number; fault = File (Text fault) }

-- the first text is refused as a world's, or the text with this number as a brain's
abbrev pub IsRefusedWorld : List ℕ → Refusal → Type 0
IsRefusedWorld = IsRefusedText 1 IsNoWorld

abbrev pub IsRefusedBrain : ℕ → List ℕ → Refusal → Type 0
IsRefusedBrain number = IsRefusedText number IsNoBrain

-- one text of a game is refused, and each text before it is that of a world or of a brain
pub data IsRefusedGame (world red black : List ℕ) (refusal : Refusal) : Type 0 where
  World : IsRefusedWorld world refusal → IsRefusedGame world red black refusal
  Red : (grid : Grid) → GivesWorld world grid → IsRefusedBrain 2 red refusal → IsRefusedGame world red black refusal
  Black : (grid : Grid) → GivesWorld world grid → (reds : List Instr) → GivesBrain red reds → IsRefusedBrain 3 black refusal → IsRefusedGame world red black refusal
