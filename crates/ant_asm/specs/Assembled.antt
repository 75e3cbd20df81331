-- Assembled programs (this project's own).
use Rattle.std.specs.Prelude.{◌≡◌, ℕ, suc, if◌then◌else◌, List, [], ◌∷◌, length, slice_get, Some, bytes_eq, ◌≤◌}
use Rattle.brain_read.specs.declared.instr.Instr.{Instr}
use Rattle.ant_asm.specs.Program.{Items}
use Rattle.ant_asm.specs.Places.{Address, placed, places}
use Rattle.ant_asm.specs.LabelGame.{instruction_by}

-- the number of an address in a list: how many addresses precede it
abbrev pub number_in : List Address → Address → ℕ
number_in [] address = 0
number_in (place ∷ others) address = if bytes_eq place address then 0 else suc (number_in others address)

-- a program is assembled to this brain with these places
pub record IsAssembled (main : Items) (brain : List Instr) (list : List Address) : Type 0 where
  -- the places are the addresses of all its instructions, in order
  pub places : list ≡ places main
  -- each occurs once
  pub once : (i j : ℕ) (address : Address) → slice_get list i ≡ Some address → slice_get list j ≡ Some address → i ≡ j
  -- there is at least one place, and one instruction for each place
  pub some : 1 ≤ length list
  pub as_many : length brain ≡ length list
  -- instruction i is the one at place i, with each label replaced by the number of the place to which it leads
  pub each : (i : ℕ) (address : Address) → slice_get list i ≡ Some address
      → slice_get brain i ≡ Some
      (instruction_by (λ label. number_in list ((placed main address).target label)) (placed main address).action)
