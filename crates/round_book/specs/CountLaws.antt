-- Laws of the counts of every window (this project's own).
use Rattle.std.specs.Prelude.{◌≡◌, ◌↔◌, ℕ, ◌+◌, ◌-◌, true}
use Rattle.ant_turn.specs.Rounds.{Moment}
use Rattle.spec_record.specs.Holds.{LookHolds}
use Rattle.spec_record.specs.Look.{LookValue}
use Rattle.cell_world.specs.World.{Cells}
use Rattle.round_book.specs.declared.verdict.Cause.{Cause}
use Rattle.round_book.specs.declared.verdict.Verdict.TheVariants.{Redone}
use Rattle.round_book.specs.Counts.{counts_of, is_taken, look_holds}
use Rattle.round_book.specs.Window.{HoldsIn, IsPlayable, IsVerdict, Window, moment_before}

-- the number of looks that are used and the number of turns that are executed again add up to the number of turns
abbrev pub CountsAddUp : Type 0
CountsAddUp = (window : Window) → (counts_of window).taken + (counts_of window).redone ≡ window.to - window.from

-- in a window of one turn the look is used
abbrev pub SingleTurnsAreTaken : Type 0
SingleTurnsAreTaken =
    (window : Window) → IsPlayable window → window.to ≡ window.from + 1
    → counts_of window ≡ record { taken = 1; redone = 0 }

-- the test of a look is true exactly if the look is valid, and a turn counts as settled by its look exactly if the look
-- is valid at that turn
pub record TakenWhereItHolds : Type 0 where
  pub look : (look : LookValue) (cells : Cells) (place : ℕ)
      → (look_holds look cells place ≡ true) ↔ LookHolds look cells place
  pub turn : (window : Window) (t : ℕ) → (is_taken window t ≡ true) ↔ HoldsIn window (moment_before window t) t

-- if a look is valid, its turn can't be said to be executed again
abbrev pub CausesRefute : Type 0
CausesRefute =
    (window : Window) (now : Moment) (t : ℕ) (found : Cause) → IsVerdict window now t (Redone found)
    → ¬ HoldsIn window now t
