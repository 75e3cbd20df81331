-- A call stops at a text because the text is not opened.
use Rattle.std.proofs.Common.{◌≡◌, ℕ, List, Result, Ok, Err, IfErr, IfOk, refl, arith}
use Rattle.brain_read.specs.declared.instr.Instr.{Instr}
use Rattle.cell_world.specs.Grid.{Grid}
use Rattle.text_fault.specs.declared.fault.TextFault.{TextFault}
use Rattle.text_fault.specs.declared.stop.TextStop.{TextStop}
use Rattle.text_fault.specs.declared.stop.TextStop.TheVariants as text
use Rattle.text_fault.specs.Opens.{Gives, GivesBrain, GivesWorld, Opens}
use Rattle.ants_c.specs.declared.fault.AntsFault.{AntsFault}
use Rattle.ants_c.specs.declared.refusal.Refusal.{Refusal}
use Rattle.ants_c.specs.declared.refusal.Stop.{Stop}
use Rattle.ants_c.specs.declared.refusal.Stop.TheVariants.{OutOfMemory, Refused}
use Rattle.ants_c.specs.Refused.{IsRefusedBrain, IsRefusedGame, IsRefusedText, IsRefusedWorld}
use Rattle.ants_c.specs.Told.{IsStopped, IsTold, StopsAt, numbered}

-- a text that is opened has its value
pub numbered_ok : {V : Type 0} (P : V → Type 0) (number : ℕ) (opened : Result V TextStop) (result : Result V Stop) → result ≡ numbered number opened → IfOk opened P → IfOk result P
numbered_ok P number (Ok value) result is holds = rw is holds
numbered_ok P number (Err text.OutOfMemory) result is holds = rw is tt
numbered_ok P number (Err (text.Refused fault)) result is holds = rw is tt

pub gives : {V : Type 0} (Is : List ℕ → V → Type 0) (Wrong : List ℕ → TextFault → Type 0) (bytes : List ℕ) (opened : Result V TextStop) → Opens Is Wrong bytes opened → IfOk opened (Gives Is bytes)
gives Is Wrong bytes (Ok value) opens = opens
gives Is Wrong bytes (Err stop) opens = tt

-- one that isn't stops a call
pub numbered_stops : {V : Type 0} (number : ℕ) (Is : List ℕ → V → Type 0) (Wrong : List ℕ → TextFault → Type 0) (bytes : List ℕ) (opened : Result V TextStop) (result : Result V Stop)
    → result ≡ numbered number opened → Opens Is Wrong bytes opened → IfErr result (StopsAt (IsRefusedText number Wrong bytes))
numbered_stops number Is Wrong bytes (Ok value) result is opens = rw is tt
numbered_stops number Is Wrong bytes (Err text.OutOfMemory) result is opens = rw is tt
numbered_stops number Is Wrong bytes (Err (text.Refused fault)) result is opens = rw is (record { fault = fault; why = opens; is = refl })

-- a call that stops at the first, the second or the third text of a game
pub stops_at_first : (world red black : List ℕ) (stop : Stop) → StopsAt (IsRefusedWorld world) stop → StopsAt (IsRefusedGame world red black) stop
stops_at_first world red black OutOfMemory is = tt
stops_at_first world red black (Refused refusal) is = IsRefusedGame.World is

pub stops_at_second : (world red black : List ℕ) (stop : Stop) (grid : Grid) → GivesWorld world grid → StopsAt (IsRefusedBrain 2 red) stop → StopsAt (IsRefusedGame world red black) stop
stops_at_second world red black OutOfMemory grid opens is = tt
stops_at_second world red black (Refused refusal) grid opens is = IsRefusedGame.Red grid opens is

pub stops_at_third : (world red black : List ℕ) (stop : Stop) (grid : Grid) (reds : List Instr) → GivesWorld world grid → GivesBrain red reds → StopsAt (IsRefusedBrain 3 black) stop
    → StopsAt (IsRefusedGame world red black) stop
stops_at_third world red black OutOfMemory grid reds opens is_red is = tt
stops_at_third world red black (Refused refusal) grid reds opens is_red is = IsRefusedGame.Black grid opens reds is_red is

-- a call that is stopped with status 5 tells why
pub stopped_tells : (Why : Refusal → Type 0) (stop : Stop) (status : ℕ) (fault told : AntsFault) (before after : List ℕ) → IsStopped stop status fault told before after
    → StopsAt Why stop → status ≡ 5 → IsTold Why told before after
stopped_tells Why OutOfMemory status fault told before after is stops five = absurd (omega (is.0, five, arith))
stopped_tells Why (Refused refusal) status fault told before after is stops five = record { refusal = refusal; is = stops; numbers = is.1; words = is.2 }
