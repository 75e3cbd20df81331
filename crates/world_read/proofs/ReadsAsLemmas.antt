-- What a call that reads answered.
use Rattle.std.proofs.Common.{◌≡◌, Result, Err}
use Rattle.world_read.specs.declared.fault.WorldFault.{WorldFault}
use Rattle.world_read.specs.declared.fault.WorldFault.TheVariants.{OutOfMemory}
use Rattle.world_read.specs.Inner.Reading.{ReadsAs}

-- a fault that was judged may be returned
pub ReadsAs-told : {A : Type 0} (told : Result A WorldFault) (fault : WorldFault) → told ≡ Err fault → ReadsAs told (Err fault)
ReadsAs-told told OutOfMemory is = tt
ReadsAs-told told it is = is

-- what is judged of a part holds for the whole, if the part's faults are the whole's
pub ReadsAs-part : {A B : Type 0} (part : Result A WorldFault) (whole : Result B WorldFault) (fault : WorldFault) → ((e : WorldFault) → part ≡ Err e → whole ≡ Err e) → ReadsAs part (Err fault) → ReadsAs whole (Err fault)
ReadsAs-part part whole OutOfMemory keeps is = tt
ReadsAs-part part whole it keeps is = keeps it is
