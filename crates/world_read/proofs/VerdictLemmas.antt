-- The verdict on a text is what is read.
use Rattle.std.proofs.Common.{◌≡◌, ℕ, List, Result, Ok, Err, sym}
use Rattle.world_read.specs.declared.fault.WorldFault.{WorldFault}
use Rattle.world_read.specs.Faulty.{IsPlanVerdict}
use Rattle.world_read.specs.Grammar.{Plan}
use Rattle.world_read.specs.Inner.Reading.{plan_of}
use Rattle.world_read.proofs.FaultReads.{plan_of-fault}
use Rattle.world_read.proofs.TextReads.{plan_of-known, plan_of-text}
use Rattle.world_read.proofs.WrongReads.{plan_of-wrong}

-- what is read is a verdict
pub IsPlanVerdict-read : (text : List ℕ) (read : Result Plan WorldFault) → plan_of text ≡ read → IsPlanVerdict text read
IsPlanVerdict-read text (Ok plan) is = plan_of-known text plan is
IsPlanVerdict-read text (Err fault) is = plan_of-fault text fault is

-- a verdict is what is read
pub plan_of-verdict : (text : List ℕ) (verdict : Result Plan WorldFault) → IsPlanVerdict text verdict → verdict ≡ plan_of text
plan_of-verdict text (Ok plan) is = sym (plan_of-text text plan.width plan.height plan.kinds is)
plan_of-verdict text (Err fault) is = sym (plan_of-wrong text fault is)
