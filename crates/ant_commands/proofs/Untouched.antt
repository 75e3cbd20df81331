-- An errand that was refused.
use Rattle.std.proofs.Common.{◌≡◌, subst}
use Rattle.std.specs.Prelude.{Some}
use Rattle.ant_base.specs.Shelf.{ShelfState}
use Rattle.ant_base.specs.Sink.{SinkState}
use Rattle.ant_commands.specs.Job.{Job}
use Rattle.ant_commands.specs.Inner.Reading.{CarriesOut}
use Rattle.ant_commands.specs.FaultLines.Reason.{AtMemory}
use Rattle.ant_commands.proofs.Readings.{carries_nothing}

-- memory ran out, and neither the shelf nor the output was touched
pub carries_untouched : (command : Job) (shelf new_shelf : ShelfState) (out new_out : SinkState) → shelf ≡ new_shelf → out ≡ new_out → CarriesOut command shelf new_shelf out new_out (Some AtMemory)
carries_untouched command shelf new_shelf out new_out same_shelf same_out =
    subst (λ (o : SinkState). CarriesOut command shelf new_shelf out o (Some AtMemory)) same_out
    (subst (λ (s : ShelfState). CarriesOut command shelf s out out (Some AtMemory)) same_shelf (carries_nothing command shelf out))
