-- Exit statuses.
use Rattle.std.specs.Prelude.{ℕ}
use Rattle.ant_commands.specs.declared.status.Status.{Status}
use Rattle.ant_commands.specs.declared.status.Status.TheVariants.{Done, Words, Read, Write, Input, Memory}

-- the number of a status
abbrev pub status_number : Status → ℕ
status_number Done = 0
status_number Words = 2
status_number Read = 3
status_number Write = 4
status_number Input = 5
status_number Memory = 6
