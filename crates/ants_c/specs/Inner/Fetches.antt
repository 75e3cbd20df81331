-- What a note adds to a log of fetches.
use Rattle.std.specs.Prelude.{Ok, Err}
use Rattle.ant_base.specs.Fetched.{Fetched}
use Rattle.ants_c.specs.declared.fetch_log.Note.{Note}
use Rattle.ants_c.specs.declared.fetch_log.Note.TheVariants.{Content, Fault}

-- the fetch of a note
abbrev pub noted_fetch : Note → Fetched
noted_fetch (Content name content) = record { name = name.now; answer = Ok content.now }
noted_fetch (Fault name fault) = record { name = name.now; answer = Err fault }
