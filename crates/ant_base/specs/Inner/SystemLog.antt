-- What a note adds to a log of the system.
use Rattle.std.specs.Prelude.{ℕ, List, [], ◌∷◌, Ok, Err}
use Rattle.ant_base.specs.Fetched.{Fetched}
use Rattle.ant_base.specs.declared.system_log.Note.{Note}
use Rattle.ant_base.specs.declared.system_log.Note.TheVariants.{Bytes, Content, Fault}

-- the fetch of a note
abbrev pub noted_fetches : Note → List Fetched
noted_fetches (Bytes piece) = []
noted_fetches (Content name content) = record { name = name.now; answer = Ok content.now } ∷ []
noted_fetches (Fault name fault) = record { name = name.now; answer = Err fault } ∷ []

-- the bytes of a note
abbrev pub noted_bytes : Note → List ℕ
noted_bytes (Bytes piece) = piece.now
noted_bytes (Content name content) = []
noted_bytes (Fault name fault) = []
