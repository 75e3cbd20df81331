use Rattle.spec_record.proofs.Patched.{later-GoesOn}
use Rattle.spec_record.proofs.SettledTurns.{look-CanSetWrites, look-after}
use Rattle.spec_record.proofs.look_laws.looks_settle.Goals as goal

pub returns : goal.returns
returns c = λ minds seed base guess now place t room sound later holds left. (
  look-CanSetWrites minds seed base guess now place t sound later.valid_base later.valid later.fits (later-GoesOn minds base now t later) holds room left,
  look-after minds seed base guess now place t sound later.valid_base later.valid later.fits (later-GoesOn minds base now t later) holds,
)
