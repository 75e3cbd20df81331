-- The texts of faults in a line (this project's own).
use Rattle.std.specs.Prelude.{ℕ, List, codes, if◌then◌else◌}
use Rattle.line_tokens.specs.declared.refusal.LineFault.{LineFault}
use Rattle.line_tokens.specs.declared.refusal.LineFault.TheVariants.{UnknownWord, MissingToken, BadNumber, ExtraToken}
use Rattle.line_tokens.specs.declared.refusal.Refusal.{Refusal}

-- what is wrong with a position
abbrev pub line_fault_text : LineFault → List ℕ
line_fault_text UnknownWord = codes "unknown word"
line_fault_text MissingToken = codes "missing token"
line_fault_text BadNumber = codes "bad number"
line_fault_text ExtraToken = codes "extra token"

-- the text for a token that has a bad byte
abbrev pub bad_byte_text : List ℕ
bad_byte_text = codes "bad byte"

-- why a line is refused
abbrev pub refusal_text : Refusal → List ℕ
refusal_text refusal = if refusal.bad_byte then bad_byte_text else line_fault_text refusal.fault
