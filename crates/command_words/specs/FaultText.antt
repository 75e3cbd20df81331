-- The text for words that are not a command (this project's own).
use Rattle.std.specs.Prelude.{ℕ, List, codes, decimal}
use Rattle.ant_base.specs.Layout.{◌+++◌}

-- which word is refused, counted from 1
abbrev pub refused_text : ℕ → List ℕ
refused_text word = codes "word " +++ decimal word +++ codes " refused"
