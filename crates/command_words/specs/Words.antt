-- The program's words and the choice of dumps that was read, without addresses.
use Rattle.std.specs.Prelude.{ℕ, List, map, String, string_bytes}
use Rattle.std.specs.declared.alloc.Global.{Global}
use Rattle.command_words.specs.declared.dumps.DumpRounds.{DumpRounds}
use Rattle.command_words.specs.declared.dumps.DumpRounds.TheVariants.{Nothing, All, Chosen}
use Rattle.command_words.specs.Slots.{DumpChoice}
use Rattle.command_words.specs.Slots.DumpChoice.{NoDump, EveryDump, ChosenDumps}

-- the bytes of words
abbrev pub texts : List (String Global) → List (List ℕ)
texts words = map string_bytes words

-- the choice of dumps that was read
abbrev pub plain_dumps : DumpRounds → DumpChoice
plain_dumps Nothing = NoDump
plain_dumps All = EveryDump
plain_dumps (Chosen numbers) = ChosenDumps numbers
