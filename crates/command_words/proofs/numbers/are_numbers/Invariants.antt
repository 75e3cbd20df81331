use Rattle.std.proofs.Common.{◌≡◌, is_some}
use Rattle.command_words.specs.Slots.{pieces_of, numbers_of}
use Rattle.command_words.proofs.numbers.are_numbers.Given as goal

abbrev pub invariant-loop-piece : goal.invariant-loop-piece
invariant-loop-piece l = is_some (numbers_of l.piece-iterator) ≡ is_some (numbers_of (pieces_of l.word))
