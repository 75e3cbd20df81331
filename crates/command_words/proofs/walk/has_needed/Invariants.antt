use Rattle.std.proofs.Common.{◌≡◌, not, ◌||◌, drop}
use Rattle.std.specs.List.{list_all}
use Rattle.command_words.specs.Table.{option_of, is_needed}
use Rattle.command_words.specs.Command.{is_among}
use Rattle.command_words.specs.Inner.Walk.{has_needed}
use Rattle.command_words.specs.Words.{texts}
use Rattle.command_words.proofs.walk.has_needed.Given as goal

abbrev pub invariant-loop-choice : goal.invariant-loop-choice
invariant-loop-choice l = list_all (λ choice. not (is_needed choice) || is_among (option_of choice) (texts l.words)) (drop l.choice-index l.choice-items)
    ≡ has_needed l.fn.kind (texts l.words)
