use Rattle.std.proofs.Common.{◌≡◌, ◌≤◌, [], take, drop}
use Rattle.command_words.specs.Table.{places_of}
use Rattle.command_words.specs.Inner.Walk.{walk}
use Rattle.command_words.specs.Words.{texts}
use Rattle.command_words.proofs.walk.walk.Given as goal

abbrev pub invariant-loop-at : goal.invariant-loop-at
invariant-loop-at l =
    (l.from ≤ l.at)
    × (walk l.kind (drop l.at (texts l.words)) l.due (drop l.from (take l.at (texts l.words))) (take l.at (texts l.words))
    ≡ walk l.kind (drop 1 (texts l.words)) (places_of l.kind) [] (take 1 (texts l.words)))
