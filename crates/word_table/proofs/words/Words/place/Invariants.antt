use Rattle.std.proofs.Common.{◌≡◌, ◌+◌, drop, map, option_map}
use Rattle.word_table.specs.Words.{word_place}
use Rattle.word_table.proofs.words.Words.place.Given as goal

-- no word so far is the text, so its place is counted from here
abbrev pub invariant-loop-i : goal.invariant-loop-i
invariant-loop-i g l = word_place (map g.T.AsStr.text l.word-items) l.text ≡ option_map (λ j. l.i + j) (word_place (drop l.i (map g.T.AsStr.text l.word-items)) l.text)
