use Rattle.std.proofs.Common.{◌≡◌, true, false, string_bytes, sym, ◌∙◌, arith}
use Rattle.command_words.specs.Slots.{is_file_name}
use Rattle.command_words.proofs.WalkSteps.{names_front-here, names_front-more, names_front-past}
use Rattle.command_words.proofs.values.names_front.Goals as goal

pub returns-then-not-is_file_name : goal.returns-then-not-is_file_name
returns-then-not-is_file_name c =
    let no_name : is_file_name (string_bytes c.index-words-at.result) ≡ false = cc in
    sym (names_front-here c.args.words.now c.loop-at.at c.index-words-at.result (omega arith) c.index-words-at.is no_name) ∙ c.loop-at.invariant

pub loop-at-preserved : goal.loop-at-preserved
loop-at-preserved c =
    let is_name : is_file_name (string_bytes c.index-words-at.result) ≡ true = cc in
    sym (names_front-more c.args.words.now c.loop-at.at c.index-words-at.result (omega arith) c.index-words-at.is is_name) ∙ c.loop-at.invariant

pub returns : goal.returns
returns c = sym (names_front-past c.args.words.now c.loop-at.at (omega arith)) ∙ c.loop-at.invariant
