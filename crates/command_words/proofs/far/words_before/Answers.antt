use Rattle.std.proofs.Common.{◌≡◌, true, false, string_bytes, bytes_eq, sym, ◌∙◌, arith}
use Rattle.command_words.proofs.FarWords.{words_before-here, words_before-more, words_before-past}
use Rattle.command_words.proofs.far.words_before.Goals as goal

pub returns-then-eq : goal.returns-then-eq
returns-then-eq c =
    let same : bytes_eq (string_bytes c.index-words-at.result) c.args.text.now ≡ true = cc in
    sym (words_before-here c.args.text.now c.args.words.now c.loop-at.at c.index-words-at.result (omega arith) c.index-words-at.is same) ∙ c.loop-at.invariant

pub loop-at-preserved : goal.loop-at-preserved
loop-at-preserved c =
    let differs : bytes_eq (string_bytes c.index-words-at.result) c.args.text.now ≡ false = cc in
    sym (words_before-more c.args.text.now c.args.words.now c.loop-at.at c.index-words-at.result (omega arith) c.index-words-at.is differs) ∙ c.loop-at.invariant

pub returns : goal.returns
returns c = sym (words_before-past c.args.text.now c.args.words.now c.loop-at.at (omega arith)) ∙ c.loop-at.invariant
