use Rattle.std.proofs.Common.{◌≡◌, ◌+◌, true, false, string_bytes, bytes_eq, sym, ap, ◌∙◌, arith}
use Rattle.std.proofs.lemmas.List.{take_rest}
use Rattle.command_words.specs.Words.{texts}
use Rattle.command_words.proofs.WalkSteps.{rest_after-here, rest_after-more, rest_after-past}
use Rattle.command_words.proofs.values.rest_after.Goals as goal

pub returns-then-eq : goal.returns-then-eq
returns-then-eq c =
    let same : bytes_eq (string_bytes c.index-words-at.result) c.args.text.now ≡ true = cc in
    ap texts (take_rest c.args.words.now (c.loop-at.at + 1))
    ∙ sym (rest_after-here c.args.text.now c.args.words.now c.loop-at.at c.index-words-at.result (omega arith) c.index-words-at.is same) ∙ c.loop-at.invariant

pub loop-at-preserved : goal.loop-at-preserved
loop-at-preserved c =
    let differs : bytes_eq (string_bytes c.index-words-at.result) c.args.text.now ≡ false = cc in
    sym (rest_after-more c.args.text.now c.args.words.now c.loop-at.at c.index-words-at.result (omega arith) c.index-words-at.is differs) ∙ c.loop-at.invariant

pub returns : goal.returns
returns c = sym (rest_after-past c.args.text.now c.args.words.now c.loop-at.at (omega arith)) ∙ c.loop-at.invariant
