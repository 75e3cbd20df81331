use Rattle.std.proofs.Common.{◌≡◌, true, false, string_bytes, bytes_eq, sym, ◌∙◌, arith}
use Rattle.command_words.proofs.WalkSteps.{is_among-here, is_among-more, is_among-past}
use Rattle.command_words.proofs.walk.is_among.Goals as goal

pub returns-then-eq : goal.returns-then-eq
returns-then-eq c =
    let same : bytes_eq (string_bytes c.other-item.result) c.args.word.now ≡ true = cc in
    sym (is_among-here c.args.word.now c.args.words.now c.loop-other.other-index c.other-item.result (omega arith) c.other-item.is same) ∙ c.loop-other.invariant

pub loop-other-preserved : goal.loop-other-preserved
loop-other-preserved c =
    let differs : bytes_eq (string_bytes c.other-item.result) c.args.word.now ≡ false = cc in
    sym (is_among-more c.args.word.now c.args.words.now c.loop-other.other-index c.other-item.result (omega arith) c.other-item.is differs) ∙ c.loop-other.invariant

pub returns : goal.returns
returns c = sym (is_among-past c.args.word.now c.args.words.now c.loop-other.other-index (omega arith)) ∙ c.loop-other.invariant
