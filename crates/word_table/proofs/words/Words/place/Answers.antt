use Rattle.std.proofs.Common.{◌<◌, ◌∙◌, sym, ap, length, arith, map}
use Rattle.std.specs.Str.{str_eq_ignore_ascii_case}
use Rattle.word_table.specs.Words.{word_place}
use Rattle.word_table.proofs.Places.{search-more, search-here}
use Rattle.word_table.proofs.words.Words.place.Goals as goal

pub returns-then-is_word-clause-place : goal.returns-then-is_word-clause-place
returns-then-is_word-clause-place g c =
    let texts = map g.T.AsStr.text c.self.inside.words in
    let within : c.loop-i.i < length c.self.inside.words = omega (arith, c.self.told, c.loop-i-test.true) in
    let text = ap g.T.AsStr.text c.word-item.is ∙ sym c.as_str.ensures in
    let is_word = ap (λ w. str_eq_ignore_ascii_case w c.args.text.now) text ∙ sym c.is_word.ensures ∙ c.if-is_word.true in
    let here = search-here g.T.AsStr.text c.self.inside.words c.loop-i.i c.word-item.result c.args.text.now within c.word-item.is is_word in
    sym (ap (λ t. word_place t c.args.text.now) (sym c.self.view_is) ∙ c.loop-i.invariant ∙ here)

pub loop-i-preserved : goal.loop-i-preserved
loop-i-preserved g c =
    let within : c.loop-i.i < length c.self.inside.words = omega (arith, c.self.told, c.loop-i-test.true) in
    let text = ap g.T.AsStr.text c.word-item.is ∙ sym c.as_str.ensures in
    let no_word = ap (λ w. str_eq_ignore_ascii_case w c.args.text.now) text ∙ sym c.is_word.ensures ∙ c.if-is_word.false in
    c.loop-i.invariant ∙ search-more g.T.AsStr.text c.self.inside.words c.loop-i.i c.word-item.result c.args.text.now within c.word-item.is no_word
