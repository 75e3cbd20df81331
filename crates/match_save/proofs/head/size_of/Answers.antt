use Rattle.std.proofs.Common.{sym, codes}
use Rattle.match_save.specs.Inner.Readers.{followed}
use Rattle.match_save.specs.Inner.Reading.{number, pieces, size_tokens}
use Rattle.match_save.proofs.WholeLines.{two-first, two-read, two-second, whole-longer, whole-read, whole-refused}
use Rattle.match_save.proofs.Words.{word_refused}
use Rattle.match_save.proofs.head.size_of.Goals as goal

pub returns-in_default-clause-value : goal.returns-in_default-clause-value
returns-in_default-clause-value c =
    whole-refused size_tokens (pieces c.args.line.now) c.new-fields.result c.new-fields.ensures c.in_default.field-0
    (word_refused (codes "size") (followed (number 3 512) (λ width. number 3 512)) c.new-fields.result c.in_default.field-0 c.in_default.ensures)

pub returns-in_default-number-clause-value : goal.returns-in_default-number-clause-value
returns-in_default-number-clause-value c =
    whole-refused size_tokens (pieces c.args.line.now) c.new-fields.result c.new-fields.ensures c.in_default-number.field-0
    (two-first (codes "size") (number 3 512) (number 3 512) c.new-fields.result c.word.new.self c.in-Ok.field-0 c.in_default-number.field-0 c.in-Ok.ensures c.in_default-number.ensures.value)

pub returns-in_default-number-2-clause-value : goal.returns-in_default-number-2-clause-value
returns-in_default-number-2-clause-value c =
    whole-refused size_tokens (pieces c.args.line.now) c.new-fields.result c.new-fields.ensures c.in_default-number-2.field-0
    (two-second (codes "size") (number 3 512) (number 3 512) c.new-fields.result c.word.new.self c.number.new.self c.in-Ok.field-0 c.in-Ok-number.width c.in_default-number-2.field-0
    c.in-Ok.ensures c.in-Ok-number.ensures.value c.in_default-number-2.ensures.value)

pub returns-then-is_done-clause-value : goal.returns-then-is_done-clause-value
returns-then-is_done-clause-value c =
    whole-read size_tokens (pieces c.args.line.now) c.new-fields.result c.new-fields.ensures (c.in-Ok-number.width, c.in-Ok-number-2.height) c.number-2.new.self
    (two-read (codes "size") (number 3 512) (number 3 512) c.new-fields.result c.word.new.self c.number.new.self c.number-2.new.self c.in-Ok.field-0 c.in-Ok-number.width c.in-Ok-number-2.height
    c.in-Ok.ensures c.in-Ok-number.ensures.value c.in-Ok-number-2.ensures.value)
    (sym c.if-is_done.ensures)

pub returns-else-is_done-clause-value : goal.returns-else-is_done-clause-value
returns-else-is_done-clause-value c =
    whole-longer size_tokens (pieces c.args.line.now) c.new-fields.result c.new-fields.ensures (c.in-Ok-number.width, c.in-Ok-number-2.height) c.number-2.new.self
    (two-read (codes "size") (number 3 512) (number 3 512) c.new-fields.result c.word.new.self c.number.new.self c.number-2.new.self c.in-Ok.field-0 c.in-Ok-number.width c.in-Ok-number-2.height
    c.in-Ok.ensures c.in-Ok-number.ensures.value c.in-Ok-number-2.ensures.value)
    (sym c.if-is_done.ensures)
