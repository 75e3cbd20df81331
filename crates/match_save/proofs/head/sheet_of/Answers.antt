use Rattle.std.proofs.Common.{ℕ, List, sym, ◌∙◌, ap, codes}
use Rattle.match_save.specs.Inner.Readers.{Reader, followed, go_on, paired}
use Rattle.match_save.specs.Inner.Reading.{number, pieces, sheet_tokens}
use Rattle.match_save.proofs.WholeLines.{two-first, two-read, two-second, whole-longer, whole-read, whole-refused}
use Rattle.match_save.proofs.Words.{word_refused}
use Rattle.match_save.proofs.head.sheet_of.Goals as goal

-- what follows the first number
abbrev later : Reader (List ℕ) (ℕ × ℕ)
later = followed (number 0 9) (λ corpse. number 0 255)

pub returns-in_default-clause-value : goal.returns-in_default-clause-value
returns-in_default-clause-value c =
    whole-refused sheet_tokens (pieces c.args.line.now) c.new-fields.result c.new-fields.ensures c.in_default.field-0
    (word_refused (codes "sheet") (followed (number 4 6) (λ surround. later)) c.new-fields.result c.in_default.field-0 c.in_default.ensures)

pub returns-in_default-number-clause-value : goal.returns-in_default-number-clause-value
returns-in_default-number-clause-value c =
    whole-refused sheet_tokens (pieces c.args.line.now) c.new-fields.result c.new-fields.ensures c.in_default-number.field-0
    (two-first (codes "sheet") (number 4 6) later c.new-fields.result c.word.new.self c.in-Ok.field-0 c.in_default-number.field-0 c.in-Ok.ensures c.in_default-number.ensures.value)

pub returns-in_default-number-2-clause-value : goal.returns-in_default-number-2-clause-value
returns-in_default-number-2-clause-value c =
    whole-refused sheet_tokens (pieces c.args.line.now) c.new-fields.result c.new-fields.ensures c.in_default-number-2.field-0
    (two-second (codes "sheet") (number 4 6) later c.new-fields.result c.word.new.self c.number.new.self c.in-Ok.field-0 c.in-Ok-number.surround c.in_default-number-2.field-0
    c.in-Ok.ensures c.in-Ok-number.ensures.value (ap (go_on (λ corpse. number 0 255)) c.in_default-number-2.ensures.value))

pub returns-in_default-number-3-clause-value : goal.returns-in_default-number-3-clause-value
returns-in_default-number-3-clause-value c =
    whole-refused sheet_tokens (pieces c.args.line.now) c.new-fields.result c.new-fields.ensures c.in_default-number-3.field-0
    (two-second (codes "sheet") (number 4 6) later c.new-fields.result c.word.new.self c.number.new.self c.in-Ok.field-0 c.in-Ok-number.surround c.in_default-number-3.field-0
    c.in-Ok.ensures c.in-Ok-number.ensures.value
    (ap (go_on (λ corpse. number 0 255)) c.in-Ok-number-2.ensures.value ∙ ap (paired c.in-Ok-number-2.corpse) c.in_default-number-3.ensures.value))

pub returns-then-is_done-clause-value : goal.returns-then-is_done-clause-value
returns-then-is_done-clause-value c =
    whole-read sheet_tokens (pieces c.args.line.now) c.new-fields.result c.new-fields.ensures (c.in-Ok-number.surround, (c.in-Ok-number-2.corpse, c.in-Ok-number-3.rest)) c.number-3.new.self
    (two-read (codes "sheet") (number 4 6) later c.new-fields.result c.word.new.self c.number.new.self c.number-3.new.self c.in-Ok.field-0 c.in-Ok-number.surround (c.in-Ok-number-2.corpse, c.in-Ok-number-3.rest)
    c.in-Ok.ensures c.in-Ok-number.ensures.value
    (ap (go_on (λ corpse. number 0 255)) c.in-Ok-number-2.ensures.value ∙ ap (paired c.in-Ok-number-2.corpse) c.in-Ok-number-3.ensures.value))
    (sym c.if-is_done.ensures)

pub returns-else-is_done-clause-value : goal.returns-else-is_done-clause-value
returns-else-is_done-clause-value c =
    whole-longer sheet_tokens (pieces c.args.line.now) c.new-fields.result c.new-fields.ensures (c.in-Ok-number.surround, (c.in-Ok-number-2.corpse, c.in-Ok-number-3.rest)) c.number-3.new.self
    (two-read (codes "sheet") (number 4 6) later c.new-fields.result c.word.new.self c.number.new.self c.number-3.new.self c.in-Ok.field-0 c.in-Ok-number.surround (c.in-Ok-number-2.corpse, c.in-Ok-number-3.rest)
    c.in-Ok.ensures c.in-Ok-number.ensures.value
    (ap (go_on (λ corpse. number 0 255)) c.in-Ok-number-2.ensures.value ∙ ap (paired c.in-Ok-number-2.corpse) c.in-Ok-number-3.ensures.value))
    (sym c.if-is_done.ensures)
