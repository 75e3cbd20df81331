use Rattle.std.proofs.Common.{ℕ, List, sym, ◌∙◌, ap, codes}
use Rattle.cell_world.specs.Limits.{most_weight}
use Rattle.match_save.specs.Inner.Readers.{Reader, followed, go_on, made, mapped, paired}
use Rattle.match_save.specs.Inner.Reading.{food_tokens, number, pieces}
use Rattle.match_save.proofs.WholeLines.{two-first, two-read, two-second, whole-longer, whole-read, whole-refused}
use Rattle.match_save.proofs.Words.{word_refused}
use Rattle.match_save.proofs.foods.food_of.Goals as goal

-- the food that is read after the column and the row
abbrev food : ℕ × (ℕ × ℕ) → ℕ
food z = z.1.1

-- what follows the column
abbrev later : ℕ → Reader (List ℕ) (ℕ × ℕ)
later y = followed (number y y) (λ row. number 63 most_weight)

pub returns-in_default : goal.returns-in_default
returns-in_default c =
    whole-refused (mapped food (food_tokens c.args.x c.args.y)) (pieces c.args.line.now) c.new-fields.result c.new-fields.ensures c.in_default.field-0
    (ap (made food) (word_refused (codes "food") (followed (number c.args.x c.args.x) (λ column. later c.args.y)) c.new-fields.result c.in_default.field-0 c.in_default.ensures))

pub returns-in_default-number : goal.returns-in_default-number
returns-in_default-number c =
    whole-refused (mapped food (food_tokens c.args.x c.args.y)) (pieces c.args.line.now) c.new-fields.result c.new-fields.ensures c.in_default-number.field-0
    (ap (made food) (two-first (codes "food") (number c.args.x c.args.x) (later c.args.y) c.new-fields.result c.word.new.self c.in-Ok.field-0 c.in_default-number.field-0 c.in-Ok.ensures c.in_default-number.ensures.value))

pub returns-in_default-number-2 : goal.returns-in_default-number-2
returns-in_default-number-2 c =
    whole-refused (mapped food (food_tokens c.args.x c.args.y)) (pieces c.args.line.now) c.new-fields.result c.new-fields.ensures c.in_default-number-2.field-0
    (ap (made food) (two-second (codes "food") (number c.args.x c.args.x) (later c.args.y) c.new-fields.result c.word.new.self c.number.new.self c.in-Ok.field-0 c.in-Ok-number._column c.in_default-number-2.field-0
    c.in-Ok.ensures c.in-Ok-number.ensures.value (ap (go_on (λ row. number 63 most_weight)) c.in_default-number-2.ensures.value)))

pub returns-in_default-number-3 : goal.returns-in_default-number-3
returns-in_default-number-3 c =
    whole-refused (mapped food (food_tokens c.args.x c.args.y)) (pieces c.args.line.now) c.new-fields.result c.new-fields.ensures c.in_default-number-3.field-0
    (ap (made food) (two-second (codes "food") (number c.args.x c.args.x) (later c.args.y) c.new-fields.result c.word.new.self c.number.new.self c.in-Ok.field-0 c.in-Ok-number._column c.in_default-number-3.field-0
    c.in-Ok.ensures c.in-Ok-number.ensures.value
    (ap (go_on (λ row. number 63 most_weight)) c.in-Ok-number-2.ensures.value ∙ ap (paired c.in-Ok-number-2._row) c.in_default-number-3.ensures.value)))

pub returns-then-is_done : goal.returns-then-is_done
returns-then-is_done c =
    whole-read (mapped food (food_tokens c.args.x c.args.y)) (pieces c.args.line.now) c.new-fields.result c.new-fields.ensures c.in-Ok-number-3.food c.number-3.new.self
    (ap (made food) (two-read (codes "food") (number c.args.x c.args.x) (later c.args.y) c.new-fields.result c.word.new.self c.number.new.self c.number-3.new.self c.in-Ok.field-0 c.in-Ok-number._column
    (c.in-Ok-number-2._row, c.in-Ok-number-3.food) c.in-Ok.ensures c.in-Ok-number.ensures.value
    (ap (go_on (λ row. number 63 most_weight)) c.in-Ok-number-2.ensures.value ∙ ap (paired c.in-Ok-number-2._row) c.in-Ok-number-3.ensures.value)))
    (sym c.if-is_done.ensures)

pub returns-else-is_done : goal.returns-else-is_done
returns-else-is_done c =
    whole-longer (mapped food (food_tokens c.args.x c.args.y)) (pieces c.args.line.now) c.new-fields.result c.new-fields.ensures c.in-Ok-number-3.food c.number-3.new.self
    (ap (made food) (two-read (codes "food") (number c.args.x c.args.x) (later c.args.y) c.new-fields.result c.word.new.self c.number.new.self c.number-3.new.self c.in-Ok.field-0 c.in-Ok-number._column
    (c.in-Ok-number-2._row, c.in-Ok-number-3.food) c.in-Ok.ensures c.in-Ok-number.ensures.value
    (ap (go_on (λ row. number 63 most_weight)) c.in-Ok-number-2.ensures.value ∙ ap (paired c.in-Ok-number-2._row) c.in-Ok-number-3.ensures.value)))
    (sym c.if-is_done.ensures)
