-- the first line and the rest are cut at the first LF
use Rattle.std.proofs.Common.{◌≡◌, ◌∷◌, ◌∙◌, ap, sym, drop, take}
use Rattle.ant_base.specs.Lines.{first_line, after_line, lines_of}
use Rattle.ant_base.proofs.Linewise.{first_line-take, after_line-drop, lines_of-first}
use Rattle.ant_base.proofs.lines.cut_line.Goals as goal
use Rattle.ant_base.proofs.lines.cut_line.Goals.{After-after_first}

line : (c : After-after_first) → c.split_at.result.0.now ≡ first_line c.args.text.now
line c = c.split_at.ensures.front ∙ ap (λ n. take n c.args.text.now) c.line_length.ensures.first ∙ sym (first_line-take c.args.text.now)

rest : (c : After-after_first) → c.after_first.result.now ≡ after_line c.args.text.now
rest c =
    c.after_first.ensures
    ∙ ap (λ rest. drop 1 rest) (c.split_at.ensures.back ∙ ap (λ n. drop n c.args.text.now) c.line_length.ensures.first)
    ∙ sym (after_line-drop c.args.text.now)

pub returns-clause-line : goal.returns-clause-line
returns-clause-line c = line c

pub returns-clause-rest : goal.returns-clause-rest
returns-clause-rest c = rest c

pub returns-clause-lines : goal.returns-clause-lines
returns-clause-lines c = λ some.
    lines_of-first c.args.text.now some
    ∙ ap (λ a. a ∷ lines_of (after_line c.args.text.now)) (sym (line c))
    ∙ ap (λ b. c.split_at.result.0.now ∷ lines_of b) (sym (rest c))
