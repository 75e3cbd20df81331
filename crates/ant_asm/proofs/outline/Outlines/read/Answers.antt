use Rattle.std.proofs.Common.{◌+◌, sym, ap, ◌∙◌}
use Rattle.line_tokens.specs.Tokens.{has_token}
use Rattle.line_tokens.specs.TokenLines.{token_lines}
use Rattle.ant_asm.specs.Inner.Outlines.{said_by}
use Rattle.ant_asm.specs.Inner.Reading.{read_line}
use Rattle.ant_asm.specs.Inner.ReadLine.{line_seen}
use Rattle.ant_asm.proofs.OnAnswers.{on_ok}
use Rattle.ant_asm.proofs.OutlineReading.{rest_from-more, rest_from-skip}
use Rattle.ant_asm.proofs.outline.Outlines.read.Goals as goal

pub returns-then-not-has_next-clause-on : goal.returns-then-not-has_next-clause-on
returns-then-not-has_next-clause-on c = λ lines.
    rest_from-skip c.args.self.now c.args.number c.args.line.now lines (sym (c.has_next.ensures ∙ ap has_token c.new-tokens.ensures) ∙ c.if-not-has_next.true)

pub returns-in-Ok-clause-on : goal.returns-in-Ok-clause-on
returns-in-Ok-clause-on c = λ lines.
    on_ok c.add.result (c.add.ensures.on (said_by (token_lines (c.args.number + 1) lines))) (λ on.
    rest_from-more c.args.self.now c.add.new.self c.args.number c.args.line.now lines (line_seen c.in-Ok.said) (sym (c.has_next.ensures ∙ ap has_token c.new-tokens.ensures) ∙ c.if-not-has_next.false)
    (ap read_line (sym c.new-tokens.ensures) ∙ c.in-Ok.ensures) on)
