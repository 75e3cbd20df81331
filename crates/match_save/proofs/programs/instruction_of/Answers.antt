use Rattle.std.proofs.Common.{true, false, sym, ◌∙◌, ap}
use Rattle.brain_read.specs.Drafts.{drafted}
use Rattle.brain_read.specs.Reading.{read_line}
use Rattle.match_save.proofs.Drafted.{told-none, told-some}
use Rattle.match_save.proofs.programs.instruction_of.Goals as goal

pub returns-in_default : goal.returns-in_default
returns-in_default c = told-none c.args.line.now c.in_default.field-0 (ap read_line (sym c.new-tokens.ensures) ∙ c.in_default.ensures.step)

pub returns-then-same : goal.returns-then-same
returns-then-same c = told-some c.args.line.now (drafted c.in-Ok.draft) true (ap read_line (sym c.new-tokens.ensures) ∙ c.in-Ok.ensures.step) (sym c.in_ok-same.ensures ∙ c.if-same.true)

pub returns-else-same : goal.returns-else-same
returns-else-same c = told-some c.args.line.now (drafted c.in-Ok.draft) false (ap read_line (sym c.new-tokens.ensures) ∙ c.in-Ok.ensures.step) (sym c.in_ok-same.ensures ∙ c.if-same.false)
