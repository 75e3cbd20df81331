use Rattle.std.proofs.Common.{ℕ, List, ◌∷◌, sym, ap, ◌∙◌, subst}
use Rattle.line_tokens.specs.Tokens.{has_token, tokens_of}
use Rattle.ant_asm.specs.declared.fault.AsmFault.{AsmFault}
use Rattle.ant_asm.specs.Inner.ProgramView.{FailsAs, program_seen, reading_from}
use Rattle.ant_asm.specs.Inner.Reading.{read_line}
use Rattle.ant_asm.specs.Inner.ReadLine.{StopsAs, line_seen}
use Rattle.ant_asm.proofs.LineLemmas.{line_said}
use Rattle.ant_asm.proofs.OnAnswers.{if_err, on_ok}
use Rattle.ant_asm.proofs.ReadingLemmas.{read-placed, read-spelled, reading_from-more, reading_from-skip}
use Rattle.ant_asm.proofs.program.Program.read.Goals as goal

pub returns-then-not-has_next-clause-on : goal.returns-then-not-has_next-clause-on
returns-then-not-has_next-clause-on c = λ lines.
    reading_from-skip (program_seen c.args.self.now) c.args.number c.args.line.now lines (sym (c.has_next.ensures ∙ ap has_token c.new-tokens.ensures) ∙ c.if-not-has_next.true)

pub add-requires-clause-few : goal.add-requires-clause-few
add-requires-clause-few c = (line_said (tokens_of c.args.line.now) (line_seen c.in-Ok.said) (ap read_line (sym c.new-tokens.ensures) ∙ c.in-Ok.ensures)).in_range

pub returns-in-Ok-clause-on : goal.returns-in-Ok-clause-on
returns-in-Ok-clause-on c = λ lines.
    on_ok c.add.result c.add.ensures.into (λ into.
    reading_from-more (program_seen c.args.self.now) (program_seen c.add.new.self) c.args.number c.args.line.now lines (line_seen c.in-Ok.said) (sym (c.has_next.ensures ∙ ap has_token c.new-tokens.ensures) ∙ c.if-not-has_next.false)
    (ap read_line (sym c.new-tokens.ensures) ∙ c.in-Ok.ensures) into.free into.is)

pub returns-in-Ok-clause-fault : goal.returns-in-Ok-clause-fault
returns-in-Ok-clause-fault c = λ lines.
    if_err c.add.result c.add.ensures.fault (λ fault fails.
    read-placed (program_seen c.args.self.now) c.args.number c.args.line.now lines (line_seen c.in-Ok.said) fault (sym (c.has_next.ensures ∙ ap has_token c.new-tokens.ensures) ∙ c.if-not-has_next.false)
    (ap read_line (sym c.new-tokens.ensures) ∙ c.in-Ok.ensures) fails)

pub returns-in-Err-clause-fault : goal.returns-in-Err-clause-fault
returns-in-Err-clause-fault c = λ lines.
    subst (λ (f : AsmFault). FailsAs f (reading_from (program_seen c.args.self.now) c.args.number (c.args.line.now ∷ lines))) (sym c.at.ensures)
    (read-spelled (program_seen c.args.self.now) c.args.number c.args.line.now lines c.in-Err.fault (sym (c.has_next.ensures ∙ ap has_token c.new-tokens.ensures) ∙ c.if-not-has_next.false)
    (subst (λ (tokens : List (List ℕ)). StopsAs (read_line tokens) c.in-Err.fault) c.new-tokens.ensures c.in-Err.ensures))
