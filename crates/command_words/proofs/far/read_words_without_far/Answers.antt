use Rattle.std.proofs.Common.{ℕ, List, IfErr, sym, ◌∙◌, subst}
use Rattle.command_words.specs.Command.{IsCommand, PlainAsked}
use Rattle.command_words.specs.Words.{texts}
use Rattle.command_words.proofs.FarWords.{far-none, refuses_far}
use Rattle.command_words.proofs.far.read_words_without_far.Goals as goal

pub returns-then-is_far_run-clause-none : goal.returns-then-is_far_run-clause-none
returns-then-is_far_run-clause-none c = far-none (texts c.args.words.now) (sym c.is_far_run.ensures ∙ c.if-is_far_run.true)

pub returns-else-is_far_run-clause-none : goal.returns-else-is_far_run-clause-none
returns-else-is_far_run-clause-none c =
    subst (λ (ws : List (List ℕ)). IfErr c.read_words.result (λ x. (command : PlainAsked) → ¬ IsCommand ws command))
    (sym (refuses_far.others (texts c.args.words.now) (sym c.is_far_run.ensures ∙ c.if-is_far_run.false))) c.read_words.ensures.none
