-- What is returned of the tokens of one line.
use Rattle.std.proofs.Common.{◌≡◌, ℕ, List, [], ◌∷◌, Some, Result, Ok, Err, sym, ap, ◌∙◌}
use Rattle.std.specs.Prelude.{IfOk, IfErr}
use Rattle.line_tokens.specs.declared.refusal.Refusal.{Refusal}
use Rattle.brain_read.specs.declared.draft.Draft.{Draft}
use Rattle.brain_read.specs.declared.instr.Instr.{Instr}
use Rattle.brain_read.specs.Drafts.{drafted, as_read}
use Rattle.brain_read.specs.Forms.{InstrLine}
use Rattle.brain_read.specs.Judgement.{first_fault}
use Rattle.brain_read.specs.Judgement.Position.{FormToken}
use Rattle.brain_read.specs.Reading.{read_line}
use Rattle.brain_read.specs.Refusals.{refusal_at}
use Rattle.brain_read.proofs.FormsLemmas.{line_spelled, line_again}
use Rattle.brain_read.proofs.JudgementLemmas.{fault_in, line_faulted}

module _ (tokens : List (List ℕ)) where
  -- what is returned is spelled so
  pub spelled : (answer : Result Draft Refusal) → read_line tokens ≡ as_read answer → IfOk answer (λ draft. InstrLine tokens (drafted draft))
  spelled (Ok draft) read = line_spelled tokens (drafted draft) read
  spelled (Err refusal) read = tt

  -- what is spelled so is returned
  pub every_instruction : (answer : Result Draft Refusal) → read_line tokens ≡ as_read answer → (i : Instr) → InstrLine tokens i → as_read answer ≡ Ok i
  every_instruction answer read i line = sym read ∙ line_again i tokens line

  -- a refusal is that of the first position at fault
  pub refused : (answer : Result Draft Refusal) → read_line tokens ≡ as_read answer → (line : ℕ) → IfErr answer (λ refusal. first_fault line tokens (FormToken ∷ []) ≡ Some (refusal_at line refusal))
  refused (Ok draft) read line = tt
  refused (Err refusal) read line = line_faulted line tokens ∙ ap (fault_in line) read
