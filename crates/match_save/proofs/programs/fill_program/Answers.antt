use Rattle.std.proofs.Common.{◌≡◌, ◌+◌, ◌-◌, ℕ, suc, List, map, sym, ◌∙◌, ap, arith}
use Rattle.std.proofs.lemmas.Result.{err_from_is_err_and}
use Rattle.brain_read.specs.declared.instr.Instr.{Instr}
use Rattle.brain_read.specs.Drafts.{drafted}
use Rattle.match_save.specs.Inner.Answered.{behind}
use Rattle.match_save.specs.Inner.Readers.{many}
use Rattle.match_save.specs.Inner.Reading.{instruction_of}
use Rattle.match_save.proofs.FilledLists.{fault-passed, many-more, many-refused}
use Rattle.match_save.proofs.Drafted.{map-more}
use Rattle.match_save.proofs.programs.fill_program.Goals as goal

pub returns-in_err-draft : goal.returns-in_err-draft
returns-in_err-draft c =
    let n : ℕ = c.args.count - (c.loop-state._state + 1) in
    let left : c.args.count - c.loop-state._state ≡ suc n = omega (arith, c.loop-state-test.true) in
    let p = err_from_is_err_and c.from_residual.result c.from_residual.ensures.1 in
    rw (p.1, p.2) (fault-passed _ _ c.in_err-draft.field-0.0
    (λ k e. c.loop-state.invariant ∙ ap (λ m. behind (map drafted c.loop-state.list.items) (many instruction_of m c.loop-state.lines)) left
    ∙ many-refused instruction_of (map drafted c.loop-state.list.items) n k c.loop-state.lines e)
    c.in_err-draft.ensures)

pub loop-state-preserved : goal.loop-state-preserved
loop-state-preserved c =
    let n : ℕ = c.args.count - (c.loop-state._state + 1) in
    let left : c.args.count - c.loop-state._state ≡ suc n = omega (arith, c.loop-state-test.true) in
    c.loop-state.invariant ∙ ap (λ m. behind (map drafted c.loop-state.list.items) (many instruction_of m c.loop-state.lines)) left
    ∙ many-more instruction_of (map drafted c.loop-state.list.items) (drafted c.in_ok-draft.draft) n c.loop-state.lines c.next_instruction.new.lines c.in_ok-draft.ensures
    ∙ ap (λ (l : List Instr). behind l (many instruction_of n c.next_instruction.new.lines)) (sym (map-more c.push.new.self.items c.loop-state.list.items c.in_ok-draft.draft c.in_ok-push.ensures.items))
