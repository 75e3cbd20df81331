-- what was pushed into each room lies after what the room held
use Rattle.std.proofs.Common.{List, ℕ, subst, sym}
use Rattle.ant_commands.specs.FaultLines.{plain_ending}
use Rattle.command_words.specs.Words.{texts}
use Rattle.ant_base.specs.Lines.{lines_of}
use Rattle.ants_c.specs.Called.{Runs, files_in}
use Rattle.ants_c.specs.Rooms.{behind}
use Rattle.ants_c.proofs.call.lay_program.Goals as goal

pub returns-clause-runs : goal.returns-clause-runs
returns-clause-runs c =
    let words : List (List ℕ) = texts c.args.words.now in let files = files_in (lines_of c.args.names.now) c.args.sizes.now c.args.bytes.now in let ending = plain_ending c.run_in_rooms-ended.result in
    let new_out = c.run_in_rooms-ended.new.output.log.bytes in let new_err = c.run_in_rooms-ended.new.errors.log.bytes in
    let first = subst (λ (log : List ℕ). Runs words files (behind log new_out) (behind c.new-errors.result.log.bytes new_err) ending) c.new-output.ensures.log c.run_in_rooms-ended.ensures.runs in
    let second = subst (λ (log : List ℕ). Runs words files (behind c.args.out.now new_out) (behind log new_err) ending) c.new-errors.ensures.log first in
    let third = subst (λ (log : List ℕ). Runs words files (behind c.args.out.now log) (behind c.args.said.now new_err) ending) (sym c.log.ensures) second in
    subst (λ (log : List ℕ). Runs words files (behind c.args.out.now c.log.result.bytes) (behind c.args.said.now log) ending) (sym c.log-2.ensures) third
