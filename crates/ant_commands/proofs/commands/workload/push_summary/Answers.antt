-- the first lines, and then the others
use Rattle.std.proofs.lemmas.Result.{err_from_is_err_and}
use Rattle.ant_base.proofs.Pushes.{front_more, pushed_then}
use Rattle.ant_commands.specs.Outputs.{workload_text}
use Rattle.ant_commands.proofs.commands.workload.push_summary.Goals as goal

pub returns-in_err-push_lines : goal.returns-in_err-push_lines
unfolding workload_text
returns-in_err-push_lines g c =
    let p = err_from_is_err_and c.from_residual.result c.from_residual.ensures.1 in
    rw (p.1) (front_more _ _ _ _ c.in_err-push_lines.ensures)

pub returns : goal.returns
unfolding workload_text
returns g c = pushed_then _ _ _ _ _ c.push_end.result c.in_ok-push_lines.ensures c.push_end.ensures
