use Rattle.std.proofs.Math.Path.{fun_ext}
use Rattle.ant_asm.proofs.scope.add_name.Goals as goal

pub returns : goal.returns
returns c = fun_ext λ other. (c.in_ok-insert.ensures.updates).0 (record { ref_ptr = c.args.name.ref_ptr; now = other })
