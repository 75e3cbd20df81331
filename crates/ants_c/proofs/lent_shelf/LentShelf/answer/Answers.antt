-- if a fetch fails, the shelf isn't sure of its name
use Rattle.std.proofs.Common.{rules, arith}
use Rattle.ant_base.proofs.Fetches.{unsure_by_name, fetch_failed}
use Rattle.ants_c.proofs.lent_shelf.LentShelf.answer.Goals as goal

pub returns-in_default-clause-shelf : goal.returns-in_default-clause-shelf
returns-in_default-clause-shelf c = rw c.fault.ensures.fault (fetch_failed c.args.self.now c.fault.new.self c.args.name.now
    (unsure_by_name c.args.self.now c.args.name.now (search rules)) (search rules) (search rules) (search rules) (grind arith) (grind arith))
