use Rattle.cell_world.specs.Grid.{world_of}
use Rattle.std.proofs.Common.{List, subst}
use Rattle.spec_record.specs.Claims.{Sighting}
use Rattle.round_book.specs.Book.{CanTake}
use Rattle.round_book.proofs.PassLemmas.{CanSetPass-lighter, one_alone, passes-set, second-each, second-set}
use Rattle.round_book.proofs.passes.set_writes.Goals as goal

pub set_pass-requires-clause-set : goal.set_pass-requires-clause-set
set_pass-requires-clause-set c = CanSetPass-lighter c.args.writes.now (world_of c.args.world.now) c.requires.may.in_order.lighter

pub set_pass-requires-2-clause-each : goal.set_pass-requires-2-clause-each
set_pass-requires-2-clause-each c = second-each (world_of c.args.world.now) (world_of c.set_pass.new.world) c.args.writes.now c.requires.once c.requires.may c.set_pass.ensures

pub set_pass-requires-2-clause-set : goal.set_pass-requires-2-clause-set
set_pass-requires-2-clause-set c = second-set (world_of c.args.world.now) (world_of c.set_pass.new.world) c.args.writes.now c.requires.may c.set_pass.ensures

pub returns : goal.returns
returns c =
    passes-set (world_of c.args.world.now) (world_of c.set_pass.new.world) (world_of c.set_pass-2.new.world) c.args.writes.now c.requires.once c.requires.may c.set_pass.ensures c.set_pass-2.ensures

pub set_one-requires : goal.set_one-requires
set_one-requires c = subst (λ (list : List Sighting). CanTake (world_of c.args.world.now) list) (one_alone c.args.writes.now _ c.if-writes-eq1.true) c.requires.may
