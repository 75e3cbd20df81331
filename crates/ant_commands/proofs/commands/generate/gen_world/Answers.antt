-- the world of the words was generated and written, or the command stopped
use Rattle.std.proofs.Common.{refl}
use Rattle.ant_commands.specs.Jobs.{gen_job}
use Rattle.ant_commands.specs.Outputs.{shape_named}
use Rattle.ant_commands.proofs.Generated.{carries_generated, carries_ungenerated, opens_generated}
use Rattle.ant_commands.proofs.commands.generate.gen_world.Goals as goal

pub returns-in_err-world : goal.returns-in_err-world
returns-in_err-world g c =
    carries_ungenerated (gen_job c.args.seed c.args.shape) c.args.seed (shape_named c.args.shape) (g.S.Shelf.state c.args.shelf.now) (g.K.Sink.state c.args.out.now) c.from_residual.result c.in_err-world.field-0.0 refl (λ element lacks. lacks) c.from_residual.ensures.1 c.in_err-world.ensures

pub write_world-requires : goal.write_world-requires
write_world-requires g c = opens_generated c.args.seed (shape_named c.args.shape) c.in_ok-world.world c.in_ok-world.ensures

pub returns : goal.returns
returns g c =
    carries_generated c.args.seed c.args.shape (g.S.Shelf.state c.args.shelf.now) (g.K.Sink.state c.args.out.now) (g.K.Sink.state c.write_world.new.sink) c.in_ok-world.world
    c.after_push.result c.write_world.result c.after_push.ensures c.in_ok-world.ensures c.write_world.ensures
