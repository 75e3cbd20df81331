-- the contest's shape is what is generated
use Rattle.std.proofs.Common.{subst}
use Rattle.world_gen.specs.declared.shape.Shape.{Shape}
use Rattle.ant_commands.specs.Inner.Plans.{IsGenerating}
use Rattle.ant_commands.proofs.Generated.{contest_shape-of}
use Rattle.ant_commands.proofs.commands.workload.contest_world.Goals as goal

pub returns : goal.returns
returns c =
    subst (λ (shape : Shape). IsGenerating c.args.seed shape c.generated.result)
    (contest_shape-of c.contest.result c.contest.ensures.width c.contest.ensures.height c.contest.ensures.rocks c.contest.ensures.blobs) c.generated.ensures
