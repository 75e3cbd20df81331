use Rattle.std.proofs.Common.{rules, ◌≡◌, ◌∙◌}
use Rattle.std.specs.List.{count_by}
use Rattle.cell_world.specs.Opening.{is_hill}
use Rattle.world_read.proofs.ScanLemmas.{hill_count-count}
use Rattle.world_read.proofs.limits.hill_count.Goals as goal

pub returns : goal.returns
returns c = let counted : c.count.result ≡ count_by is_hill c.args.kinds.now = search rules in counted ∙ hill_count-count c.args.kinds.now
