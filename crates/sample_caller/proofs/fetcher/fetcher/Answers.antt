-- the instructions are the fetcher's
use Rattle.std.proofs.Common.{◌∙◌}
use Rattle.sample_caller.specs.Fetcher.{fetcher}
use Rattle.sample_caller.proofs.fetcher.fetcher.Goals as goal

pub returns : goal.returns
unfolding fetcher
returns c = c.from_list.ensures ∙ c.in_ok-list.ensures.items
