use Rattle.std.proofs.Common.{◌∙◌}
use Rattle.ant_asm.specs.Inner.Scopes.{known_as}
use Rattle.ant_asm.proofs.OpenLemmas.{names-mark}
use Rattle.ant_asm.proofs.open.OpenBody.mark.Goals as goal

pub returns-clause-good : goal.returns-clause-good
returns-clause-good c = λ bodies good. record {
  items = good.items;
  names = names-mark c.args.self.now (known_as c.add_name.new.names.entries) c.args.name.now c.len-place.result c.in_ok-add_name.ensures (c.len-place.ensures ∙ c.args.self.now.items.ok.0) good.names;
  few = good.few;
}
