use Rattle.std.proofs.Common.{sym, ap, ◌∙◌}
use Rattle.std.proofs.lemmas.List.{get_or_default}
use Rattle.std.specs.Prelude.{bytes_eq}
use Rattle.ant_base.proofs.Fetches.{content_found}
use Rattle.ant_base.proofs.files.Files.content.Goals as goal

pub returns-then-eq : goal.returns-then-eq
returns-then-eq c =
    sym (content_found c.deref-sizes-items.result.now c.loop-sizes.sizes-index _ c.loop-sizes.rest.now c.args.name.now c.split_at.result.0.now c.split_at.result.1.now c.split_at-in-loop-sizes.result.0.now c.loop-sizes-test.true (get_or_default c.deref-sizes-items.result.now c.loop-sizes.sizes-index _ _ c.loop-sizes-test.true)
    c.split_at.ensures.front c.split_at.ensures.back c.split_at-in-loop-sizes.ensures.front (c.if-eq.ensures ∙ ap (bytes_eq c.split_at.result.0.now) c.as_bytes.ensures.value))
    ∙ c.loop-sizes.invariant.0
