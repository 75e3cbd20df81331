use Rattle.std.proofs.Common.{◌≡◌, ℕ, ◌+◌, List, [], ◌∷◌, ◌++◌, ◌∙◌, ap, ap₂, refl, subst}
use Rattle.cell_world.specs.Cell.{one_if}
use Rattle.cell_world.specs.Grid.{world_of}
use Rattle.cell_world.specs.World.{World, with_cells}
use Rattle.ant_turn.specs.Rounds.{Moment}
use Rattle.spec_record.specs.Claims.{Sighting, seen_positions}
use Rattle.spec_record.specs.Patches.{patched_cells}
use Rattle.round_book.specs.Book.{BookValue, IsEnded, Wrote}
use Rattle.round_book.proofs.book.Book.end_turn.Goals as goal

pub returns-clause-ended : goal.returns-clause-ended
returns-clause-ended c =
    let fields = c.self.inside in
    let writes : c.as_slice.result.now ≡ c.args.look.now.writes = c.as_slice.ensures.value ∙ c.writes.ensures.writes in
    let join : World → ℕ → Moment = λ w n. record { world = w; place = n } in
    let w : World = world_of fields.work.world in
    let new : BookValue = record {
      seed = fields.seed;
      from = fields.from;
      to = fields.to;
      next = fields.next + 1;
      world = c.write.new.self.world;
      place = fields.place + c.one_if.result;
      written = c.write.new.self.written.items;
      verdicts = c.push_reserved.new.self.items;
    } in
    subst (λ (book : BookValue). IsEnded c.args.look.now c.args.verdict book new) c.self.view_is (record {
      now = ap₂ join
          (c.write.ensures.world ∙ ap (λ (list : List Sighting). with_cells w (patched_cells w.cells list)) writes)
          (ap (λ n. fields.place + n) (c.one_if.ensures ∙ ap one_if c.drew.ensures));
      written = subst (λ (list : List Sighting). Wrote fields.work.written.items (seen_positions list) c.write.new.self.written.items) writes c.write.ensures.written;
      next = refl;
      verdicts = c.push_reserved.ensures.items ∙ ap (λ vs. vs.items ++ c.args.verdict ∷ []) c.write.ensures.verdicts;
    })
