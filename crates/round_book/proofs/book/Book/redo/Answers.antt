use Rattle.std.proofs.Common.{◌≡◌, sym, subst}
use Rattle.cell_world.specs.Grid.{world_of}
use Rattle.cell_world.specs.Valid.{Valid}
use Rattle.ant_turn.specs.Minds.{Fits, minds_of}
use Rattle.spec_record.specs.Look.{LookValue, look_of}
use Rattle.round_book.specs.Book.{BookValue, CanTake}
use Rattle.round_book.proofs.BookLemmas.{IsRedone-ended, own-CanTake}
use Rattle.round_book.proofs.book.Book.redo.Goals as goal

pub end_turn-requires-clause-writes : goal.end_turn-requires-clause-writes
end_turn-requires-clause-writes c =
    let fields = c.self.inside in
    let fits : Fits (world_of fields.work.world) (minds_of c.args.brains) = subst (λ (b : BookValue). Fits (world_of b.world) (minds_of c.args.brains)) (sym c.self.view_is) c.requires.fit in
    subst (λ (b : BookValue). CanTake (world_of b.world) c.look-look.result.writes) c.self.view_is
    (subst (λ (l : LookValue). CanTake (world_of fields.work.world) l.writes) (sym c.look-look.ensures)
    (own-CanTake (minds_of c.args.brains) fields.seed (world_of fields.work.world) fields.place fields.next c.lemma_valid.ensures.sound c.lemma_valid.ensures.world.valid fits))

pub returns-clause-redone : goal.returns-clause-redone
returns-clause-redone c =
    IsRedone-ended (minds_of c.args.brains) c.args.cause c.look-look.result c.args.self.now c.end_turn.new.self
    (subst (λ (b : BookValue). Valid (world_of b.world)) c.self.view_is c.lemma_valid.ensures.world.valid)
    (subst (λ (b : BookValue). c.look-look.result ≡ look_of (minds_of c.args.brains) b.seed (world_of b.world) b.place b.next) c.self.view_is c.look-look.ensures)
    c.end_turn.ensures.ended
