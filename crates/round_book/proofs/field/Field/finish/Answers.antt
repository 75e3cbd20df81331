use Rattle.std.proofs.Common.{ℕ, ◌-◌, true, None, sym, ◌∙◌, ap, ap₂, subst}
use Rattle.cell_world.specs.Grid.{Grid, world_of}
use Rattle.ant_turn.specs.Minds.{Fits}
use Rattle.round_book.specs.Book.{FieldValue}
use Rattle.round_book.proofs.FieldLemmas.{end-counts, end-played, on-keeps}
use Rattle.round_book.proofs.field.Field.finish.Goals as goal

pub take_back-requires-clause-width : goal.take_back-requires-clause-width
take_back-requires-clause-width c = sym (ap (λ (g : Grid). g.width) c.close-work.ensures.world ∙ (on-keeps c.args.self.now c.args.book c.requires.stands).width)

pub take_back-requires-clause-height : goal.take_back-requires-clause-height
take_back-requires-clause-height c = sym (ap (λ (g : Grid). g.height) c.close-work.ensures.world ∙ (on-keeps c.args.self.now c.args.book c.requires.stands).height)

pub take_back-requires-clause-ids : goal.take_back-requires-clause-ids
take_back-requires-clause-ids c = sym (ap (λ (g : Grid). g.ids) c.close-work.ensures.world ∙ (on-keeps c.args.self.now c.args.book c.requires.stands).ids)

pub take_back-requires-clause-fit : goal.take_back-requires-clause-fit
take_back-requires-clause-fit c =
    subst (λ (g : Grid). Fits (world_of g) c.args.self.now.minds) (sym c.close-work.ensures.world) (on-keeps c.args.self.now c.args.book c.requires.stands).fits

pub returns-clause-played : goal.returns-clause-played
returns-clause-played c =
    let made : Grid → ℕ → FieldValue = λ g n. record c.args.self.now { world = g; place = n; whole = true; lent = None } in
    end-played c.args.self.now c.args.book c.requires.stands c.requires.done c.take_back.new.self
    (c.take_back.ensures ∙ ap₂ made c.close-work.ensures.world c.close-work.ensures.place)

pub returns-clause-counts : goal.returns-clause-counts
returns-clause-counts c =
    end-counts c.args.self.now c.args.book c.requires.stands c.requires.done c.taken-taken.result (c.turns-turns.result - c.taken-taken.result)
    c.taken-taken.ensures.count
    (ap (λ n. n - c.taken-taken.result) c.turns-turns.ensures.turns)
