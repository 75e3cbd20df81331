use Rattle.std.proofs.Common.{ap, ap₂, sym, ◌∙◌, ℕ, ◌+◌, ◌-◌, replicate, subst}
use Rattle.round_workers.specs.Inner.BoardPlaces.{AreBare}
use Rattle.round_workers.proofs.BoardStart.{starts-so}
use Rattle.round_workers.proofs.board.seat.steps.table_of.Goals as goal

pub new-requires : goal.new-requires
new-requires c =
    let turns = ap₂ (λ (a b : ℕ). a - b) (sym c.basis.ensures.to) (sym c.basis.ensures.from) in
    starts-so c.basis.result c.args.words.now c.args.slots.items c.basis.ensures.playable
    (c.requires.words ∙ ap (λ (n : ℕ). replicate (n + 2) 0) turns)
    (subst (λ (n : ℕ). AreBare n c.args.slots.items) turns c.requires.bare)
