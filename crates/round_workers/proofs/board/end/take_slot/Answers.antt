use Rattle.std.proofs.Common.{◌+◌, sym, subst}
use Rattle.std.specs.Mem.Slots.{slots_counts, slots_filled, slots_len}
use Rattle.round_workers.specs.Inner.BoardPlaces.{AreTaken}
use Rattle.round_workers.proofs.BoardEnd.{taken-more}
use Rattle.round_workers.proofs.board.end.take_slot.Goals as goal

pub returns-clause-taken : goal.returns-clause-taken
returns-clause-taken c = let slots = c.args.closed.now.slots in
    subst (λ n. AreTaken (c.args.i + 1) n (slots_filled c.take.new.self.slots)) (sym c.take.ensures.others.2) (taken-more c.args.i (slots_len slots) (slots_filled slots) _ (slots_counts slots).1 c.requires.inside c.take.ensures.others.1 c.requires.taken)
