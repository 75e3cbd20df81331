-- one turn further
use Rattle.std.proofs.Common.{◌≡◌, add-one, ◌≤◌, sym, ◌∙◌, ap, arith}
use Rattle.cell_world.proofs.GridSums.{one_if-le_one, one_if-byte}
use Rattle.cell_world.specs.Grid.{world_of}
use Rattle.cell_world.specs.Cell.{one_if}
use Rattle.ant_turn.specs.Minds.{minds_of}
use Rattle.spec_record.specs.Guess.{flips, guess}
use Rattle.spec_record.proofs.FlipGuesses.{guess-first, guess-next}
use Rattle.spec_record.proofs.guess.guess_at.Goals as goal

pub loop-id-init : goal.loop-id-init
loop-id-init c = record { guessed = sym (guess-first (minds_of c.args.brains) (world_of c.args.base.now) c.args.place c.args.from); small = omega arith }

pub loop-id-preserved : goal.loop-id-preserved
loop-id-preserved c =
    let minds = minds_of c.args.brains in
    let w = world_of c.args.base.now in
    let id = c.loop-id.id in
    let drew : c.from-next.result ≡ one_if (flips minds w id) = c.from-next.ensures ∙ one_if-byte c.at_flip.result ∙ ap one_if c.at_flip.ensures in
    let few : one_if (flips minds w id) ≤ 1 = one_if-le_one (flips minds w id) in
    record {
      guessed = let next = guess-next minds w c.args.place c.args.from id (omega arith) in let same = ap (guess minds w c.args.place c.args.from) (add-one id) in omega (arith, next, same, drew, c.loop-id.invariant.guessed);
      small = omega (arith, few, drew, c.loop-id.invariant.small);
    }
