use Rattle.std.proofs.Common.{◌≡◌, add-one, sym, ◌∙◌, ap, arith}
use Rattle.ant_random.specs.Stream.{SeedAndPlace}
use Rattle.cell_world.proofs.GridSums.{one_if-le_one}
use Rattle.cell_world.specs.Cell.{one_if}
use Rattle.cell_world.specs.Grid.{world_of}
use Rattle.ant_turn.specs.Minds.{minds_of}
use Rattle.spec_record.specs.Guess.{flips, guess}
use Rattle.spec_record.specs.Look.{LookValue}
use Rattle.spec_record.proofs.FlipGuesses.{guess-first, guess-next}
use Rattle.spec_record.proofs.Flips.{look-drew}
use Rattle.look_bench.proofs.look_at_all.Goals as goal

pub loop-id-init : goal.loop-id-init
loop-id-init c =
    let minds = minds_of c.args.brains in
    let w = world_of c.args.world.now in
    let drawn = ap (λ (s : SeedAndPlace). s.place) c.look_by-look.ensures.stream in
    let drew : one_if c.look_by-look.result.drew ≡ one_if (flips minds w 0) = ap one_if (ap (λ (l : LookValue). l.drew) c.look_by-look.ensures.look ∙ look-drew minds c.from_seed-stream.result.seed w c.from_seed-stream.result.place 0) in
    let few = one_if-le_one (flips minds w 0) in
    let first = guess-first minds w 0 0 in
    let next = guess-next minds w 0 0 0 (omega arith) in
    let start = c.from_seed-stream.ensures.place in
    record { guessed = omega (arith, drawn, drew, first, next, start); small = omega (arith, drawn, drew, few, start) }

pub loop-id-preserved : goal.loop-id-preserved
loop-id-preserved c =
    let minds = minds_of c.args.brains in
    let w = world_of c.args.world.now in
    let id = c.loop-id.id in
    let drawn = ap (λ (s : SeedAndPlace). s.place) c.renew.ensures.stream in
    let drew : one_if c.renew.new.self.drew ≡ one_if (flips minds w id) = ap one_if (ap (λ (l : LookValue). l.drew) c.renew.ensures.look ∙ look-drew minds c.loop-id.stream.seed w c.loop-id.stream.place id) in
    let few = one_if-le_one (flips minds w id) in
    let next = guess-next minds w 0 0 id (omega arith) in
    let same = ap (guess minds w 0 0) (add-one id) in
    record { guessed = omega (arith, drawn, drew, next, same, c.loop-id.invariant.guessed); small = omega (arith, drawn, drew, few, c.loop-id.invariant.small) }

pub returns-then-ids-eq0 : goal.returns-then-ids-eq0
returns-then-ids-eq0 c =
    let minds = minds_of c.args.brains in
    let w = world_of c.args.world.now in
    sym (ap (guess minds w 0 0) (sym c.ant_count-ids.ensures.ids ∙ c.if-ids-eq0.true) ∙ guess-first minds w 0 0)
