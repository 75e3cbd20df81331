-- those that rest have their turns first
use Rattle.std.proofs.Common.{◌≡◌, ◌+◌, ◌-◌, ◌∙◌, List, ℕ, ap, arith, length-take, refl, subst, sym, take}
use Rattle.ant_turn.proofs.RestingChunks.{chunk-moment, chunk-up}
use Rattle.ant_turn.specs.Listed.{AreUp, after_listed}
use Rattle.ant_turn.specs.Minds.{minds_of}
use Rattle.ant_turn.specs.Rounds.{Moment}
use Rattle.cell_world.specs.Resting.{rested}
use Rattle.cell_world.specs.World.{World}
use Rattle.match_run.specs.Inner.Watch.{told_in_listed}
use Rattle.match_run.specs.Watch.{moment_of}
use Rattle.match_run.proofs.RestsUntold.{told-listed}
use Rattle.match_run.proofs.WatchLemmas.{IsWatched-as, IsWatched-within, ready-fewer}
use Rattle.match_run.proofs.watched.watch_chunk.Goals as goal

pub watch_listed-requires-clause-up : goal.watch_listed-requires-clause-up
watch_listed-requires-clause-up g c =
    let w : World = g.W.On.Ground.world c.args.board.now in
    let m : Moment = moment_of w c.args.stream.now in
    let n : ℕ = c.args.chunk.to - c.args.chunk.from in
    let all : c.args.chunk.from + n ≡ c.args.chunk.to = omega (arith, c.args.chunk.order) in
    let listed : List ℕ = take c.count_down_rests-count.result c.count_down_rests-count.new.acting in
    subst (λ (now : World). AreUp now listed) (sym c.count_down_rests-count.ensures.world)
    (subst (λ (k : ℕ). AreUp (rested c.args.chunk.from k w) listed) all
    (chunk-up (minds_of c.args.brains.now) c.args.stream.now.seed m c.args.chunk.from n listed c.count_down_rests-count.ensures.listed (omega (arith, all, c.requires.made))))

pub watch_listed-requires-clause-ready : goal.watch_listed-requires-clause-ready
watch_listed-requires-clause-ready g c =
    ready-fewer (c.requires.fair 0) (minds_of c.args.brains.now) c.args.log.now (c.args.chunk.to - c.args.chunk.from) _ c.requires.ready
    (omega (arith, length-take c.count_down_rests-count.result c.count_down_rests-count.new.acting, c.count_down_rests-count.ensures.count))

pub returns : goal.returns
returns g c =
    let minds = minds_of c.args.brains.now in
    let seed : ℕ = c.args.stream.now.seed in
    let w : World = g.W.On.Ground.world c.args.board.now in
    let m : Moment = moment_of w c.args.stream.now in
    let n : ℕ = c.args.chunk.to - c.args.chunk.from in
    let all : c.args.chunk.from + n ≡ c.args.chunk.to = omega (arith, c.args.chunk.order) in
    let listed : List ℕ = take c.count_down_rests-count.result c.count_down_rests-count.new.acting in
    let tell = g.W.Watch.telling c.args.watch.now minds seed c.args.round in
    let fair = c.requires.fair seed in
    let rests : g.W.On.Ground.world c.count_down_rests-count.new.self ≡ rested c.args.chunk.from (c.args.chunk.from + n) w = c.count_down_rests-count.ensures.world ∙ ap (λ (k : ℕ). rested c.args.chunk.from k w) (sym all) in
    IsWatched-within fair minds
    (IsWatched-as fair minds
    (ap (λ (now : World). told_in_listed tell minds seed (record m { world = now }) listed) rests
    ∙ told-listed minds seed tell (fair.ignores c.args.round) m c.args.chunk.from n listed c.count_down_rests-count.ensures.listed c.lemma_sound.ensures c.ids-ids.ensures.valid c.requires.fit)
    refl
    (ap (λ (now : World). after_listed minds seed (record m { world = now }) listed) rests
    ∙ chunk-moment minds seed m c.args.chunk.from n listed c.count_down_rests-count.ensures.listed c.lemma_sound.ensures c.ids-ids.ensures.valid c.requires.fit)
    c.watch_listed.ensures)
    n (omega (arith, length-take c.count_down_rests-count.result c.count_down_rests-count.new.acting, c.count_down_rests-count.ensures.count))
