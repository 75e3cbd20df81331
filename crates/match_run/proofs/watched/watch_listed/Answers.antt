use Rattle.std.proofs.Common.{◌≡◌, ◌+◌, ◌∷◌, ◌∙◌, ℕ, List, [], Ok, ap, arith, drop, length, subst, sym}
use Rattle.std.proofs.lemmas.List.{drop_all, drop_more}
use Rattle.ant_turn.specs.Listed.{AreUp, after_listed}
use Rattle.ant_turn.specs.Minds.{minds_of}
use Rattle.match_run.specs.Inner.Watch.{told_in_listed}
use Rattle.match_run.specs.Watch.{IsWatched, moment_of}
use Rattle.match_run.proofs.WatchLemmas.{IsListing, IsListing-all, IsListing-ended, IsListing-more, IsListing-none, ready-fewer, err_is}
use Rattle.match_run.proofs.watched.watch_listed.Goals as goal

pub loop-id-init : goal.loop-id-init
loop-id-init g c = IsListing-none (c.requires.fair 0) (minds_of c.args.brains.now) (λ seed. g.W.Watch.telling c.args.watch.now (minds_of c.args.brains.now) seed c.args.round) c.args.stream.now (g.W.On.Ground.world c.args.board.now) c.args.log.now c.args.ids.now c.requires.fit c.requires.up

pub watch_acting-requires-clause-ready : goal.watch_acting-requires-clause-ready
watch_acting-requires-clause-ready g c =
    c.loop-id.invariant.room 1 (ready-fewer (c.requires.fair 0) (minds_of c.args.brains.now) c.args.log.now (length c.args.ids.now) (1 + c.loop-id.id-index) c.requires.ready (omega (arith, c.loop-id-test.true)))

pub watch_acting-requires-clause-up : goal.watch_acting-requires-clause-up
watch_acting-requires-clause-up g c =
    let ids : List ℕ = c.args.ids.now in
    let i : ℕ = c.loop-id.id-index in
    let left : drop i ids ≡ c.from.result ∷ drop (i + 1) ids = drop_more ids i 0 c.loop-id-test.true ∙ ap (λ (t : ℕ). t ∷ drop (i + 1) ids) (sym c.from.ensures) in
    (subst (AreUp (g.W.On.Ground.world c.loop-id.board)) left c.loop-id.invariant.up).0

pub watch_acting-requires-clause-id : goal.watch_acting-requires-clause-id
watch_acting-requires-clause-id g c =
    let ids : List ℕ = c.args.ids.now in
    let i : ℕ = c.loop-id.id-index in
    let left : drop i ids ≡ c.from.result ∷ drop (i + 1) ids = drop_more ids i 0 c.loop-id-test.true ∙ ap (λ (t : ℕ). t ∷ drop (i + 1) ids) (sym c.from.ensures) in
    (subst (AreUp (g.W.On.Ground.world c.loop-id.board)) left c.loop-id.invariant.up).1

pub returns-in_err-watch_acting : goal.returns-in_err-watch_acting
returns-in_err-watch_acting g c =
    let minds = minds_of c.args.brains.now in
    let tell = λ (seed : ℕ). g.W.Watch.telling c.args.watch.now minds seed c.args.round in
    let w = g.W.On.Ground.world c.args.board.now in
    let ids : List ℕ = c.args.ids.now in
    let i : ℕ = c.loop-id.id-index in
    let p = err_is c.from_residual.result c.in_err-watch_acting.field-0.0 c.from_residual.ensures.1 in
    let left : drop i ids ≡ c.from.result ∷ drop (i + 1) ids = drop_more ids i 0 c.loop-id-test.true ∙ ap (λ (t : ℕ). t ∷ drop (i + 1) ids) (sym c.from.ensures) in
    rw p
    (IsListing-ended (c.requires.fair 0) minds tell
    (subst (λ (l : List ℕ). IsListing (g.W.Watch.logs c.args.watch.now) (g.W.Watch.ready c.args.watch.now minds) minds tell c.args.stream.now w c.args.log.now ids l i c.loop-id.log (g.W.On.Ground.world c.loop-id.board) c.loop-id.stream) left c.loop-id.invariant)
    c.in_err-watch_acting.ensures (length ids) (after_listed minds c.args.stream.now.seed (moment_of w c.args.stream.now) ids))

pub loop-id-preserved : goal.loop-id-preserved
loop-id-preserved g c =
    let minds = minds_of c.args.brains.now in
    let tell = λ (seed : ℕ). g.W.Watch.telling c.args.watch.now minds seed c.args.round in
    let w = g.W.On.Ground.world c.args.board.now in
    let ids : List ℕ = c.args.ids.now in
    let i : ℕ = c.loop-id.id-index in
    let left : drop i ids ≡ c.from.result ∷ drop (i + 1) ids = drop_more ids i 0 c.loop-id-test.true ∙ ap (λ (t : ℕ). t ∷ drop (i + 1) ids) (sym c.from.ensures) in
    IsListing-more (c.requires.fair 0) minds tell
    (subst (λ (l : List ℕ). IsListing (g.W.Watch.logs c.args.watch.now) (g.W.Watch.ready c.args.watch.now minds) minds tell c.args.stream.now w c.args.log.now ids l i c.loop-id.log (g.W.On.Ground.world c.loop-id.board) c.loop-id.stream) left c.loop-id.invariant)
    c.in_ok-watch_acting.ensures

pub returns : goal.returns
returns g c =
    let minds = minds_of c.args.brains.now in
    let tell = λ (seed : ℕ). g.W.Watch.telling c.args.watch.now minds seed c.args.round in
    let w = g.W.On.Ground.world c.args.board.now in
    let ids : List ℕ = c.args.ids.now in
    let i : ℕ = c.loop-id.id-index in
    let all : i ≡ length ids = omega (arith, c.loop-id-test.false, c.loop-id.auto.id-index-end) in
    let none : drop i ids ≡ [] = drop_all i ids (omega (arith, all)) in
    subst (λ (n : ℕ). IsWatched (g.W.Watch.logs c.args.watch.now) (g.W.Watch.ready c.args.watch.now minds) minds c.args.stream.now c.args.log.now c.loop-id.log (told_in_listed (tell c.args.stream.now.seed) minds c.args.stream.now.seed (moment_of w c.args.stream.now) ids) n
    (after_listed minds c.args.stream.now.seed (moment_of w c.args.stream.now) ids) (g.W.On.Ground.world c.loop-id.board) c.loop-id.stream (Ok tt)) all
    (IsListing-all (c.requires.fair 0) minds tell
    (subst (λ (l : List ℕ). IsListing (g.W.Watch.logs c.args.watch.now) (g.W.Watch.ready c.args.watch.now minds) minds tell c.args.stream.now w c.args.log.now ids l i c.loop-id.log (g.W.On.Ground.world c.loop-id.board) c.loop-id.stream) none c.loop-id.invariant))
