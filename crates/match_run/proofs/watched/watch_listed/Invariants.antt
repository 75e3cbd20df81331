use Rattle.std.proofs.Common.{drop}
use Rattle.ant_turn.specs.Minds.{minds_of}
use Rattle.match_run.proofs.WatchLemmas.{IsListing}
use Rattle.match_run.proofs.watched.watch_listed.Given as goal

-- the turns of the first of the ids were watched
abbrev pub invariant-loop-id : goal.invariant-loop-id
invariant-loop-id g l =
    let minds = minds_of l.brains in
    IsListing (g.W.Watch.logs l.watch) (g.W.Watch.ready l.watch minds) minds (λ seed. g.W.Watch.telling l.watch minds seed l.round) l.initial.stream (g.W.On.Ground.world l.initial.board) l.initial.log
    l.ids (drop l.id-index l.ids) l.id-index l.log (g.W.On.Ground.world l.board) l.stream
