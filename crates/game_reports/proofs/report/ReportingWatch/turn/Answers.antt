-- in a round before the first one nothing is reported; in another, one thing is seen
use Rattle.std.proofs.Common.{◌∙◌, ℕ, List, [], subst, sym, ap, append-nil, lt-ltb, le-ltb, arith}
use Rattle.std.specs.List.{flat_map}
use Rattle.std.proofs.lemmas.Bool.{cond-false, cond-true}
use Rattle.ant_base.specs.Sink.{Pushed, PushedAll}
use Rattle.ant_base.proofs.Pushes.{all_of_nothing}
use Rattle.ant_turn.specs.Minds.{minds_of}
use Rattle.match_run.specs.Seen.{Seen}
use Rattle.match_run.specs.Watch.{moment_of}
use Rattle.match_run.proofs.SeenLemmas.{seen-acts}
use Rattle.game_reports.specs.Inner.Broken.{broken}
use Rattle.game_reports.specs.Report.{told_of}
use Rattle.game_reports.proofs.report.ReportingWatch.turn.Goals as goal

pub act-deed-requires-clause-room : goal.act-deed-requires-clause-room
act-deed-requires-clause-room g c = g.met.R.On.Board.roomy c.args.board.now

pub returns-then-round-self-clause-logged : goal.returns-then-round-self-clause-logged
returns-then-round-self-clause-logged g c =
    let s = c.args.stream.now in
    let told = told_of (g.R.Report.lines c.args.self.now.report.now) (minds_of c.args.brains.now) s.seed c.args.round (moment_of (g.R.On.Ground.world c.args.board.now) s) c.args.standing.ant.id in
    subst (λ (list : List (List ℕ)). PushedAll (g.K.Sink.state c.args.sink.now) (g.K.Sink.state c.args.sink.now) (broken list))
    (sym (cond-true _ [] told (lt-ltb c.args.round c.args.self.now.from (omega (arith, c.if-round-self.true)))))
    (all_of_nothing (g.K.Sink.state c.args.sink.now))

pub returns-clause-logged : goal.returns-clause-logged
returns-clause-logged g c =
    let s = c.args.stream.now in
    let lines = g.R.Report.lines c.args.self.now.report.now in
    let m = moment_of (g.R.On.Ground.world c.args.board.now) s in
    let told = told_of lines (minds_of c.args.brains.now) s.seed c.args.round m c.args.standing.ant.id in
    subst (λ (list : List (List ℕ)). Pushed (g.K.Sink.state c.args.sink.now) (g.K.Sink.state c.tell.new.sink) (broken list) c.tell.result)
    (sym
    (cond-false _ [] told (le-ltb c.args.round c.args.self.now.from (omega (arith, c.if-round-self.false)))
    ∙ ap (λ (seen : List Seen). flat_map lines seen) (seen-acts (minds_of c.args.brains.now) s.seed c.args.round m c.args.standing c.requires.found c.requires.here c.requires.up)
    ∙ append-nil _))
    c.tell.ensures.told
