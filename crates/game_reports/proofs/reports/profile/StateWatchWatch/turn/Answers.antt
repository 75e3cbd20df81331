-- in a round before the first one nothing is counted; in another, what is executed is
use Rattle.std.proofs.Common.{◌∙◌, ◌<◌, ◌+◌, ◌++◌, List, [], length, refl, sym, subst, append-nil, lt-ltb, le-ltb, arith}
use Rattle.std.proofs.lemmas.Bool.{cond-false, cond-true}
use Rattle.ant_turn.specs.Minds.{minds_of}
use Rattle.cell_world.specs.Grid.{world_of}
use Rattle.match_run.specs.Watch.{moment_of}
use Rattle.game_reports.specs.declared.executed.Executed.{Executed}
use Rattle.game_reports.specs.Inner.Tallies.{AreTallied, tallies_of}
use Rattle.game_reports.specs.Profile.{executed_in}
use Rattle.game_reports.proofs.TallyLemmas.{AreFew-less, CountsOn-one}
use Rattle.game_reports.proofs.reports.profile.StateWatchWatch.turn.Goals as goal

pub returns-then-round-self-clause-logged : goal.returns-then-round-self-clause-logged
returns-then-round-self-clause-logged c =
    let told : List Executed = executed_in (minds_of c.args.brains.now) c.args.stream.now.seed (moment_of (world_of c.args.world.now) c.args.stream.now) c.args.standing.ant.id in (
      refl,
      λ minds list tallied. subst (λ (more : List Executed). AreTallied minds (list ++ more) c.args.counting.now.tallies)
          (sym (cond-true _ [] told (lt-ltb c.args.round c.args.self.now.from (omega (arith, c.if-round-self.true)))))
          (subst (λ (l : List Executed). AreTallied minds l c.args.counting.now.tallies) (sym (append-nil list)) tallied),
    )

pub returns-then-round-self-clause-ready : goal.returns-then-round-self-clause-ready
returns-then-round-self-clause-ready c = λ left ready. (ready.0, AreFew-less c.args.counting.now.tallies (left + 1) left ready.1 (omega arith))

pub returns-clause-logged : goal.returns-clause-logged
returns-clause-logged c =
    let e : Executed = c.executed_by-executed.result in
    let told : List Executed = executed_in (minds_of c.args.brains.now) c.args.stream.now.seed (moment_of (world_of c.args.world.now) c.args.stream.now) c.args.standing.ant.id in
    let inside : e.state < length (tallies_of c.args.counting.now.tallies e.colour) = omega (arith, c.requires.ready.0 e.colour, c.executed_by-executed.ensures.state) in (
      refl,
      λ minds list tallied. subst (λ (more : List Executed). AreTallied minds (list ++ more) c.count.new.self)
          (sym (cond-false _ [] told (le-ltb c.args.round c.args.self.now.from (omega (arith, c.if-round-self.false))) ∙ c.executed_by-executed.ensures.executed))
          ((CountsOn-one minds c.args.counting.now.tallies c.count.new.self e c.count.ensures.counted c.count.ensures.other inside).on list tallied),
    )
