-- each part of the cup adds its games to the tally
use Rattle.std.proofs.Common.{List, length, ◌++◌, ap, sym, ◌∙◌, arith, subst}
use Rattle.tournament.specs.Games.{all_played}
use Rattle.tournament.specs.Inner.Tallies.{IsTally}
use Rattle.tournament.specs.declared.games.Played.{Played}
use Rattle.tournament.proofs.PrintedLemmas.{all_played-between, all_played-none, length-all_played, length-worlds_played}
use Rattle.tournament.proofs.play.play_all_by.Goals as goal

pub loop-world-init : goal.loop-world-init
loop-world-init g c = record {
  within = omega arith;
  tally = subst (λ (games : List Played). IsTally c.args.players games c.in_ok-tally.tally) (sym (all_played-none c.args.gauntlet c.args.players (g.F.Referee.score c.args.referee.now))) c.in_ok-tally.ensures;
}

pub add-requires-clause-few : goal.add-requires-clause-few
add-requires-clause-few g c =
    let score = g.F.Referee.score c.args.referee.now in
    let before = c.loop-world.invariant.tally.count in
    let few = length-all_played c.args.gauntlet c.args.players c.loop-world.world score c.requires.players.1 in
    let more = length-worlds_played c.args.gauntlet c.args.players c.loop-world.world c.min-count.result score c.requires.players.1 in
    let played = ap length (c.deref.ensures.value ∙ c.in_ok-played.ensures) in
    omega (arith, before, few, more, played, c.loop-world.invariant.within, c.requires.worlds.1, c.min-count.ensures, c.most_at_once-most.ensures.1)

pub loop-world-preserved : goal.loop-world-preserved
loop-world-preserved g c =
    let score = g.F.Referee.score c.args.referee.now in
    let so_far : List Played = all_played c.args.gauntlet c.args.players c.loop-world.world score in
    record {
      within = omega (arith, c.loop-world-test.true, c.min-count.ensures);
      tally = subst (λ (games : List Played). IsTally c.args.players games c.add.new.self)
          (ap (λ (more : List Played). so_far ++ more) (c.deref.ensures.value ∙ c.in_ok-played.ensures) ∙ sym (all_played-between c.args.gauntlet c.args.players c.loop-world.world c.min-count.result score))
          (c.in_ok-add.ensures c.args.players so_far c.loop-world.invariant.tally);
    }
