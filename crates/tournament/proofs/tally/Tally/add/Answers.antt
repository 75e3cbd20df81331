use Rattle.std.proofs.Common.{map, refl, ap, ◌∙◌}
use Rattle.tournament.specs.Inner.Tallies.{with_games}
use Rattle.tournament.proofs.TallyLemmas.{tally_more}
use Rattle.tournament.proofs.tally.Tally.add.Goals as goal

pub returns : goal.returns
returns c = tally_more c.args.games.now c.args.self.now _ (c.in_ok-self.ensures.lines ∙ ap (map (with_games c.args.games.now)) c.deref.ensures.value) refl c.in_ok-self.ensures.small
