use Rattle.std.proofs.Common.{[], ℕ, subst}
use Rattle.cell_world.specs.declared.ant.Colour.TheVariants.{Red, Black}
use Rattle.ant_turn.specs.Minds.{minds_of}
use Rattle.game_reports.specs.Inner.Tallies.{IsTallied}
use Rattle.game_reports.proofs.TallyText.{both-tallied}
use Rattle.game_reports.proofs.tally.Tallies.new.Goals as goal

pub returns : goal.returns
returns c =
    both-tallied (minds_of c.args.brains) [] (record { red = c.in_ok-red.red; black = c.in_ok-black.black })
    (subst (λ (n : ℕ). IsTallied Red n [] c.in_ok-red.red.items) c.len.ensures.length (c.in_ok-red.ensures Red))
    (subst (λ (n : ℕ). IsTallied Black n [] c.in_ok-black.black.items) c.len-2.ensures.length (c.in_ok-black.ensures Black))
