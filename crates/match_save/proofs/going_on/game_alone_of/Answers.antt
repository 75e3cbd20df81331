use Rattle.std.proofs.Common.{◌≡◌, sym, ◌∙◌, subst, arith}
use Rattle.ant_turn.specs.Minds.{Fits, Minds, minds_of}
use Rattle.cell_world.specs.Grid.{Grid, world_of}
use Rattle.match_save.proofs.ResumedGames.{Fits-saved, few-saved, place-saved, sequential-is}
use Rattle.match_save.proofs.going_on.game_alone_of.Goals as goal

pub at_round-requires : goal.at_round-requires
at_round-requires c =
    let s = c.args.saved.now in
    let world : c.in_ok-world.world ≡ s.world = c.in_ok-world.ensures ∙ c.world.ensures.world in
    let few = few-saved s c.world.ensures.saved in
    let place = place-saved s c.world.ensures.saved in
    record {
      fit = subst (λ (w : Grid). Fits (world_of w) (minds_of c.brains.result)) (sym world) (subst (λ (m : Minds). Fits (world_of s.world) m) (sym c.brains.ensures) (Fits-saved s c.world.ensures.saved));
      few = omega (arith, few, c.round.ensures.round);
      place = omega (arith, place, c.place.ensures, c.round.ensures.round);
    }

pub returns : goal.returns
returns c =
    c.at_round.ensures
    ∙ sequential-is c.args.saved.now c.in_ok-world.world (minds_of c.brains.result) c.seed.result c.place.result c.round.result (c.in_ok-world.ensures ∙ c.world.ensures.world) c.brains.ensures c.seed.ensures c.place.ensures c.round.ensures.round
