use Rattle.std.proofs.Common.{◌≡◌, sym, ◌∙◌, subst, arith}
use Rattle.ant_turn.specs.Minds.{Fits, Minds, minds_of}
use Rattle.cell_world.specs.Grid.{Grid, world_of}
use Rattle.match_save.proofs.ResumedGames.{Fits-saved, can-go, early-saved, field-is, game-is}
use Rattle.match_save.proofs.going_on.game_of.Goals as goal

pub new-requires : goal.new-requires
new-requires c =
    let world : c.in_ok-world.world ≡ c.args.saved.now.world = c.in_ok-world.ensures ∙ c.world.ensures.world in
    record {
      fit = subst (λ (w : Grid). Fits (world_of w) (minds_of c.brains.result)) (sym world) (subst (λ (m : Minds). Fits (world_of c.args.saved.now.world) m) (sym c.brains.ensures) (Fits-saved c.args.saved.now c.world.ensures.saved));
      place = (let e = early-saved c.args.saved.now c.world.ensures.saved in let p = c.place.ensures in omega (arith, e, p));
    }

pub at_round-requires : goal.at_round-requires
at_round-requires c =
    let s = c.args.saved.now in
    let world : c.in_ok-world.world ≡ s.world = c.in_ok-world.ensures ∙ c.world.ensures.world in
    can-go s c.in_ok-field.field c.window.result c.round.result c.totals.result
    (record {
      field_is = c.in_ok-field.ensures ∙ field-is s c.in_ok-world.world (minds_of c.brains.result) c.seed.result c.place.result world c.brains.ensures c.seed.ensures c.place.ensures;
      window_is = c.window.ensures;
      round_is = c.round.ensures.round;
      totals_are = c.totals.ensures;
    })
    c.world.ensures.saved

pub returns : goal.returns
returns c =
    let s = c.args.saved.now in
    let world : c.in_ok-world.world ≡ s.world = c.in_ok-world.ensures ∙ c.world.ensures.world in
    c.at_round.ensures ∙ game-is s c.in_ok-field.field c.window.result c.round.result c.totals.result
    (record {
      field_is = c.in_ok-field.ensures ∙ field-is s c.in_ok-world.world (minds_of c.brains.result) c.seed.result c.place.result world c.brains.ensures c.seed.ensures c.place.ensures;
      window_is = c.window.ensures;
      round_is = c.round.ensures.round;
      totals_are = c.totals.ensures;
    })
