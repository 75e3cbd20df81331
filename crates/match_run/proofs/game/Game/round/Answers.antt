use Rattle.std.proofs.Common.{◌+◌, ◌<◌, ◌∙◌, ap, subst, sym, arith}
use Rattle.cell_world.specs.Grid.{Grid}
use Rattle.match_run.specs.Game.{GameValue, IsRoundPlayed}
use Rattle.match_run.specs.Run.{most_rounds}
use Rattle.match_run.proofs.GameLemmas.{IsGame-played, IsGame-refused, IsRoundPlayed-windows, game-lasting, next-within, of_game, totals-small}
use Rattle.match_run.proofs.game.Game.round.Goals as goal

pub play_windows-progress-requires-clause-begins : goal.play_windows-progress-requires-clause-begins
play_windows-progress-requires-clause-begins g c = next-within (of_game c.self.inside) c.self.invariant

pub play_windows-progress-requires-clause-lasting : goal.play_windows-progress-requires-clause-lasting
play_windows-progress-requires-clause-lasting g c =
    let few = subst (λ (game : GameValue). game.done < most_rounds) (sym c.self.view_is) c.requires.few in
    let ids = c.ant_count-ids.ensures.ids ∙ ap (λ (grid : Grid). grid.ids) c.world.ensures.world in
    let ants = c.ant_count-ids.ensures.world.valid.few in
    game-lasting (of_game c.self.inside) c.self.invariant few (rw (ap (λ (grid : Grid). grid.ids) (sym c.world.ensures.world)) ants)

pub play_windows-progress-requires-clause-few : goal.play_windows-progress-requires-clause-few
play_windows-progress-requires-clause-few g c =
    let few = subst (λ (game : GameValue). game.done < most_rounds) (sym c.self.view_is) c.requires.few in
    let ants = c.ant_count-ids.ensures.world.valid.few in
    let small = totals-small (of_game c.self.inside) c.self.invariant few (rw (ap (λ (grid : Grid). grid.ids) (sym c.world.ensures.world)) ants) in
    omega (arith, small)

pub invariant_of-self : goal.invariant_of-self
invariant_of-self g c =
    let ids = c.ant_count-ids.ensures.ids ∙ ap (λ (grid : Grid). grid.ids) c.world.ensures.world in
    IsGame-refused (of_game c.self.inside) c.play_windows-progress.new.field c.play_windows-progress.result.next c.play_windows-progress.result.totals c.self.invariant c.play_windows-progress.ensures.add_up c.play_windows-progress.ensures.played
    (omega (arith, ids, c.if-progress-ids.true))

pub invariant_of-self-2 : goal.invariant_of-self-2
invariant_of-self-2 g c =
    let few = subst (λ (game : GameValue). game.done < most_rounds) (sym c.self.view_is) c.requires.few in
    let ids = c.ant_count-ids.ensures.ids ∙ ap (λ (grid : Grid). grid.ids) c.world.ensures.world in
    IsGame-played (of_game c.self.inside) c.play_windows-progress.new.field c.play_windows-progress.result.next c.play_windows-progress.result.totals c.self.invariant c.play_windows-progress.ensures.add_up c.play_windows-progress.ensures.played
    few (omega (arith, ids, c.if-progress-ids.false))

pub returns-clause-played : goal.returns-clause-played
returns-clause-played g c =
    let ids = c.ant_count-ids.ensures.ids ∙ ap (λ (grid : Grid). grid.ids) c.world.ensures.world in
    subst (λ (old : GameValue). IsRoundPlayed old (of_game (record { field = c.play_windows-progress.new.field; window = c.self.inside.window; first_place = c.self.inside.first_place; done = c.self.inside.done + 1; next = 0; totals = c.play_windows-progress.result.totals }))) c.self.view_is
    (IsRoundPlayed-windows (of_game c.self.inside) c.play_windows-progress.new.field c.play_windows-progress.result.next c.play_windows-progress.result.totals c.self.invariant c.play_windows-progress.ensures.add_up c.play_windows-progress.ensures.played
    (omega (arith, ids, c.if-progress-ids.false)))
