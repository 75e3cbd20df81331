use Rattle.std.proofs.Common.{ℕ, sym, subst}
use Rattle.match_run.specs.Counts.{no_turns}
use Rattle.match_run.specs.Game.{IsGame}
use Rattle.match_run.proofs.GameLemmas.{IsGame-beginning}
use Rattle.match_run.proofs.game.Game.begin.Goals as goal

pub invariant_of-result : goal.invariant_of-result
invariant_of-result c =
    subst (λ (place : ℕ). IsGame (record { field = c.args.field; window = c.args.window; first_place = place; done = 0; next = 0; totals = no_turns })) (sym c.place-first_place.ensures)
    (IsGame-beginning c.args.field c.args.window c.requires.whole c.requires.place c.requires.sized)
