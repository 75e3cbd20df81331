-- the guess of a turn, and the look that is made at it
use Rattle.std.proofs.Common.{◌≡◌, ℕ, ap, ◌∙◌}
use Rattle.cell_world.specs.Grid.{world_of}
use Rattle.cell_world.specs.World.{World}
use Rattle.ant_turn.specs.Minds.{Minds}
use Rattle.spec_record.specs.Guess.{guess}
use Rattle.round_book.specs.Book.{window_of}
use Rattle.round_book.specs.Window.{Window, guess_for}
use Rattle.round_workers.proofs.BoardWorkers.{look-so}
use Rattle.library_tests.proofs.tests.boards.look_at.Goals as goal

guess-so : (window : Window) (t place : ℕ) (minds : Minds) (base : World) → minds ≡ window.minds → base ≡ window.base → place ≡ window.place → guess minds base place window.from t ≡ guess_for window t
unfolding guess_for
guess-so window t place minds base em eb ep = λ k. guess (em k) (eb k) (ep k) window.from t

pub returns : goal.returns
returns c =
    let w = window_of c.args.field.now 0 7 in let t : ℕ = c.args.turn in
    let is : c.guess_at-guess.result ≡ guess_for w t = c.guess_at-guess.ensures.guess ∙ guess-so w t _ _ _ c.brains.ensures.brains (ap world_of c.world.ensures.world) c.place.ensures in
    c.look.ensures ∙ look-so w t _ _ _ _ c.brains-2.ensures.brains c.seed.ensures (ap world_of c.world-2.ensures.world) is
