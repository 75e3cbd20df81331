-- A look that holds is worth its turn.
use Rattle.std.proofs.Common.{◌≡◌, ℕ, ◌+◌, sym, ap}
use Rattle.cell_world.specs.Cell.{one_if}
use Rattle.cell_world.proofs.Places.{place_in-none, place_in-nowhere}
use Rattle.cell_world.specs.World.{World, with_cells}
use Rattle.ant_turn.specs.Keeps.{Keeps}
use Rattle.ant_turn.specs.Rounds.{after_turn}
use Rattle.ant_turn.specs.Turn.{Outcome, turn}
use Rattle.spec_record.specs.Locality.{GoesOn, outcome_by}
use Rattle.spec_record.proofs.Patched.{turn-patched}
use Rattle.round_book.specs.Window.{Window, IsSound, guess_for, look_for}
use Rattle.round_book.proofs.MachineLemmas.{LookIsTurn}

-- what turns keep is what a look's turn depends on besides what it reads
pub GoesOn-Keeps : (window : Window) (now : World) (t : ℕ) → IsSound window → Keeps window.minds window.base now → GoesOn window.base now t
GoesOn-Keeps window now t sound keeps = record {
  width = keeps.width;
  height = keeps.height;
  rocks = keeps.rocks;
  hills = keeps.hills;
  dead = λ none. place_in-nowhere now t (keeps.dead t (λ p. place_in-none window.base t p sound.valid none));
  once = keeps.valid.once t;
}

-- an outcome of which the turn is one leads where the turn does
pub LookIsTurn-window : (window : Window) → IsSound window → LookIsTurn window
unfolding look_for after_turn
LookIsTurn-window window sound now t below keeps holds =
    let same : turn window.minds window.seed now.world now.place t ≡ outcome_by (look_for window t) now.world.cells =
    turn-patched window.minds window.seed window.base (guess_for window t) now.world now.place t (GoesOn-Keeps window now.world t sound keeps) holds in
    sym (ap (λ (out : Outcome). record { world = with_cells now.world out.cells; place = now.place + one_if out.drew }) same)
