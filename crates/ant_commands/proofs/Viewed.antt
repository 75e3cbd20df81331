-- The view of a game is found by a search. It is the view that the words request.
use Rattle.std.proofs.Common.{◌≡◌, ℕ, List, Option, refl, ◌∙◌, ap}
use Rattle.ant_turn.specs.Minds.{Minds, contest_minds}
use Rattle.ant_turn.specs.Sheet.{Sheet, contest}
use Rattle.brain_read.specs.declared.instr.Instr.{Instr}
use Rattle.break_view.proofs.FirstStops.{ends_are_found}
use Rattle.break_view.specs.Stops.{EndsAt, end_of, first_stop}
use Rattle.break_view.specs.Texts.{IsViewText, view_of, view_text}
use Rattle.break_view.specs.declared.breaks.Break.{Break}
use Rattle.break_view.specs.declared.stop.Stop.{Stop}
use Rattle.cell_world.specs.World.{World}

pub view_of-view : (minds : Minds) (seed rounds from : ℕ) (w : World) (items : List Break) → IsViewText minds seed rounds from w items (view_of minds seed rounds from w items)
unfolding view_of
view_of-view minds seed rounds from w items =
    record { stop = first_stop minds seed w items from rounds; end = end_of minds seed rounds w (first_stop minds seed w items from rounds); ends = ends_are_found.found minds seed rounds from w items; view = refl }

-- the text of an end of a game by the contest's rules is its view
pub view_text_end : (red black : List Instr) (sheet : Sheet) → sheet ≡ contest → (seed rounds from : ℕ) (w : World) (items : List Break) (stop : Option Stop) (end : World)
    → EndsAt (record { red = red; black = black; sheet = sheet }) seed rounds from w items stop end → view_text end seed rounds stop ≡ view_of (contest_minds red black) seed rounds from w items
view_text_end red black sheet same seed rounds from w items stop end ends =
    ends_are_found.view (record { red = red; black = black; sheet = sheet }) seed rounds from w items stop end ends
    ∙ ap (λ (s : Sheet). view_of (record { red = red; black = black; sheet = s }) seed rounds from w items) same
