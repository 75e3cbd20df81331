-- The text of a view.
use Rattle.std.specs.Prelude.{◌≡◌, ℕ, List, codes, decimal, Option, Some, None}
use Rattle.ant_base.specs.Layout.{◌+++◌}
use Rattle.cell_world.specs.World.{World}
use Rattle.ant_turn.specs.Minds.{Minds}
use Rattle.dump_print.specs.Texts.{cells_text, seed_text}
use Rattle.break_view.specs.declared.breaks.Break.{Break}
use Rattle.break_view.specs.declared.stop.Stop.{Stop}
use Rattle.break_view.specs.Stops.{EndsAt, end_of, first_stop}

-- the line of a stop
unfoldable pub stop_line : Stop → List ℕ
stop_line stop =
    codes "stop: round " +++ decimal stop.round +++ codes ", ant " +++ decimal stop.id +++ codes ", break "
    +++ decimal stop.which +++ codes "\n"

-- the line of a game without a stop
unfoldable pub no_stop_line : ℕ → List ℕ
no_stop_line rounds = codes "no stop in " +++ decimal rounds +++ codes " rounds\n"

-- what follows the line of the seed: the stop and the cells of the world then, or that there was none
abbrev pub end_text : World → ℕ → Option Stop → List ℕ
end_text w rounds (Some stop) = stop_line stop +++ cells_text w
end_text w rounds None = no_stop_line rounds

-- the text of a view
unfoldable pub view_text : World → ℕ → ℕ → Option Stop → List ℕ
view_text w seed rounds stop = seed_text seed +++ end_text w rounds stop

-- the text is the view of the game that begins in w: of its first stop in a round from `from` on, or that it has none
pub record IsViewText (minds : Minds) (seed rounds from : ℕ) (w : World) (items : List Break)
    (text : List ℕ) : Type 0 where
  pub stop : Option Stop
  pub end : World
  pub ends : EndsAt minds seed rounds from w items stop end
  pub view : text ≡ view_text end seed rounds stop

-- the view of the game that begins in w, as a function
unfoldable pub view_of : Minds → ℕ → ℕ → ℕ → World → List Break → List ℕ
view_of minds seed rounds from w items =
    view_text (end_of minds seed rounds w (first_stop minds seed w items from rounds)) seed rounds (first_stop minds seed w items from rounds)
