-- Laws of all texts of breaks and of all games with breaks.
use Rattle.std.specs.Prelude.{◌≡◌, ◌⊎◌, ℕ, ◌<◌, ◌≤◌, List, [], Option, None}
use Rattle.std.specs.List.{Contains}
use Rattle.cell_world.specs.World.{World}
use Rattle.ant_turn.specs.Minds.{Minds}
use Rattle.break_view.specs.declared.breaks.Break.{Break}
use Rattle.break_view.specs.declared.fault.BreakFault.{BreakFault}
use Rattle.break_view.specs.declared.stop.Stop.{Stop}
use Rattle.break_view.specs.Faulty.{IsBreakFault}
use Rattle.break_view.specs.Grammar.{IsBreakText}
use Rattle.break_view.specs.Stops.{met_at, IsTurn, IsEarlier, IsFirstStop, HasNoStop, EndsAt, end_of, first_stop}
use Rattle.break_view.specs.Texts.{IsViewText, view_of, view_text}

-- every text has one list of breaks or one fault, and never both
pub record OneListOrOneFault : Type 0 where
  pub some : (text : List ℕ)
      → ((list : List Break) × IsBreakText text list) ⊎ ((fault : BreakFault) × IsBreakFault text fault)
  pub one_list : (text : List ℕ) (a b : List Break) → IsBreakText text a → IsBreakText text b → a ≡ b
  pub one_fault : (text : List ℕ) (a b : BreakFault) → IsBreakFault text a → IsBreakFault text b → a ≡ b
  pub never_both : (text : List ℕ) (list : List Break) (fault : BreakFault) → IsBreakText text list
      → IsBreakFault text fault → ⊥

-- every break of one list is in the other
abbrev pub StandIn : List Break → List Break → Type 0
StandIn few more = (item : Break) → Contains few item → Contains more item

-- with fewer breaks a game doesn't stop earlier, and if it doesn't stop with more, it doesn't with fewer
pub record FewerStopLater : Type 0 where
  pub later : (minds : Minds) (seed rounds from : ℕ) (w : World) (few more : List Break) (stop earlier : Stop)
      → StandIn few more
      → IsFirstStop minds seed rounds from w few stop → IsFirstStop minds seed rounds from w more earlier
      → IsEarlier stop.round stop.id earlier.round earlier.id → ⊥
  pub never : (minds : Minds) (seed rounds from : ℕ) (w : World) (few more : List Break) → StandIn few more
      → HasNoStop minds seed rounds from w more → HasNoStop minds seed rounds from w few

-- a break counts only after a turn: there is no stop without rounds, without ants or without breaks, and none before
-- round 1 or before the round from which on breaks are tested
pub record StopsFollowTurns : Type 0 where
  pub round : (minds : Minds) (seed rounds from : ℕ) (w : World) (items : List Break) (stop : Stop)
      → IsFirstStop minds seed rounds from w items stop → 1 ≤ stop.round
  pub reached : (minds : Minds) (seed rounds from : ℕ) (w : World) (items : List Break) (stop : Stop)
      → IsFirstStop minds seed rounds from w items stop → from ≤ stop.round
  pub no_round : (minds : Minds) (seed from : ℕ) (w : World) (items : List Break) → HasNoStop minds seed 0 from w items
  pub none_reached : (minds : Minds) (seed rounds from : ℕ) (w : World) (items : List Break) → rounds < from
      → HasNoStop minds seed rounds from w items
  pub no_ant : (minds : Minds) (seed rounds from : ℕ) (w : World) (items : List Break) → w.ids ≡ 0
      → HasNoStop minds seed rounds from w items
  pub no_break : (minds : Minds) (seed rounds from : ℕ) (w : World) → HasNoStop minds seed rounds from w []

-- rounds after a stop change nothing
abbrev pub LaterRoundsAddNothing : Type 0
LaterRoundsAddNothing =
    (minds : Minds) (seed rounds more from : ℕ) (w : World) (items : List Break) (stop : Stop) → rounds ≤ more
    → IsFirstStop minds seed rounds from w items stop → IsFirstStop minds seed more from w items stop

-- a game has one first stop, or none; it has one end, and one text of its view
pub record OneFirstStop : Type 0 where
  pub one : (minds : Minds) (seed rounds from : ℕ) (w : World) (items : List Break) (a b : Stop)
      → IsFirstStop minds seed rounds from w items a
      → IsFirstStop minds seed rounds from w items b → a ≡ b
  pub never_both : (minds : Minds) (seed rounds from : ℕ) (w : World) (items : List Break) (stop : Stop)
      → IsFirstStop minds seed rounds from w items stop
      → HasNoStop minds seed rounds from w items → ⊥
  pub one_end : (minds : Minds) (seed rounds from : ℕ) (w : World) (items : List Break) (a b : Option Stop)
      (u v : World)
      → EndsAt minds seed rounds from w items a u → EndsAt minds seed rounds from w items b v → (a ≡ b) × (u ≡ v)
  pub one_view : (minds : Minds) (seed rounds from : ℕ) (w : World) (items : List Break) (text other : List ℕ)
      → IsViewText minds seed rounds from w items text
      → IsViewText minds seed rounds from w items other → text ≡ other

-- searching finds the end of a game, so each end is the one that is found, and its view is the one text
pub record EndsAreFound : Type 0 where
  pub found : (minds : Minds) (seed rounds from : ℕ) (w : World) (items : List Break)
      → EndsAt minds seed rounds from w items (first_stop minds seed w items from rounds)
      (end_of minds seed rounds w (first_stop minds seed w items from rounds))
  pub view : (minds : Minds) (seed rounds from : ℕ) (w : World) (items : List Break) (stop : Option Stop) (end : World)
      → EndsAt minds seed rounds from w items stop end
      → view_text end seed rounds stop ≡ view_of minds seed rounds from w items

-- if no turn of the rounds from `from` to below `later` would stop a game, its view from the one round on is that from
-- the other
abbrev pub QuietRoundsArePassed : Type 0
QuietRoundsArePassed = (minds : Minds) (seed rounds from later : ℕ) (w : World) (items : List Break) → from ≤ later
    → ((r t : ℕ) → IsTurn w rounds from r t → r < later → met_at minds seed w items r t ≡ None)
    → view_of minds seed rounds from w items ≡ view_of minds seed rounds later w items
