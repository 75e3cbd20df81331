-- Laws of the workers on every window (this project's own).
use Rattle.std.specs.Prelude.{◌-◌, ◌<◌, List}
use Rattle.round_book.specs.declared.verdict.Verdict.{Verdict}
use Rattle.round_book.specs.Machine.{Event, AreLawful, IsLawful, IsPut, IsReached, State, first_state, run}
use Rattle.round_book.specs.Machine.Event.{Settles}
use Rattle.round_book.specs.Window.{Window, IsSound}

-- whatever lawful events happen, in whatever order: the settled turns did what the turns of the window do one after
-- another, each has its verdict, in order; each drawn ticket is in one hand, once; and each look was put by the hand
-- that drew its ticket
abbrev pub EveryInterleaving : Type 0
EveryInterleaving = (window : Window) (events : List Event) → IsSound window →
    AreLawful window (first_state window) events → IsReached window (run window (first_state window) events)

-- once the look at the next turn is put, and the turn is one of the window, there is a verdict with which it may be
-- settled, in every state
abbrev pub PutTurnsSettle : Type 0
PutTurnsSettle = (window : Window) (state : State) → state.next < window.to → IsPut state (state.next - window.from) →
    (verdict : Verdict) × IsLawful window state (Settles verdict)
