-- Workers on one window, as events one after another (this project's own): tickets are drawn, looks are put, turns are
-- settled in order.
use Rattle.std.specs.Prelude.{◌≡◌, ◌≢◌, ℕ, ◌+◌, ◌-◌, ◌<◌, ◌≤◌, ⊤, cond, nat_eq, List, [], ◌∷◌, ◌++◌}
use Rattle.std.specs.List.{Contains}
use Rattle.cell_world.specs.Cell.{one_if}
use Rattle.cell_world.specs.World.{with_cells}
use Rattle.ant_turn.specs.Rounds.{Moment, after_turn}
use Rattle.spec_record.specs.Look.{LookValue}
use Rattle.spec_record.specs.Patches.{patched_cells}
use Rattle.round_book.specs.declared.verdict.Verdict.{Verdict}
use Rattle.round_book.specs.declared.verdict.Verdict.TheVariants.{Taken, Redone}
use Rattle.round_book.specs.Window.{Window, AreVerdicts, IsVerdict, look_for, moment_before}

-- a turn's look that was put: by which hand, and the ticket of the turn, which is the turn's number in the window, from
-- 0
pub record Put : Type 0 where
  pub hand : ℕ
  pub ticket : ℕ

-- how many tickets were drawn, which of them each hand holds, which looks were put, and the verdicts on the turns that
-- were settled
pub record State : Type 0 where
  pub drawn : ℕ
  pub hands : ℕ → List ℕ
  pub put : List Put
  pub next : ℕ
  pub now : Moment
  pub verdicts : List Verdict

-- nothing is drawn, put or settled
abbrev pub first_state : Window → State
first_state window = record {
  drawn = 0;
  hands = λ hand. [];
  put = [];
  next = window.from;
  now = record { world = window.base; place = window.place };
  verdicts = [];
}

-- a hand draws the next ticket; a hand puts the look of a ticket; the next turn is settled with a verdict
pub data Event : Type 0 where
  Draws : (hand : ℕ) → Event
  Puts : (hand ticket : ℕ) → Event
  Settles : Verdict → Event

-- a ticket's look was put
abbrev pub IsPut : State → ℕ → Type 0
IsPut state ticket = (hand : ℕ) × Contains state.put (record { hand = hand; ticket = ticket })

-- the next turn may be settled with this verdict: it is one of the window, its look was put, and that is its verdict
pub record CanSettle (window : Window) (state : State) (verdict : Verdict) : Type 0 where
  pub in_window : state.next < window.to
  pub is_put : IsPut state (state.next - window.from)
  pub is_verdict : IsVerdict window state.now state.next verdict

-- a hand may put a ticket's look: the ticket is that of a turn and in that hand, and its look wasn't put
pub record CanPut (window : Window) (state : State) (hand ticket : ℕ) : Type 0 where
  pub is_turn : window.from + ticket < window.to
  pub is_held : Contains (state.hands hand) ticket
  pub is_new : ¬ IsPut state ticket

abbrev pub IsLawful : Window → State → Event → Type 0
IsLawful window state (Draws hand) = ⊤
IsLawful window state (Puts hand ticket) = CanPut window state hand ticket
IsLawful window state (Settles verdict) = CanSettle window state verdict

-- one more ticket in a hand
abbrev pub dealt : (ℕ → List ℕ) → ℕ → ℕ → ℕ → List ℕ
dealt hands hand ticket other = cond (nat_eq other hand) (hands other ++ ticket ∷ []) (hands other)

-- the moment after a look's writes were patched and its random number was used
abbrev pub taken : Moment → LookValue → Moment
taken now look = record {
  world = with_cells now.world (patched_cells now.world.cells look.writes);
  place = now.place + one_if look.drew;
}

-- the moment after the turn is settled: with the parts that its look wrote, or executed again
abbrev pub settled : Window → Moment → ℕ → Verdict → Moment
settled window now t Taken = taken now (look_for window t)
settled window now t (Redone cause) = after_turn window.minds window.seed now t

-- the state after an event
abbrev pub happens : Window → State → Event → State
happens window state (Draws hand) = record state { drawn = state.drawn + 1; hands = dealt state.hands hand state.drawn }
happens window state (Puts hand ticket) = record state { put = state.put ++ record { hand = hand; ticket = ticket } ∷ [] }
happens window state (Settles verdict) = record state {
  next = state.next + 1;
  now = settled window state.now state.next verdict;
  verdicts = state.verdicts ++ verdict ∷ [];
}

-- the state after events, one after another
abbrev pub run : Window → State → List Event → State
run window state [] = state
run window state (event ∷ events) = run window (happens window state event) events

-- each event is lawful when it happens
abbrev pub AreLawful : Window → State → List Event → Type 0
AreLawful window state [] = ⊤
AreLawful window state (event ∷ events) =
    IsLawful window state event × AreLawful window (happens window state event) events

-- how often a number is in a list
abbrev pub times : ℕ → List ℕ → ℕ
times x [] = 0
times x (y ∷ ys) = one_if (nat_eq y x) + times x ys

-- each ticket below c is in exactly one hand, once, and no hand has any other ticket
pub record AreDealt (c : ℕ) (hands : ℕ → List ℕ) : Type 0 where
  pub each : (x : ℕ) → x < c
      → (hand : ℕ) × (times x (hands hand) ≡ 1) × ((other : ℕ) → other ≢ hand → times x (hands other) ≡ 0)
  pub no_other : (x : ℕ) → c ≤ x → (hand : ℕ) → times x (hands hand) ≡ 0

-- what holds in every state that lawful events lead to, in whatever order they happen: the settled turns did what the
-- turns from `from` on do one after another; each has its verdict, in order; each ticket is in one hand; and each look
-- was put by the hand that drew its ticket
pub record IsReached (window : Window) (state : State) : Type 0 where
  pub from_first : window.from ≤ state.next
  pub to_last : state.next ≤ window.to
  pub now : state.now ≡ moment_before window state.next
  pub verdicts : AreVerdicts window (state.next - window.from) state.verdicts
  pub dealt : AreDealt state.drawn state.hands
  pub drew_it : (put : Put) → Contains state.put put → Contains (state.hands put.hand) put.ticket
