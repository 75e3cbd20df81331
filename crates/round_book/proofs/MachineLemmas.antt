-- What lawful events lead to.
use Rattle.std.proofs.Common.{◌≡◌, ◌≢◌, ⊎_elim, ℕ, suc, ◌+◌, ◌-◌, ◌<◌, ◌≤◌, nat_eq, List, [], ◌∷◌, ◌++◌, refl, sym, ◌∙◌, ap, subst, arith}
use Rattle.std.proofs.lemmas.Bool.{cond-false, cond-true, cases_eq, eq-eqb, ne_eqb}
use Rattle.std.specs.List.{Contains}
use Rattle.std.proofs.lemmas.List.Elements.{Contains-append_left, Contains-push_cases}
use Rattle.cell_world.specs.Cell.{one_if}
use Rattle.ant_turn.specs.Keeps.{Keeps}
use Rattle.ant_turn.specs.Rounds.{Moment, after_turn, after_turns}
use Rattle.ant_turn.proofs.KeptByRounds.{Keeps-after_turns}
use Rattle.round_book.specs.declared.verdict.Verdict.{Verdict}
use Rattle.round_book.specs.declared.verdict.Verdict.TheVariants.{Taken, Redone}
use Rattle.round_book.specs.Machine.{AreDealt, AreLawful, CanSettle, Event, IsReached, State, dealt, first_state, happens, run, settled, taken, times, IsLawful}
use Rattle.round_book.specs.Machine.Event.{Draws, Puts, Settles}
use Rattle.round_book.specs.Window.{Window, AreVerdicts, HoldsIn, IsPlayable, IsSound, IsVerdict, look_for, moment_before}

-- a look that holds is worth its turn
abbrev pub LookIsTurn : Window → Type 0
LookIsTurn window = (now : Moment) (t : ℕ) → t < window.to → Keeps window.minds window.base now.world → HoldsIn window now t → taken now (look_for window t) ≡ after_turn window.minds window.seed now t

-- no turn yet
pub moment_before-from : (window : Window) → moment_before window window.from ≡ record { world = window.base; place = window.place }
unfolding moment_before
moment_before-from window =
    let none : window.from - window.from ≡ 0 = omega arith in
    ap (λ n. after_turns window.minds window.seed (record { world = window.base; place = window.place }) window.from n) none

-- one turn more
pub moment_before-suc : (window : Window) (t : ℕ) → window.from ≤ t → moment_before window (t + 1) ≡ after_turn window.minds window.seed (moment_before window t) t
unfolding moment_before
moment_before-suc window t before =
    let more : t + 1 - window.from ≡ suc (t - window.from) = omega arith in
    let here : window.from + (t - window.from) ≡ t = omega arith in
    ap (λ n. after_turns window.minds window.seed (record { world = window.base; place = window.place }) window.from n) more
    ∙ ap (λ u. after_turn window.minds window.seed (after_turns window.minds window.seed (record { world = window.base; place = window.place }) window.from (t - window.from)) u) here

-- a window that may be played is one whose turns are turns
pub IsSound-playable : (window : Window) → IsPlayable window → IsSound window
IsSound-playable window playable = record { valid = playable.valid; sound = playable.sound; fits = playable.fits; forwards = playable.forwards }

-- what the turns of a window keep of its base
pub Keeps-moment_before : (window : Window) (t : ℕ) → IsSound window → Keeps window.minds window.base (moment_before window t).world
unfolding moment_before
Keeps-moment_before window t sound =
    Keeps-after_turns window.minds window.seed (record { world = window.base; place = window.place }) window.from (t - window.from) sound.sound sound.valid sound.fits

-- how often a number stands in a list with one more at its end
times-append : (x : ℕ) (xs : List ℕ) (y : ℕ) → times x (xs ++ y ∷ []) ≡ times x xs + one_if (nat_eq y x)
times-append x [] y = omega arith
times-append x (z ∷ xs) y =
    let rest : times x (xs ++ y ∷ []) ≡ times x xs + one_if (nat_eq y x) = times-append x xs y in
    omega arith

pub times-same : (x : ℕ) (xs : List ℕ) → times x (xs ++ x ∷ []) ≡ times x xs + 1
times-same x xs = times-append x xs x ∙ ap (λ b. times x xs + one_if b) (eq-eqb x x refl)

times-other : (x : ℕ) (xs : List ℕ) (y : ℕ) → y ≢ x → times x (xs ++ y ∷ []) ≡ times x xs
times-other x xs y apart =
    let e : times x (xs ++ y ∷ []) ≡ times x xs + 0 = times-append x xs y ∙ ap (λ b. times x xs + one_if b) (ne_eqb y x apart) in
    omega arith

-- a ticket that is dealt to a hand goes to that hand, and no other ticket goes anywhere
module _ (hands : ℕ → List ℕ) (hand ticket : ℕ) where
  dealt-own : dealt hands hand ticket hand ≡ hands hand ++ ticket ∷ []
  dealt-own = cond-true (nat_eq hand hand) (hands hand ++ ticket ∷ []) (hands hand) (eq-eqb hand hand refl)

  dealt-other : (other : ℕ) → other ≢ hand → dealt hands hand ticket other ≡ hands other
  dealt-other other apart = cond-false (nat_eq other hand) (hands other ++ ticket ∷ []) (hands other) (ne_eqb other hand apart)

  dealt-times : (x other : ℕ) → ticket ≢ x → times x (dealt hands hand ticket other) ≡ times x (hands other)
  dealt-times x other apart = ⊎_elim
      (λ same. ap (times x) (ap (dealt hands hand ticket) same ∙ dealt-own) ∙ times-other x (hands hand) ticket apart ∙ ap (λ h. times x (hands h)) (sym same))
      (λ differ. ap (times x) (dealt-other other differ))
      (cases_eq other hand)

  dealt-Contains : (x other : ℕ) → Contains (hands other) x → Contains (dealt hands hand ticket other) x
  dealt-Contains x other held = ⊎_elim
      (λ same. subst (λ xs. Contains xs x) (sym (ap (dealt hands hand ticket) same ∙ dealt-own)) (Contains-append_left (hands hand) (ticket ∷ []) x (subst (λ h. Contains (hands h) x) same held)))
      (λ differ. subst (λ xs. Contains xs x) (sym (dealt-other other differ)) held)
      (cases_eq other hand)

-- one ticket more
AreDealt-more : (c : ℕ) (hands : ℕ → List ℕ) (hand : ℕ) → AreDealt c hands → AreDealt (c + 1) (dealt hands hand c)
AreDealt-more c hands hand before = record {
  each = λ x below. ⊎_elim
      (λ same. (hand, subst (λ y. times y (dealt hands hand c hand) ≡ 1) (sym same) own, λ other apart. ap (times x) (dealt-other hands hand c other apart) ∙ before.no_other x (let e : x ≡ c = same in omega arith) other))
      (λ differ. let old = before.each x (let e : x ≢ c = differ in let l : x < c + 1 = below in omega arith) in
      (old.0, dealt-times hands hand c x old.0 (λ e. differ (sym e)) ∙ old.1, λ other apart. dealt-times hands hand c x other (λ e. differ (sym e)) ∙ old.2 other apart))
      (cases_eq x c);
  no_other = λ x above other. dealt-times hands hand c x other (λ e. let l : c + 1 ≤ x = above in omega arith) ∙ before.no_other x (let l : c + 1 ≤ x = above in omega arith) other;
} where
  own : times c (dealt hands hand c hand) ≡ 1
  own = ap (times c) (dealt-own hands hand c) ∙ times-same c (hands hand) ∙ ap (λ n. n + 1) (before.no_other c (omega arith) hand)

-- the moment after the next turn, however it is settled
settled-next : (window : Window) (state : State) (verdict : Verdict) → IsSound window → LookIsTurn window → IsReached window state → CanSettle window state verdict → settled window state.now state.next verdict ≡ after_turn window.minds window.seed state.now state.next
settled-next window state Taken sound worth reached can =
    worth state.now state.next can.in_window (subst (λ m. Keeps window.minds window.base m.world) (sym reached.now) (Keeps-moment_before window state.next sound)) can.is_verdict
settled-next window state (Redone cause) sound worth reached can = refl

-- one event
IsReached-happens : (window : Window) (state : State) (event : Event) → IsSound window → LookIsTurn window → IsReached window state → IsLawful window state event → IsReached window (happens window state event)
IsReached-happens window state (Draws hand) sound worth reached lawful = record {
  from_first = reached.from_first;
  to_last = reached.to_last;
  now = reached.now;
  verdicts = reached.verdicts;
  dealt = AreDealt-more state.drawn state.hands hand reached.dealt;
  drew_it = λ put is_put. dealt-Contains state.hands hand state.drawn put.ticket put.hand (reached.drew_it put is_put);
}
IsReached-happens window state (Puts hand ticket) sound worth reached lawful = record {
  from_first = reached.from_first;
  to_last = reached.to_last;
  now = reached.now;
  verdicts = reached.verdicts;
  dealt = reached.dealt;
  drew_it = λ put is_put. ⊎_elim
      (λ old. reached.drew_it put old)
      (λ new. subst (λ one. Contains (state.hands one.hand) one.ticket) new lawful.is_held)
      (Contains-push_cases state.put (record { hand = hand; ticket = ticket }) put is_put);
}
IsReached-happens window state (Settles verdict) sound worth reached lawful = record {
  from_first = let l = reached.from_first in omega arith;
  to_last = let l : state.next < window.to = lawful.in_window in omega arith;
  now = settled-next window state verdict sound worth reached lawful
      ∙ ap (λ m. after_turn window.minds window.seed m state.next) reached.now
      ∙ sym (moment_before-suc window state.next reached.from_first);
  verdicts =
      let n : suc (state.next - window.from) ≡ state.next + 1 - window.from = (let l = reached.from_first in omega arith) in
      let here : state.next ≡ window.from + (state.next - window.from) = (let l = reached.from_first in omega arith) in
      let said : IsVerdict window (moment_before window state.next) state.next verdict = subst (λ m. IsVerdict window m state.next verdict) reached.now lawful.is_verdict in
      subst (λ k. AreVerdicts window k (state.verdicts ++ verdict ∷ [])) n
      (state.verdicts, verdict, refl, reached.verdicts, subst (λ t. IsVerdict window (moment_before window t) t verdict) here said);
  dealt = reached.dealt;
  drew_it = reached.drew_it;
}

-- lawful events after lawful events
pub AreLawful-append : (window : Window) (state : State) (first more : List Event) → AreLawful window state first → AreLawful window (run window state first) more → AreLawful window state (first ++ more)
AreLawful-append window state [] more lawful then = then
AreLawful-append window state (event ∷ first) more lawful then = (lawful.0, AreLawful-append window (happens window state event) first more lawful.1 then)

-- events, one after another
IsReached-run : (window : Window) (state : State) (events : List Event) → IsSound window → LookIsTurn window → IsReached window state → AreLawful window state events → IsReached window (run window state events)
IsReached-run window state [] sound worth reached lawful = reached
IsReached-run window state (event ∷ events) sound worth reached lawful =
    IsReached-run window (happens window state event) events sound worth (IsReached-happens window state event sound worth reached lawful.0) lawful.1

-- the first state
IsReached-first : (window : Window) → IsSound window → IsReached window (first_state window)
IsReached-first window sound = record {
  from_first = omega arith;
  to_last = sound.forwards;
  now = sym (moment_before-from window);
  verdicts = subst (λ k. AreVerdicts window k []) (let none : 0 ≡ window.from - window.from = omega arith in none) refl;
  dealt = record { each = λ x below. absurd (omega arith); no_other = λ x above hand. refl };
  drew_it = λ put is_put. absurd (let l : is_put.0 < 0 = is_put.1 in omega arith);
}

-- the law, if a look that holds is worth its turn
pub IsReached-every : (window : Window) (events : List Event) → IsSound window → LookIsTurn window → AreLawful window (first_state window) events → IsReached window (run window (first_state window) events)
IsReached-every window events sound worth lawful = IsReached-run window (first_state window) events sound worth (IsReached-first window sound) lawful
