-- Books that stand are what lawful events lead to.
use Rattle.std.proofs.Common.{◌≡◌, ℕ, zero, suc, ◌+◌, ◌-◌, ◌<◌, ◌≤◌, List, [], ◌∷◌, ◌++◌, Option, Some, None, ⊎_elim, refl, sym, ◌∙◌, ap, ap₂, subst, arith}
use Rattle.std.specs.List.{Contains}
use Rattle.std.proofs.lemmas.List.Elements.{Contains-append_right, Contains-push_cases}
use Rattle.list_lemmas.proofs.Elements.{Contains-none}
use Rattle.ant_turn.specs.Rounds.{Moment, after_turn}
use Rattle.round_book.specs.declared.verdict.Cause.{Cause}
use Rattle.round_book.specs.declared.verdict.Verdict.{Verdict}
use Rattle.round_book.specs.declared.verdict.Verdict.TheVariants.{Taken, Redone}
use Rattle.round_book.specs.Book.{BookValue, IsSameWindow, StandsFor, moment_of}
use Rattle.round_book.specs.BookLaws.{BooksAreReached, IsAt, IsSettled, StandingBooksSettle, next_look, verdict_of}
use Rattle.round_book.specs.Machine.{AreLawful, Event, IsLawful, IsPut, Put, State, first_state, happens, run, taken}
use Rattle.round_book.specs.Machine.Event.{Draws, Puts, Settles}
use Rattle.round_book.specs.Window.{AreVerdicts, HoldsIn, IsPlayable, IsVerdict, Window, look_for, moment_before}
use Rattle.round_book.proofs.BookLemmas.{IsVerdict-cause, look_for-holds}
use Rattle.round_book.proofs.FieldLemmas.{for-keeps, for-redone, for-taken, for-turn, for-unwritten, for-writes}
use Rattle.round_book.proofs.MachineLemmas.{AreLawful-append, IsReached-every, IsSound-playable}
use Rattle.round_book.proofs.WindowLemmas.{LookIsTurn-window}

pub standing_books_settle : StandingBooksSettle
standing_books_settle = record {
  may = λ window book for below. record {
    turn = for-turn window book for (next_look window book) refl;
    unwritten = for-unwritten window book for (next_look window book) refl;
    writes = for-writes window book for (next_look window book) refl;
    fit = (for-keeps window book for).fits;
  };
  stands = settled_stands;
} where
  settled_stands : (window : Window) (answer : Option Cause) (book new : BookValue) → StandsFor window book → book.next < book.to → IsSettled window.minds (next_look window book) answer book new → IsSameWindow book new → StandsFor window new
  settled_stands window None book new for below settled same = for-taken window book for new (next_look window book) refl below settled same
  settled_stands window (Some found) book new for below settled same = for-redone window book for new (next_look window book) window.minds found refl refl settled.0 settled.1 same

-- events after events
run-append : (window : Window) (state : State) (first more : List Event) → run window state (first ++ more) ≡ run window (run window state first) more
run-append window state [] more = refl
run-append window state (event ∷ first) more = run-append window (happens window state event) first more

-- one hand has drawn n tickets, put their looks and settled their turns, one after another
pub record Went (window : Window) (n : ℕ) (said : List Verdict) (state : State) : Type 0 where
  pub drawn : state.drawn ≡ n
  pub next : state.next ≡ window.from + n
  pub verdicts : state.verdicts ≡ said
  pub below : (put : Put) → Contains state.put put → put.ticket < n

-- the events of n turns
pub record Way (window : Window) (n : ℕ) (verdicts : List Verdict) : Type 0 where
  pub events : List Event
  pub lawful : AreLawful window (first_state window) events
  pub went : Went window n verdicts (run window (first_state window) events)

-- the events of one turn
abbrev one_turn : ℕ → Verdict → List Event
one_turn ticket verdict = Draws 0 ∷ Puts 0 ticket ∷ Settles verdict ∷ []

module _ (window : Window) (playable : IsPlayable window) where
  way_none : (verdicts : List Verdict) → verdicts ≡ [] → Way window 0 verdicts
  way_none verdicts none = record {
    events = [];
    lawful = tt;
    went = record { drawn = refl; next = omega arith; verdicts = sym none; below = λ put is_put. absurd (Contains-none put is_put) };
  }

  -- one turn more
  module _ (n : ℕ) (before : List Verdict) (last : Verdict) (state : State) (went : Went window n before state) (within : window.from + n < window.to) where
    turn-lawful : IsVerdict window state.now state.next last → AreLawful window state (one_turn n last)
    turn-lawful said = (
      tt,
      (
        record {
          is_turn = within;
          is_held = subst (λ ticket. Contains (state.hands 0 ++ ticket ∷ []) n) (sym went.drawn) (Contains-append_right (state.hands 0) (n ∷ []) n (0, omega arith, refl));
          is_new = λ is_put. let early : n < n = went.below (record { hand = is_put.0; ticket = n }) is_put.1 in absurd (omega arith);
        },
        (
          record {
            in_window = (let e : state.next ≡ window.from + n = went.next in omega arith);
            is_put = (
              0,
              subst (λ ticket. Contains (state.put ++ record { hand = 0; ticket = n } ∷ []) (record { hand = 0; ticket = ticket }))
                  (let e : state.next ≡ window.from + n = went.next in let same : n ≡ state.next - window.from = omega arith in same)
                  (Contains-append_right state.put (record { hand = 0; ticket = n } ∷ []) (record { hand = 0; ticket = n }) (0, omega arith, refl)),
            );
            is_verdict = said;
          },
          tt,
        ),
      ),
    )

    turn-went : (verdicts : List Verdict) → verdicts ≡ before ++ last ∷ [] → Went window (suc n) verdicts (run window state (one_turn n last))
    turn-went verdicts are = record {
      drawn = (let e : state.drawn ≡ n = went.drawn in omega arith);
      next = (let e : state.next ≡ window.from + n = went.next in omega arith);
      verdicts = ap (λ said. said ++ last ∷ []) went.verdicts ∙ sym are;
      below = λ put is_put. ⊎_elim
          (λ old. let early : put.ticket < n = went.below put old in omega arith)
          (λ new. let same : n ≡ put.ticket = ap (λ (one : Put). one.ticket) new in omega arith)
          (Contains-push_cases state.put (record { hand = 0; ticket = n }) put is_put);
    }

  -- where the events led
  way-now : (n : ℕ) (verdicts : List Verdict) (way : Way window n verdicts) → (run window (first_state window) way.events).now ≡ moment_before window (window.from + n)
  way-now n verdicts way = (IsReached-every window way.events (IsSound-playable window playable) (LookIsTurn-window window (IsSound-playable window playable)) way.lawful).now ∙ ap (moment_before window) way.went.next

  way_more : (n : ℕ) (verdicts before : List Verdict) (last : Verdict) → verdicts ≡ before ++ last ∷ [] → window.from + n < window.to → IsVerdict window (moment_before window (window.from + n)) (window.from + n) last →
      Way window n before → Way window (suc n) verdicts
  way_more n verdicts before last are within said way =
      let there : State = run window (first_state window) way.events in
      let here : IsVerdict window there.now there.next last = subst (λ (m : Moment). IsVerdict window m there.next last) (sym (way-now n before way)) (subst (λ t. IsVerdict window (moment_before window (window.from + n)) t last) (sym way.went.next) said) in
      record {
        events = way.events ++ one_turn n last;
        lawful = AreLawful-append window (first_state window) way.events (one_turn n last) way.lawful (turn-lawful n before last there way.went within here);
        went = subst (Went window (suc n) verdicts) (sym (run-append window (first_state window) way.events (one_turn n last))) (turn-went n before last there way.went within verdicts are);
      }

  pub find_way : (n : ℕ) (verdicts : List Verdict) → window.from + n ≤ window.to → AreVerdicts window n verdicts → Way window n verdicts
  find_way zero verdicts within are = way_none verdicts are
  find_way (suc n) verdicts within (before, last, is, rest, said) =
      way_more n verdicts before last is (omega arith) said (find_way n before (omega arith) rest)

-- a book that stands
book_reached : (window : Window) (book : BookValue) → StandsFor window book → book.next ≤ book.to →
    (events : List Event) × AreLawful window (first_state window) events × IsAt (run window (first_state window) events) book
book_reached window book for within =
    let begun_so : book.from ≤ book.next = for.begun in
    let from : book.from ≡ window.from = for.stands.from in
    let to : book.to ≡ window.to = for.stands.to in
    let end : window.from + (book.next - window.from) ≡ book.next = omega arith in
    let way = find_way window for.playable (book.next - window.from) book.verdicts (omega arith) for.stands.verdicts in (
      way.events,
      way.lawful,
      record {
        next = way.went.next ∙ end;
        now = way-now window for.playable (book.next - window.from) book.verdicts way ∙ ap (moment_before window) end ∙ sym for.stands.now;
        verdicts = way.went.verdicts;
      },
    )

-- a turn that was settled is one event
settled_event : (window : Window) (answer : Option Cause) (book new : BookValue) (state : State) →
    StandsFor window book → book.next < book.to → IsSettled window.minds (next_look window book) answer book new → IsAt state book → IsPut state (book.next - book.from) →
    IsLawful window state (Settles (verdict_of answer)) × IsAt (happens window state (Settles (verdict_of answer))) new
settled_event window None book new state for below settled at is_put = (
  record {
    in_window = (let e : state.next ≡ book.next = at.next in let to : book.to ≡ window.to = for.stands.to in omega arith);
    is_put = subst (λ n. IsPut state n) (ap₂ (λ (t from : ℕ). t - from) (sym at.next) for.stands.from) is_put;
    is_verdict = subst (λ (m : Moment). HoldsIn window m state.next) (sym at.now)
        (subst (HoldsIn window (moment_of book)) (sym at.next) (look_for-holds window book for.playable for.stands book.next settled.holds));
  },
  record {
    next = (let e : state.next ≡ book.next = at.next in let m : new.next ≡ book.next + 1 = settled.ended.next in omega arith);
    now = ap₂ (λ m t. taken m (look_for window t)) at.now at.next ∙ sym settled.ended.now;
    verdicts = ap (λ said. said ++ Taken ∷ []) at.verdicts ∙ sym settled.ended.verdicts;
  },
)
settled_event window (Some found) book new state for below settled at is_put = (
  record {
    in_window = (let e : state.next ≡ book.next = at.next in let to : book.to ≡ window.to = for.stands.to in omega arith);
    is_put = subst (λ n. IsPut state n) (ap₂ (λ (t from : ℕ). t - from) (sym at.next) for.stands.from) is_put;
    is_verdict = subst (λ (m : Moment). IsVerdict window m state.next (Redone found)) (sym at.now)
        (subst (λ t. IsVerdict window (moment_of book) t (Redone found)) (sym at.next) (IsVerdict-cause window (moment_of book) book.next found settled.0));
  },
  record {
    next = (let e : state.next ≡ book.next = at.next in let m : new.next ≡ book.next + 1 = settled.1.next in omega arith);
    now = ap₂ (λ m t. after_turn window.minds window.seed m t) at.now at.next ∙ ap (λ s. after_turn window.minds s (moment_of book) book.next) (sym for.stands.seed) ∙ sym settled.1.now;
    verdicts = ap (λ said. said ++ Redone found ∷ []) at.verdicts ∙ sym settled.1.verdicts;
  },
)

pub books_are_reached : BooksAreReached
books_are_reached = record {
  first = λ field from to. record { next = refl; now = refl; verdicts = refl };
  reached = book_reached;
  settled = settled_event;
}
