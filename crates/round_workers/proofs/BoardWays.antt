-- Lawful events of workers lead to the state of a board.
use Rattle.std.proofs.Common.{◌≡◌, ⊎_elim, ◌↔◌, ℕ, zero, suc, ◌+◌, ◌-◌, ◌<◌, ◌≤◌, List, [], ◌∷◌, ◌++◌, sym, refl, ap, ◌∙◌, subst, arith}
use native.Mathlib.Decide.{ℕ_discrete, dec_le}
use Rattle.std.specs.Prelude.{slice_index}
use Rattle.std.specs.List.{Contains}
use Rattle.std.proofs.lemmas.List.Elements.{Contains-append_left, Contains-append_right, Contains-push_cases}
use Rattle.atomic_table.specs.Table.{State}
use Rattle.ant_turn.specs.Rounds.{Moment}
use Rattle.round_book.specs.declared.verdict.Verdict.{Verdict}
use Rattle.round_book.specs.Book.{BookValue, StandsFor}
use Rattle.round_book.specs.BookLaws.{IsAt}
use Rattle.round_book.specs.Machine as machine
use Rattle.round_book.specs.Machine.{IsReached, times}
use Rattle.round_book.specs.Machine.Event.{Draws, Puts, Settles}
use Rattle.round_book.specs.Window.{AreVerdicts, IsPlayable, IsVerdict, Window, moment_before}
use Rattle.round_book.proofs.MachineLemmas.{AreLawful-append, IsReached-every, IsSound-playable}
use Rattle.round_book.proofs.WindowLemmas.{LookIsTurn-window}
use Rattle.round_workers.specs.declared.board.view.Basis.{Basis}
use Rattle.round_workers.specs.declared.board.view.BoardSlot.{BoardSlot}
use Rattle.round_workers.specs.declared.board.view.View.{View}
use Rattle.round_workers.specs.BoardLaws.{BoardsAreReached, Mirrors, Way, putters}
use Rattle.round_workers.specs.BoardRule.{IsKept, putting, turns_of}
use Rattle.round_workers.specs.BoardView.{window_for}
use Rattle.round_workers.proofs.BoardLawLemmas.{drew-first, turns-alone}
use Rattle.round_workers.proofs.BoardTotalLemmas.{below-where, total-add, total-le}

-- events after events
run-append : (window : Window) (m : machine.State) (first more : List machine.Event) → machine.run window m (first ++ more) ≡ machine.run window (machine.run window m first) more
run-append window m [] more = refl
run-append window m (event ∷ first) more = run-append window (machine.happens window m event) first more

module _ (window : Window) (playable : IsPlayable window) where
  -- one event more
  way-more : (P Q : machine.State → Type 0) (event : machine.Event)
      → ((m : machine.State) → P m → IsReached window m → machine.IsLawful window m event × Q (machine.happens window m event)) → Way window P → Way window Q
  way-more P Q event next way =
      let reached = IsReached-every window way.events (IsSound-playable window playable) (LookIsTurn-window window (IsSound-playable window playable)) way.lawful in
      let more = next (machine.run window (machine.first_state window) way.events) way.there reached in record {
        events = way.events ++ event ∷ [];
        lawful = AreLawful-append window (machine.first_state window) way.events (event ∷ []) way.lawful (more.0, tt);
        there = subst Q (sym (run-append window (machine.first_state window) way.events (event ∷ []))) more.1;
      }

  -- the same way, of which more is known
  way-known : (P Q : machine.State → Type 0) → ((m : machine.State) → P m → IsReached window m → Q m) → Way window P → Way window Q
  way-known P Q known way = record {
    events = way.events;
    lawful = way.lawful;
    there = known (machine.run window (machine.first_state window) way.events) way.there
        (IsReached-every window way.events (IsSound-playable window playable) (LookIsTurn-window window (IsSound-playable window playable)) way.lawful);
  }

pub way-map : (window : Window) (P Q : machine.State → Type 0) → ((m : machine.State) → P m → Q m) → Way window P → Way window Q
way-map window P Q known way = record { events = way.events; lawful = way.lawful; there = known (machine.run window (machine.first_state window) way.events) way.there }

-- one hand has drawn this many tickets
pub record HasDrawn (window : Window) (c : ℕ) (m : machine.State) : Type 0 where
  pub drawn : m.drawn ≡ c
  pub held : (x : ℕ) → x < c → Contains (m.hands 0) x
  pub next : m.next ≡ window.from
  pub said : m.verdicts ≡ []

-- and has put the looks of those tickets below n that the board's seats put
pub record HasPut (window : Window) (s : State BoardSlot View) (c n : ℕ) (m : machine.State) : Type 0 where
  pub has_drawn : HasDrawn window c m
  pub put : (j : ℕ) → machine.IsPut m j ↔ ((j < n) × (1 ≤ putters s j))

-- and this many turns are settled
pub record HasSettled (window : Window) (key : Basis) (s : State BoardSlot View) (n : ℕ) (said : List Verdict) (m : machine.State) : Type 0 where
  pub mirrors : Mirrors key s m
  pub next : m.next ≡ window.from + n
  pub verdicts : m.verdicts ≡ said

module _ (key : Basis) (s : State BoardSlot View) (r : IsKept key s) where
  abbrev its : Window
  its = window_for key

  abbrev drawn_by_all : ℕ
  drawn_by_all = slice_index s.words 0

  no_put : (m : machine.State) → m.put ≡ [] → (j : ℕ) → ¬ machine.IsPut m j
  no_put m none j is_put = let held = subst (λ (puts : List machine.Put). Contains puts (record { hand = is_put.0; ticket = j })) none is_put.1 in
      absurd (let l : held.0 < 0 = held.1 in omega arith)

  abbrev Drew : ℕ → machine.State → Type 0
  Drew c m = HasDrawn its c m × (m.put ≡ [])

  drew-more : (c : ℕ) (m : machine.State) → Drew c m → machine.IsLawful its m (Draws 0) × Drew (suc c) (machine.happens its m (Draws 0))
  drew-more c m drew = (
    tt,
    (
      record {
        drawn = (let e : m.drawn ≡ c = drew.0.drawn in omega arith);
        held = λ x below. go x below (ℕ_discrete x c);
        next = drew.0.next;
        said = drew.0.said;
      },
      drew.1,
    ),
  ) where
    go : (x : ℕ) → x < suc c → Dec (x ≡ c) → Contains (m.hands 0 ++ m.drawn ∷ []) x
    go x below (yes e) = Contains-append_right (m.hands 0) (m.drawn ∷ []) x (0, omega arith, drew.0.drawn ∙ sym e)
    go x below (no ne) = Contains-append_left (m.hands 0) (m.drawn ∷ []) x (drew.0.held x (omega arith))

  all-drawn : (c : ℕ) → Way its (Drew c)
  all-drawn zero = record { events = []; lawful = tt; there = (record { drawn = refl; held = λ x below. absurd (omega arith); next = refl; said = refl }, refl) }
  all-drawn (suc c) = way-more its r.playable (Drew c) (Drew (suc c)) (Draws 0) (λ m drew reached. drew-more c m drew) (all-drawn c)

  -- a ticket whose look was put was drawn
  put-drawn : (j : ℕ) → 1 ≤ putters s j → j < drawn_by_all
  put-drawn j some =
      let each = total-le (λ (u : View). times j u.put + putting j u.phase) (λ (u : View). times j u.drawn) s.views (drew-first key s r j) in
      let both = total-add (λ (u : View). times j u.put) (λ (u : View). putting j u.phase) s.views in
      let deal = r.tickets.each j in below-where j drawn_by_all (omega arith)

  abbrev Put : ℕ → machine.State → Type 0
  Put n m = HasPut its s drawn_by_all n m

  put-none : (m : machine.State) → Drew drawn_by_all m → IsReached its m → Put 0 m
  put-none m drew reached = record { has_drawn = drew.0; put = λ j. (λ is_put. absurd (no_put m drew.1 j is_put), λ both. absurd (let l : j < 0 = both.0 in omega arith)) }

  put-skip : (n : ℕ) → ¬ (1 ≤ putters s n) → (m : machine.State) → Put n m → IsReached its m → Put (suc n) m
  put-skip n none m put reached = record {
    has_drawn = put.has_drawn;
    put = λ j. (
      λ is_put. let was = (put.put j).0 is_put in (let l : j < n = was.0 in omega arith, was.1),
      λ both. (put.put j).1 (go j both (ℕ_discrete j n), both.1),
    );
  } where
    go : (j : ℕ) → (j < suc n) × (1 ≤ putters s j) → Dec (j ≡ n) → j < n
    go j both (yes e) = absurd (none (subst (λ k. 1 ≤ putters s k) e both.1))
    go j both (no ne) = let l : j < suc n = both.0 in omega arith

  put-more : (n : ℕ) → n < turns_of key → 1 ≤ putters s n → (m : machine.State) → Put n m → IsReached its m → machine.IsLawful its m (Puts 0 n) × Put (suc n) (machine.happens its m (Puts 0 n))
  put-more n inside some m put reached = (
    record {
      is_turn = omega arith;
      is_held = put.has_drawn.held n (put-drawn n some);
      is_new = λ is_put. let was = (put.put n).0 is_put in absurd (let l : n < n = was.0 in omega arith);
    },
    record {
      has_drawn = record { drawn = put.has_drawn.drawn; held = put.has_drawn.held; next = put.has_drawn.next; said = put.has_drawn.said };
      put = λ j. (
        λ is_put. ⊎_elim
            (λ old. let was = (put.put j).0 (is_put.0, old) in (let l : j < n = was.0 in omega arith, was.1))
            (λ new. let same : n ≡ j = ap (λ (one : machine.Put). one.ticket) new in (omega arith, subst (λ k. 1 ≤ putters s k) same some))
            (Contains-push_cases m.put (record { hand = 0; ticket = n }) (record { hand = is_put.0; ticket = j }) is_put.1),
        λ both. go j both (ℕ_discrete n j),
      );
    },
  ) where
    go : (j : ℕ) → (j < suc n) × (1 ≤ putters s j) → Dec (n ≡ j) → (hand : ℕ) × Contains (m.put ++ record { hand = 0; ticket = n } ∷ []) (record { hand = hand; ticket = j })
    go j both (yes e) = (
      0,
      subst (λ k. Contains (m.put ++ record { hand = 0; ticket = n } ∷ []) (record { hand = 0; ticket = k })) e
          (Contains-append_right m.put (record { hand = 0; ticket = n } ∷ []) (record { hand = 0; ticket = n }) (0, omega arith, refl)),
    )
    go j both (no ne) = let was = (put.put j).1 (let l : j < suc n = both.0 in omega arith, both.1) in
        (was.0, Contains-append_left m.put (record { hand = 0; ticket = n } ∷ []) (record { hand = was.0; ticket = j }) was.1)

  all-put : (n : ℕ) → n ≤ turns_of key → Way its (Put n)
  all-put zero le = way-known its r.playable (Drew drawn_by_all) (Put 0) put-none (all-drawn drawn_by_all)
  all-put (suc n) le = go (dec_le 1 (putters s n)) (all-put n (omega arith)) where
    go : Dec (1 ≤ putters s n) → Way its (Put n) → Way its (Put (suc n))
    go (yes some) way = way-more its r.playable (Put n) (Put (suc n)) (Puts 0 n) (put-more n (omega arith) some) way
    go (no none) way = way-known its r.playable (Put n) (Put (suc n)) (put-skip n none) way

  abbrev Settled : ℕ → List Verdict → machine.State → Type 0
  Settled n said m = HasSettled its key s n said m

  settled-none : (said : List Verdict) → said ≡ [] → (m : machine.State) → Put (turns_of key) m → IsReached its m → Settled 0 said m
  settled-none said none m put reached = record {
    mirrors = record { drawn = put.has_drawn.drawn; put = λ j. (λ is_put. ((put.put j).0 is_put).1, λ some. (put.put j).1 (turns-alone key s r j (omega arith), some)) };
    next = (let e : m.next ≡ its.from = put.has_drawn.next in omega arith);
    verdicts = put.has_drawn.said ∙ sym none;
  }

  settled-more : (n : ℕ) (before said : List Verdict) (last : Verdict) → said ≡ before ++ last ∷ [] → its.from + n < its.to → 1 ≤ putters s n
      → IsVerdict its (moment_before its (its.from + n)) (its.from + n) last
      → (m : machine.State) → Settled n before m → IsReached its m → machine.IsLawful its m (Settles last) × Settled (suc n) said (machine.happens its m (Settles last))
  settled-more n before said last are within some verdict m was reached =
      let next : m.next ≡ its.from + n = was.next in
      let here : n ≡ m.next - its.from = omega arith in (
        record {
          in_window = omega arith;
          is_put = subst (machine.IsPut m) here ((was.mirrors.put n).1 some);
          is_verdict = subst (λ (now : Moment). IsVerdict its now m.next last) (sym reached.now)
              (subst (λ t. IsVerdict its (moment_before its t) t last) (sym next) verdict);
        },
        record {
          mirrors = record { drawn = was.mirrors.drawn; put = was.mirrors.put };
          next = omega arith;
          verdicts = ap (λ (vs : List Verdict). vs ++ last ∷ []) was.verdicts ∙ sym are;
        },
      )

  all-settled : (n : ℕ) (said : List Verdict) → its.from + n ≤ its.to → ((j : ℕ) → j < n → 1 ≤ putters s j) → AreVerdicts its n said → Way its (Settled n said)
  all-settled zero said within some are = way-known its r.playable (Put (turns_of key)) (Settled 0 said) (settled-none said are) (all-put (turns_of key) (omega arith))
  all-settled (suc n) said within some (before, last, is, rest, verdict) =
      way-more its r.playable (Settled n before) (Settled (suc n) said) (Settles last) (settled-more n before said last is (omega arith) (some n (omega arith)) verdict)
      (all-settled n before (omega arith) (λ j below. some j (omega arith)) rest)

  book-way : (book : BookValue) → StandsFor its book → book.next ≤ book.to → ((j : ℕ) → j < book.next - book.from → 1 ≤ putters s j) → Way its (λ m. Mirrors key s m × IsAt m book)
  book-way book stands within some =
      let from : book.from ≡ its.from = stands.stands.from in let to : book.to ≡ its.to = stands.stands.to in let begun = stands.begun in
      let n : ℕ = book.next - its.from in
      way-known its r.playable (Settled n book.verdicts) (λ m. Mirrors key s m × IsAt m book)
      (λ m was reached. (
        was.mirrors,
        (let next : m.next ≡ book.next = (let e : m.next ≡ its.from + n = was.next in omega arith) in
            record { next = next; now = reached.now ∙ (ap (moment_before its) next ∙ sym stands.stands.now); verdicts = was.verdicts }),
      ))
      (all-settled n book.verdicts (omega arith) (λ j below. some j (omega arith)) stands.stands.verdicts)

pub board-way : (key : Basis) (s : State BoardSlot View) → IsKept key s → Way (window_for key) (Mirrors key s)
board-way key s r = way-map (window_for key) (Settled key s r 0 []) (Mirrors key s) (λ m was. was.mirrors)
    (all-settled key s r 0 [] (let f = r.playable.forwards in omega arith) (λ j below. absurd (omega arith)) refl)

pub boards_are_reached : BoardsAreReached
boards_are_reached = record {
  board = board-way;
  book = λ key s book r stands within some. book-way key s r book stands within some;
}
