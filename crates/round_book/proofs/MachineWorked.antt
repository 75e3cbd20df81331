-- Workers on windows, worked out.
use Rattle.std.proofs.Common.{◌≡◌, ⊎_elim, ℕ, zero, suc, ◌+◌, ◌-◌, ◌<◌, Bool, true, false, ◌||◌, nat_eq, slice_get, List, [], ◌∷◌, ◌++◌, None, Some, refl, sym, ◌∙◌, ap, subst, arith}
use Rattle.std.proofs.lemmas.Bool.{eq-eqb, false≢true, or_left, or_right}
use Rattle.std.specs.List.{Contains}
use Rattle.list_lemmas.proofs.Elements.{Contains-cases, Contains-none}
use Rattle.hex_geometry.specs.declared.position.Pos.{Pos}
use Rattle.hex_geometry.specs.Direction.{directions}
use Rattle.hex_geometry.specs.Neighbourhood.{adjacent_pos, neighbours_of}
use Rattle.hex_geometry.specs.Position.{same_pos}
use Rattle.cell_world.specs.declared.part.Part.TheVariants.{Who, Load}
use Rattle.cell_world.specs.Cell.{rock}
use Rattle.cell_world.specs.Parts.{has_part, patched}
use Rattle.cell_world.specs.Grid.{cell_in}
use Rattle.cell_world.specs.Opening.{floor, opening}
use Rattle.cell_world.specs.World.{place_in, put_cell}
use Rattle.ant_random.specs.Stream.{drawn, random_at, state_at}
use Rattle.cell_world.proofs.OpeningValid.{IsWorld-opening}
use Rattle.cell_world.proofs.Plans.{IsPlan-test}
use Rattle.brain_read.specs.Soundness.{IsBrain, IsSound as IsSoundInstr}
use Rattle.brain_read.specs.declared.instr.Instr.{Instr}
use Rattle.brain_read.specs.declared.instr.Instr.TheVariants.{Flip, Move}
use Rattle.ant_turn.proofs.FitLemmas.{Fits-opening}
use Rattle.ant_turn.specs.Kills.{check_at, is_surrounded, killed_at, places_around}
use Rattle.ant_turn.specs.Rounds.{Moment, after_turn}
use Rattle.ant_turn.specs.Turn.{stepped, turn}
use Rattle.spec_record.specs.Claims.{Claim, merged}
use Rattle.spec_record.specs.Guess.{flips, guess}
use Rattle.spec_record.specs.Look.{look_of}
use Rattle.spec_record.proofs.LooksWorked.{kinds, minds}
use Rattle.spec_record.specs.Reads.{reads}
use Rattle.spec_record.specs.Writes.{writes}
use Rattle.round_book.specs.declared.verdict.Cause.{Cause}
use Rattle.round_book.specs.declared.verdict.Cause.TheVariants as cause
use Rattle.round_book.specs.declared.verdict.Verdict.{Verdict}
use Rattle.round_book.specs.declared.verdict.Verdict.TheVariants.{Taken, Redone}
use Rattle.round_book.specs.Counts.{look_holds}
use Rattle.round_book.specs.Machine.{AreLawful, Event, IsLawful, IsPut, Put, State, first_state, run}
use Rattle.round_book.specs.Machine.Event.{Draws, Puts, Settles}
use Rattle.round_book.specs.Window.{IsSound, IsVerdict, Window, guess_for, look_for, moment_before}
use Rattle.round_book.proofs.CountLemmas.{Redone-refutes, parts-test}
use Rattle.round_book.proofs.CountsWorked.{all_seven}
use Rattle.round_book.proofs.MachineLemmas.{AreLawful-append, IsReached-every}
use Rattle.round_book.proofs.WindowLemmas.{LookIsTurn-window}
use Rattle.round_book.proofs.VerdictLemmas.{held, not_held, unlike}

-- whether a ticket's look is among those that were put
abbrev is_among : List Put → ℕ → Bool
is_among [] ticket = false
is_among (put ∷ puts) ticket = nat_eq put.ticket ticket || is_among puts ticket

among : (puts : List Put) (ticket hand : ℕ) → Contains puts (record { hand = hand; ticket = ticket }) → is_among puts ticket ≡ true
among [] ticket hand held = absurd (Contains-none _ held)
among (put ∷ puts) ticket hand held = ⊎_elim
    (λ same. or_left (nat_eq put.ticket ticket) (is_among puts ticket) (eq-eqb put.ticket ticket (ap (λ (one : Put). one.ticket) same)))
    (λ later. or_right (nat_eq put.ticket ticket) (is_among puts ticket) (among puts ticket hand later))
    (Contains-cases put (record { hand = hand; ticket = ticket }) puts held)

-- a ticket that isn't among them wasn't put
not_put : (state : State) (ticket : ℕ) → is_among state.put ticket ≡ false → ¬ IsPut state ticket
not_put state ticket fails is_put = false≢true (sym fails ∙ among state.put ticket is_put.0 is_put.1)

-- events whose tests compute
put_so : (window : Window) (state : State) (hand ticket : ℕ) → window.from + ticket < window.to → Contains (state.hands hand) ticket → is_among state.put ticket ≡ false → IsLawful window state (Puts hand ticket)
put_so window state hand ticket is_turn is_held is_new = record { is_turn = is_turn; is_held = is_held; is_new = not_put state ticket is_new }

take_so : (window : Window) (state : State) → state.next < window.to → IsPut state (state.next - window.from) → look_holds (look_for window state.next) state.now.world.cells state.now.place ≡ true → IsLawful window state (Settles Taken)
take_so window state in_window is_put is = record { in_window = in_window; is_put = is_put; is_verdict = held window state.now state.next is }

redo_so : (window : Window) (state : State) (found : Cause) → state.next < window.to → IsPut state (state.next - window.from) → IsVerdict window state.now state.next (Redone found) → IsLawful window state (Settles (Redone found))
redo_so window state found in_window is_put said = record { in_window = in_window; is_put = is_put; is_verdict = said }

abbrev at : ℕ → ℕ → Pos
at x y = record { x = x; y = y }

abbrev put_by : ℕ → ℕ → Put
put_by hand ticket = record { hand = hand; ticket = ticket }

-- a hand may draw at any time
draws-lawful : (window : Window) (state : State) (hand : ℕ) → IsLawful window state (Draws hand)
draws-lawful window state hand = tt

-- after these events
abbrev pub after : List Event → State
after events = run all_seven (first_state all_seven) events

-- two hands draw a ticket each; the second puts the look of turn 1, then the first that of turn 0; both turns are
-- settled
abbrev two_drawn : List Event
two_drawn = Draws 0 ∷ Draws 1 ∷ []

abbrev one_put : List Event
one_put = two_drawn ++ Puts 1 1 ∷ []

abbrev pub two_put : List Event
two_put = one_put ++ Puts 0 0 ∷ []

abbrev pub two_settled : List Event
two_settled = two_put ++ Settles Taken ∷ Settles Taken ∷ []

two-lawful : AreLawful all_seven (first_state all_seven) two_settled
unfolding patched look_for look_of guess_for turn reads writes merged stepped is_surrounded check_at killed_at places_around put_cell same_pos neighbours_of adjacent_pos directions guess flips opening cell_in rock floor place_in drawn random_at state_at
two-lawful = (
  tt,
  (
    tt,
    (
      put_so all_seven _ 1 1 (omega arith) (0, omega arith, refl) refl,
      (
        put_so all_seven _ 0 0 (omega arith) (0, omega arith, refl) refl,
        (
          take_so all_seven _ (omega arith) (0, (1, omega arith, refl)) refl,
          (
            take_so all_seven _ (omega arith) (1, (0, omega arith, refl)) refl,
            tt,
          ),
        ),
      ),
    ),
  ),
)

two-state :
    ((after two_settled).drawn ≡ 2)
    × ((after two_settled).hands 0 ≡ 0 ∷ []) × ((after two_settled).hands 1 ≡ 1 ∷ []) × ((after two_settled).hands 2 ≡ [])
    × ((after two_settled).put ≡ put_by 1 1 ∷ put_by 0 0 ∷ [])
    × ((after two_settled).next ≡ 2)
    × ((after two_settled).verdicts ≡ Taken ∷ Taken ∷ [])
    × ((after two_settled).now.place ≡ 0)
    × (((after two_settled).now.world.cells (at 3 3)).ant ≡ None)
unfolding patched look_for look_of guess_for turn reads writes merged stepped is_surrounded check_at killed_at places_around put_cell same_pos neighbours_of adjacent_pos directions guess flips opening cell_in rock floor place_in drawn random_at state_at
two-state = (refl, refl, refl, refl, refl, refl, refl, refl, refl)

-- no turn is settled before its look is put, and none out of order
nothing-put : (verdict : Verdict) → ¬ IsLawful all_seven (after two_drawn) (Settles verdict)
nothing-put verdict can = not_put (after two_drawn) 0 refl can.is_put

out-of-order : (verdict : Verdict) → ¬ IsLawful all_seven (after one_put) (Settles verdict)
out-of-order verdict can = not_put (after one_put) 0 refl can.is_put

-- a look is put only by the hand that drew its ticket, never twice, and never for a ticket that wasn't drawn
other-hand : ¬ IsLawful all_seven (after two_drawn) (Puts 0 1)
other-hand can = ⊎_elim (λ same. let e : 0 ≡ 1 = same in omega arith) (λ none. absurd (Contains-none 1 none)) (Contains-cases 0 1 [] can.is_held)

put-twice : ¬ IsLawful all_seven (after one_put) (Puts 1 1)
put-twice can = can.is_new (1, (0, omega arith, refl))

not-drawn : ¬ IsLawful all_seven (first_state all_seven) (Puts 0 0)
not-drawn can = absurd (Contains-none 0 can.is_held)

-- turn 0 isn't executed again, for whatever cause: its look holds
holds-first : (found : Cause) → ¬ IsLawful all_seven (after two_put) (Settles (Redone found))
unfolding patched look_for look_of guess_for turn reads writes merged stepped is_surrounded check_at killed_at places_around put_cell same_pos neighbours_of adjacent_pos directions guess flips opening cell_in rock floor place_in drawn random_at state_at
holds-first found can = Redone-refutes all_seven (after two_put).now 0 found can.is_verdict (held all_seven (after two_put).now 0 refl)

-- the red ant of id 2 was killed by turn 1: its turn is executed again, and so is that of the red ant of id 4, whose
-- number was guessed to be the second and is the first. The first hand puts the look of turn 4 before that of turn 3
abbrev pub three_put : List Event
three_put = two_settled ++ Draws 1 ∷ Draws 0 ∷ Draws 0 ∷ Puts 0 4 ∷ Puts 1 2 ∷ []

abbrev pub killed : Verdict
killed = Redone (cause.Part (at 3 3) Who)

abbrev pub four_settled : List Event
four_settled = three_put ++ Settles killed ∷ Puts 0 3 ∷ Settles Taken ∷ []

abbrev pub guessed : Verdict
guessed = Redone (cause.Place 1 0)

abbrev pub five_settled : List Event
five_settled = four_settled ++ Settles guessed ∷ []

-- what is said of the killed ant, and of the random number
pub is-killed : IsVerdict all_seven (after three_put).now 2 killed
unfolding patched look_for look_of guess_for turn reads writes merged stepped is_surrounded check_at killed_at places_around put_cell same_pos neighbours_of adjacent_pos directions guess flips opening cell_in rock floor place_in drawn random_at state_at
is-killed = record {
  read = record { at = at 3 3; parts = record { who = true; mind = true; load = false; food = false; red_marks = false; black_marks = false } };
  is_read = (0, omega arith, refl);
  here = refl;
  named = refl;
  differs = unlike Who (all_seven.base.cells (at 3 3)) ((after three_put).now.world.cells (at 3 3)) refl;
}

pub is-guessed : IsVerdict all_seven (after four_settled).now 4 guessed
unfolding patched look_for look_of guess_for after_turn turn reads writes merged stepped is_surrounded check_at killed_at places_around put_cell same_pos neighbours_of adjacent_pos directions guess flips opening cell_in rock floor place_in drawn random_at state_at
is-guessed = record {
  unchanged = ((parts-test (record { who = true; mind = true; load = false; food = false; red_marks = false; black_marks = false }) (all_seven.base.cells (at 1 4)) ((after four_settled).now.world.cells (at 1 4))).0 refl, tt);
  flips = refl;
  is_guess = refl;
  is_actual = refl;
  differs = λ e. let one : 0 ≡ 1 = e in omega arith;
}

pub five-lawful : AreLawful all_seven (first_state all_seven) five_settled
unfolding patched look_for look_of guess_for after_turn turn reads writes merged stepped is_surrounded check_at killed_at places_around put_cell same_pos neighbours_of adjacent_pos directions guess flips opening cell_in rock floor place_in drawn random_at state_at
five-lawful = AreLawful-append all_seven (first_state all_seven) two_settled (Draws 1 ∷ Draws 0 ∷ Draws 0 ∷ Puts 0 4 ∷ Puts 1 2 ∷ Settles killed ∷ Puts 0 3 ∷ Settles Taken ∷ Settles guessed ∷ []) two-lawful (
  tt,
  (
    tt,
    (
      tt,
      (
        put_so all_seven _ 0 4 (omega arith) (2, omega arith, refl) refl,
        (
          put_so all_seven _ 1 2 (omega arith) (1, omega arith, refl) refl,
          (
            redo_so all_seven _ (cause.Part (at 3 3) Who) (omega arith) (1, (3, omega arith, refl)) is-killed,
            (
              put_so all_seven _ 0 3 (omega arith) (1, omega arith, refl) refl,
              (
                take_so all_seven _ (omega arith) (0, (4, omega arith, refl)) refl,
                (
                  redo_so all_seven _ (cause.Place 1 0) (omega arith) (0, (2, omega arith, refl)) is-guessed,
                  tt,
                ),
              ),
            ),
          ),
        ),
      ),
    ),
  ),
)

five-state :
    ((after five_settled).drawn ≡ 5)
    × ((after five_settled).hands 0 ≡ 0 ∷ 3 ∷ 4 ∷ []) × ((after five_settled).hands 1 ≡ 1 ∷ 2 ∷ [])
    × ((after five_settled).put ≡ put_by 1 1 ∷ put_by 0 0 ∷ put_by 0 4 ∷ put_by 1 2 ∷ put_by 0 3 ∷ [])
    × ((after five_settled).next ≡ 5)
    × ((after five_settled).verdicts ≡ Taken ∷ Taken ∷ killed ∷ Taken ∷ guessed ∷ [])
    × ((after four_settled).now.place ≡ 0) × ((after five_settled).now.place ≡ 1)
unfolding patched look_for look_of guess_for after_turn turn reads writes merged stepped is_surrounded check_at killed_at places_around put_cell same_pos neighbours_of adjacent_pos directions guess flips opening cell_in rock floor place_in drawn random_at state_at
five-state = (refl, refl, refl, refl, refl, refl, refl, refl)

-- the look at the killed ant's turn isn't taken, and no part is named that wasn't read, nor one that is unchanged
not-taken : ¬ IsLawful all_seven (after three_put) (Settles Taken)
unfolding patched look_for look_of guess_for turn reads writes merged stepped is_surrounded check_at killed_at places_around put_cell same_pos neighbours_of adjacent_pos directions guess flips opening cell_in rock floor place_in drawn random_at state_at
not-taken can = not_held all_seven (after three_put).now 2 refl can.is_verdict

-- all that turn 2 reads
read-two : (read : Claim) → Contains (reads all_seven.minds all_seven.base 2) read → read ≡ record { at = at 3 3; parts = record { who = true; mind = true; load = false; food = false; red_marks = false; black_marks = false } }
unfolding reads merged put_cell same_pos neighbours_of adjacent_pos directions opening cell_in rock floor place_in
read-two read held = ⊎_elim (λ same. sym same) (λ none. absurd (Contains-none read none)) (Contains-cases _ read [] held)

not-read : ¬ IsLawful all_seven (after three_put) (Settles (Redone (cause.Part (at 3 3) Load)))
not-read can = false≢true (ap (λ (read : Claim). has_part read.parts Load) (sym (read-two can.is_verdict.read can.is_verdict.is_read)) ∙ can.is_verdict.named)

-- nor are numbers said other than the guess and the place, in this order
not-exchanged : ¬ IsLawful all_seven (after four_settled) (Settles (Redone (cause.Place 0 1)))
unfolding patched look_for look_of guess_for after_turn turn reads writes merged stepped is_surrounded check_at killed_at places_around put_cell same_pos neighbours_of adjacent_pos directions guess flips opening cell_in rock floor place_in drawn random_at state_at
not-exchanged can = let e : 1 ≡ 0 = can.is_verdict.is_actual in omega arith

-- and none where a part differs
abbrev killed_elsewhere : Moment
killed_elsewhere = record { world = (after three_put).now.world; place = 1 }

parts-first : ¬ IsVerdict all_seven killed_elsewhere 2 (Redone (cause.Place 0 1))
unfolding patched look_for look_of guess_for turn reads writes merged stepped is_surrounded check_at killed_at places_around put_cell same_pos neighbours_of adjacent_pos directions guess flips opening cell_in rock floor place_in drawn random_at state_at
parts-first said = unlike Who (all_seven.base.cells (at 3 3)) (killed_elsewhere.world.cells (at 3 3)) refl (said.unchanged.0 Who refl)

-- a window of the one turn of id 4: ticket 0 is its first turn's, and the place rises where its look is taken. Whoever
-- draws a ticket beyond the window puts nothing
abbrev pub only_four : Window
only_four = record all_seven { from = 4; to = 5 }

abbrev four_taken : List Event
four_taken = Draws 3 ∷ Draws 3 ∷ Puts 3 0 ∷ Settles Taken ∷ []

four-lawful : AreLawful only_four (first_state only_four) four_taken
unfolding patched look_for look_of guess_for turn reads writes merged stepped is_surrounded check_at killed_at places_around put_cell same_pos neighbours_of adjacent_pos directions guess flips opening cell_in rock floor place_in drawn random_at state_at
four-lawful = (
  tt,
  (
    tt,
    (
      put_so only_four _ 3 0 (omega arith) (0, omega arith, refl) refl,
      (
        take_so only_four _ (omega arith) (3, (0, omega arith, refl)) refl,
        tt,
      ),
    ),
  ),
)

four-state :
    ((run only_four (first_state only_four) four_taken).next ≡ 5)
    × ((run only_four (first_state only_four) four_taken).drawn ≡ 2)
    × ((run only_four (first_state only_four) four_taken).hands 3 ≡ 0 ∷ 1 ∷ [])
    × ((run only_four (first_state only_four) four_taken).now.place ≡ 1)
unfolding patched look_for look_of guess_for turn reads writes merged stepped is_surrounded check_at killed_at places_around put_cell same_pos neighbours_of adjacent_pos directions guess flips opening cell_in rock floor place_in drawn random_at state_at
four-state = (refl, refl, refl, refl)

beyond : ¬ IsLawful only_four (run only_four (first_state only_four) four_taken) (Puts 3 1)
beyond can = let late : 4 + 1 < 5 = can.is_turn in omega arith

settled-all : (verdict : Verdict) → ¬ IsLawful only_four (run only_four (first_state only_four) four_taken) (Settles verdict)
settled-all verdict can = let late : 5 < 5 = can.in_window in omega arith

-- a brain of one instruction whose states are its own
one_brain : (instruction : Instr) → IsSoundInstr 1 instruction → IsBrain (instruction ∷ [])
one_brain instruction own = record { some = omega arith; few = omega arith; sound = at-most-one } where
  at-most-one : (i : ℕ) (one : Instr) → slice_get (instruction ∷ []) i ≡ Some one → IsSoundInstr 1 one
  at-most-one zero one is = let same : instruction ≡ one = (let e : Some instruction ≡ Some one = is in cc) in subst (IsSoundInstr 1) same own
  at-most-one (suc i) one is = let never : None ≡ Some one = is in absurd (cc)

-- the window of all seven turns is one whose turns are turns
pub seven-sound : IsSound all_seven
seven-sound = record {
  valid = (IsWorld-opening 7 6 kinds (IsPlan-test 7 6 kinds refl)).valid;
  sound = record {
    red = one_brain (Flip 2 0 0) (omega arith, omega arith, omega arith);
    black = one_brain (Move 0 0) (omega arith, omega arith);
    corpse = omega arith;
  };
  fits = Fits-opening 7 6 kinds minds (omega arith) (omega arith);
  forwards = omega arith;
}

-- the window is closed: its last two looks are put, and their turns settled
abbrev all_settled : List Event
all_settled = five_settled ++ Draws 1 ∷ Draws 0 ∷ Puts 0 6 ∷ Puts 1 5 ∷ Settles Taken ∷ Settles Taken ∷ []

all-lawful : AreLawful all_seven (first_state all_seven) all_settled
unfolding patched look_for look_of guess_for after_turn turn reads writes merged stepped is_surrounded check_at killed_at places_around put_cell same_pos neighbours_of adjacent_pos directions guess flips opening cell_in rock floor place_in drawn random_at state_at
all-lawful = AreLawful-append all_seven (first_state all_seven) five_settled (Draws 1 ∷ Draws 0 ∷ Puts 0 6 ∷ Puts 1 5 ∷ Settles Taken ∷ Settles Taken ∷ []) five-lawful (
  tt,
  (
    tt,
    (
      put_so all_seven _ 0 6 (omega arith) (3, omega arith, refl) refl,
      (
        put_so all_seven _ 1 5 (omega arith) (2, omega arith, refl) refl,
        (
          take_so all_seven _ (omega arith) (1, (6, omega arith, refl)) refl,
          (
            take_so all_seven _ (omega arith) (0, (5, omega arith, refl)) refl,
            tt,
          ),
        ),
      ),
    ),
  ),
)

all-state :
    ((after all_settled).next ≡ 7)
    × ((after all_settled).verdicts ≡ Taken ∷ Taken ∷ killed ∷ Taken ∷ guessed ∷ Taken ∷ Taken ∷ [])
    × ((after all_settled).drawn ≡ 7)
unfolding patched look_for look_of guess_for after_turn turn reads writes merged stepped is_surrounded check_at killed_at places_around put_cell same_pos neighbours_of adjacent_pos directions guess flips opening cell_in rock floor place_in drawn random_at state_at
all-state = (refl, refl, refl)

-- so the law says of these very events that they led where the seven turns lead one after another
all-reached : (after all_settled).now ≡ moment_before all_seven 7
all-reached = (IsReached-every all_seven all_settled seven-sound (LookIsTurn-window all_seven seven-sound) all-lawful).now ∙ ap (moment_before all_seven) all-state.0
