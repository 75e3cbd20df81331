-- Each law of windows and books, used on a window of seven turns: a weaker law would not do.
use Rattle.std.proofs.Common.{◌≡◌, ℕ, ◌+◌, ◌<◌, ◌≤◌, true, false, List, [], ◌∷◌, ◌++◌, Some, None, refl, sym, ◌∙◌, arith}
use Rattle.std.proofs.lemmas.Bool.{false≢true}
use Rattle.std.specs.List.{AllByRecursion, Contains}
use Rattle.hex_geometry.proofs.Places.{at}
use Rattle.cell_world.specs.declared.part.Part.TheVariants.{Food, Who}
use Rattle.cell_world.specs.Opening.{floor, opening}
use Rattle.cell_world.specs.Parts.{only}
use Rattle.cell_world.specs.World.{Cells}
use Rattle.ant_turn.specs.Minds.{Fits}
use Rattle.spec_record.specs.Holds.{LookHolds}
use Rattle.spec_record.specs.Look.{LookValue}
use Rattle.spec_record.proofs.LooksWorked.{field, kinds, minds}
use Rattle.round_book.specs.declared.verdict.Cause.{Cause}
use Rattle.round_book.specs.declared.verdict.Cause.TheVariants as cause
use Rattle.round_book.specs.declared.verdict.Verdict.{Verdict}
use Rattle.round_book.specs.declared.verdict.Verdict.TheVariants.{Taken}
use Rattle.round_book.specs.Book.{AgreesUnwritten, BookValue, CanTake, FieldValue, IsCause, IsRedone, IsSameWindow, IsTaken, StandsFor, begun, moment_of, window_of}
use Rattle.round_book.specs.BookLaws.{BooksAreReached, IsAt, StandingBooksSettle}
use Rattle.round_book.specs.CountLaws.{CausesRefute, CountsAddUp, SingleTurnsAreTaken, TakenWhereItHolds}
use Rattle.round_book.specs.Counts.{counts_of, is_taken, look_holds}
use Rattle.round_book.specs.Machine.{AreLawful, Event, IsLawful, IsPut, State, first_state, run, times}
use Rattle.round_book.specs.Machine.Event.{Settles}
use Rattle.round_book.specs.MachineLaws.{EveryInterleaving, PutTurnsSettle}
use Rattle.round_book.specs.Window.{AreVerdicts, HoldsIn, IsPlayable, look_for, moment_before}
use Rattle.round_book.proofs.CountsWorked.{all_seven, redone-seven}
use Rattle.round_book.proofs.MachineWorked.{after, five-lawful, five_settled, four_settled, guessed, is-guessed, is-killed, killed, only_four, seven-sound, three_put, two_put}

-- after five of the seven turns, in the order in which two hands settled them
pub every_interleaving_used : EveryInterleaving →
    (0 ≤ (after five_settled).next) × (5 ≤ 7)
    × ((after five_settled).now ≡ moment_before all_seven 5)
    × AreVerdicts all_seven 5 (Taken ∷ Taken ∷ killed ∷ Taken ∷ guessed ∷ [])
    × ((x : ℕ) → 5 ≤ x → (hand : ℕ) → times x ((after five_settled).hands hand) ≡ 0)
    × ((hand : ℕ) × (times 4 ((after five_settled).hands hand) ≡ 1))
    × Contains {X = ℕ} (0 ∷ 3 ∷ 4 ∷ []) 3
every_interleaving_used law =
    let reached = law all_seven five_settled seven-sound five-lawful in
    let drawn : 4 < 5 = omega arith in
    let fourth = reached.dealt.each 4 drawn in (
      reached.from_first,
      reached.to_last,
      reached.now,
      reached.verdicts,
      reached.dealt.no_other,
      (fourth.0, fourth.1),
      reached.drew_it (record { hand = 0; ticket = 3 }) (4, omega arith, refl),
    )

-- once two looks are put, the first turn may be settled
pub put_turns_settle_used : PutTurnsSettle → (verdict : Verdict) × IsLawful all_seven (after two_put) (Settles verdict)
put_turns_settle_used law = law all_seven (after two_put) (omega arith) (0, (1, omega arith, refl))

-- the field of the window, and the book with which the window begins
abbrev game : FieldValue
game = record { world = opening 7 6 kinds; minds = minds; seed = 12345; place = 0; whole = true; lent = None }

abbrev book : BookValue
book = begun game 0 7

seven-playable : IsPlayable all_seven
unfolding opening
seven-playable = let made : 7 ≤ 7 = omega arith in record {
  valid = seven-sound.valid;
  sound = seven-sound.sound;
  fits = seven-sound.fits;
  forwards = omega arith;
  ids = made;
  lasting = omega arith;
}

book-stands : StandsFor all_seven book
unfolding moment_before
book-stands = record {
  playable = seven-playable;
  begun = omega arith;
  stands = record { seed = refl; from = refl; to = refl; now = refl; verdicts = refl; unwritten = λ p _. refl };
}

-- its first turn may be settled, and then the book stands where that turn leads: the look was taken, or the turn
-- executed again
pub standing_books_settle_used : StandingBooksSettle →
    ((look_for all_seven 0).turn ≡ 0)
    × AllByRecursion (AgreesUnwritten book) (look_for all_seven 0).reads
    × (LookHolds (look_for all_seven 0) field.cells 0 → CanTake field (look_for all_seven 0).writes)
    × Fits field minds
    × ((new : BookValue) → IsTaken (look_for all_seven 0) book new → IsSameWindow book new → moment_of new ≡ moment_before all_seven new.next)
    × ((found : Cause) (new : BookValue) → IsCause (look_for all_seven 0) (moment_of book) found → IsRedone minds found book new → IsSameWindow book new →
    moment_of new ≡ moment_before all_seven new.next)
standing_books_settle_used law =
    let may = law.may all_seven book book-stands (omega arith) in (
      may.turn,
      may.unwritten,
      may.writes,
      may.fit,
      (λ new taken same. (law.stands all_seven None book new book-stands (omega arith) taken same).stands.now),
      (λ found new why redone same. (law.stands all_seven (Some found) book new book-stands (omega arith) (why, redone) same).stands.now),
    )

-- events lead to every book that stands, and settling is one
pub books_are_reached_used : BooksAreReached →
    ((from to : ℕ) → IsAt (first_state (window_of game from to)) (begun game from to))
    × ((events : List Event) × AreLawful all_seven (first_state all_seven) events × IsAt (run all_seven (first_state all_seven) events) book)
    × ((new : BookValue) (state : State) → IsTaken (look_for all_seven 0) book new → IsAt state book → IsPut state 0 →
    IsLawful all_seven state (Settles Taken) × (state.next + 1 ≡ new.next) × (state.verdicts ++ Taken ∷ [] ≡ new.verdicts))
books_are_reached_used law = (
  law.first game,
  law.reached all_seven book book-stands (omega arith),
  (λ new state taken is_at is_put.
      let settled = law.settled all_seven None book new state book-stands (omega arith) taken is_at is_put in
      (settled.0, settled.1.next, settled.1.verdicts)),
)

-- seven turns
pub counts_add_up_used : CountsAddUp → (counts_of all_seven).taken + (counts_of all_seven).redone ≡ 7
counts_add_up_used law = law all_seven

-- the turn of id 4 alone
pub single_turns_are_taken_used : SingleTurnsAreTaken → counts_of only_four ≡ record { taken = 1; redone = 0 }
unfolding opening
single_turns_are_taken_used law =
    let made : 5 ≤ 7 = omega arith in
    let playable : IsPlayable only_four = record {
      valid = seven-sound.valid;
      sound = seven-sound.sound;
      fits = seven-sound.fits;
      forwards = omega arith;
      ids = made;
      lasting = omega arith;
    } in
    law only_four playable refl

-- a look that read four particles on (1, 1) and drew the number at place 3
abbrev found_food : LookValue
found_food = record { turn = 0; guess = 3; drew = true; reads = (at 1 1, only Food, record floor { food = 4 }) ∷ []; writes = []; killed = [] }

-- the test of it is true of those cells at that place alone; and of the turns of the window the killed ant's isn't
-- taken
pub taken_where_it_holds_used : TakenWhereItHolds →
    ((cells : Cells) (place : ℕ) → look_holds found_food cells place ≡ true → (4 ≡ (cells (at 1 1)).food) × (place ≡ 3))
    × ((cells : Cells) (place : ℕ) → LookHolds found_food cells place → look_holds found_food cells place ≡ true)
    × (¬ HoldsIn all_seven (moment_before all_seven 2) 2)
    × (is_taken all_seven 1 ≡ true → HoldsIn all_seven (moment_before all_seven 1) 1)
taken_where_it_holds_used law = (
  (λ cells place is. let holds = (law.look found_food cells place).0 is in (holds.unchanged.0 Food refl, holds.guessed refl)),
  (λ cells place. (law.look found_food cells place).1),
  (λ holds. false≢true (sym redone-seven.0 ∙ (law.turn all_seven 2).1 holds)),
  (law.turn all_seven 1).0,
)

-- why two turns were executed again: their looks don't hold
pub causes_refute_used : CausesRefute → (¬ HoldsIn all_seven (after three_put).now 2) × (¬ HoldsIn all_seven (after four_settled).now 4)
causes_refute_used law = (law all_seven (after three_put).now 2 (cause.Part (at 3 3) Who) is-killed, law all_seven (after four_settled).now 4 (cause.Place 1 0) is-guessed)
