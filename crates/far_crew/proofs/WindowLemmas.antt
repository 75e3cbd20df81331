-- The guesses and looks of a window's turns.
use Rattle.std.proofs.Common.{◌≡◌, ℕ, ◌+◌, ◌-◌, ◌<◌, ◌≤◌, ◌^◌, length, slice_index_or, ap, sym, subst, ◌∙◌, List, arith}
use Rattle.std.specs.List.{AllByRecursion}
use Rattle.cell_world.specs.Grid.{Grid, world_of}
use Rattle.ant_turn.specs.Minds.{Minds}
use Rattle.spec_record.specs.Look.{LookValue, look_of}
use Rattle.round_book.specs.Book.{CanBegin, FieldValue, window_of}
use Rattle.round_book.specs.Window.{guess_for, guesses_for, look_for}
use Rattle.round_book.proofs.GuessLemmas.{guesses_for-at, guesses_for-length, guesses_for-small}
use Rattle.far_crew.specs.declared.guesses.GuessedTurns.{GuessedTurns}
use Rattle.far_crew.specs.Inner.Turns.{AreTurnsOf, CanLookAt}

-- the look at a turn's guess is the turn's
pub look_for_is : (field : FieldValue) (from to t guess : ℕ) → guess ≡ guess_for (window_of field from to) t → look_of field.minds field.seed (world_of field.world) guess t ≡ look_for (window_of field from to) t
unfolding look_for
look_for_is field from to t guess is = ap (λ g. look_of field.minds field.seed (world_of field.world) g t) is

-- and so is a look that is made there
pub look_made : (field : FieldValue) (from to t : ℕ) (minds : Minds) (seed : ℕ) (world : Grid) (guess : ℕ) (look : LookValue) → minds ≡ field.minds → seed ≡ field.seed → world ≡ field.world → guess ≡ guess_for (window_of field from to) t →
    look ≡ look_of minds seed (world_of world) guess t → look ≡ look_for (window_of field from to) t
look_made field from to t minds seed world guess look own_minds own_seed own_world guessed made =
    made
    ∙ ap (λ m. look_of m seed (world_of world) guess t) own_minds
    ∙ ap (λ s. look_of field.minds s (world_of world) guess t) own_seed
    ∙ ap (λ (g : Grid). look_of field.minds field.seed (world_of g) guess t) own_world
    ∙ look_for_is field from to t guess guessed

-- there is a guess for each turn
pub guesses_count : (field : FieldValue) (from to : ℕ) (guesses : List ℕ) → guesses ≡ guesses_for (window_of field from to) → length guesses ≡ to - from
guesses_count field from to guesses is = ap length is ∙ guesses_for-length (window_of field from to)

-- at which a number can be drawn
pub guesses_small : (field : FieldValue) (from to : ℕ) (guesses : List ℕ) → CanBegin field from to → guesses ≡ guesses_for (window_of field from to) → AllByRecursion (λ g. g + 1 < 2 ^ 63) guesses
guesses_small field from to guesses begin is = subst (AllByRecursion (λ g. g + 1 < 2 ^ 63)) (sym is) (guesses_for-small (window_of field from to) begin.forwards begin.lasting)

-- so its turns can be looked at
pub can_look : (field : FieldValue) (turns : GuessedTurns) → AreTurnsOf field turns → CanLookAt field.world turns
can_look field turns of = record {
  forwards = of.begins.forwards;
  ids = of.begins.ids;
  count = guesses_count field turns.from turns.to turns.guesses.now of.guesses;
  small = guesses_small field turns.from turns.to turns.guesses.now of.begins of.guesses;
}

-- which is the turn's
pub guesses-at : (field : FieldValue) (from to t : ℕ) (guesses : List ℕ) → guesses ≡ guesses_for (window_of field from to) → from ≤ t → t < to → slice_index_or guesses (t - from) 0 ≡ guess_for (window_of field from to) t
guesses-at field from to t guesses is first last =
    let at : from + (t - from) ≡ t = omega arith in
    ap (λ (l : List ℕ). slice_index_or l (t - from) 0) is ∙ guesses_for-at (window_of field from to) (t - from) 0 (omega arith) ∙ ap (guess_for (window_of field from to)) at
