-- Rounds of a game, whole or broken off.
use Rattle.std.proofs.Common.{◌≡◌, ℕ, zero, suc, ◌+◌, ◌-◌, ◌*◌, ◌%◌, ◌<◌, ◌≤◌, ◌^◌, true, refl, sym, ◌∙◌, ap, arith}
use Rattle.std.proofs.Math.Nat.{add-mul-mod_self_right, mod-eq_of_lt}
use Rattle.cell_world.specs.Limits.{most_ants}
use Rattle.ant_turn.specs.Rounds.{after_round, after_turns}
use Rattle.dump_print.specs.declared.totals.Totals.{Totals}
use Rattle.round_book.specs.Book.{FieldValue, field_moment}
use Rattle.match_run.specs.Counts.{both, round_totals, sum_windows, windows_of}
use Rattle.match_run.specs.Game.{CanGoOn, GameValue, IsGame, IsRoundPlayed, IsSameGame, beginning, game_at_round, now_of}
use Rattle.match_run.specs.declared.game.Game.TheInside.{Inside}
use Rattle.match_run.specs.Inner.Windows.{WindowsPlayed}
use Rattle.match_run.specs.Run.{most_rounds}
use Rattle.match_run.proofs.CountLemmas.{windows_of-is}
use Rattle.match_run.proofs.WindowLemmas.{played-next, played-place, played-turns}

-- the first turn is the first of a window
none-over : (n : ℕ) → 1 ≤ n → 0 % n ≡ 0
none-over n more = mod-eq_of_lt (omega (arith, more))

-- a game that begins is one
pub IsGame-beginning : (field : FieldValue) (window : ℕ) → field.whole ≡ true → field.place < 2 ^ 62 → 1 ≤ window → IsGame (beginning field window)
IsGame-beginning field window whole early sized = record {
  whole = whole;
  few = omega arith;
  sized = sized;
  at_window = none-over window sized;
  not_last = λ more. absurd (omega (arith, more));
  turns = omega arith;
  add_up = refl;
  place_from = omega arith;
  place_to = omega arith;
  early = early;
}

-- a game that can continue is a game
pub IsGame-game_at_round : (field : FieldValue) (window done : ℕ) (totals : Totals) → CanGoOn field window done totals → IsGame (game_at_round field window done totals)
IsGame-game_at_round field window done totals can = record {
  whole = can.whole;
  few = can.few;
  sized = can.sized;
  at_window = none-over window can.sized;
  not_last = λ later. absurd (let wrong : ⊥ = omega arith in wrong);
  turns = can.turns ∙ omega arith;
  add_up = can.add_up;
  place_from = omega arith;
  place_to = omega (arith, can.place);
  early = omega arith;
}

-- the next turn of a game is a turn, or there is none
pub next-within : (game : GameValue) → IsGame game → game.next ≤ game.field.world.ids
next-within game is = go game.next (game.field.world.ids) is.not_last where
  go : (next ids : ℕ) → (0 < next → next < ids) → next ≤ ids
  go zero ids not_last = omega arith
  go (suc next) ids not_last = (let below = not_last (omega arith) in omega (arith, below))

-- the numbers of a game are small
pub totals-small : (game : GameValue) → IsGame game → game.done < most_rounds → game.field.world.ids ≤ most_ants → game.totals.turns + (game.field.world.ids - game.next) < 2 ^ 62
totals-small game is few ants =
    let turns = is.turns in
    let within = next-within game is in
    let product : game.field.world.ids * game.done ≤ most_ants * most_rounds = grind (arith, few, ants) in
    omega (arith, turns, within, product, ants)

-- the stream lasts for the turns that are left
pub game-lasting : (game : GameValue) → IsGame game → game.done < most_rounds → game.field.world.ids ≤ most_ants → game.field.place + (game.field.world.ids - game.next) < 2 ^ 63
game-lasting game is few ants =
    let small = totals-small game is few ants in
    let early = is.early in
    let place = is.place_to in
    omega (arith, small, early, place)

abbrev with_field : GameValue → FieldValue → ℕ → ℕ → Totals → GameValue
with_field game field done next totals = record { field = field; window = game.window; first_place = game.first_place; done = done; next = next; totals = totals }

module _ (old : GameValue) (field : FieldValue) (next : ℕ) (totals : Totals) (is : IsGame old) (add_up : totals.taken + totals.redone ≡ totals.turns)
    (played : WindowsPlayed old.field old.window old.next old.totals field next totals) where
  same : (done later : ℕ) → IsSameGame old (with_field old field done later totals)
  same done later = record { minds = played.minds; seed = played.seed; ids = played.ids; window = refl; first_place = refl }

  -- if a window was refused
  pub IsGame-refused : next < old.field.world.ids → IsGame (with_field old field old.done next totals)
  IsGame-refused left =
      let within = next-within old is in
      let here = played-next played left in
      let turns = played-turns played within in
      let before = is.turns in
      let ids = played.ids in
      let place = played-place played in
      let place_from = place.from in
      let place_to = place.to in
      let first_from = is.place_from in
      let first_to = is.place_to in
      record {
        whole = played.whole;
        few = is.few;
        sized = is.sized;
        at_window = ap (λ t. t % old.window) here ∙ add-mul-mod_self_right old.next played.windows old.window ∙ is.at_window;
        not_last = λ more. omega (arith, ids, left);
        turns = ap (λ t. t) turns ∙ (omega (arith, before, here, within)) ∙ ap (λ n. n * old.done + next) (sym ids);
        add_up = add_up;
        place_from = omega (arith, place_from, first_from);
        place_to = omega (arith, place_to, first_to, turns, here);
        early = is.early;
      }

  -- if all windows were played
  pub IsGame-played : old.done < most_rounds → old.field.world.ids ≤ next → IsGame (with_field old field (old.done + 1) 0 totals)
  IsGame-played few over =
      let within = next-within old is in
      let last = played.next_is in
      let turns = played-turns played within in
      let before = is.turns in
      let ids = played.ids in
      let place = played-place played in
      let place_from = place.from in
      let place_to = place.to in
      let first_from = is.place_from in
      let first_to = is.place_to in
      let all : totals.turns ≡ old.field.world.ids * (old.done + 1) + 0 = omega (arith, turns, before, last, over, within) in
      record {
        whole = played.whole;
        few = omega (arith, few);
        sized = is.sized;
        at_window = none-over old.window is.sized;
        not_last = λ more. absurd (omega (arith, more));
        turns = all ∙ ap (λ n. n * (old.done + 1) + 0) (sym ids);
        add_up = add_up;
        place_from = omega (arith, place_from, first_from);
        place_to = omega (arith, place_to, first_to, turns, last, over);
        early = is.early;
      }

  pub IsRoundPlayed-windows : old.field.world.ids ≤ next → IsRoundPlayed old (with_field old field (old.done + 1) 0 totals)
  IsRoundPlayed-windows over =
      let within = next-within old is in
      let last = played.next_is in
      let had = played.had_turns in
      let sized = is.sized in
      let turns : next - old.next ≡ old.field.world.ids - old.next = omega (arith, last, over) in
      let count : windows_of old.window (old.field.world.ids - old.next) ≡ played.windows =
      windows_of-is old.window (old.field.world.ids - old.next) played.windows sized (omega (arith, last, over, within)) (omega (arith, had, within)) in
      record {
        now = played.now ∙ ap (after_turns old.field.minds old.field.seed (field_moment old.field) old.next) turns;
        totals = played.totals_are ∙ ap (λ n. both old.totals (sum_windows old.field.minds old.field.seed old.window (field_moment old.field) old.next n)) (sym count);
        done = refl;
        next = refl;
        same = same (old.done + 1) 0;
      }

-- what a contract sees of the fields of a game
abbrev pub of_game : Inside → GameValue
of_game game = record { field = game.field; window = game.window; first_place = game.first_place; done = game.done; next = game.next; totals = game.totals }

-- a round that begins with the turn of id 0 and is played to its end is a round
pub whole-moment : (old new : GameValue) → old.next ≡ 0 → IsRoundPlayed old new → now_of new ≡ after_round old.field.minds old.field.seed (now_of old)
unfolding after_round
whole-moment old new first played =
    let all : old.field.world.ids - 0 ≡ old.field.world.ids = omega arith in
    played.now
    ∙ ap (λ (next : ℕ). after_turns old.field.minds old.field.seed (now_of old) next (old.field.world.ids - next)) first
    ∙ ap (after_turns old.field.minds old.field.seed (now_of old) 0) all

pub whole-totals : (old new : GameValue) → old.next ≡ 0 → IsRoundPlayed old new → new.totals ≡ both old.totals (round_totals old.field.minds old.field.seed old.window (now_of old))
unfolding round_totals
whole-totals old new first played =
    let all : old.field.world.ids - 0 ≡ old.field.world.ids = omega arith in
    played.totals
    ∙ ap (λ (next : ℕ). both old.totals (sum_windows old.field.minds old.field.seed old.window (now_of old) next (windows_of old.window (old.field.world.ids - next)))) first
    ∙ ap (λ turns. both old.totals (sum_windows old.field.minds old.field.seed old.window (now_of old) 0 (windows_of old.window turns))) all
