-- Games that continue by rounds.
use Rattle.std.proofs.Common.{◌≡◌, ℕ, zero, suc, ◌+◌, ◌≤◌, refl, sym, ◌∙◌, ap, subst, arith}
use Rattle.ant_turn.specs.HillLaws.{game_after}
use Rattle.ant_turn.specs.Rounds.{Moment, after_rounds, start_of}
use Rattle.ant_turn.proofs.HillsKept.{games_keep_hills}
use Rattle.cell_world.specs.Grid.{Grid, world_of}
use Rattle.round_book.specs.Book.{FieldValue, field_moment}
use Rattle.round_book.proofs.BookLemmas.{moment_at}
use Rattle.match_run.specs.Counts.{totals_of}
use Rattle.match_run.specs.GameLaws.{AreRounds, GamesFollowTheRules, GamesGoOnByRounds, GamesKeepTheirHills, IsRoundAtLast}
use Rattle.match_run.specs.Game.{GameValue, GoesOnFor, IsRoundPlayed, beginning}
use Rattle.match_run.specs.Run.{world_after}
use Rattle.match_run.proofs.CountLaws.{broken_rounds_go_on}
use Rattle.match_run.proofs.CountLemmas.{none-both}
use Rattle.match_run.proofs.PlayLemmas.{GoesOnFor-more, GoesOnFor-none}

-- a round that was refused and continued is a round
at-last : (refusals : ℕ) (old new : GameValue) → 1 ≤ old.window → IsRoundAtLast refusals old new → IsRoundPlayed old new
at-last zero old new sized played = played
at-last (suc refusals) old new sized (mid, refused, rest) =
    broken_rounds_go_on old mid new sized refused (at-last refusals mid new (let e : mid.window ≡ old.window = refused.same.window in omega arith) rest)

pub AreRounds-played : (old mid new : GameValue) (r : ℕ) → AreRounds r old mid → IsRoundPlayed mid new → AreRounds (suc r) old new
AreRounds-played old mid new r rounds played = (mid, rounds, (0, played))

pub games_go_on_by_rounds : GamesGoOnByRounds
games_go_on_by_rounds old new zero sized ends is = subst (λ (game : GameValue). GoesOnFor old game 0) (sym is) (GoesOnFor-none old ends)
games_go_on_by_rounds old new (suc r) sized ends (mid, rounds, (refusals, last)) =
    let before = games_go_on_by_rounds old mid r sized ends rounds in
    let one_more : r + 1 ≡ suc r = omega arith in
    subst (GoesOnFor old new) one_more (GoesOnFor-more before new (at-last refusals mid new (let e : mid.window ≡ old.window = before.same.window in omega arith) last))

-- a field at place 0 stands where a game of its world starts
field-start : (field : FieldValue) → field.place ≡ 0 → field_moment field ≡ start_of (world_of field.world)
field-start field first = ap (moment_at (world_of field.world)) first

pub games_follow_the_rules : GamesFollowTheRules
unfolding world_after
games_follow_the_rules field window r game sized first rounds =
    let on = games_go_on_by_rounds (beginning field window) game r sized refl rounds in
    let start = field-start field first in
    record {
      world = ap (λ (m : Moment). m.world) on.now ∙ ap (λ (m : Moment). (after_rounds field.minds field.seed m r).world) start;
      place = ap (λ (m : Moment). m.place) on.now ∙ ap (λ (m : Moment). (after_rounds field.minds field.seed m r).place) start;
      totals = on.totals ∙ none-both (totals_of field.minds field.seed window (field_moment field) r) ∙ ap (λ (m : Moment). totals_of field.minds field.seed window m r) start;
      done = on.done ∙ omega arith;
      next = on.next;
      same = on.same;
    }

pub games_keep_their_hills : GamesKeepTheirHills
games_keep_their_hills width height kinds field window r game plan sound opens first on world =
    let now : world_of game.field.world ≡ (game_after field.minds field.seed width height kinds r).world =
    ap (λ (m : Moment). m.world) on.now
    ∙ ap (λ (m : Moment). (after_rounds field.minds field.seed m r).world) (field-start field first)
    ∙ ap (λ (g : Grid). (after_rounds field.minds field.seed (start_of (world_of g)) r).world) opens in
    games_keep_hills.cells field.minds field.seed width height kinds r game.field.world plan sound world.full now
