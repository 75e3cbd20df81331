-- A game that was played up to a round is saved as the rules' game, and one that went on from a save as that save,
-- advanced.
use Rattle.std.proofs.Common.{◌≡◌, ℕ, ◌+◌, ◌-◌, ◌≤◌, List, sym, ◌∙◌, ap, subst, arith}
use Rattle.ant_turn.specs.HillLaws.{hill_cells}
use Rattle.ant_turn.specs.Minds.{AreSound, Minds}
use Rattle.ant_turn.specs.Rounds.{Moment, after_rounds, start_of}
use Rattle.ant_turn.proofs.HillsKept.{games_keep_hills}
use Rattle.cell_world.specs.declared.kind.Kind.{Kind}
use Rattle.cell_world.specs.Grid.{Grid, IsWorld, world_of}
use Rattle.cell_world.specs.Opening.{IsPlan, opening}
use Rattle.dump_print.specs.declared.totals.Totals.{Totals}
use Rattle.match_run.specs.Game.{GameValue, GoesOnFor, game_at_round}
use Rattle.match_run.specs.GameLaws.{IsAtRound}
use Rattle.match_run.specs.Run.{world_after}
use Rattle.match_save.specs.Advanced.{advanced}
use Rattle.match_save.specs.Resumed.{field_of}
use Rattle.match_save.specs.Saved.{IsSaved, SavedValue, draft_of}
use Rattle.match_save.specs.Saves.{CanBeSaved, grid_at, save_of, saved_after}
use Rattle.match_save.proofs.AfterRounds.{IsKnown-advanced, grid_at-world}
use Rattle.round_book.specs.Book.{FieldValue}

-- a save that has what a game has is the game's
save_of-is : (game : GameValue) (seed window round place : ℕ) (totals : Totals) (minds : Minds) (world : Grid) → game.field.seed ≡ seed → game.window ≡ window → game.done ≡ round → game.field.place ≡ place → game.totals ≡ totals
    → game.field.minds ≡ minds → game.field.world ≡ world → save_of game ≡ record { seed = seed; window = window; round = round; place = place; totals = totals; minds = minds; world = world }
save_of-is game seed window round place totals minds world a b c d e f g = cc

module _ (field : FieldValue) (window r : ℕ) (game : GameValue) (at : IsAtRound field window r game) (world : IsWorld game.field.world) where
  -- a game that began at place 0 on the opening world of these kinds can be saved
  pub can_be_saved : field.place ≡ 0 → window ≤ 16384 → (kinds : List Kind) → IsPlan field.world.width field.world.height kinds → field.world ≡ opening field.world.width field.world.height kinds
      → AreSound game.field.minds → CanBeSaved game
  unfolding world_after
  can_be_saved first narrow kinds plan is sound = record {
    at_end = at.next;
    from_start = at.same.first_place ∙ first;
    window = (let w = at.same.window in omega (arith, w, narrow));
    hills = games_keep_hills.cells field.minds field.seed field.world.width field.world.height kinds r game.field.world plan (subst AreSound at.same.minds sound) world.full
        (at.world ∙ ap (λ (g : Grid). (after_rounds field.minds field.seed (start_of (world_of g)) r).world) is);
  }

  -- and its save is that of the rules' game
  pub saved_at : save_of game ≡ saved_after field.minds field.seed window (world_of field.world) r
  unfolding saved_after world_after
  saved_at =
      save_of-is game _ _ _ _ _ _ _ at.same.seed at.same.window at.done at.place at.totals at.same.minds
      (sym (grid_at-world game.field.world world) ∙ ap grid_at at.world)

-- a game that went on from a save
module _ (s : SavedValue) (is : IsSaved s) (n more : ℕ) (all : s.round + more ≡ n) (first game : GameValue) (begins : first ≡ game_at_round (field_of s) s.window s.round s.totals) (played : GoesOnFor first game more) (world : IsWorld game.field.world) where
  on : GoesOnFor (game_at_round (field_of s) s.window s.round s.totals) game (n - s.round)
  on = subst (GoesOnFor (game_at_round (field_of s) s.window s.round s.totals) game) (omega (arith, all)) (subst (λ (it : GameValue). GoesOnFor it game more) begins played)

  -- its save is that save, advanced
  pub saved_later : save_of game ≡ advanced s n
  unfolding advanced
  saved_later =
      save_of-is game _ _ _ _ _ _ _ on.same.seed on.same.window (on.done ∙ omega (arith, all)) (ap (λ (m : Moment). m.place) on.now) on.totals on.same.minds
      (sym (grid_at-world game.field.world world) ∙ ap (λ (m : Moment). grid_at m.world) on.now)

  -- and it can be saved
  pub can_be_saved_later : n ≤ 1000000 → CanBeSaved game
  unfolding draft_of
  can_be_saved_later few = record {
    at_end = on.next;
    from_start = on.same.first_place;
    window = (let w = on.same.window in let narrow = is.in_form.head.window in omega (arith, w, narrow));
    hills = subst (λ (g : Grid). hill_cells g.cells ≡ g.ids) (sym (ap (λ (it : SavedValue). it.world) saved_later)) (IsKnown-advanced s is n (omega (arith, all)) few).hills;
  }
