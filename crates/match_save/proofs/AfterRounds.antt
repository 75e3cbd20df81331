-- What later rounds make of a save is one; so is the save of a game by the rules.
use Rattle.std.proofs.Common.{◌≡◌, ℕ, zero, suc, ◌+◌, ◌-◌, ◌*◌, ◌<◌, ◌≤◌, Bool, true, false, cond, List, [], ◌∷◌, ◌++◌, length, get_or, take, refl, sym, ◌∙◌, ap, ap₂, subst, inl, inr, arith, take_all, add-one}
use Rattle.std.proofs.Math.Path.{fun_ext}
use Rattle.std.specs.List.{AllByRecursion}
use Rattle.std.proofs.lemmas.Bool.{cases_lt, lt-ltb, le-ltb}
use Rattle.std.proofs.lemmas.List.{get_or_append_left, get_or_past, length-append, take_more}
use Rattle.std.proofs.lemmas.Nat.{mul-le}
use Rattle.std.proofs.Math.Nat.{mul_comm}
use Rattle.std.proofs.Math.Seq.{get_or-append_seam}
use Rattle.hex_geometry.specs.declared.position.Pos.{Pos}
use Rattle.hex_geometry.specs.Position.{IsInside}
use Rattle.hex_geometry.specs.RowOrder.{index_of, pos_at}
use Rattle.hex_geometry.proofs.RowLemmas.{index_of-inside, pos_at-index_of}
use Rattle.brain_read.specs.declared.instr.Instr.{Instr}
use Rattle.brain_read.specs.declared.instr.Instr.TheVariants.{Flip}
use Rattle.brain_read.specs.Forms.{HasBound, IsInRange}
use Rattle.ant_turn.specs.HillLaws.{hill_cells, hill_cells_of}
use Rattle.ant_turn.specs.Keeps.{Keeps}
use Rattle.ant_turn.specs.Minds.{AreSound, Fits, Minds}
use Rattle.ant_turn.specs.Rounds.{Moment, after_rounds, start_of}
use Rattle.ant_turn.proofs.FitLemmas.{Fits-opening}
use Rattle.ant_turn.proofs.HillsKept.{HasHillsOf-Keeps, games_keep_hills, hill_cells_of-list}
use Rattle.ant_turn.proofs.KeptByRounds.{Keeps-after_rounds, after_rounds-ids, after_rounds-place, after_rounds-then}
use Rattle.cell_world.specs.declared.ant.Ant.{Ant}
use Rattle.cell_world.specs.declared.cell.Cell.{Cell}
use Rattle.cell_world.specs.Cell.{rock}
use Rattle.cell_world.specs.Grid.{Grid, IsWorld, cell_in, world_of}
use Rattle.cell_world.specs.Valid.{Valid}
use Rattle.cell_world.specs.World.{Cells, World, area}
use Rattle.cell_world.proofs.GridSums.{cell_in-pos_at}
use Rattle.cell_world.proofs.OpeningLaws.{opening-new}
use Rattle.cell_world.proofs.OpeningValid.{IsWorld-opening}
use Rattle.cell_world.proofs.Places.{clear_inside}
use Rattle.dump_print.specs.declared.totals.Totals.{Totals}
use Rattle.match_run.proofs.CountLaws.{totals_add_up}
use Rattle.match_run.proofs.CountLemmas.{both-both, both-none, totals_of-then}
use Rattle.match_run.specs.Counts.{both, no_turns, totals_of}
use Rattle.match_save.specs.Advanced.{GamesAreAdvanced, SavesAreAdvanced, advanced}
use Rattle.match_save.specs.Draft.{IsHead, IsInstruction}
use Rattle.match_save.specs.Resumed.{IsOfGame, later_moment, later_world, moment_of}
use Rattle.match_save.specs.Saved.{IsSaved, SavedValue, draft_of, head_of}
use Rattle.match_save.specs.Saves.{GamesAreSaved, Starts, cells_at, grid_at, saved_after}
use Rattle.match_save.specs.State.{grid_of_draft}
use Rattle.match_save.proofs.GameSaves.{IsKnown, IsSaved-known, hill_count-world, living-rests}
use Rattle.match_save.proofs.RestBounds.{AllRest, after_rounds-rest}
use Rattle.match_save.proofs.ResumedGames.{AllRest-saved, CanGoOn-saved, Fits-saved}
use Rattle.match_save.proofs.SavedBrains.{IsBrain-program}

-- the first cells of a grid's world are those of its list
cells_at-take : (g : Grid) (n : ℕ) → length g.cells ≡ g.width * g.height → n ≤ length g.cells → cells_at (world_of g) n ≡ take n g.cells
cells_at-take g zero full within = refl
cells_at-take g (suc n) full within =
    ap₂ (λ (l : List Cell) (c : Cell). l ++ c ∷ []) (cells_at-take g n full (omega (arith, within))) (cell_in-pos_at g n (omega (arith, full, within)))
    ∙ sym (take_more g.cells n rock (omega (arith, within)))
    ∙ ap (λ k. take k g.cells) (add-one n)

-- a grid is that of its world
pub grid_at-world : (g : Grid) → IsWorld g → grid_at (world_of g) ≡ g
unfolding grid_at
grid_at-world g world =
    ap (λ (cells : List Cell). record g { cells = cells })
    (ap (cells_at (world_of g)) (sym world.full) ∙ cells_at-take g (length g.cells) world.full (omega arith) ∙ take_all (length g.cells) g.cells (omega arith))

length-cells_at : (w : World) (n : ℕ) → length (cells_at w n) ≡ n
length-cells_at w zero = refl
length-cells_at w (suc n) = length-append (cells_at w n) (w.cells (pos_at w.width n) ∷ []) ∙ ap (λ k. k + 1) (length-cells_at w n) ∙ omega arith

-- the cell of a number
cells_at-item : (w : World) (n i : ℕ) → i < n → get_or (cells_at w n) i rock ≡ w.cells (pos_at w.width i)
cells_at-item w zero i low = absurd (let wrong : ⊥ = omega (arith, low) in wrong)
cells_at-item w (suc n) i low = elim (cases_lt i n) [
  | inl early ↦ get_or_append_left (cells_at w n) (w.cells (pos_at w.width n) ∷ []) rock i (let l = length-cells_at w n in omega (arith, early, l)) ∙ cells_at-item w n i early
  | inr late ↦
      let last : i ≡ n = omega (arith, low, late) in
      let there : i ≡ length (cells_at w n) = (let l = length-cells_at w n in omega (arith, last, l)) in
      ap (λ k. get_or (cells_at w (suc n)) k rock) there ∙ get_or-append_seam (cells_at w n) (w.cells (pos_at w.width n)) [] rock ∙ ap (λ k. w.cells (pos_at w.width k)) (sym last)
]

-- there is rock outside of a world
outside_rock : (w : World) (p : Pos) → Valid w → (IsInside w.width w.height p → ⊥) → w.cells p ≡ rock
outside_rock w p valid out = go (w.cells p).rocky refl where
  go : (b : Bool) → (w.cells p).rocky ≡ b → w.cells p ≡ rock
  go true is = valid.bare p is
  go false is = absurd (out (clear_inside w p valid is))

-- the cells of a world are in its list
cell_in-grid_at : (w : World) (p : Pos) → Valid w → cell_in (grid_at w) p ≡ w.cells p
unfolding cell_in grid_at
cell_in-grid_at w p valid = elim (cases_lt p.x w.width) [
  | inr right ↦
      ap (λ b. cond b (get_or (cells_at w (area w)) (index_of w.width p) rock) rock) (le-ltb p.x w.width right)
      ∙ sym (outside_rock w p valid (λ inside. (let c = inside.column in omega (arith, c, right))))
  | inl column ↦
      ap (λ b. cond b (get_or (cells_at w (area w)) (index_of w.width p) rock) rock) (lt-ltb p.x w.width column)
      ∙ elim (cases_lt p.y w.height) [
        | inl row ↦
            cells_at-item w (area w) (index_of w.width p) (index_of-inside w.width w.height p (record { column = column; row = row }))
            ∙ ap w.cells (pos_at-index_of w.width p column)
        | inr below ↦
            get_or_past (cells_at w (area w)) (index_of w.width p) rock
            (let l = length-cells_at w (area w) in let m = mul-le w.width w.height w.width p.y (omega arith) below in let c : w.width * p.y ≡ p.y * w.width = mul_comm w.width p.y in omega (arith, l, m, c))
            ∙ sym (outside_rock w p valid (λ inside. (let r = inside.row in omega (arith, r, below))))
      ]
]

-- a world is that of its list
pub world_of-grid_at : (w : World) → Valid w → world_of (grid_at w) ≡ w
unfolding grid_at
world_of-grid_at w valid = ap (λ (cells : Cells). record w { cells = cells }) (fun_ext (λ p. cell_in-grid_at w p valid))

pub IsWorld-grid_at : (w : World) → Valid w → IsWorld (grid_at w)
unfolding grid_at
IsWorld-grid_at w valid = record { full = length-cells_at w (area w); valid = subst Valid (sym (world_of-grid_at w valid)) valid }

-- a bound in range is one
HasBound-range : (i : Instr) → IsInRange i → HasBound i
HasBound-range (Flip bound met unmet) range = range.1
HasBound-range it range = tt

bounds : (list : List Instr) → AllByRecursion IsInstruction list → AllByRecursion HasBound list
bounds [] all = tt
bounds (i ∷ list) all = (HasBound-range i all.0.in_range, bounds list all.1)

-- a save that stands where a game led
module _ (s : SavedValue) (n : ℕ) (w : World) (of : IsOfGame s w) (later : s.round ≤ n) where
  all-rounds : s.round + (n - s.round) ≡ n
  all-rounds = omega (arith, later)

  moment-of_game : later_moment s (n - s.round) ≡ after_rounds s.minds s.seed (start_of w) n
  moment-of_game =
      ap (λ (m : Moment). after_rounds s.minds s.seed m (n - s.round)) of.moment
      ∙ after_rounds-then s.minds s.seed (start_of w) s.round (n - s.round)
      ∙ ap (after_rounds s.minds s.seed (start_of w)) all-rounds

  totals-of_game : both s.totals (totals_of s.minds s.seed s.window (moment_of s) (n - s.round)) ≡ totals_of s.minds s.seed s.window (start_of w) n
  totals-of_game =
      ap₂ (λ (t : Totals) (m : Moment). both t (totals_of s.minds s.seed s.window m (n - s.round))) of.totals of.moment
      ∙ sym (totals_of-then s.minds s.seed s.window (start_of w) s.round (n - s.round))
      ∙ ap (totals_of s.minds s.seed s.window (start_of w)) all-rounds

  -- is advanced to the save of this game
  pub advanced-of_game : advanced s n ≡ saved_after s.minds s.seed s.window w n
  unfolding advanced saved_after
  advanced-of_game = ap₂ (λ (m : Moment) (t : Totals). record s { round = n; place = m.place; totals = t; world = grid_at m.world }) moment-of_game totals-of_game

-- what holds of a save
module _ (s : SavedValue) (is : IsSaved s) where
  IsWorld-saved : IsWorld s.world
  IsWorld-saved = subst IsWorld is.same is.state.world

  AreSound-saved : AreSound s.minds
  unfolding draft_of
  AreSound-saved = record { red = IsBrain-program s.minds.red is.in_form.red is.state.red; black = IsBrain-program s.minds.black is.in_form.black is.state.black; corpse = is.in_form.head.corpse }

  hills-saved : hill_cells s.world.cells ≡ s.world.ids
  unfolding draft_of grid_of_draft
  hills-saved = sym (hill_count-world s.world IsWorld-saved) ∙ ap (λ (g : Grid). g.ids) is.same

  -- and what this many more rounds keep of it
  kept : (more : ℕ) → Keeps s.minds (world_of s.world) (later_world s more)
  kept more = Keeps-after_rounds s.minds s.seed (moment_of s) more AreSound-saved IsWorld-saved.valid (Fits-saved s is)

  same-world : (more : ℕ) → world_of (grid_at (later_world s more)) ≡ later_world s more
  same-world more = world_of-grid_at (later_world s more) (kept more).valid

  -- advanced to its own round it is unchanged
  at_once : advanced s s.round ≡ s
  unfolding advanced
  at_once =
      let none : s.round - s.round ≡ 0 = omega arith in
      ap (λ k. record s { place = (later_moment s k).place; totals = both s.totals (totals_of s.minds s.seed s.window (moment_of s) k); world = grid_at (later_world s k) }) none
      ∙ ap₂ (λ (t : Totals) (g : Grid). record s { totals = t; world = g }) (both-none s.totals) (grid_at-world s.world IsWorld-saved)

  module _ (n : ℕ) (later : s.round ≤ n) where
    pub moment-advanced : moment_of (advanced s n) ≡ later_moment s (n - s.round)
    unfolding advanced
    moment-advanced = ap (λ (w : World). record (later_moment s (n - s.round)) { world = w }) (same-world (n - s.round))

    pub IsOfGame-advanced : (w : World) → IsOfGame s w → IsOfGame (advanced s n) w
    unfolding advanced
    IsOfGame-advanced w of = record { moment = moment-advanced ∙ moment-of_game s n w of later; totals = totals-of_game s n w of later }

    -- its rounds, and those after them
    module _ (m : ℕ) (still_later : n ≤ m) where
      pub rounds-sum : n - s.round + (m - n) ≡ m - s.round
      rounds-sum = omega (arith, later, still_later)

      pub moment-steps : later_moment (advanced s n) (m - n) ≡ later_moment s (m - s.round)
      unfolding advanced
      moment-steps =
          ap (λ (it : Moment). after_rounds s.minds s.seed it (m - n)) moment-advanced
          ∙ after_rounds-then s.minds s.seed (moment_of s) (n - s.round) (m - n)
          ∙ ap (later_moment s) rounds-sum

      pub totals-steps : both (advanced s n).totals (totals_of s.minds s.seed s.window (moment_of (advanced s n)) (m - n)) ≡ both s.totals (totals_of s.minds s.seed s.window (moment_of s) (m - s.round))
      unfolding advanced
      totals-steps =
          ap (λ (it : Moment). both (both s.totals (totals_of s.minds s.seed s.window (moment_of s) (n - s.round))) (totals_of s.minds s.seed s.window it (m - n))) moment-advanced
          ∙ both-both s.totals (totals_of s.minds s.seed s.window (moment_of s) (n - s.round)) (totals_of s.minds s.seed s.window (later_moment s (n - s.round)) (m - n))
          ∙ ap (both s.totals) (sym (totals_of-then s.minds s.seed s.window (moment_of s) (n - s.round) (m - n)) ∙ ap (totals_of s.minds s.seed s.window (moment_of s)) rounds-sum)

      by_steps : advanced (advanced s n) m ≡ advanced s m
      unfolding advanced
      by_steps = ap₂ (λ (it : Moment) (t : Totals). record s { round = m; place = it.place; totals = t; world = grid_at it.world }) moment-steps totals-steps

    -- and it is a save
    module _ (few : n ≤ 1000000) where
      ids-kept : (grid_at (later_world s (n - s.round))).ids ≡ s.world.ids
      unfolding grid_at
      ids-kept = after_rounds-ids s.minds s.seed (moment_of s) (n - s.round)

      world-kept : IsWorld (grid_at (later_world s (n - s.round)))
      world-kept = IsWorld-grid_at (later_world s (n - s.round)) (kept (n - s.round)).valid

      hills-kept : hill_cells (grid_at (later_world s (n - s.round))).cells ≡ (grid_at (later_world s (n - s.round))).ids
      hills-kept =
          sym (hill_cells_of-list (grid_at (later_world s (n - s.round))) world-kept.full)
          ∙ ap hill_cells_of (same-world (n - s.round))
          ∙ (HasHillsOf-Keeps (kept (n - s.round))).count
          ∙ hill_cells_of-list s.world IsWorld-saved.full
          ∙ hills-saved
          ∙ sym ids-kept

      turns-kept : (advanced s n).totals.turns ≡ s.world.ids * n
      unfolding advanced draft_of
      turns-kept =
          let later_turns = totals_add_up.turns s.minds s.seed s.window (moment_of s) (n - s.round) is.in_form.head.some in
          let all : s.world.ids * (s.round + (n - s.round)) ≡ s.world.ids * n = ap (λ k. s.world.ids * k) (omega (arith, later)) in
          let earlier = is.turns in
          omega (arith, later_turns, all, earlier)

      add_up-kept : (advanced s n).totals.taken + (advanced s n).totals.redone ≡ (advanced s n).totals.turns
      unfolding advanced
      add_up-kept =
          let earlier = (CanGoOn-saved s is).add_up in
          let more = totals_add_up.each s.minds s.seed s.window (moment_of s) (n - s.round) in
          omega (arith, earlier, more)

      place-kept : (advanced s n).place ≤ (advanced s n).totals.turns
      unfolding advanced draft_of
      place-kept =
          let earlier = (CanGoOn-saved s is).place in
          let more = (after_rounds-place s.minds s.seed (moment_of s) (n - s.round)).to in
          let turns = totals_add_up.turns s.minds s.seed s.window (moment_of s) (n - s.round) is.in_form.head.some in
          let c : (n - s.round) * s.world.ids ≡ s.world.ids * (n - s.round) = mul_comm (n - s.round) s.world.ids in
          omega (arith, earlier, more, turns, c)

      head-kept : IsHead (head_of (advanced s n))
      unfolding advanced draft_of grid_at
      head-kept =
          let all = mul-le s.world.ids n 16384 1000000 IsWorld-saved.valid.few few in
          let turns = turns-kept in
          let sum = add_up-kept in
          let drawn = place-kept in
          let old = is.in_form.head in
          let valid = (kept (n - s.round)).valid in
          record {
            seed = old.seed;
            few = old.few;
            many = old.many;
            corpse = old.corpse;
            rest = old.rest;
            some = old.some;
            window = old.window;
            round = few;
            place = omega (arith, all, turns, drawn);
            taken = omega (arith, all, turns, sum);
            redone = omega (arith, all, turns, sum);
            wide = valid.wide;
            narrow = valid.narrow;
            tall = valid.tall;
            low = valid.low;
          }

      pub IsKnown-advanced : IsKnown (advanced s n)
      unfolding advanced draft_of
      IsKnown-advanced = record {
        head = head-kept;
        world = world-kept;
        hills = hills-kept;
        sound = AreSound-saved;
        fit = subst (λ (w : World). Fits w s.minds) (sym (same-world (n - s.round))) (kept (n - s.round)).fits;
        red_bounds = bounds s.minds.red is.in_form.red.each;
        black_bounds = bounds s.minds.black is.in_form.black.each;
        rests =
            living-rests (grid_at (later_world s (n - s.round))) world-kept
            (subst (λ (w : World). AllRest 255 w.cells) (sym (same-world (n - s.round))) (after_rounds-rest 255 s.minds s.seed (moment_of s) (n - s.round) is.in_form.head.rest (AllRest-saved s is)));
        turns = turns-kept ∙ ap (λ ids. ids * n) (sym ids-kept);
        add_up = add_up-kept;
        place = place-kept;
      }

      IsSaved-advanced : IsSaved (advanced s n)
      IsSaved-advanced = IsSaved-known (advanced s n) IsKnown-advanced

-- the save of a game that starts, before its first round
module _ (minds : Minds) (seed window rounds : ℕ) (grid : Grid) (starts : Starts minds seed window rounds grid) where
  begun : SavedValue
  begun = record { seed = seed; window = window; round = 0; place = 0; totals = no_turns; minds = minds; world = grid }

  IsWorld-start : IsWorld grid
  IsWorld-start = subst IsWorld (sym starts.opened) (IsWorld-opening grid.width grid.height starts.kinds starts.plan)

  -- no ant rests at the start
  rests-start : AllRest 255 (world_of grid).cells
  rests-start = subst (λ (g : Grid). AllRest 255 (world_of g).cells) (sym starts.opened) (record {
    each = λ p ant is. (let new = ap (λ (a : Ant). a.resting) (opening-new grid.width grid.height starts.kinds p ant is) in omega (arith, new));
  })

  IsSaved-begun : IsSaved begun
  unfolding begun
  IsSaved-begun = IsSaved-known begun (record {
    head = record {
      seed = starts.seed_low;
      few = starts.few;
      many = starts.many;
      corpse = starts.sound.corpse;
      rest = starts.rest;
      some = starts.some;
      window = starts.sized;
      round = omega arith;
      place = omega arith;
      taken = omega arith;
      redone = omega arith;
      wide = IsWorld-start.valid.wide;
      narrow = IsWorld-start.valid.narrow;
      tall = IsWorld-start.valid.tall;
      low = IsWorld-start.valid.low;
    };
    world = IsWorld-start;
    hills = games_keep_hills.cells minds seed grid.width grid.height starts.kinds 0 grid starts.plan starts.sound IsWorld-start.full (ap world_of starts.opened);
    sound = starts.sound;
    fit = subst (λ (g : Grid). Fits (world_of g) minds) (sym starts.opened) (Fits-opening grid.width grid.height starts.kinds minds starts.sound.red.some starts.sound.black.some);
    red_bounds = starts.red_bounds;
    black_bounds = starts.black_bounds;
    rests = living-rests grid IsWorld-start rests-start;
    turns = omega arith;
    add_up = refl;
    place = omega arith;
  })

  IsOfGame-begun : IsOfGame begun (world_of grid)
  unfolding begun
  IsOfGame-begun = record { moment = refl; totals = refl }

  -- advanced, it is the save of this game
  begun-advanced : (n : ℕ) → advanced begun n ≡ saved_after minds seed window (world_of grid) n
  unfolding begun
  begun-advanced n = advanced-of_game begun n (world_of grid) IsOfGame-begun (omega arith)

  IsSaved-after : IsSaved (saved_after minds seed window (world_of grid) rounds)
  unfolding begun
  IsSaved-after = subst IsSaved (begun-advanced rounds) (IsSaved-advanced begun IsSaved-begun rounds (omega arith) starts.short)

  IsOfGame-after : (n : ℕ) → IsOfGame (saved_after minds seed window (world_of grid) n) (world_of grid)
  unfolding begun
  IsOfGame-after n = subst (λ (s : SavedValue). IsOfGame s (world_of grid)) (begun-advanced n) (IsOfGame-advanced begun IsSaved-begun n (omega arith) (world_of grid) IsOfGame-begun)

  after-advanced : (m n : ℕ) → m ≤ n → advanced (saved_after minds seed window (world_of grid) m) n ≡ saved_after minds seed window (world_of grid) n
  unfolding saved_after
  after-advanced m n later = advanced-of_game (saved_after minds seed window (world_of grid) m) n (world_of grid) (IsOfGame-after m) later

pub games_are_saved : GamesAreSaved
games_are_saved minds seed window rounds grid starts = (IsSaved-after minds seed window rounds grid starts, IsOfGame-after minds seed window rounds grid starts rounds)

pub games_are_advanced : GamesAreAdvanced
games_are_advanced = record {
  game = λ minds seed window m n grid starts later. after-advanced minds seed window n grid starts m n later;
  of_game = λ s w n of later. advanced-of_game s n w of later;
}

pub saves_are_advanced : SavesAreAdvanced
saves_are_advanced = record {
  saved = λ s n is later few. IsSaved-advanced s is n later few;
  at_once = at_once;
  by_steps = λ s n m is later still_later. by_steps s is n later m still_later;
}
