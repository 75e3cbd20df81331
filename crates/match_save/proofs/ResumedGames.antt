-- Saves as games that continue.
use Rattle.std.proofs.Common.{◌≡◌, ◌⊎◌, ℕ, ◌+◌, ◌*◌, ◌<◌, ◌≤◌, Bool, true, false, cond, ltb, List, [], ◌∷◌, length, get_or, Some, None, refl, sym, ◌∙◌, ap, subst, inl, inr, arith}
use Rattle.std.specs.List.{AllByRecursion}
use Rattle.std.proofs.lemmas.Nat.{mul-le}
use Rattle.cell_world.specs.Limits.{most_ants}
use Rattle.hex_geometry.specs.declared.position.Pos.{Pos}
use Rattle.hex_geometry.specs.RowOrder.{index_of}
use Rattle.cell_world.specs.declared.ant.Ant.{Ant}
use Rattle.cell_world.specs.declared.ant.PlacedAnt.{PlacedAnt}
use Rattle.cell_world.specs.Cell.{rock}
use Rattle.cell_world.specs.Grid.{Grid, cell_in, world_of}
use Rattle.ant_turn.specs.Minds.{Fits, Minds, mind_of}
use Rattle.dump_print.specs.declared.totals.Totals.{Totals}
use Rattle.match_run.proofs.LaterLaws.{later_text-plain, later_text-some, runs_go_on}
use Rattle.match_run.proofs.CountLemmas.{sum_windows-turns}
use Rattle.match_run.specs.Game.{CanGoOn, GameValue, IsRoundRefused, game_at_round, now_of, totals_ahead}
use Rattle.match_run.specs.Later.{plain_later_text, later_text}
use Rattle.match_run.specs.Alone.{GameAloneValue, standing}
use Rattle.match_save.specs.Inner.Alone.{game_alone_of}
use Rattle.match_run.specs.Run.{most_rounds}
use Rattle.round_book.specs.Book.{FieldValue}
use Rattle.match_save.specs.Draft.{Draft, IsAnt, IsInForm}
use Rattle.match_save.specs.Resumed.{SavesGoOn, field_of, moment_of, resumed_text}
use Rattle.match_save.specs.Saved.{IsSaved, SavedValue, draft_of, living}
use Rattle.match_save.specs.State.{grid_of_draft, hill_count, program_of, turns_of}
use Rattle.match_save.specs.Inner.Floor.{floor_of}
use Rattle.match_save.proofs.BrainForms.{program-length}
use Rattle.match_save.proofs.Floors.{on}
use Rattle.match_save.proofs.RestBounds.{AllRest}
use Rattle.match_save.proofs.RoundTrip.{In, Stands, back, bare-none}

-- what holds of each ant of a save's lines holds of the ant of each cell of its world
pub each-ant : (d : Draft) (ok : IsInForm d) (P : Ant → Type 0) → AllByRecursion (λ (it : PlacedAnt). P it.ant) d.ants → (p : Pos) (ant : Ant) → (cell_in (grid_of_draft d) p).ant ≡ Some ant → P ant
unfolding grid_of_draft cell_in rock
each-ant d ok P all p ant is = go (ltb p.x d.head.width) is where
  of-all : (ants : List PlacedAnt) → AllByRecursion (λ (it : PlacedAnt). P it.ant) ants → (it : PlacedAnt) → In it ants → P it.ant
  of-all [] all it is_in = absurd is_in
  of-all (first ∷ ants) all it (inl same) = subst (λ (v : PlacedAnt). P v.ant) same all.0
  of-all (first ∷ ants) all it (inr is_in) = of-all ants all.1 it is_in

  found : ((get_or (floor_of d).cells (index_of d.head.width p) rock).ant ≡ Some ant) ⊎ Stands d.head.width d.ants (index_of d.head.width p) ant → P ant
  found (inl e) =
      let wrong : None ≡ Some ant = sym (bare-none d.soils d.red_marks d.black_marks d.foods (index_of d.head.width p)) ∙ e in
      absurd (cc)
  found (inr one) = subst P one.is_ant (of-all d.ants all one.it one.is_in)

  go : (b : Bool) → (cond b (get_or (grid_of_draft d).cells (index_of d.head.width p) rock) rock).ant ≡ Some ant → P ant
  go true told = found (back d.head.width d.ants (floor_of d).cells (length (floor_of d).cells) (index_of d.head.width p) ant refl (on d ok) told)
  go false told = absurd (cc)

-- a run that was saved and continued is the run that wasn't
pub saves_go_on : SavesGoOn
unfolding resumed_text
saves_go_on s w rounds chosen stats is left =
    let on = runs_go_on s.minds s.seed s.window w s.round rounds chosen stats left in cc

-- the ants of a save fit its brains
pub Fits-saved : (s : SavedValue) → IsSaved s → Fits (world_of s.world) s.minds
unfolding draft_of
Fits-saved s is = record { below = below } where
  below : (p : Pos) (ant : Ant) → (cell_in s.world p).ant ≡ Some ant → ant.state < length (mind_of s.minds ant.colour)
  below p ant there =
      let fit = each-ant (draft_of s) is.in_form (λ (a : Ant). a.state < length (program_of (draft_of s) a.colour)) is.state.fits p ant (ap (λ (g : Grid). (cell_in g p).ant) is.same ∙ there) in
      let long = program-length s ant.colour in
      omega (arith, fit, long)

-- and none rests for longer than its line may say
pub AllRest-saved : (s : SavedValue) → IsSaved s → AllRest 255 (cell_in s.world)
unfolding draft_of
AllRest-saved s is = record {
  each = λ p ant there. each-ant (draft_of s) is.in_form (λ (a : Ant). a.resting ≤ 255) (resting (living s.world s.world.ids) is.in_form.ants) p ant (ap (λ (g : Grid). (cell_in g p).ant) is.same ∙ there);
} where
  resting : (ants : List PlacedAnt) → AllByRecursion (IsAnt s.world.width s.world.height) ants → AllByRecursion (λ (it : PlacedAnt). it.ant.resting ≤ 255) ants
  resting [] all = tt
  resting (it ∷ ants) all = (all.0.resting, resting ants all.1)

-- and it can continue
pub CanGoOn-saved : (s : SavedValue) → IsSaved s → CanGoOn (field_of s) s.window s.round s.totals
unfolding draft_of grid_of_draft
CanGoOn-saved s is =
    let ids : hill_count (draft_of s).soils ≡ s.world.ids = ap (λ (g : Grid). g.ids) is.same in
    let turns : turns_of (draft_of s) ≡ s.world.ids * s.round = ap (λ n. n * s.round) ids in
    record {
      whole = refl;
      sized = is.in_form.head.some;
      few = is.in_form.head.round;
      turns = is.turns;
      add_up = is.state.turns ∙ turns ∙ sym is.turns;
      place = (let p = is.state.place in let t = is.turns in omega (arith, p, turns, t));
    }

pub early-saved : (s : SavedValue) → IsSaved s → s.place ≤ 99999999999
unfolding draft_of
early-saved s is = is.in_form.head.place

-- the field and the game that are built from a save's parts are its own
pub field-is : (s : SavedValue) (world : Grid) (minds : Minds) (seed place : ℕ) → world ≡ s.world → minds ≡ s.minds → seed ≡ s.seed → place ≡ s.place
    → ◌≡◌ {A = FieldValue} (record { world = world; minds = minds; seed = seed; place = place; whole = true; lent = None }) (field_of s)
field-is s world minds seed place a b c e = cc

-- parts of a game that are a save's
pub record AreParts (s : SavedValue) (field : FieldValue) (window round : ℕ) (totals : Totals) : Type 0 where
  pub field_is : field ≡ field_of s
  pub window_is : window ≡ s.window
  pub round_is : round ≡ s.round
  pub totals_are : totals ≡ s.totals

pub can-go : (s : SavedValue) (field : FieldValue) (window round : ℕ) (totals : Totals) → AreParts s field window round totals → IsSaved s → CanGoOn field window round totals
can-go s field window round totals are is = rw (are.field_is, are.window_is, are.round_is, are.totals_are) (CanGoOn-saved s is)

pub game-is : (s : SavedValue) (field : FieldValue) (window round : ℕ) (totals : Totals) → AreParts s field window round totals → game_at_round field window round totals ≡ game_at_round (field_of s) s.window s.round s.totals
game-is s field window round totals are = cc

-- what was pushed of a save's game is its rest
pub resumed-is : (s : SavedValue) (game : GameValue) (rounds : ℕ) (chosen : ℕ → Bool) (stats : Bool) → game ≡ game_at_round (field_of s) s.window s.round s.totals
    → later_text game.field.minds game.field.seed game.window (now_of game) game.done game.totals rounds chosen stats ≡ resumed_text s rounds chosen stats
unfolding resumed_text
resumed-is s game rounds chosen stats e = rw e refl

-- the rest of a save has something
pub resumed_text-some : (s : SavedValue) (rounds : ℕ) (chosen : ℕ → Bool) (stats : Bool) → 1 ≤ length (resumed_text s rounds chosen stats)
unfolding resumed_text
resumed_text-some s rounds chosen stats = later_text-some s.minds s.seed s.window (moment_of s) s.round s.totals rounds chosen stats

-- a game that is just played stands where the save does
pub sequential-is : (s : SavedValue) (world : Grid) (minds : Minds) (seed place round : ℕ) → world ≡ s.world → minds ≡ s.minds → seed ≡ s.seed → place ≡ s.place → round ≡ s.round
    → ◌≡◌ {A = GameAloneValue} (record { world = world; minds = minds; seed = seed; place = place; done = round }) (game_alone_of s)
sequential-is s world minds seed place round a b c e f = cc

-- few of its rounds are done
pub few-saved : (s : SavedValue) → IsSaved s → s.round ≤ most_rounds
unfolding draft_of
few-saved s is = is.in_form.head.round

-- and each turn drew one random number at most
pub place-saved : (s : SavedValue) → IsSaved s → s.place ≤ s.round * most_ants
unfolding draft_of grid_of_draft
place-saved s is =
    let ids : hill_count (draft_of s).soils ≡ s.world.ids = ap (λ (g : Grid). g.ids) is.same in
    let few : hill_count (draft_of s).soils ≤ most_ants = is.state.world.valid.few in
    let all : hill_count (draft_of s).soils * s.round ≤ most_ants * s.round = mul-le (hill_count (draft_of s).soils) s.round most_ants s.round few (omega arith) in
    (let p = is.state.place in omega (arith, p, all))

-- what was pushed of a save's game that is just played is its rest without counts
pub alone-is : (s : SavedValue) (game : GameAloneValue) (rounds : ℕ) (chosen : ℕ → Bool) → game ≡ game_alone_of s
    → plain_later_text game.minds game.seed (standing game) game.done rounds chosen ≡ resumed_text s rounds chosen false
unfolding resumed_text
alone-is s game rounds chosen e =
    let plain = later_text-plain s.minds s.seed s.window (moment_of s) s.round s.totals rounds chosen in cc

-- the windows of a round that was refused have a turn of each id at most
pub refused-turns : (old new : GameValue) → old.next ≡ 0 → IsRoundRefused old new → (old.totals.turns ≤ new.totals.turns) × (new.totals.turns ≤ old.totals.turns + old.field.world.ids)
refused-turns old new ends refused =
    let sum : new.totals.turns ≡ old.totals.turns + (totals_ahead old refused.windows).turns = ap (λ (t : Totals). t.turns) refused.totals in
    let turns = sum_windows-turns old.field.minds old.field.seed old.window (now_of old) old.next refused.windows (omega (arith, ends)) in
    (omega (arith, sum), omega (arith, sum, turns))
