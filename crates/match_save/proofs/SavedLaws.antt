-- Lines that describe a state of a game are those of one save.
use Rattle.std.proofs.Common.{◌≡◌, ℕ, suc, ◌*◌, ◌<◌, List, [], ◌∷◌, length, map, refl, sym, ◌∙◌, ap, subst, inl, inr, arith}
use Rattle.std.specs.List.{AllByRecursion}
use Rattle.cell_world.specs.declared.ant.PlacedAnt.{PlacedAnt}
use Rattle.cell_world.specs.declared.cell.Cell.{Cell}
use Rattle.cell_world.specs.Grid.{Grid}
use Rattle.hex_geometry.proofs.RowLemmas.{index_of-below}
use Rattle.match_save.specs.Draft.{Draft, IsAnt, IsInForm}
use Rattle.match_save.specs.declared.soil.Soil.{Soil}
use Rattle.match_save.specs.declared.soil.Soil.TheVariants.{Rock, Clear, RedHill, BlackHill}
use Rattle.match_save.specs.State.{IsState, ground_cells, grid_of_draft, with_ants}
use Rattle.match_save.specs.Saved.{IsSaved, IsSaveLines, SavedValue, draft_of, living, saved_of, soil_of_cell}
use Rattle.match_save.specs.Verdict.{IsDraftText}
use Rattle.match_save.proofs.RoundTrip.{In, IsOn, ant-there, each, living-all, map-with_ants}
use Rattle.match_save.proofs.Verdicts.{one_draft}

-- lists of one length each
pub record AreAlike (soils : List Soil) (reds blacks foods : List ℕ) : Type 0 where
  pub reds_full : length reds ≡ length soils
  pub blacks_full : length blacks ≡ length soils
  pub foods_full : length foods ≡ length soils

-- what the cells without ants say again
record SayAgain (soils : List Soil) (reds blacks foods : List ℕ) : Type 0 where
  full : length (ground_cells soils reds blacks foods) ≡ length soils
  soils_again : map soil_of_cell (ground_cells soils reds blacks foods) ≡ soils
  reds_again : map (λ (cell : Cell). cell.red.set) (ground_cells soils reds blacks foods) ≡ reds
  blacks_again : map (λ (cell : Cell). cell.black.set) (ground_cells soils reds blacks foods) ≡ blacks
  foods_again : map (λ (cell : Cell). cell.food) (ground_cells soils reds blacks foods) ≡ foods

again : (soils : List Soil) (reds blacks foods : List ℕ) → AreAlike soils reds blacks foods → SayAgain soils reds blacks foods
again [] [] [] [] are = record { full = refl; soils_again = refl; reds_again = refl; blacks_again = refl; foods_again = refl }
again [] [] (b ∷ blacks) foods are = absurd (let l = are.blacks_full in let wrong : ⊥ = omega (arith, l) in wrong)
again [] [] [] (f ∷ foods) are = absurd (let l = are.foods_full in let wrong : ⊥ = omega (arith, l) in wrong)
again (s ∷ soils) (r ∷ reds) [] foods are = absurd (let l = are.blacks_full in let wrong : ⊥ = omega (arith, l) in wrong)
again (s ∷ soils) (r ∷ reds) (b ∷ blacks) [] are = absurd (let l = are.foods_full in let wrong : ⊥ = omega (arith, l) in wrong)
again (s ∷ soils) (r ∷ reds) (b ∷ blacks) (f ∷ foods) are =
    let rest = again soils reds blacks foods (record { reds_full = (let l = are.reds_full in omega (arith, l)); blacks_full = (let l = are.blacks_full in omega (arith, l)); foods_full = (let l = are.foods_full in omega (arith, l)) }) in
    record {
      full = ap suc rest.full;
      soils_again = soil s rest.soils_again;
      reds_again = ap (λ l. r ∷ l) rest.reds_again;
      blacks_again = ap (λ l. b ∷ l) rest.blacks_again;
      foods_again = ap (λ l. f ∷ l) rest.foods_again;
    }
  where
    soil : (s : Soil) → map soil_of_cell (ground_cells soils reds blacks foods) ≡ soils → map soil_of_cell (ground_cells (s ∷ soils) (r ∷ reds) (b ∷ blacks) (f ∷ foods)) ≡ s ∷ soils
    soil Rock rest = ap (λ l. Rock ∷ l) rest
    soil Clear rest = ap (λ l. Clear ∷ l) rest
    soil RedHill rest = ap (λ l. RedHill ∷ l) rest
    soil BlackHill rest = ap (λ l. BlackHill ∷ l) rest
again it that blacks foods are = absurd (let l = are.reds_full in let wrong : ⊥ = omega (arith, l) in wrong)

pub on_all : (width height count : ℕ) (ants : List PlacedAnt) → count ≡ height * width → AllByRecursion (IsAnt width height) ants → AllByRecursion (IsOn width count) ants
on_all width height count [] full all = tt
on_all width height count (it ∷ ants) full all =
    (record { column = all.0.column; cell = (let l = index_of-below width height it.place.x it.place.y all.0.column all.0.row in omega (arith, l, full)) }, on_all width height count ants full all.1)

pub alike : (d : Draft) → IsInForm d → AreAlike d.soils d.red_marks d.black_marks d.foods
alike d ok = record { reds_full = ok.red_marks ∙ sym ok.soils; blacks_full = ok.black_marks ∙ sym ok.soils; foods_full = ok.foods ∙ sym ok.soils }

module _ (d : Draft) (ok : IsInForm d) (state : IsState d) where
  said : SayAgain d.soils d.red_marks d.black_marks d.foods
  said = again d.soils d.red_marks d.black_marks d.foods (alike d ok)

  on : AllByRecursion (IsOn d.head.width (length (ground_cells d.soils d.red_marks d.black_marks d.foods))) d.ants
  on = on_all d.head.width d.head.height (length (ground_cells d.soils d.red_marks d.black_marks d.foods)) d.ants (said.full ∙ ok.soils) ok.ants

  ants-again : living (grid_of_draft d) (grid_of_draft d).ids ≡ d.ants
  unfolding grid_of_draft
  ants-again =
      let g : Grid = grid_of_draft d in
      living-all g d.ants d.soils d.red_marks d.black_marks d.foods state.world refl on state.apart ok.rise
      (each (λ (it : PlacedAnt). it.ant.id < g.ids) d.ants (λ it is_in. state.world.valid.known it.place it.ant (ant-there g d.ants d.soils d.red_marks d.black_marks d.foods state.world refl on state.apart ok.rise it is_in (column d.ants on it is_in))))
    where
      column : (list : List PlacedAnt) → AllByRecursion (IsOn d.head.width (length (ground_cells d.soils d.red_marks d.black_marks d.foods))) list → (it : PlacedAnt) → In it list → it.place.x < d.head.width
      column [] all it is_in = absurd is_in
      column (first ∷ list) all it (inl same) = subst (λ (v : PlacedAnt). v.place.x < d.head.width) same all.0.column
      column (first ∷ list) all it (inr is_in) = column list all.1 it is_in

  -- the lines of the save that lines describe are these lines
  pub draft-again : draft_of (saved_of d) ≡ d
  unfolding draft_of saved_of grid_of_draft
  draft-again =
      let cells : List Cell = ground_cells d.soils d.red_marks d.black_marks d.foods in
      let width : ℕ = d.head.width in
      let soils = map-with_ants width soil_of_cell (λ c ant. refl) d.ants cells ∙ said.soils_again in
      let reds = map-with_ants width (λ (cell : Cell). cell.red.set) (λ c ant. refl) d.ants cells ∙ said.reds_again in
      let blacks = map-with_ants width (λ (cell : Cell). cell.black.set) (λ c ant. refl) d.ants cells ∙ said.blacks_again in
      let foods = map-with_ants width (λ (cell : Cell). cell.food) (λ c ant. refl) d.ants cells ∙ said.foods_again in
      ap (λ l. with_lists l (map (λ (cell : Cell). cell.red.set) (with_ants width d.ants cells)) (map (λ (cell : Cell). cell.black.set) (with_ants width d.ants cells)) (map (λ (cell : Cell). cell.food) (with_ants width d.ants cells)) (living (grid_of_draft d) (grid_of_draft d).ids)) soils
      ∙ ap (λ l. with_lists d.soils l (map (λ (cell : Cell). cell.black.set) (with_ants width d.ants cells)) (map (λ (cell : Cell). cell.food) (with_ants width d.ants cells)) (living (grid_of_draft d) (grid_of_draft d).ids)) reds
      ∙ ap (λ l. with_lists d.soils d.red_marks l (map (λ (cell : Cell). cell.food) (with_ants width d.ants cells)) (living (grid_of_draft d) (grid_of_draft d).ids)) blacks
      ∙ ap (λ l. with_lists d.soils d.red_marks d.black_marks l (living (grid_of_draft d) (grid_of_draft d).ids)) foods
      ∙ ap (with_lists d.soils d.red_marks d.black_marks d.foods) ants-again
    where
      with_lists : List Soil → List ℕ → List ℕ → List ℕ → List PlacedAnt → Draft
      with_lists soils reds blacks foods ants = record d { soils = soils; red_marks = reds; black_marks = blacks; foods = foods; ants = ants }

  -- what lines in form describe, if it is a state, is a save
  pub saved-is : IsSaved (saved_of d)
  unfolding saved_of grid_of_draft
  saved-is = record {
    in_form = subst IsInForm (sym draft-again) ok;
    state = subst IsState (sym draft-again) state;
    same = ap grid_of_draft draft-again;
    turns = refl;
  }

-- a text of lines that describe a state is that of a save
pub some_save : (text : List ℕ) (d : Draft) → IsDraftText text d → IsState d → IsSaveLines text (saved_of d)
some_save text d is state = record { saved = saved-is d is.in_form state; are = subst (IsDraftText text) (sym (draft-again d is.in_form state)) is }

-- a save is built from its lines and its world
made_of : Draft → Grid → SavedValue
made_of d world = record {
  seed = d.head.seed;
  window = d.head.window;
  round = d.head.round;
  place = d.head.place;
  totals = record { turns = world.ids * d.head.round; taken = d.head.taken; redone = d.head.redone };
  minds = record { red = d.red; black = d.black; sheet = record { surround = d.head.surround; corpse = d.head.corpse; rest = d.head.rest } };
  world = world;
}

made-again : (s : SavedValue) → IsSaved s → s ≡ made_of (draft_of s) s.world
unfolding made_of draft_of
made-again s is = ap (λ (n : ℕ). record s { totals = record (s.totals) { turns = n } }) is.turns

-- it is that of no other save
pub one_save : (text : List ℕ) (s t : SavedValue) → IsSaveLines text s → IsSaveLines text t → s ≡ t
one_save text s t is_s is_t =
    let drafts : draft_of s ≡ draft_of t = one_draft text (draft_of s) (draft_of t) is_s.are is_t.are in
    let worlds : s.world ≡ t.world = sym is_s.saved.same ∙ ap grid_of_draft drafts ∙ is_t.saved.same in
    made-again s is_s.saved ∙ ap (λ (d : Draft). made_of d s.world) drafts ∙ ap (made_of (draft_of t)) worlds ∙ sym (made-again t is_t.saved)
