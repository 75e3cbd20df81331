-- A look that agrees is the field's own.
use Rattle.std.proofs.Common.{◌≡◌, ℕ, Bool, true, false, Some, None, List, [], ◌∷◌, sym, subst, ap, ◌∙◌}
use Rattle.std.specs.Prelude.{◌↔◌}
use Rattle.std.proofs.lemmas.Bool.{false≢true}
use Rattle.std.specs.List.{AllByRecursion}
use Rattle.hex_geometry.specs.Position.{IsInside}
use Rattle.hex_geometry.specs.declared.position.Pos.{Pos}
use Rattle.cell_world.specs.declared.ant.Ant.{Ant}
use Rattle.cell_world.specs.Grid.{Grid, IsWorld, world_of}
use Rattle.cell_world.specs.World.{Cells, place_in}
use Rattle.cell_world.proofs.Patches.{some_one}
use Rattle.cell_world.proofs.Places.{Holder, place_in-ant, place_in-inside}
use Rattle.ant_turn.specs.Minds.{Minds, mind_of}
use Rattle.ant_turn.specs.Turn.{instruction_at}
use Rattle.round_book.specs.Book.{FieldValue}
use Rattle.spec_record.specs.Claims.{Claim, Sighting, seen_cell, seen_place, with_cells_at}
use Rattle.spec_record.specs.Look.{LookValue, look_of}
use Rattle.spec_record.specs.Reads.{reads}
use Rattle.spec_record.specs.SameLooks.{SameAt, SameForLook}
use Rattle.spec_record.proofs.SameLooks.{looks_agree}
use Rattle.far_crew.specs.Agreement.{AgreesWith, IsSameAnt, IsSameGame}
use Rattle.far_crew.specs.Jobs.{FoundValue, IsLookOf}

-- what was read is as it was stored where it is in the other world what it is in the own one
stored : (v w : Cells) (claims : List Claim) → AllByRecursion (λ (read : Sighting). w (seen_place read) ≡ seen_cell read) (with_cells_at v claims) → AllByRecursion (λ (read : Sighting). v (seen_place read) ≡ w (seen_place read)) (with_cells_at v claims)
stored v w [] all = tt
stored v w (c ∷ claims) all = (sym all.0, stored v w claims all.1)

stored-back : (v w : Cells) (claims : List Claim) → AllByRecursion (λ (read : Sighting). v (seen_place read) ≡ w (seen_place read)) (with_cells_at v claims) → AllByRecursion (λ (read : Sighting). w (seen_place read) ≡ seen_cell read) (with_cells_at v claims)
stored-back v w [] all = tt
stored-back v w (c ∷ claims) all = (sym all.0, stored-back v w claims all.1)

stored-SameAt : (v w : Cells) (claims : List Claim) → AllByRecursion (λ (read : Sighting). v (seen_place read) ≡ w (seen_place read)) (with_cells_at v claims) → SameAt v w claims
stored-SameAt v w [] all = tt
stored-SameAt v w (c ∷ claims) all = (all.0, stored-SameAt v w claims all.1)

module _ (minds : Minds) (seed : ℕ) (base : Grid) (w : Cells) (look : LookValue) (is : IsLookOf minds seed base look) where
  reads-is : look.reads ≡ with_cells_at (world_of base).cells (reads minds (world_of base) look.turn)
  unfolding look_of
  reads-is = ap (λ (l : LookValue). l.reads) is.is

  reads_same : AllByRecursion (λ (read : Sighting). w (seen_place read) ≡ seen_cell read) look.reads → AllByRecursion (λ (read : Sighting). (world_of base).cells (seen_place read) ≡ w (seen_place read)) look.reads
  reads_same all =
      subst (AllByRecursion (λ (read : Sighting). (world_of base).cells (seen_place read) ≡ w (seen_place read))) (sym reads-is)
      (stored (world_of base).cells w (reads minds (world_of base) look.turn) (subst (AllByRecursion (λ (read : Sighting). w (seen_place read) ≡ seen_cell read)) reads-is all))

  reads_stored : AllByRecursion (λ (read : Sighting). (world_of base).cells (seen_place read) ≡ w (seen_place read)) look.reads → AllByRecursion (λ (read : Sighting). w (seen_place read) ≡ seen_cell read) look.reads
  reads_stored all =
      subst (AllByRecursion (λ (read : Sighting). w (seen_place read) ≡ seen_cell read)) (sym reads-is)
      (stored-back (world_of base).cells w (reads minds (world_of base) look.turn) (subst (AllByRecursion (λ (read : Sighting). (world_of base).cells (seen_place read) ≡ w (seen_place read))) reads-is all))

  reads_SameAt : AllByRecursion (λ (read : Sighting). (world_of base).cells (seen_place read) ≡ w (seen_place read)) look.reads → SameAt (world_of base).cells w (reads minds (world_of base) look.turn)
  reads_SameAt all =
      stored-SameAt (world_of base).cells w (reads minds (world_of base) look.turn) (subst (AllByRecursion (λ (read : Sighting). (world_of base).cells (seen_place read) ≡ w (seen_place read))) reads-is all)

  -- a test of what was stored is a test of both worlds
  pub reads-test : (test : Bool) → (test ≡ true) ↔ AllByRecursion (λ (read : Sighting). w (seen_place read) ≡ seen_cell read) look.reads → (test ≡ true) ↔ AllByRecursion (λ (read : Sighting). (world_of base).cells (seen_place read) ≡ w (seen_place read)) look.reads
  reads-test test is_test = (λ now. reads_same (is_test.0 now), λ all. is_test.1 (reads_stored all))

-- the law on looks, for a look that agrees
pub look_known : (field : FieldValue) (found : FoundValue) (look : LookValue) (guess : ℕ) → IsWorld field.world → IsLookOf found.minds found.seed found.base look → AgreesWith field found look guess →
    look ≡ look_of field.minds field.seed (world_of field.world) guess look.turn
look_known field found look guess is it agrees =
    let same : SameForLook found.minds field.minds (world_of found.base) (world_of field.world) look.turn = record {
      valid = is.valid;
      sheet = agrees.game.sheet;
      dead = agrees.same_ant.dead.0;
      cells = reads_SameAt found.minds found.seed found.base (world_of field.world).cells look it agrees.cells;
      instruction = agrees.same_ant.instruction;
    } in
    it.is
    ∙ sym (looks_agree found.minds field.minds found.seed (world_of found.base) (world_of field.world) look.guess look.turn same)
    ∙ ap (λ s. look_of field.minds s (world_of field.world) look.guess look.turn) (sym agrees.game.seed)
    ∙ ap (λ g. look_of field.minds field.seed (world_of field.world) g look.turn) agrees.guessed

-- the place of an ant is inside
pub placed_inside : (g : Grid) (t : ℕ) (p : Pos) → place_in (world_of g) t ≡ Some p → IsInside g.width g.height p
placed_inside g t p found = place_in-inside (world_of g) t p found

-- and its cell has an ant
pub placed_ant : (g : Grid) (t : ℕ) (p : Pos) → place_in (world_of g) t ≡ Some p → ((world_of g).cells p).ant ≡ None → ⊥
placed_ant g t p found none =
    let holder : Holder t ((world_of g).cells p).ant = place_in-ant (world_of g) t p found in
    let e : None ≡ Some holder.ant = sym none ∙ holder.is in absurd (cc)

-- an ant that is dead in the answer's world
pub dead_test : (field : FieldValue) (found : FoundValue) (t : ℕ) (test : Bool) → place_in (world_of found.base) t ≡ None → (test ≡ true) ↔ (place_in (world_of field.world) t ≡ None) → (test ≡ true) ↔ IsSameAnt field found t
dead_test field found t test there is_test = (
  λ now. record {
    dead = (λ _. is_test.0 now, λ _. there);
    instruction = λ p ant placed is. let e : None ≡ Some p = sym there ∙ placed in absurd (cc);
  },
  λ same. is_test.1 (same.dead.0 there),
)

-- one that lives there
module _ (field : FieldValue) (found : FoundValue) (t : ℕ) (p : Pos) (ant : Ant) (there : place_in (world_of found.base) t ≡ Some p) (is : ((world_of found.base).cells p).ant ≡ Some ant) where
  alive : (q : Pos) → place_in (world_of field.world) t ≡ Some q → instruction_at (mind_of field.minds ant.colour) ant.state ≡ instruction_at (mind_of found.minds ant.colour) ant.state → IsSameAnt field found t
  alive q here same = record {
    dead = (λ none. let e : None ≡ Some p = sym none ∙ there in absurd (cc), λ none. let e : None ≡ Some q = sym none ∙ here in absurd (cc));
    instruction = λ p' ant' placed is'.
        let at : p ≡ p' = some_one (sym there ∙ placed) in
        let one : ant ≡ ant' = some_one (sym is ∙ ap (λ r. ((world_of found.base).cells r).ant) at ∙ is') in
        subst (λ (a : Ant). instruction_at (mind_of field.minds a.colour) a.state ≡ instruction_at (mind_of found.minds a.colour) a.state) one same;
  }

  pub living_test : (q : Pos) (test : Bool) → place_in (world_of field.world) t ≡ Some q → (test ≡ true) ↔ (instruction_at (mind_of field.minds ant.colour) ant.state ≡ instruction_at (mind_of found.minds ant.colour) ant.state) → (test ≡ true) ↔ IsSameAnt field found t
  living_test q test here is_test = (λ now. alive q here (is_test.0 now), λ same. is_test.1 (same.instruction p ant there is))

  pub living_dead : place_in (world_of field.world) t ≡ None → (false ≡ true) ↔ IsSameAnt field found t
  living_dead here = (λ never. absurd (false≢true never), λ same. let e : None ≡ Some p = sym (same.dead.1 here) ∙ there in absurd (cc))

-- what a test of the numbers says
pub game_test : (field : FieldValue) (found : FoundValue) (test : Bool) →
    (test ≡ true) ↔ ((field.seed ≡ found.seed) × (field.minds.sheet ≡ found.minds.sheet) × ((field.world.width ≡ found.base.width) × (field.world.height ≡ found.base.height) × (field.world.ids ≡ found.base.ids)))
    → (test ≡ true) ↔ IsSameGame field found
game_test field found test is = (
  λ now. let all = is.0 now in record { seed = all.0; sheet = all.1; width = all.2.0; height = all.2.1; ids = all.2.2 },
  λ game. is.1 (game.seed, game.sheet, (game.width, game.height, game.ids)),
)

-- and a test of all
pub agrees_test : (field : FieldValue) (found : FoundValue) (look : LookValue) (guess : ℕ) (test : Bool) →
    (test ≡ true) ↔ (IsSameGame field found × (look.guess ≡ guess) × (AllByRecursion (λ (read : Sighting). (world_of found.base).cells (seen_place read) ≡ (world_of field.world).cells (seen_place read)) look.reads × IsSameAnt field found look.turn))
    → (test ≡ true) ↔ AgreesWith field found look guess
agrees_test field found look guess test is = (
  λ now. let all = is.0 now in record { game = all.0; guessed = all.1; cells = all.2.0; same_ant = all.2.1 },
  λ agrees. is.1 (agrees.game, agrees.guessed, (agrees.cells, agrees.same_ant)),
)
