-- A world without an ant, written out.
use Rattle.std.proofs.Common.{◌≡◌, ℕ, ◌<◌, true, false, List, [], ◌∷◌, Some, None, refl, arith}
use Rattle.hex_geometry.specs.declared.direction.Dir.TheVariants.{East}
use Rattle.cell_world.specs.declared.ant.Ant.{Ant}
use Rattle.cell_world.specs.declared.ant.Colour.TheVariants.{Red}
use Rattle.cell_world.specs.declared.cell.Cell.{Cell}
use Rattle.cell_world.specs.declared.kind.Kind.{Kind}
use Rattle.cell_world.specs.declared.kind.Kind.TheVariants.{Rock, Clear, Food}
use Rattle.cell_world.specs.declared.marks.Marks.{Marks}
use Rattle.cell_world.specs.Cell.{rock}
use Rattle.cell_world.specs.Grid.{Grid, IsGround, IsWorld, cell_in}
use Rattle.cell_world.specs.Marks.{no_marks}
use Rattle.cell_world.specs.Opening.{floor, opening}
use Rattle.cell_world.specs.World.{weight}
use Rattle.cell_world.proofs.OpeningValid.{IsWorld-opening}
use Rattle.cell_world.proofs.Plans.{IsPlan-test}

-- `# # # # #`, `# 4 . . #`, `# # # # #`
abbrev fed_kinds : List Kind
fed_kinds = Rock ∷ Rock ∷ Rock ∷ Rock ∷ Rock ∷ Rock ∷ Food 4 ∷ Clear ∷ Clear ∷ Rock ∷ Rock ∷ Rock ∷ Rock ∷ Rock ∷ Rock ∷ []

-- a rocky cell and a clear one with this food, with these markers
abbrev stone : Marks → Cell
stone marks = record { rocky = true; hill = None; food = 0; red = marks; black = marks; ant = None }

abbrev ground : Marks → ℕ → Cell
ground marks food = record { rocky = false; hill = None; food = food; red = marks; black = marks; ant = None }

-- these cells, after two ants that are dead
abbrev pub fed_grid : Marks → Grid
fed_grid m = record {
  width = 5;
  height = 3;
  ids = 2;
  cells = stone m ∷ stone m ∷ stone m ∷ stone m ∷ stone m ∷ stone m ∷ ground m 4 ∷ ground m 0 ∷ ground m 0 ∷ stone m ∷ stone m ∷ stone m ∷ stone m ∷ stone m ∷ stone m ∷ [];
}

-- are a world without an ant
pub IsGround-fed : IsGround (fed_grid no_marks)
unfolding opening rock floor cell_in weight
IsGround-fed =
    let base : IsWorld (opening 5 3 fed_kinds) = IsWorld-opening 5 3 fed_kinds (IsPlan-test 5 3 fed_kinds refl) in
    let v = base.valid in
    record {
      world = record {
        full = refl;
        valid = record {
          wide = v.wide;
          narrow = v.narrow;
          tall = v.tall;
          low = v.low;
          few = omega arith;
          rim = v.rim;
          bare = v.bare;
          known = λ p ant is. let below : ant.id < 0 = v.known p ant is in absurd (omega arith);
          once = v.once;
          six = v.six;
          light = v.light;
        };
      };
      empty = (refl, (refl, (refl, (refl, (refl, (refl, (refl, (refl, (refl, (refl, (refl, (refl, (refl, (refl, (refl, tt)))))))))))))));
    }

-- cells are no ground where an ant stands on one of them
abbrev lone : Ant
lone = record { id = 0; colour = Red; state = 0; resting = 0; facing = East; laden = false }

pub manned_is_no_ground : IsGround (record (fed_grid no_marks) { cells = ground no_marks 0 ∷ record (ground no_marks 0) { ant = Some lone } ∷ [] }) → ⊥
manned_is_no_ground is = (let never : Some lone ≡ None = is.empty.1.0 in absurd (cc))
