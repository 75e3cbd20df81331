-- All lines of a save.
use Rattle.std.proofs.Common.{ℕ, ◌≤◌, List, [], ◌∷◌, ◌++◌, refl, arith, codes}
use Rattle.std.specs.List.{AllByRecursion}
use Rattle.brain_read.specs.declared.instr.Instr.{Instr}
use Rattle.match_save.specs.Draft.{IsHead, IsInForm, IsProgram}
use Rattle.match_save.specs.declared.head.Head.{Head}
use Rattle.match_save.specs.declared.soil.Soil.{Soil}
use Rattle.match_save.specs.declared.soil.Soil.TheVariants.{Clear}
use Rattle.match_save.specs.Text.{ant_lines, draft_lines, food_byte, food_lines, marks_byte, program_lines, rows, soil_byte}
use Rattle.match_save.specs.Inner.Reading.{BodyParts, CellParts, body_parts, brain_parts, cell_parts, draft_of_parts, read_draft}
use Rattle.match_save.proofs.Readers.Composed.{Recasts}
use Rattle.match_save.proofs.Readers.Good.{Good, followed-good, mapped-good}
use Rattle.match_save.proofs.HeadReads.{head-good, head_print}
use Rattle.match_save.proofs.ProgramReads.{program-good}
use Rattle.match_save.proofs.RowBytes.{IsSoil, soil-spells, value-spells}
use Rattle.match_save.proofs.RowReads.{AreValues, rows-good}
use Rattle.match_save.proofs.FoodReads.{AreAmounts, all-foods-good}
use Rattle.match_save.proofs.AntReads.{AreAnts, ants-good}

-- the sizes of a world
record AreSizes (width height : ℕ) : Type 0 where
  wide : 1 ≤ width
  narrow : width ≤ 512
  tall : 1 ≤ height
  low : height ≤ 512

abbrev AreCells : ℕ → ℕ → CellParts → Type 0
AreCells width height p =
    AreValues soil-spells width height p.0 × (AreValues value-spells width height p.1.0 × (AreValues value-spells width height p.1.1.0 × AreAmounts width height p.1.1.1))

abbrev IsBody : ℕ → ℕ → BodyParts → Type 0
IsBody width height p = (IsProgram p.0.0 × IsProgram p.0.1) × (AreCells width height p.1.0 × AreAnts width height 0 p.1.1)

abbrev cells_print : ℕ → ℕ → CellParts → List (List ℕ)
cells_print width height p =
    rows soil_byte width height p.0
    ++ (rows marks_byte width height p.1.0
    ++ (rows marks_byte width height p.1.1.0
    ++ (rows food_byte width height p.1.1.1 ++ food_lines width 0 p.1.1.1)))

abbrev body_print : ℕ → ℕ → BodyParts → List (List ℕ)
body_print width height p = (program_lines (codes "red") p.0.0 ++ program_lines (codes "black") p.0.1) ++ (cells_print width height p.1.0 ++ ant_lines p.1.1)

brains-good : Good brain_parts (λ (z : List Instr × List Instr). IsProgram z.0 × IsProgram z.1) (λ (z : List Instr × List Instr). program_lines (codes "red") z.0 ++ program_lines (codes "black") z.1)
brains-good = followed-good (program-good (codes "red") refl) (λ red ok. program-good (codes "black") refl)

cells-good : (width height : ℕ) → AreSizes width height → Good (cell_parts width height) (AreCells width height) (cells_print width height)
cells-good width height sizes =
    followed-good (rows-good soil-spells width height Clear tt)
    (λ soils ok1. followed-good (rows-good value-spells width height 0 (omega arith))
    (λ red_marks ok2. followed-good (rows-good value-spells width height 0 (omega arith))
    (λ black_marks ok3. all-foods-good width height sizes.wide sizes.narrow sizes.low)))

body-good : (width height : ℕ) → AreSizes width height → Good (body_parts width height) (IsBody width height) (body_print width height)
body-good width height sizes =
    followed-good brains-good
    (λ brains ok1. followed-good (cells-good width height sizes)
    (λ cells ok2. ants-good width height sizes.wide sizes.narrow sizes.tall sizes.low))

sizes_of : (h : Head) → IsHead h → AreSizes h.width h.height
sizes_of h ok = record { wide = (let l = ok.wide in omega (arith, l)); narrow = ok.narrow; tall = (let l = ok.tall in omega (arith, l)); low = ok.low }

abbrev IsWhole : Head × BodyParts → Type 0
IsWhole p = IsHead p.0 × IsBody p.0.width p.0.height p.1

abbrev whole_print : Head × BodyParts → List (List ℕ)
whole_print p = head_print p.0 ++ body_print p.0.width p.0.height p.1

every_soil : (soils : List Soil) → AllByRecursion IsSoil soils
every_soil [] = tt
every_soil (soil ∷ soils) = (tt, every_soil soils)

draft-casts : Recasts draft_of_parts IsWhole IsInForm whole_print draft_lines
unfolding draft_lines
draft-casts = record {
  made_ok = λ p ok. record {
    head = ok.0;
    red = ok.1.0.0;
    black = ok.1.0.1;
    soils = ok.1.1.0.0.full;
    red_marks = ok.1.1.0.1.0.full;
    red_sets = ok.1.1.0.1.0.each;
    black_marks = ok.1.1.0.1.1.0.full;
    black_sets = ok.1.1.0.1.1.0.each;
    foods = ok.1.1.0.1.1.1.full;
    amounts = ok.1.1.0.1.1.1.each;
    ants = ok.1.1.1.each;
    rise = ok.1.1.1.rise;
  };
  same = λ p ok. refl;
  unmade = λ d ok. (
    (d.head, ((d.red, d.black), ((d.soils, (d.red_marks, (d.black_marks, d.foods))), d.ants))),
    (ok.head, ((ok.red, ok.black), ((record { full = ok.soils; each = every_soil d.soils }, (record { full = ok.red_marks; each = ok.red_sets }, (record { full = ok.black_marks; each = ok.black_sets }, record { full = ok.foods; each = ok.amounts }))), record { each = ok.ants; rise = ok.rise }))),
    refl,
  );
}

pub draft-good : Good read_draft IsInForm draft_lines
draft-good = mapped-good draft-casts (followed-good head-good (λ head ok. body-good head.width head.height (sizes_of head ok)))
