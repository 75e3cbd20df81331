-- The line of a cell is in the dump of its world.
use Rattle.std.proofs.Common.{◌≡◌, ℕ, ◌+◌, ◌<◌, List, ◌++◌, codes, decimal, ◌∙◌, ap, append_assoc, arith}
use Rattle.ant_base.specs.Layout.{numbered}
use Rattle.ant_base.proofs.Numbered.{numbered-front, numbered-more}
use Rattle.hex_geometry.specs.declared.position.Pos.{Pos}
use Rattle.hex_geometry.specs.Position.{IsInside}
use Rattle.cell_world.specs.World.{World}
use Rattle.cell_world.proofs.Places.{place_in-inside}
use Rattle.dump_print.specs.Texts.{cell_line, cells_text, dump_text, row_text}
use Rattle.game_reports.specs.Laws.{LinesAreOfDumps, StandsInDump}
use Rattle.game_reports.specs.Trace.{way_line}

-- a part is among all of them
part-stands : (f : ℕ → List ℕ) (i n : ℕ) → i < n → (before : List ℕ) × (behind : List ℕ) × (numbered f n ≡ before ++ (f i ++ behind))
part-stands f i n early =
    let front = numbered-front f (i + 1) n (omega (arith, early)) in
    (numbered f i, front.0, front.1 ∙ ap (λ t. t ++ front.0) (numbered-more f i) ∙ append_assoc (numbered f i) (f i) front.0)

-- a line among the lines of a row among the rows, after three texts
regroup : (a b c rows lines line more rest : List ℕ) → a ++ (b ++ (c ++ (rows ++ ((lines ++ (line ++ more)) ++ rest)))) ≡ (a ++ (b ++ (c ++ (rows ++ lines)))) ++ (line ++ (more ++ rest))
regroup a b c rows lines line more rest = simp append_assoc

-- the line of a cell that is inside is in the dump
cell-stands : (w : World) (round : ℕ) (p : Pos) → IsInside w.width w.height p → StandsInDump w round (cell_line p.x p.y (w.cells p))
unfolding dump_text cells_text row_text
cell-stands w round p inside =
    let line : ℕ → List ℕ = λ x. cell_line x p.y (w.cells (record { x = x; y = p.y })) in
    let row = part-stands line p.x w.width inside.column in
    let rows = part-stands (row_text w) p.y w.height inside.row in
    let all : numbered (row_text w) w.height ≡ rows.0 ++ ((row.0 ++ (line p.x ++ row.1)) ++ rows.1) = rows.2 ∙ ap (λ t. rows.0 ++ (t ++ rows.1)) row.2 in
    record {
      before = codes "\nAfter round " ++ (decimal round ++ (codes "...\n" ++ (rows.0 ++ row.0)));
      behind = row.1 ++ rows.1;
      whole =
          ap (λ t. codes "\nAfter round " ++ (decimal round ++ (codes "...\n" ++ t))) all
          ∙ regroup (codes "\nAfter round ") (decimal round) (codes "...\n") rows.0 row.0 (line p.x) row.1 rows.1;
    }

pub lines_are_of_dumps : LinesAreOfDumps
lines_are_of_dumps w round id p stands = (ap (way_line round w) stands, cell-stands w round p (place_in-inside w id p stands))
