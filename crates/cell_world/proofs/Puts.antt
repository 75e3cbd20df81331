-- A world with one cell changed: what is at each position.
use Rattle.std.proofs.Common.{◌≡◌, ◌≢◌, ◌⊎◌, inl, inr, cond, sym, ap, ◌∙◌}
use Rattle.std.proofs.Math.Path.{fun_ext}
use Rattle.std.proofs.lemmas.Bool.{cases_Bool, cond-true, cond-false}
use Rattle.hex_geometry.specs.declared.position.Pos.{Pos}
use Rattle.hex_geometry.specs.Position.{same_pos}
use Rattle.hex_geometry.proofs.Places.{same_pos_self, same_pos_true, same_pos_false, same_pos_apart}
use Rattle.cell_world.specs.declared.cell.Cell.{Cell}
use Rattle.cell_world.specs.World.{World, Cells, put_cell, with_cells, put}

-- two positions are one or apart
pub cases_pos : (p q : Pos) → (p ≡ q) ⊎ (p ≢ q)
cases_pos p q = elim (cases_Bool (same_pos p q)) [ inl same ↦ inl (same_pos_true p q same) | inr apart ↦ inr (same_pos_false p q apart) ]

-- what is put at p is at p
pub put_cell-same : (cells : Cells) (p : Pos) (cell : Cell) → put_cell cells p cell p ≡ cell
unfolding put_cell
put_cell-same cells p cell = cond-true _ cell (cells p) (same_pos_self p)

-- elsewhere all is as before
pub put_cell-other : (cells : Cells) (p : Pos) (cell : Cell) (q : Pos) → p ≢ q → put_cell cells p cell q ≡ cells q
unfolding put_cell
put_cell-other cells p cell q apart = cond-false _ cell (cells q) (same_pos_apart p q apart)

-- the second of two changes of one cell counts
pub put_cell-twice : (cells : Cells) (p : Pos) (first second : Cell) → put_cell (put_cell cells p first) p second ≡ put_cell cells p second
unfolding put_cell
put_cell-twice cells p first second =
    fun_ext λ q. elim (cases_Bool (same_pos p q)) [
      | inl same ↦ cond-true _ _ _ same ∙ sym (cond-true _ _ _ same)
      | inr apart ↦ cond-false _ _ _ apart ∙ cond-false _ _ _ apart ∙ sym (cond-false _ _ _ apart)
    ]

-- what was there already changes nothing
pub put_cell-unchanged : (cells : Cells) (p : Pos) (cell : Cell) → cell ≡ cells p → put_cell cells p cell ≡ cells
unfolding put_cell
put_cell-unchanged cells p cell old =
    fun_ext λ q. elim (cases_Bool (same_pos p q)) [
      | inl same ↦ cond-true _ _ _ same ∙ old ∙ ap cells (same_pos_true p q same)
      | inr apart ↦ cond-false _ _ _ apart
    ]

-- changes of two cells, in either order
pub put_cell-swap : (cells : Cells) (p : Pos) (here : Cell) (q : Pos) (there : Cell) → p ≢ q → put_cell (put_cell cells p here) q there ≡ put_cell (put_cell cells q there) p here
unfolding put_cell
put_cell-swap cells p here q there apart =
    fun_ext λ r. elim (cases_Bool (same_pos p r)) [
      | inl at_p ↦ cond-false _ _ _ (same_pos_apart q r (λ at_q. apart (same_pos_true p r at_p ∙ sym at_q))) ∙ cond-true _ _ _ at_p ∙ sym (cond-true _ _ _ at_p)
      | inr not_p ↦ ap (cond (same_pos q r) there) (cond-false _ _ _ not_p) ∙ sym (cond-false _ _ _ not_p)
    ]

-- the second of two changes of one cell of a world counts
pub put-twice : (w : World) (p : Pos) (first second : Cell) → put (put w p first) p second ≡ put w p second
put-twice w p first second = ap (with_cells w) (put_cell-twice w.cells p first second)

-- what was there already changes nothing of a world
pub put-unchanged : (w : World) (p : Pos) (cell : Cell) → cell ≡ w.cells p → put w p cell ≡ w
put-unchanged w p cell old = ap (with_cells w) (put_cell-unchanged w.cells p cell old)

-- changes of two cells of a world, in either order
pub put-swap : (w : World) (p : Pos) (here : Cell) (q : Pos) (there : Cell) → p ≢ q → put (put w p here) q there ≡ put (put w q there) p here
put-swap w p here q there apart = ap (with_cells w) (put_cell-swap w.cells p here q there apart)
