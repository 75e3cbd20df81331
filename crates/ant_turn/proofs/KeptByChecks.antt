-- What checks leave as it was.
use Rattle.std.proofs.Common.{◌≡◌, ◌⊎◌, inl, inr, ℕ, ◌≤◌, ◌+◌, false, List, [], ◌∷◌, Some, None, add-zero, refl, sym, ap, ◌∙◌, arith}
use Rattle.hex_geometry.specs.declared.position.Pos.{Pos}
use Rattle.cell_world.specs.declared.ant.Ant.{Ant}
use Rattle.cell_world.specs.declared.cell.Cell.{Cell}
use Rattle.cell_world.specs.Cell.{holds_id}
use Rattle.cell_world.specs.World.{Cells, World, put_cell, with_cells, weight}
use Rattle.cell_world.specs.Valid.{Valid}
use Rattle.cell_world.proofs.Puts.{cases_pos, put_cell-same, put_cell-other}
use Rattle.cell_world.proofs.Places.{ant-clear}
use Rattle.cell_world.proofs.ValidLemmas.{Valid-put, weight-replaces}
use Rattle.ant_turn.specs.Kills.{after_kill, check_at, check_all, corpse_food}
use Rattle.ant_turn.specs.Minds.{Minds, Fits}
use Rattle.ant_turn.specs.Sheet.{Sheet}
use Rattle.ant_turn.proofs.Checks.{check_at-cases}
use Rattle.ant_turn.proofs.Corpses.{CanSet-after_kill, Replaces-after_kill}

-- who was killed isn't killed again
pub after_kill-twice : (sheet : Sheet) (cell : Cell) → after_kill sheet (after_kill sheet cell) ≡ after_kill sheet cell
after_kill-twice sheet cell =
    let plain : Cell → ℕ → Cell = λ c n. record c { food = n; ant = None } in
    ap (plain cell) (add-zero (cell.food + corpse_food sheet cell.ant))

-- after a check each cell is unchanged, or its ant was killed
pub check_at-cell : (sheet : Sheet) (cells : Cells) (p q : Pos) → (check_at sheet cells p q ≡ cells q) ⊎ (check_at sheet cells p q ≡ after_kill sheet (cells q))
check_at-cell sheet cells p q =
    check_at-cases sheet cells p (λ now _. (now q ≡ cells q) ⊎ (now q ≡ after_kill sheet (cells q)))
    (inl refl)
    (λ _. elim (cases_pos p q) [
      | inl one ↦ inr (ap (put_cell cells p (after_kill sheet (cells p))) (sym one) ∙ put_cell-same cells p (after_kill sheet (cells p)) ∙ ap (λ r. after_kill sheet (cells r)) one)
      | inr apart ↦ inl (put_cell-other cells p (after_kill sheet (cells p)) q apart)
    ])

-- after checks of a list of places too
pub check_all-cell : (sheet : Sheet) (places : List Pos) (cells : Cells) (q : Pos) → (check_all sheet cells places q ≡ cells q) ⊎ (check_all sheet cells places q ≡ after_kill sheet (cells q))
check_all-cell sheet [] cells q = inl refl
check_all-cell sheet (p ∷ places) cells q =
    elim (check_at-cell sheet cells p q) [
      | inl first ↦ elim (check_all-cell sheet places (check_at sheet cells p) q) [
        | inl then ↦ inl (then ∙ first)
        | inr then ↦ inr (then ∙ ap (after_kill sheet) first)
      ]
      | inr first ↦ elim (check_all-cell sheet places (check_at sheet cells p) q) [
        | inl then ↦ inr (then ∙ first)
        | inr then ↦ inr (then ∙ ap (after_kill sheet) first ∙ after_kill-twice sheet (cells q))
      ]
    ]

-- a cell of which only food and ant may be another: there is no less food, and the same ant or none
pub record Outlives (old new : Cell) : Type 0 where
  pub same_kind : new.rocky ≡ old.rocky
  pub same_hill : new.hill ≡ old.hill
  pub same_red : new.red ≡ old.red
  pub same_black : new.black ≡ old.black
  pub no_less_food : old.food ≤ new.food
  pub same_ant : (new.ant ≡ old.ant) ⊎ (new.ant ≡ None)

-- checks change food and ants alone
pub check_all-outlives : (sheet : Sheet) (places : List Pos) (cells : Cells) (q : Pos) → Outlives (cells q) (check_all sheet cells places q)
check_all-outlives sheet places cells q =
    elim (check_all-cell sheet places cells q) [
      | inl same ↦ rw same (record { same_kind = refl; same_hill = refl; same_red = refl; same_black = refl; no_less_food = omega arith; same_ant = inl refl })
      | inr struck ↦ rw struck (record { same_kind = refl; same_hill = refl; same_red = refl; same_black = refl; no_less_food = omega arith; same_ant = inr refl })
    ]

-- a cell has no new ant after checks
pub check_all-ant : (sheet : Sheet) (places : List Pos) (cells : Cells) (q : Pos) (ant : Ant) → (check_all sheet cells places q).ant ≡ Some ant → (cells q).ant ≡ Some ant
check_all-ant sheet places cells q ant is =
    elim (check_all-outlives sheet places cells q).same_ant [
      | inl same ↦ sym same ∙ is
      | inr none ↦ let e : None ≡ Some ant = sym none ∙ is in absurd (cc)
    ]

-- and holds no new id
pub check_all-holds_id : (sheet : Sheet) (places : List Pos) (cells : Cells) (t : ℕ) (q : Pos) → holds_id t (cells q) ≡ false → holds_id t (check_all sheet cells places q) ≡ false
check_all-holds_id sheet places cells t q free =
    elim (check_all-cell sheet places cells q) [
      | inl same ↦ ap (holds_id t) same ∙ free
      | inr struck ↦ ap (holds_id t) struck
    ]

-- the check of a cell of a world makes a world
pub check_at-Valid : (sheet : Sheet) (w : World) (p : Pos) → sheet.corpse ≤ 9 → Valid w → Valid (with_cells w (check_at sheet w.cells p))
check_at-Valid sheet w p light valid =
    check_at-cases sheet w.cells p (λ now _. Valid (with_cells w now)) valid
    (λ it. Valid-put w 1 p (after_kill sheet (w.cells p)) valid (CanSet-after_kill sheet w 1 p it.ant light valid (omega arith) it.is))

-- so do checks
pub check_all-Valid : (sheet : Sheet) (places : List Pos) (w : World) → sheet.corpse ≤ 9 → Valid w → Valid (with_cells w (check_all sheet w.cells places))
check_all-Valid sheet [] w light valid = valid
check_all-Valid sheet (p ∷ places) w light valid = check_all-Valid sheet places (with_cells w (check_at sheet w.cells p)) light (check_at-Valid sheet w p light valid)

-- the world is no heavier after a check
pub check_at-weight : (sheet : Sheet) (w : World) (p : Pos) → sheet.corpse ≤ 9 → Valid w → weight (with_cells w (check_at sheet w.cells p)) ≤ weight w
check_at-weight sheet w p light valid =
    check_at-cases sheet w.cells p (λ now _. weight (with_cells w now) ≤ weight w) (omega arith)
    (λ it. weight-replaces w p (after_kill sheet (w.cells p)) valid (ant-clear w p it.ant valid it.is) (Replaces-after_kill sheet (w.cells p) it.ant it.is light))

-- nor after checks
pub check_all-weight : (sheet : Sheet) (places : List Pos) (w : World) → sheet.corpse ≤ 9 → Valid w → weight (with_cells w (check_all sheet w.cells places)) ≤ weight w
check_all-weight sheet [] w light valid = omega arith
check_all-weight sheet (p ∷ places) w light valid =
    let once = check_at-weight sheet w p light valid in
    let rest = check_all-weight sheet places (with_cells w (check_at sheet w.cells p)) light (check_at-Valid sheet w p light valid) in
    omega (arith, once, rest)

-- brains that fit still fit after checks
pub check_all-Fits : (sheet : Sheet) (places : List Pos) (w : World) (minds : Minds) → Fits w minds → Fits (with_cells w (check_all sheet w.cells places)) minds
check_all-Fits sheet places w minds fits = record { below = λ q ant is. fits.below q ant (check_all-ant sheet places w.cells q ant is) }
