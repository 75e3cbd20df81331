-- Lines that are pushed after the LF of the line before, and a last LF, are lines that end in LF.
use Rattle.std.proofs.Common.{◌≡◌, ℕ, zero, suc, ◌≤◌, Bool, true, false, cond, List, [], ◌++◌, drop, ◌&&◌, ◌==◌, refl, sym, ◌∙◌, ap, append_assoc, append-nil, arith}
use Rattle.std.proofs.lemmas.Bool.{ne_eqb}
use Rattle.std.specs.Prelude.{codes}
use Rattle.cell_world.specs.declared.cell.Cell.{Cell}
use Rattle.cell_world.specs.World.{World}
use Rattle.ant_base.specs.Layout.{numbered}
use Rattle.ant_base.proofs.Numbered.{numbered-same}
use Rattle.dump_print.specs.Inner.Breaks.{line_body, row_tail, broken_line, broken_row}
use Rattle.dump_print.specs.Texts.{cell_line, row_text, cells_text}

-- a text may be moved from the front of all parts to their end, if it may at each part
pub numbered-shift : (lf : List ℕ) (f g : ℕ → List ℕ) (n : ℕ) → ((i : ℕ) → lf ++ f i ≡ g i ++ lf) → lf ++ numbered f n ≡ numbered g n ++ lf
unfolding numbered
numbered-shift lf f g zero one = append-nil lf
numbered-shift lf f g (suc n) one =
    sym (append_assoc lf (numbered f n) (f n))
    ∙ ap (λ t. t ++ f n) (numbered-shift lf f g n one)
    ∙ append_assoc (numbered g n) lf (f n)
    ∙ ap (λ t. numbered g n ++ t) (one n)
    ∙ sym (append_assoc (numbered g n) (g n) lf)

-- what precedes the first part is in front of all
numbered-first : (front : List ℕ) (f g : ℕ → List ℕ) (n : ℕ) → f 0 ≡ front ++ g 0 → ((i : ℕ) → f (suc i) ≡ g (suc i)) → numbered f (suc n) ≡ front ++ numbered g (suc n)
unfolding numbered
numbered-first front f g zero first same = first
numbered-first front f g (suc n) first same =
    ap (λ t. t ++ f (suc n)) (numbered-first front f g n first same)
    ∙ append_assoc front (numbered g (suc n)) (f (suc n))
    ∙ ap (λ t. front ++ (numbered g (suc n) ++ t)) (same n)

-- the LF
feed : List ℕ
feed = codes "\n"

-- the line of a cell is its body and an LF
cell_line-body : (x y : ℕ) (cell : Cell) → cell_line x y cell ≡ line_body x y cell ++ feed
unfolding cell_line line_body row_tail feed
cell_line-body x y cell = simp append_assoc

module _ (w : World) where
  body : ℕ → ℕ → List ℕ
  body y x = line_body x y (w.cells (record { x = x; y = y }))

  -- row y, each line of which is after an LF
  behind : ℕ → List ℕ
  behind y = numbered (λ x. feed ++ body y x) w.width

  row_text-shift : (y : ℕ) → feed ++ row_text w y ≡ behind y ++ feed
  unfolding row_text behind body
  row_text-shift y =
      numbered-shift feed (λ x. cell_line x y (w.cells (record { x = x; y = y }))) (λ x. feed ++ body y x) w.width
      (λ x. ap (λ t. feed ++ t) (cell_line-body x y (w.cells (record { x = x; y = y }))) ∙ sym (append_assoc feed (body y x) feed))

  cells_text-shift : feed ++ cells_text w ≡ numbered behind w.height ++ feed
  unfolding cells_text
  cells_text-shift = numbered-shift feed (row_text w) behind w.height row_text-shift

  behind-first : 1 ≤ w.width → behind 0 ≡ feed ++ broken_row w 0
  unfolding behind broken_row feed body
  behind-first wide = go w.width wide where
    go : (n : ℕ) → 1 ≤ n → numbered (λ x. feed ++ body 0 x) n ≡ feed ++ numbered (broken_line w 0) n
    go zero some = absurd (omega arith)
    go (suc n) some = numbered-first feed (λ x. feed ++ body 0 x) (broken_line w 0) n refl (λ x. rw (ne_eqb (suc x) 0 (omega arith)) refl)

  behind-later : (y : ℕ) → behind (suc y) ≡ broken_row w (suc y)
  unfolding behind broken_row feed body
  behind-later y = numbered-same (λ x. feed ++ body (suc y) x) (broken_line w (suc y)) w.width (λ x _. rw (ne_eqb (suc y) 0 (omega arith)) (go x (x == 0))) where
    go : (x : ℕ) (b : Bool) → feed ++ body (suc y) x ≡ cond (b && false) [] feed ++ body (suc y) x
    go x true = refl
    go x false = refl

  -- all lines are those after the LF of the line before, and a last LF
  pub cells_text-broken : 1 ≤ w.width → 1 ≤ w.height → cells_text w ≡ numbered (broken_row w) w.height ++ codes "\n"
  unfolding feed
  cells_text-broken wide high =
      ap (drop 1) (cells_text-shift ∙ ap (λ t. t ++ feed) (go w.height high) ∙ append_assoc feed (numbered (broken_row w) w.height) feed)
    where
      go : (n : ℕ) → 1 ≤ n → numbered behind n ≡ feed ++ numbered (broken_row w) n
      go zero some = absurd (omega arith)
      go (suc n) some = numbered-first feed behind (broken_row w) n (behind-first wide) behind-later
