-- Positions and their numbers in row order.
use Rattle.std.proofs.Common.{◌≡◌, ◌↔◌, inl, inr, ℕ, ◌+◌, ◌*◌, ◌<◌, ◌≤◌, List, length, subst, sym, ◌∙◌, ap, ap₂, arith}
use Rattle.std.proofs.lemmas.Bool.{cases_lt}
use Rattle.std.proofs.lemmas.Nat.{div-add-mod', div-mul-add, div_below, mod-mul-add, mod_below, mul-le}
use Rattle.hex_geometry.specs.Position.{IsInside}
use Rattle.hex_geometry.specs.RowOrder.{IsBefore, index_of, pos_at}
use Rattle.hex_geometry.specs.declared.position.Pos.{Pos}

-- the position of a position's number in row order is that position
pub pos_at-index_of : (width : ℕ) (p : Pos) → p.x < width → pos_at width (index_of width p) ≡ p
pos_at-index_of width p column =
    let join : ℕ → ℕ → Pos = λ x y. record { x = x; y = y } in
    ap₂ join (mod-mul-add p.y width p.x column) (div-mul-add p.y width p.x column)

-- the number in row order of a number's position is that number
pub index_of-pos_at : (width i : ℕ) → index_of width (pos_at width i) ≡ i
index_of-pos_at width i = div-add-mod' i width

-- two positions with one number are one
pub index_of-same : (width : ℕ) (p q : Pos) → p.x < width → q.x < width → index_of width p ≡ index_of width q → p ≡ q
index_of-same width p q left right same = sym (pos_at-index_of width p left) ∙ ap (pos_at width) same ∙ pos_at-index_of width q right

-- a column and a row of a world have a number below the number of cells
pub index_of-below : (width height x y : ℕ) → x < width → y < height → y * width + x < width * height
index_of-below width height x y column row = grind arith

-- the number of a position inside is below the number of cells
pub index_of-inside : (width height : ℕ) (p : Pos) → IsInside width height p → index_of width p < width * height
index_of-inside width height p inside = index_of-below width height p.x p.y inside.column inside.row

-- if a list has an item for each cell, there is one at the number of a position inside
pub index_of-early : {A : Type 0} (items : List A) (width height : ℕ) (p : Pos) → length items ≡ width * height → IsInside width height p → index_of width p < length items
index_of-early items width height p full inside = subst (λ n. index_of width p < n) (sym full) (index_of-inside width height p inside)

-- a number below the number of cells is that of a position inside
pub pos_at-inside : (width height i : ℕ) → i < width * height → IsInside width height (pos_at width i)
pos_at-inside width height i early =
    let some : 0 < width = grind arith in
    record { column = mod_below i width some; row = div_below i width height some (omega arith) }

-- a position in a row above has a lesser number
above : (width : ℕ) (p q : Pos) → p.x < width → p.y < q.y → index_of width p < index_of width q
above width p q column row = let rows : (p.y + 1) * width ≤ q.y * width = mul-le (p.y + 1) width q.y width (omega arith) (omega arith) in omega arith

-- a position is before another exactly if its number is less
pub IsBefore-index_of : (width : ℕ) (p q : Pos) → p.x < width → q.x < width → IsBefore p q ↔ (index_of width p < index_of width q)
IsBefore-index_of width p q left right = (
  λ before. elim (cases_lt p.y q.y) [
    | inl row ↦ above width p q left row
    | inr beside ↦
        let down : p.y ≤ q.y = before.row in
        let one : p.y ≡ q.y = omega arith in
        let column : p.x < q.x = before.column one in
        subst (λ y. p.y * width + p.x < y * width + q.x) one (omega arith)
  ],
  λ less. elim (cases_lt q.y p.y) [
    | inl row ↦ let more : index_of width q < index_of width p = above width q p right row in absurd (omega arith)
    | inr not_below ↦ record {
      row = not_below;
      column = λ one. let same : q.y * width + p.x < q.y * width + q.x = subst (λ y. y * width + p.x < q.y * width + q.x) one less in omega arith;
    }
  ],
)
