-- What is wrong with a text is read as its fault.
use Rattle.std.proofs.Common.{◌≡◌, ℕ, suc, ◌+◌, ◌-◌, ◌*◌, ◌<◌, ◌≤◌, true, false, ◌&&◌, leb, ltb, ok_or, List, [], ◌∷◌, ◌++◌, length, drop, Option, Some, None, Ok, Err, refl, sym, ◌∙◌, ap, subst, arith}
use Rattle.std.proofs.lemmas.Bool.{and_left, and_right, cond-false, cond-true, le-ltb, lt-leb, lt-ltb, true_from_ne_false}
use Rattle.std.proofs.lemmas.List.Folds.{list_all-append}
use Rattle.std.proofs.lemmas.List.Sums.{list_all-from_AllPass}
use Rattle.std.specs.List.{list_all}
use Rattle.ant_base.specs.Lines.{is_blank, lines_of}
use Rattle.hex_geometry.specs.declared.position.Pos.{Pos}
use Rattle.cell_world.specs.declared.kind.Kind.{Kind}
use Rattle.hex_geometry.proofs.RowLemmas.{index_of-inside, index_of-pos_at, pos_at-inside}
use Rattle.hex_geometry.specs.RowOrder.{index_of, pos_at}
use Rattle.cell_world.specs.Limits.{most_ants}
use Rattle.cell_world.specs.Opening.{hill_count, kind_at}
use Rattle.world_read.specs.declared.fault.WorldFault.{WorldFault}
use Rattle.world_read.specs.declared.fault.WorldFault.TheVariants.{BadWidth, BadHeight, MissingRow, BadCell, ShortRow, LongRow, ExtraRow, OpenRim, TooManyAnts, OutOfMemory}
use Rattle.world_read.specs.Inner.Reading.{kind_of, after_height, after_width, cell_of, rows_ended, first_size, is_open_at, limited, onto_row, open_rim, plan_of, row_from, rows_from, size_of, with_cell, with_row}
use Rattle.world_read.specs.Bytes.{spelled}
use Rattle.world_read.specs.Faulty.{BeginsWithNoSize, HasExtraRow, HasNoHeight, HasOpenRim, HasRowFault, HasRows, HasTooManyAnts, IsCellFault, HasWholeRows, IsNoCell, IsRowFault, IsWorldFault}
use Rattle.world_read.specs.Grammar.{Plan}
use Rattle.world_read.specs.Inner.Scan.{IsClosedBefore}
use Rattle.world_read.proofs.BytesLemmas.{command_kind_of-known}
use Rattle.world_read.proofs.ScanLemmas.{IsInner-closed, first_of-closed, is_open-closed, open_rim-closed, open_rim-first}
use Rattle.world_read.proofs.RowReads.{row_from-cells, rows_from-front, rows_from-rows}
use Rattle.world_read.proofs.TextReads.{size_of-known, size_of-line}

-- a byte that is that of no cell has no kind
kind_of-none : (byte : ℕ) → IsNoCell byte → kind_of byte ≡ None
kind_of-none byte never = go (kind_of byte) refl where
  go : (told : Option Kind) → kind_of byte ≡ told → told ≡ None
  go None told = refl
  go (Some kind) told = let spells = command_kind_of-known byte kind told in absurd (never kind spells.fed spells.is)

-- what is wrong with the bytes of a row is its fault
row_from-wrong : (width y column : ℕ) (bytes : List ℕ) (fault : WorldFault) → IsCellFault width y column bytes fault → row_from width y column bytes ≡ Err fault
row_from-wrong width y column bytes (BadCell row at) h =
    let cells = h.cells in
    let byte = h.byte in
    let rest = h.after in
    let cell : cell_of width y at byte ≡ Err (BadCell row at) =
    cond-true (ltb at width) (ok_or (kind_of byte) (BadCell y at)) (Err (LongRow y)) (lt-ltb at width h.within)
    ∙ ap (λ o. ok_or o (BadCell y at)) (kind_of-none byte h.wrong)
    ∙ ap (λ n. Err (BadCell n at)) (sym h.same_row) in
    ap (row_from width y column) h.begins.spelled
    ∙ row_from-cells width y column cells (byte ∷ rest) (omega (arith, h.is_at, h.within)) h.begins.fed
    ∙ ap (λ n. onto_row cells (row_from width y n (byte ∷ rest))) h.is_at
    ∙ ap (λ c. onto_row cells (with_cell c (row_from width y (at + 1) rest))) cell
row_from-wrong width y column bytes (ShortRow row) h =
    let cells = h.cells in
    ap (row_from width y column) h.are.spelled
    ∙ row_from-cells width y column cells [] (omega (arith, h.few)) h.are.fed
    ∙ ap (onto_row cells) (cond-true (ltb (column + length cells) width) (Err (ShortRow y)) (Ok []) (lt-ltb (column + length cells) width h.few))
    ∙ ap (λ n. Err (ShortRow n)) (sym h.same_row)
row_from-wrong width y column bytes (LongRow row) h =
    let cells = h.cells in
    let byte = h.byte in
    let rest = h.after in
    let at = column + length cells in
    let cell : cell_of width y at byte ≡ Err (LongRow row) =
    cond-false (ltb at width) (ok_or (kind_of byte) (BadCell y at)) (Err (LongRow y)) (le-ltb at width (omega (arith, h.whole)))
    ∙ ap (λ n. Err (LongRow n)) (sym h.same_row) in
    ap (row_from width y column) h.begins.spelled
    ∙ row_from-cells width y column cells (byte ∷ rest) (omega (arith, h.whole)) h.begins.fed
    ∙ ap (λ c. onto_row cells (with_cell c (row_from width y (at + 1) rest))) cell
row_from-wrong width y column bytes BadWidth h = absurd h
row_from-wrong width y column bytes it h = absurd h

line_wrong : (width y count : ℕ) (line : List ℕ) (lines after : List (List ℕ)) (fault : WorldFault) → lines ≡ line ∷ after → IsCellFault width y 0 (spelled line) fault → rows_from width y (suc count) lines ≡ Err fault
line_wrong width y count line lines after fault are h =
    ap (rows_from width y (suc count)) are ∙ ap (λ row. with_row row (rows_from width (y + 1) count after)) (row_from-wrong width y 0 (spelled line) fault h)

-- what is wrong with the first row is the fault of the rows
rows_from-wrong : (width y count : ℕ) (lines : List (List ℕ)) (fault : WorldFault) → IsRowFault width y lines fault → rows_from width y (suc count) lines ≡ Err fault
rows_from-wrong width y count lines (MissingRow row) h = ap (rows_from width y (suc count)) h.none ∙ ap (λ n. Err (MissingRow n)) (sym h.same_row)
rows_from-wrong width y count lines (BadCell row column) h = line_wrong width y count h.line lines h.after (BadCell row column) h.are h.wrong
rows_from-wrong width y count lines (ShortRow row) h = line_wrong width y count h.line lines h.after (ShortRow row) h.are h.wrong
rows_from-wrong width y count lines (LongRow row) h = line_wrong width y count h.line lines h.after (LongRow row) h.are h.wrong
rows_from-wrong width y count lines BadWidth h = absurd h
rows_from-wrong width y count lines it h = absurd h

-- if the first line gives no size, none is read
first_size-none : (lines : List (List ℕ)) → BeginsWithNoSize lines → first_size lines ≡ None
first_size-none [] none = refl
first_size-none (line ∷ lines) none = go (size_of line) refl where
  go : (size : Option ℕ) → size_of line ≡ size → size ≡ None
  go None told = refl
  go (Some size) told = absurd (none size (size_of-known line size told))

-- a text with both sizes is read as its rows are
plan_of-rows : (text : List ℕ) (width height count : ℕ) (kinds : List Kind) (rest : List (List ℕ)) (r : HasRows text width height count kinds rest) → plan_of text ≡ rows_ended width height (rows_from width 0 height (r.rows ++ rest))
unfolding plan_of
plan_of-rows text width height count kinds rest r =
    ap (λ ls. after_width (first_size ls) (drop 1 ls)) r.are
    ∙ ap (λ o. after_width o (r.second ∷ (r.rows ++ rest))) (size_of-line r.first width r.is_width.is r.is_width.least r.is_width.most)
    ∙ ap (λ o. after_height width o (r.rows ++ rest)) (size_of-line r.second height r.is_height.is r.is_height.least r.is_height.most)

-- a text in which a row is at fault
row_wrong : (text : List ℕ) (fault : WorldFault) → HasRowFault text fault → plan_of text ≡ Err fault
row_wrong text fault h =
    let r = h.rows in
    let left = h.height - (h.row + 1) in
    let many : h.height ≡ length r.rows + suc left = omega (arith, r.as_many, h.within) in
    let here : 0 + length r.rows ≡ h.row = omega (arith, r.as_many) in
    plan_of-rows text h.width h.height h.row h.kinds h.rest r
    ∙ ap (λ n. rows_ended h.width h.height (rows_from h.width 0 n (r.rows ++ h.rest))) many
    ∙ ap (rows_ended h.width h.height) (rows_from-front h.width 0 (suc left) r.rows h.rest h.kinds r.are_rows r.fed)
    ∙ ap (λ n. rows_ended h.width h.height (with_row (Ok h.kinds) (rows_from h.width n (suc left) h.rest))) here
    ∙ ap (λ rows. rows_ended h.width h.height (with_row (Ok h.kinds) rows)) (rows_from-wrong h.width h.row left h.rest fault h.wrong)

-- a text all of whose rows are whole
plan_of-whole : (text : List ℕ) (width height : ℕ) (kinds : List Kind) (rest : List (List ℕ)) → HasRows text width height height kinds rest → plan_of text ≡ rows_ended width height (Ok (record { kinds = kinds; rest = rest }))
plan_of-whole text width height kinds rest r =
    plan_of-rows text width height height kinds rest r
    ∙ ap (λ n. rows_ended width height (rows_from width 0 n (r.rows ++ rest))) (sym r.as_many)
    ∙ ap (rows_ended width height) (rows_from-rows width 0 r.rows rest kinds r.are_rows r.fed)

extra_wrong : (text : List ℕ) → HasExtraRow text → plan_of text ≡ Err ExtraRow
extra_wrong text h =
    let other : list_all is_blank (h.before ++ h.line ∷ h.after) ≡ false =
    list_all-append is_blank h.before (h.line ∷ h.after)
    ∙ and_right (list_all is_blank h.before) (is_blank h.line && list_all is_blank h.after) (and_left (is_blank h.line) (list_all is_blank h.after) h.wrong) in
    plan_of-whole text h.width h.height h.kinds (h.before ++ h.line ∷ h.after) h.rows
    ∙ cond-false (list_all is_blank (h.before ++ h.line ∷ h.after)) (limited h.width h.height h.kinds (open_rim h.width h.height h.kinds)) (Err ExtraRow) other

-- a text that is complete
plan_of-complete : (text : List ℕ) (width height : ℕ) (kinds : List Kind) → HasWholeRows text width height kinds → plan_of text ≡ limited width height kinds (open_rim width height kinds)
plan_of-complete text width height kinds c =
    plan_of-whole text width height kinds c.rest c.rows
    ∙ cond-true (list_all is_blank c.rest) (limited width height kinds (open_rim width height kinds)) (Err ExtraRow) (list_all-from_AllPass is_blank c.rest c.blank)

rim_wrong : (text : List ℕ) (p : Pos) → HasOpenRim text p → plan_of text ≡ Err (OpenRim p.x p.y)
rim_wrong text p h =
    let test = is_open_at h.width h.height h.kinds in
    let n = index_of h.width p in
    let wide : 1 ≤ h.width = omega (arith, h.complete.rows.is_width.least) in
    let last : n < h.width * h.height = index_of-inside h.width h.height p h.inside in
    let closed : IsClosedBefore h.width h.height h.kinds n =
    first_of-closed h.width test n
    (λ i lt. is_open-closed h.width h.height h.kinds (pos_at h.width i)
    (h.first (pos_at h.width i) (pos_at-inside h.width h.height i (omega (arith, last))) (subst (λ k. k < n) (sym (index_of-pos_at h.width i)) lt))) in
    let here : test p ≡ true =
    true_from_ne_false (test p) (λ shut. h.wrong (λ clear. IsInner-closed h.width h.height (kind_at h.width h.kinds p) p shut clear h.inside)) in
    plan_of-complete text h.width h.height h.kinds h.complete
    ∙ ap (limited h.width h.height h.kinds) (open_rim-first h.width h.height h.kinds p h.inside closed here)

ants_wrong : (text : List ℕ) (count : ℕ) → HasTooManyAnts text count → plan_of text ≡ Err (TooManyAnts count)
ants_wrong text count h =
    let wide : 1 ≤ h.width = omega (arith, h.complete.rows.is_width.least) in
    let many : most_ants < hill_count h.kinds = omega (arith, h.wrong, h.is) in
    let plan : Plan = record { width = h.width; height = h.height; kinds = h.kinds } in
    plan_of-complete text h.width h.height h.kinds h.complete
    ∙ ap (limited h.width h.height h.kinds) (open_rim-closed h.width h.height h.kinds h.rim)
    ∙ cond-false (leb (hill_count h.kinds) most_ants) (Ok plan) (Err (TooManyAnts (hill_count h.kinds))) (lt-leb (hill_count h.kinds) most_ants many)
    ∙ ap (λ n. Err (TooManyAnts n)) (sym h.is)

width_wrong : (text : List ℕ) → BeginsWithNoSize (lines_of text) → plan_of text ≡ Err BadWidth
unfolding plan_of
width_wrong text none = ap (λ o. after_width o (drop 1 (lines_of text))) (first_size-none (lines_of text) none)

height_wrong : (text : List ℕ) → HasNoHeight text → plan_of text ≡ Err BadHeight
unfolding plan_of
height_wrong text h =
    ap (λ ls. after_width (first_size ls) (drop 1 ls)) h.are
    ∙ ap (λ o. after_width o h.lines) (size_of-line h.first h.width h.is_width.is h.is_width.least h.is_width.most)
    ∙ ap (λ o. after_height h.width o (drop 1 h.lines)) (first_size-none h.lines h.none)

-- what is wrong with a text is read as its fault
pub plan_of-wrong : (text : List ℕ) (fault : WorldFault) → IsWorldFault text fault → plan_of text ≡ Err fault
plan_of-wrong text BadWidth h = width_wrong text h
plan_of-wrong text BadHeight h = height_wrong text h
plan_of-wrong text ExtraRow h = extra_wrong text h
plan_of-wrong text (OpenRim x y) h = rim_wrong text (record { x = x; y = y }) h
plan_of-wrong text (TooManyAnts count) h = ants_wrong text count h
plan_of-wrong text OutOfMemory h = absurd h
plan_of-wrong text it h = row_wrong text it h
