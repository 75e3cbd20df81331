-- Rows, read one after another.
use Rattle.std.proofs.Common.{◌≡◌, ℕ, suc, zero, ◌+◌, ◌-◌, ◌*◌, ◌<◌, ◌≤◌, Bool, true, false, cond, ltb, ok_or, List, [], ◌∷◌, ◌++◌, length, take, drop, map, get_or, not, add-one, Option, Some, None, Result, Ok, Err, refl, sym, ◌∙◌, ap, subst, append_assoc, append-nil, length-append, arith}
use Rattle.std.proofs.lemmas.Bool.{lt-ltb, le-ltb, ltb-true, ltb-false, cond-true, cond-false}
use Rattle.std.proofs.lemmas.List.{drop_at, take_at}
use Rattle.std.proofs.lemmas.List.Elements.{All-append, All-cons, All-drop, All-head, All-nil, All-same, All-tail, All-take}
use Rattle.std.proofs.Math.Seq.{drop-cons}
use Rattle.std.specs.List.{All}
use Rattle.ant_base.specs.Lines.{is_separator}
use Rattle.cell_world.specs.declared.kind.Kind.{Kind}
use Rattle.cell_world.specs.Opening.{IsFed}
use Rattle.world_read.specs.declared.fault.WorldFault.{WorldFault}
use Rattle.world_read.specs.declared.fault.WorldFault.TheVariants.{MissingRow, BadCell, LongRow, ShortRow}
use Rattle.world_read.specs.Bytes.{byte_of, spelled}
use Rattle.world_read.specs.Inner.Reading.{kind_of, Rows, cell_of, onto_row, row_from, row_of, rows_from, with_cell, with_row}
use Rattle.world_read.specs.Grammar.{AreRows}
use Rattle.world_read.proofs.BytesLemmas.{Spells, command_kind_of-known, kind_of-byte_of}

-- kinds in front of a row are in front of all that follows
pub with_row-onto : (kinds : List Kind) (row : Result (List Kind) WorldFault) (below : Result Rows WorldFault) → with_row (Ok kinds) (with_row row below) ≡ with_row (onto_row kinds row) below
with_row-onto kinds (Ok row) (Ok below) = ap (λ all. Ok (record { kinds = all; rest = below.rest })) (sym (append_assoc kinds row below.kinds))
with_row-onto kinds it below = refl

-- nothing in front changes nothing
pub with_row-none : (below : Result Rows WorldFault) → with_row (Ok []) below ≡ below
with_row-none (Err fault) = refl
with_row-none (Ok below) = refl

-- one row more
pub rows_from-more : (width height y : ℕ) (kinds : List Kind) (line : List ℕ) (lines : List (List ℕ)) → y < height → with_row (Ok kinds) (rows_from width y (height - y) (line ∷ lines)) ≡ with_row (onto_row kinds (row_of width y line)) (rows_from width (y + 1) (height - (y + 1)) lines)
rows_from-more width height y kinds line lines lt =
    let left : height - y ≡ suc (height - (y + 1)) = omega arith in
    ap (λ n. with_row (Ok kinds) (rows_from width y n (line ∷ lines))) left ∙ with_row-onto kinds (row_of width y line) (rows_from width (y + 1) (height - (y + 1)) lines)

-- a row too few
pub rows_from-missing : (width height y : ℕ) (kinds : List Kind) → y < height → with_row (Ok kinds) (rows_from width y (height - y) []) ≡ Err (MissingRow y)
rows_from-missing width height y kinds lt =
    let left : height - y ≡ suc (height - (y + 1)) = omega arith in
    ap (λ n. with_row (Ok kinds) (rows_from width y n [])) left

-- what a byte that is a cell says
pub record IsCell (width column byte : ℕ) (kind : Kind) : Type 0 where
  pub within : column < width
  pub spells : Spells byte kind

pub cell_of-known : (width y column byte : ℕ) (kind : Kind) → cell_of width y column byte ≡ Ok kind → IsCell width column byte kind
cell_of-known width y column byte kind is = go (ltb column width) refl (kind_of byte) refl is where
  go : (in' : Bool) → ltb column width ≡ in' → (told : Option Kind) → kind_of byte ≡ told → cond in' (ok_or told (BadCell y column)) (Err (LongRow y)) ≡ Ok kind → IsCell width column byte kind
  go false e told t is = absurd (cc)
  go true e None t is = absurd (cc)
  go true e (Some other) t is =
      let one : other ≡ kind = cc in
      record { within = ltb-true column width e; spells = command_kind_of-known byte kind (t ∙ ap Some one) }

onto_row-none : (row : Result (List Kind) WorldFault) → onto_row [] row ≡ row
onto_row-none (Err fault) = refl
onto_row-none (Ok kinds) = refl

onto_row-onto : (kind : Kind) (cells : List Kind) (row : Result (List Kind) WorldFault) → onto_row (kind ∷ []) (onto_row cells row) ≡ onto_row (kind ∷ cells) row
onto_row-onto kind cells (Err fault) = refl
onto_row-onto kind cells (Ok kinds) = refl

-- a cell after others
pub onto_row-more : (kinds : List Kind) (kind : Kind) (row : Result (List Kind) WorldFault) → onto_row kinds (with_cell (Ok kind) row) ≡ onto_row (kinds ++ kind ∷ []) row
onto_row-more kinds kind (Err fault) = refl
onto_row-more kinds kind (Ok row) = ap Ok (sym (append_assoc kinds (kind ∷ []) row))

-- a separator changes nothing
pub row_from-apart : (width y column i : ℕ) (line : List ℕ) → i < length line → is_separator (get_or line i 0) ≡ true → row_from width y column (spelled (drop i line)) ≡ row_from width y column (spelled (drop (i + 1) line))
row_from-apart width y column i line below apart =
    let byte = get_or line i 0 in
    let after = drop (suc i) line in
    ap (λ bytes. row_from width y column (spelled bytes)) (drop-cons line i 0 below)
    ∙ ap (row_from width y column) (cond-false (not (is_separator byte)) (byte ∷ spelled after) (spelled after) (ap not apart))
    ∙ ap (λ n. row_from width y column (spelled (drop n line))) (sym (add-one i))

-- each other byte stands for the next cell
pub row_from-next : (width y column i : ℕ) (line : List ℕ) → i < length line → is_separator (get_or line i 0) ≡ false → row_from width y column (spelled (drop i line)) ≡ with_cell (cell_of width y column (get_or line i 0)) (row_from width y (column + 1) (spelled (drop (i + 1) line)))
row_from-next width y column i line below apart =
    let byte = get_or line i 0 in
    let after = drop (suc i) line in
    ap (λ bytes. row_from width y column (spelled bytes)) (drop-cons line i 0 below)
    ∙ ap (row_from width y column) (cond-true (not (is_separator byte)) (byte ∷ spelled after) (spelled after) (ap not apart))
    ∙ ap (λ n. with_cell (cell_of width y column byte) (row_from width y (column + 1) (spelled (drop n line)))) (sym (add-one i))

-- the bytes of a row from this column on are those of its kinds
pub record IsRow (width column : ℕ) (bytes : List ℕ) (kinds : List Kind) : Type 0 where
  pub wide : column + length kinds ≡ width
  pub spelled : bytes ≡ map byte_of kinds
  pub fed : All IsFed kinds

-- what is read as a row is that row
pub row_from-known : (width y column : ℕ) (bytes : List ℕ) (kinds : List Kind) → column ≤ width → row_from width y column bytes ≡ Ok kinds → IsRow width column bytes kinds
row_from-known width y column [] kinds le is = go (ltb column width) refl is where
  go : (short : Bool) → ltb column width ≡ short → cond short (Err (ShortRow y)) (Ok []) ≡ Ok kinds → IsRow width column [] kinds
  go true e is = absurd (cc)
  go false e is =
      let end : column + 0 ≡ width = omega (arith, ltb-false column width e) in
      let none : [] ≡ kinds = cc in
      subst (IsRow width column []) none (record { wide = end; spelled = refl; fed = All-nil IsFed })
row_from-known width y column (byte ∷ bytes) kinds le is = go (cell_of width y column byte) refl (row_from width y (column + 1) bytes) (λ rest early r. row_from-known width y (column + 1) bytes rest early r) is where
  next : (kind : Kind) (rest : List Kind) → IsCell width column byte kind → IsRow width (column + 1) bytes rest → IsRow width column (byte ∷ bytes) (kind ∷ rest)
  next kind rest cell row =
      record {
        wide = omega (arith, row.wide);
        spelled = ap (λ b. b ∷ bytes) cell.spells.is ∙ ap (λ bs. byte_of kind ∷ bs) row.spelled;
        fed = All-cons IsFed kind rest cell.spells.fed row.fed;
      }

  go : (cell : Result Kind WorldFault) → cell_of width y column byte ≡ cell → (rest : Result (List Kind) WorldFault) → ((row : List Kind) → column + 1 ≤ width → rest ≡ Ok row → IsRow width (column + 1) bytes row) → with_cell cell rest ≡ Ok kinds → IsRow width column (byte ∷ bytes) kinds
  go (Ok kind) e (Ok rest) known is =
      let one : kind ∷ rest ≡ kinds = cc in
      let cell = cell_of-known width y column byte kind e in
      subst (IsRow width column (byte ∷ bytes)) one (next kind rest cell (known rest (omega (arith, cell.within)) refl))
  go it e rest known is = absurd (cc)

-- the bytes of cells are read as these cells, in front of what follows
pub row_from-cells : (width y column : ℕ) (cells : List Kind) (rest : List ℕ) → column + length cells ≤ width → All IsFed cells → row_from width y column (map byte_of cells ++ rest) ≡ onto_row cells (row_from width y (column + length cells) rest)
row_from-cells width y column [] rest le fed =
    let here : column ≡ column + 0 = omega arith in
    sym (onto_row-none (row_from width y column rest)) ∙ ap (λ n. onto_row [] (row_from width y n rest)) here
row_from-cells width y column (kind ∷ cells) rest le fed =
    let cell : cell_of width y column (byte_of kind) ≡ Ok kind =
    cond-true (ltb column width) (ok_or (kind_of (byte_of kind)) (BadCell y column)) (Err (LongRow y)) (lt-ltb column width (omega arith))
    ∙ ap (λ o. ok_or o (BadCell y column)) (kind_of-byte_of kind (All-head IsFed kind cells fed)) in
    let next : column + 1 + length cells ≡ column + suc (length cells) = omega arith in
    ap (λ c. with_cell c (row_from width y (column + 1) (map byte_of cells ++ rest))) cell
    ∙ ap (onto_row (kind ∷ [])) (row_from-cells width y (column + 1) cells rest (omega arith) (All-tail IsFed kind cells fed))
    ∙ onto_row-onto kind cells (row_from width y (column + 1 + length cells) rest)
    ∙ ap (λ n. onto_row (kind ∷ cells) (row_from width y n rest)) next

-- the bytes of a whole row are read as its cells
row_from-kinds : (width y : ℕ) (kinds : List Kind) → length kinds ≡ width → All IsFed kinds → row_from width y 0 (map byte_of kinds) ≡ Ok kinds
row_from-kinds width y kinds wide fed =
    ap (row_from width y 0) (sym (append-nil (map byte_of kinds)))
    ∙ row_from-cells width y 0 kinds [] (omega arith) fed
    ∙ ap (onto_row kinds) (cond-false (ltb (0 + length kinds) width) (Err (ShortRow y)) (Ok []) (le-ltb (0 + length kinds) width (omega arith)))
    ∙ ap Ok (append-nil kinds)

-- lines that were read as rows: they are a prefix of the lines, and spell the kinds row by row
pub record AreRead (width count : ℕ) (lines : List (List ℕ)) (rows : Rows) : Type 0 where
  pub front : List (List ℕ)
  pub split : lines ≡ front ++ rows.rest
  pub as_many : length front ≡ count
  pub are_rows : AreRows width front rows.kinds
  pub fed : All IsFed rows.kinds

-- what is read as rows is these rows
pub rows_from-known : (width y count : ℕ) (lines : List (List ℕ)) (rows : Rows) → rows_from width y count lines ≡ Ok rows → AreRead width count lines rows
rows_from-known width y zero lines rows is =
    let none : record { kinds = []; rest = lines } ≡ rows = cc in
    subst (AreRead width zero lines) none (record { front = []; split = refl; as_many = refl; are_rows = refl; fed = All-nil IsFed })
rows_from-known width y (suc count) [] rows is = absurd (cc)
rows_from-known width y (suc count) (line ∷ lines) rows is = go (row_of width y line) refl (rows_from width (y + 1) count lines) (λ below b. rows_from-known width (y + 1) count lines below b) is where
  next : (row : List Kind) (below : Rows) → IsRow width 0 (spelled line) row → AreRead width count lines below → AreRead width (suc count) (line ∷ lines) (record { kinds = row ++ below.kinds; rest = below.rest })
  next row below first read =
      record {
        front = line ∷ read.front;
        split = ap (λ ls. line ∷ ls) read.split;
        as_many = ap suc read.as_many;
        are_rows = (row, below.kinds, refl, omega (arith, first.wide), first.spelled, read.are_rows);
        fed = All-append IsFed row below.kinds first.fed read.fed;
      }

  go : (row : Result (List Kind) WorldFault) → row_of width y line ≡ row → (told : Result Rows WorldFault) → ((below : Rows) → told ≡ Ok below → AreRead width count lines below) → with_row row told ≡ Ok rows → AreRead width (suc count) (line ∷ lines) rows
  go (Ok row) e (Ok below) known is =
      let one : record { kinds = row ++ below.kinds; rest = below.rest } ≡ rows = cc in
      let first = row_from-known width y 0 (spelled line) row (omega arith) e in
      subst (AreRead width (suc count) (line ∷ lines)) one (next row below first (known below refl))
  go it e told known is = absurd (cc)

All-front : (xs ys : List Kind) → All IsFed (xs ++ ys) → All IsFed xs
All-front xs ys all = All-same IsFed xs (take (length xs) (xs ++ ys)) (sym (take_at xs ys (length xs) refl)) (All-take IsFed (length xs) (xs ++ ys) all)

All-back : (xs ys : List Kind) → All IsFed (xs ++ ys) → All IsFed ys
All-back xs ys all = All-same IsFed ys (drop (length xs) (xs ++ ys)) (sym (drop_at xs ys (length xs) refl)) (All-drop IsFed (length xs) (xs ++ ys) all)

with_row-front : (row kinds : List Kind) (below : Result Rows WorldFault) → with_row (Ok row) (with_row (Ok kinds) below) ≡ with_row (Ok (row ++ kinds)) below
with_row-front row kinds below = with_row-onto row (Ok kinds) below

-- rows of kinds are read as these kinds, in front of what follows
pub rows_from-front : (width y count : ℕ) (front rest : List (List ℕ)) (kinds : List Kind) → AreRows width front kinds → All IsFed kinds → rows_from width y (length front + count) (front ++ rest) ≡ with_row (Ok kinds) (rows_from width (y + length front) count rest)
rows_from-front width y count [] rest kinds are fed =
    let many : 0 + count ≡ count = omega arith in
    let here : y ≡ y + 0 = omega arith in
    ap (λ n. rows_from width y n rest) many
    ∙ sym (with_row-none (rows_from width y count rest))
    ∙ ap (λ ks. with_row (Ok ks) (rows_from width y count rest)) (sym are)
    ∙ ap (λ n. with_row (Ok kinds) (rows_from width n count rest)) here
rows_from-front width y count (line ∷ lines) rest kinds are fed =
    let row = are.0 in
    let below = are.1 in
    let both : All IsFed (row ++ below) = All-same IsFed (row ++ below) kinds (sym are.2) fed in
    let first : row_of width y line ≡ Ok row = ap (row_from width y 0) are.4 ∙ row_from-kinds width y row are.3 (All-front row below both) in
    let many : suc (length lines) + count ≡ suc (length lines + count) = omega arith in
    let next : y + 1 + length lines ≡ y + suc (length lines) = omega arith in
    ap (λ n. rows_from width y n (line ∷ (lines ++ rest))) many
    ∙ ap (λ r. with_row r (rows_from width (y + 1) (length lines + count) (lines ++ rest))) first
    ∙ ap (with_row (Ok row)) (rows_from-front width (y + 1) count lines rest below are.5 (All-back row below both))
    ∙ with_row-front row below (rows_from width (y + 1 + length lines) count rest)
    ∙ ap (λ ks. with_row (Ok ks) (rows_from width (y + 1 + length lines) count rest)) (sym are.2)
    ∙ ap (λ n. with_row (Ok kinds) (rows_from width n count rest)) next

-- rows of kinds are read as these kinds
pub rows_from-rows : (width y : ℕ) (front rest : List (List ℕ)) (kinds : List Kind) → AreRows width front kinds → All IsFed kinds → rows_from width y (length front) (front ++ rest) ≡ Ok (record { kinds = kinds; rest = rest })
rows_from-rows width y front rest kinds are fed =
    let many : length front ≡ length front + 0 = omega arith in
    ap (λ n. rows_from width y n (front ++ rest)) many
    ∙ rows_from-front width y 0 front rest kinds are fed
    ∙ ap (λ ks. Ok (record { kinds = ks; rest = rest })) (append-nil kinds)

-- there are as many kinds as cells in the rows
pub length-AreRows : (width : ℕ) (lines : List (List ℕ)) (kinds : List Kind) → AreRows width lines kinds → length kinds ≡ width * length lines
length-AreRows width [] kinds are = ap length are ∙ omega arith
length-AreRows width (line ∷ lines) kinds are =
    let below = length-AreRows width lines are.1 are.5 in
    ap length are.2 ∙ length-append are.0 are.1 ∙ omega (arith, are.3, below)

-- what follows nothing is all that is read
pub rows_from-all : (told : Result Rows WorldFault) (before : List Kind) (rows : Rows) → with_row (Ok before) told ≡ Ok rows → before ≡ [] → told ≡ Ok rows
rows_from-all told before rows is none = sym (with_row-none told) ∙ ap (λ kinds. with_row (Ok kinds) told) (sym none) ∙ is
