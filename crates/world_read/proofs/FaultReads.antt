-- The fault that is read is what is wrong with the text.
use Rattle.std.proofs.Common.{◌≡◌, ℕ, suc, zero, ◌+◌, ◌<◌, ◌≤◌, Bool, true, false, cond, ◌&&◌, leb, ltb, ok_or, List, [], ◌∷◌, ◌++◌, length, drop, Option, Some, None, Result, Ok, Err, refl, sym, ◌∙◌, ap, subst, arith}
use Rattle.std.proofs.lemmas.Bool.{both_ways, cond-false, cond-true, leb-false, ltb-false, ltb-true}
use Rattle.std.proofs.lemmas.List.Elements.{All-append, All-cons, All-nil}
use Rattle.std.proofs.lemmas.List.Sums.{AllPass-from_list_all}
use Rattle.std.specs.List.{All, list_all}
use Rattle.ant_base.specs.Lines.{is_blank, lines_of}
use Rattle.hex_geometry.specs.declared.position.Pos.{Pos}
use Rattle.hex_geometry.specs.Position.{IsInside}
use Rattle.cell_world.specs.declared.kind.Kind.{Kind}
use Rattle.hex_geometry.proofs.RowLemmas.{index_of-pos_at, pos_at-index_of, pos_at-inside}
use Rattle.hex_geometry.specs.RowOrder.{index_of}
use Rattle.cell_world.specs.Limits.{most_ants}
use Rattle.cell_world.specs.Opening.{IsFed, hill_count, kind_at}
use Rattle.world_read.specs.declared.fault.WorldFault.{WorldFault}
use Rattle.world_read.specs.declared.fault.WorldFault.TheVariants.{BadWidth, BadHeight, MissingRow, BadCell, ShortRow, LongRow, ExtraRow, OpenRim, TooManyAnts}
use Rattle.world_read.specs.Bytes.{byte_of, spelled}
use Rattle.world_read.specs.Inner.Reading.{kind_of, Rows, after_height, after_width, cell_of, rows_ended, first_size, is_open_at, limited, open_rim, plan_of, row_from, row_of, rows_from, with_cell, with_row}
use Rattle.world_read.specs.Faulty.{BeginsWith, BeginsWithNoSize, HasRows, HasRowFault, HasSize, IsCellFault, HasWholeRows, IsNoCell, IsRowFault, IsWorldFault}
use Rattle.world_read.specs.Grammar.{AreRows}
use Rattle.world_read.proofs.BytesLemmas.{Spells, kind_of-byte_of}
use Rattle.world_read.proofs.ScanLemmas.{IsInner-closed, first_of-none, is_open-closed, open_rim-known, rim-closed}
use Rattle.world_read.proofs.RowReads.{IsRow, cell_of-known, row_from-known, rows_from-known}
use Rattle.world_read.proofs.TextReads.{size_of-known, size_of-line}

-- a byte with no kind is that of no cell
IsNoCell-none : (byte : ℕ) → kind_of byte ≡ None → IsNoCell byte
IsNoCell-none byte none kind fed is = let some = ap kind_of is ∙ kind_of-byte_of kind fed in absurd (cc)

nothing_first : (bytes : List ℕ) → BeginsWith bytes [] bytes
nothing_first bytes = record { spelled = refl; fed = All-nil IsFed }

one_more : (byte : ℕ) (bytes : List ℕ) (kind : Kind) (cells : List Kind) (rest : List ℕ) → Spells byte kind → BeginsWith bytes cells rest → BeginsWith (byte ∷ bytes) (kind ∷ cells) rest
one_more byte bytes kind cells rest spells begins =
    record {
      spelled = ap (λ b. b ∷ bytes) spells.is ∙ ap (λ bs. byte_of kind ∷ bs) begins.spelled;
      fed = All-cons IsFed kind cells spells.fed begins.fed;
    }

-- a fault after a cell is a fault of the bytes that begin with that cell
cell_fault-more : (width y column byte : ℕ) (bytes : List ℕ) (kind : Kind) (fault : WorldFault) → Spells byte kind → IsCellFault width y (column + 1) bytes fault → IsCellFault width y column (byte ∷ bytes) fault
cell_fault-more width y column byte bytes kind (BadCell row at) spells h =
    record {
      same_row = h.same_row;
      cells = kind ∷ h.cells;
      byte = h.byte;
      after = h.after;
      begins = one_more byte bytes kind h.cells (h.byte ∷ h.after) spells h.begins;
      is_at = omega (arith, h.is_at);
      within = h.within;
      wrong = h.wrong;
    }
cell_fault-more width y column byte bytes kind (ShortRow row) spells h =
    record { same_row = h.same_row; cells = kind ∷ h.cells; are = one_more byte bytes kind h.cells [] spells h.are; few = omega (arith, h.few) }
cell_fault-more width y column byte bytes kind (LongRow row) spells h =
    record {
      same_row = h.same_row;
      cells = kind ∷ h.cells;
      byte = h.byte;
      after = h.after;
      begins = one_more byte bytes kind h.cells (h.byte ∷ h.after) spells h.begins;
      whole = omega (arith, h.whole);
    }
cell_fault-more width y column byte bytes kind BadWidth spells h = h
cell_fault-more width y column byte bytes kind it spells h = h

-- a byte that is no cell of its row
cell_of-fault : (width y column byte : ℕ) (bytes : List ℕ) (fault : WorldFault) → column ≤ width → cell_of width y column byte ≡ Err fault → IsCellFault width y column (byte ∷ bytes) fault
cell_of-fault width y column byte bytes fault le is = go (ltb column width) refl (kind_of byte) refl is where
  go : (in' : Bool) → ltb column width ≡ in' → (told : Option Kind) → kind_of byte ≡ told → cond in' (ok_or told (BadCell y column)) (Err (LongRow y)) ≡ Err fault → IsCellFault width y column (byte ∷ bytes) fault
  go false e told t is =
      let one : LongRow y ≡ fault = cc in
      let end : column + 0 ≡ width = omega (arith, ltb-false column width e) in
      subst (IsCellFault width y column (byte ∷ bytes)) one
      (record { same_row = refl; cells = []; byte = byte; after = bytes; begins = nothing_first (byte ∷ bytes); whole = end })
  go true e None t is =
      let one : BadCell y column ≡ fault = cc in
      let here : column + 0 ≡ column = omega arith in
      subst (IsCellFault width y column (byte ∷ bytes)) one (record {
        same_row = refl;
        cells = [];
        byte = byte;
        after = bytes;
        begins = nothing_first (byte ∷ bytes);
        is_at = here;
        within = ltb-true column width e;
        wrong = IsNoCell-none byte t;
      })
  go true e (Some kind) t is = absurd (cc)

-- the fault of a row is what is wrong with its bytes
row_from-fault : (width y column : ℕ) (bytes : List ℕ) (fault : WorldFault) → column ≤ width → row_from width y column bytes ≡ Err fault → IsCellFault width y column bytes fault
row_from-fault width y column [] fault le is = go (ltb column width) refl is where
  go : (short : Bool) → ltb column width ≡ short → cond {A = Result (List Kind) WorldFault} short (Err (ShortRow y)) (Ok []) ≡ Err fault → IsCellFault width y column [] fault
  go false e is = absurd (cc)
  go true e is =
      let one : ShortRow y ≡ fault = cc in
      let few : column + 0 < width = omega (arith, ltb-true column width e) in
      subst (IsCellFault width y column []) one (record { same_row = refl; cells = []; are = nothing_first []; few = few })
row_from-fault width y column (byte ∷ bytes) fault le is = go (cell_of width y column byte) refl (row_from width y (column + 1) bytes) (λ other early r. row_from-fault width y (column + 1) bytes other early r) is where
  go : (cell : Result Kind WorldFault) → cell_of width y column byte ≡ cell → (rest : Result (List Kind) WorldFault) → ((other : WorldFault) → column + 1 ≤ width → rest ≡ Err other → IsCellFault width y (column + 1) bytes other) → with_cell cell rest ≡ Err fault → IsCellFault width y column (byte ∷ bytes) fault
  go (Err other) e rest known is =
      let one : other ≡ fault = cc in
      subst (IsCellFault width y column (byte ∷ bytes)) one (cell_of-fault width y column byte bytes other le e)
  go (Ok kind) e (Ok rest) known is = absurd (cc)
  go (Ok kind) e (Err other) known is =
      let one : other ≡ fault = cc in
      let cell = cell_of-known width y column byte kind e in
      subst (IsCellFault width y column (byte ∷ bytes)) one (cell_fault-more width y column byte bytes kind other cell.spells (known other (omega (arith, cell.within)) refl))

-- a fault of a line is a fault of its row
row_fault-line : (width y : ℕ) (line : List ℕ) (lines : List (List ℕ)) (fault : WorldFault) → IsCellFault width y 0 (spelled line) fault → IsRowFault width y (line ∷ lines) fault
row_fault-line width y line lines (BadCell row column) h = record { line = line; after = lines; are = refl; wrong = h }
row_fault-line width y line lines (ShortRow row) h = record { line = line; after = lines; are = refl; wrong = h }
row_fault-line width y line lines (LongRow row) h = record { line = line; after = lines; are = refl; wrong = h }
row_fault-line width y line lines BadWidth h = h
row_fault-line width y line lines (MissingRow row) h = absurd h
row_fault-line width y line lines it h = h

-- some rows are whole, and the next is at fault
record AreAtFault (width y count : ℕ) (lines : List (List ℕ)) (fault : WorldFault) : Type 0 where
  front : List (List ℕ)
  rest : List (List ℕ)
  kinds : List Kind
  split : lines ≡ front ++ rest
  within : length front < count
  are_rows : AreRows width front kinds
  fed : All IsFed kinds
  wrong : IsRowFault width (y + length front) rest fault

at_fault-here : (width y count : ℕ) (lines : List (List ℕ)) (fault : WorldFault) → IsRowFault width y lines fault → AreAtFault width y (suc count) lines fault
at_fault-here width y count lines fault wrong =
    let here : y ≡ y + 0 = omega arith in
    let some : 0 < suc count = omega arith in
    record {
      front = [];
      rest = lines;
      kinds = [];
      split = refl;
      within = some;
      are_rows = refl;
      fed = All-nil IsFed;
      wrong = subst (λ n. IsRowFault width n lines fault) here wrong;
    }

at_fault-below : (width y count : ℕ) (line : List ℕ) (lines : List (List ℕ)) (row : List Kind) (fault : WorldFault) → IsRow width 0 (spelled line) row → AreAtFault width (y + 1) count lines fault → AreAtFault width y (suc count) (line ∷ lines) fault
at_fault-below width y count line lines row fault first below =
    let next : y + 1 + length below.front ≡ y + suc (length below.front) = omega arith in
    record {
      front = line ∷ below.front;
      rest = below.rest;
      kinds = row ++ below.kinds;
      split = ap (λ ls. line ∷ ls) below.split;
      within = omega (arith, below.within);
      are_rows = (row, below.kinds, refl, omega (arith, first.wide), first.spelled, below.are_rows);
      fed = All-append IsFed row below.kinds first.fed below.fed;
      wrong = subst (λ n. IsRowFault width n below.rest fault) next below.wrong;
    }

-- the fault of rows is what is wrong with the first that isn't whole
rows_from-fault : (width y count : ℕ) (lines : List (List ℕ)) (fault : WorldFault) → rows_from width y count lines ≡ Err fault → AreAtFault width y count lines fault
rows_from-fault width y zero lines fault is = absurd (cc)
rows_from-fault width y (suc count) [] fault is =
    let one : MissingRow y ≡ fault = cc in
    subst (AreAtFault width y (suc count) []) one (at_fault-here width y count [] (MissingRow y) (record { same_row = refl; none = refl }))
rows_from-fault width y (suc count) (line ∷ lines) fault is = go (row_of width y line) refl (rows_from width (y + 1) count lines) (λ other b. rows_from-fault width (y + 1) count lines other b) is where
  go : (row : Result (List Kind) WorldFault) → row_of width y line ≡ row → (told : Result Rows WorldFault) → ((other : WorldFault) → told ≡ Err other → AreAtFault width (y + 1) count lines other) → with_row row told ≡ Err fault → AreAtFault width y (suc count) (line ∷ lines) fault
  go (Err other) e told known is =
      let one : other ≡ fault = cc in
      subst (AreAtFault width y (suc count) (line ∷ lines)) one
      (at_fault-here width y count (line ∷ lines) other (row_fault-line width y line lines other (row_from-fault width y 0 (spelled line) other (omega arith) e)))
  go (Ok row) e (Ok below) known is = absurd (cc)
  go (Ok row) e (Err other) known is =
      let one : other ≡ fault = cc in
      subst (AreAtFault width y (suc count) (line ∷ lines)) one
      (at_fault-below width y count line lines row other (row_from-known width y 0 (spelled line) row (omega arith) e) (known other refl))

-- a fault of a row is a fault of the text
world_fault-row : (text : List ℕ) (fault : WorldFault) → HasRowFault text fault → IsWorldFault text fault
world_fault-row text (MissingRow row) h = h
world_fault-row text (BadCell row column) h = h
world_fault-row text (ShortRow row) h = h
world_fault-row text (LongRow row) h = h
world_fault-row text BadWidth h = absurd h.wrong
world_fault-row text it h = absurd h.wrong

-- a line that isn't blank is among these
record HasOther (lines : List (List ℕ)) : Type 0 where
  before : List (List ℕ)
  line : List ℕ
  after : List (List ℕ)
  split : lines ≡ before ++ line ∷ after
  wrong : is_blank line ≡ false

not_all_blank : (lines : List (List ℕ)) → list_all is_blank lines ≡ false → HasOther lines
not_all_blank [] is = absurd (cc)
not_all_blank (line ∷ lines) is = go (is_blank line) refl (λ later. not_all_blank lines later) is where
  go : (blank : Bool) → is_blank line ≡ blank → (list_all is_blank lines ≡ false → HasOther lines) → (blank && list_all is_blank lines) ≡ false → HasOther (line ∷ lines)
  go false e known is = record { before = []; line = line; after = lines; split = refl; wrong = e }
  go true e known is =
      let other = known is in
      record { before = line ∷ other.before; line = other.line; after = other.after; split = ap (λ ls. line ∷ ls) other.split; wrong = other.wrong }

-- if the first line gives no size, none is read
no_size-known : (lines : List (List ℕ)) → first_size lines ≡ None → BeginsWithNoSize lines
no_size-known [] is = tt
no_size-known (line ∷ lines) is = λ size has. let some = size_of-line line size has.is has.least has.most in absurd (cc)

-- the line of a size that was read
record HasFirst (lines : List (List ℕ)) (size : ℕ) : Type 0 where
  line : List ℕ
  are : lines ≡ line ∷ drop 1 lines
  is : HasSize line size

first_size-known : (lines : List (List ℕ)) (size : ℕ) → first_size lines ≡ Some size → HasFirst lines size
first_size-known [] size is = absurd (cc)
first_size-known (line ∷ lines) size is = record { line = line; are = refl; is = size_of-known line size is }

-- a text with both sizes and these lines after them
module _ (text first second : List ℕ) (lines : List (List ℕ)) (width height : ℕ) (are : lines_of text ≡ first ∷ second ∷ lines) (wide : HasSize first width) (tall : HasSize second height) where
  read_rows : (rows : Rows) → rows_from width 0 height lines ≡ Ok rows → HasRows text width height height rows.kinds rows.rest
  read_rows rows told =
      let read = rows_from-known width 0 height lines rows told in
      record {
        first = first;
        second = second;
        rows = read.front;
        are = are ∙ ap (λ ls. first ∷ second ∷ ls) read.split;
        is_width = wide;
        is_height = tall;
        as_many = read.as_many;
        are_rows = read.are_rows;
        fed = read.fed;
      }

  row_at_fault : (fault : WorldFault) → AreAtFault width 0 height lines fault → HasRowFault text fault
  row_at_fault fault at =
      let here : 0 + length at.front ≡ length at.front = omega arith in
      record {
        width = width;
        height = height;
        row = length at.front;
        kinds = at.kinds;
        rest = at.rest;
        rows = record {
          first = first;
          second = second;
          rows = at.front;
          are = are ∙ ap (λ ls. first ∷ second ∷ ls) at.split;
          is_width = wide;
          is_height = tall;
          as_many = refl;
          are_rows = at.are_rows;
          fed = at.fed;
        };
        within = at.within;
        wrong = subst (λ n. IsRowFault width n at.rest fault) here at.wrong;
      }

  extra_row : (rows : Rows) → rows_from width 0 height lines ≡ Ok rows → HasOther rows.rest → IsWorldFault text ExtraRow
  extra_row rows told other =
      record {
        width = width;
        height = height;
        kinds = rows.kinds;
        before = other.before;
        line = other.line;
        after = other.after;
        rows = subst (HasRows text width height height rows.kinds) other.split (read_rows rows told);
        wrong = other.wrong;
      }

  complete : (rows : Rows) → rows_from width 0 height lines ≡ Ok rows → list_all is_blank rows.rest ≡ true → HasWholeRows text width height rows.kinds
  complete rows told blank = record { rest = rows.rest; rows = read_rows rows told; blank = AllPass-from_list_all is_blank rows.rest blank }

  open_rim_fault : (kinds : List Kind) (p : Pos) → HasWholeRows text width height kinds → open_rim width height kinds ≡ Some p → IsWorldFault text (OpenRim p.x p.y)
  open_rim_fault kinds p whole found =
      let test = is_open_at width height kinds in
      let first = open_rim-known width height kinds p found in
      let inside : IsInside width height p = subst (IsInside width height) first.at (pos_at-inside width height first.number first.early) in
      let number : first.number ≡ index_of width p = sym (index_of-pos_at width first.number) ∙ ap (index_of width) first.at in
      record {
        width = width;
        height = height;
        kinds = kinds;
        complete = whole;
        inside = inside;
        wrong = λ closed. both_ways (test p) (is_open-closed width height kinds p closed) first.passes;
        first = λ q within before clear.
            IsInner-closed width height (kind_at width kinds q) q
            (ap test (sym (pos_at-index_of width q within.column)) ∙ first_of-none width test first.number (index_of width q) first.closed (subst (λ n. index_of width q < n) (sym number) before))
            clear within;
      }

  limits_fault : (kinds : List Kind) (fault : WorldFault) → HasWholeRows text width height kinds → limited width height kinds (open_rim width height kinds) ≡ Err fault → IsWorldFault text fault
  limits_fault kinds fault whole is = go (open_rim width height kinds) refl (leb (hill_count kinds) most_ants) refl is where
    go : (found : Option Pos) → open_rim width height kinds ≡ found → (few : Bool) → leb (hill_count kinds) most_ants ≡ few → limited width height kinds found ≡ Err fault → IsWorldFault text fault
    go (Some p) f few e is =
        let one : OpenRim p.x p.y ≡ fault = cc in
        subst (IsWorldFault text) one (open_rim_fault kinds p whole f)
    go None f true e is = let read = sym (cond-true (leb (hill_count kinds) most_ants) _ _ e) ∙ is in absurd (cc)
    go None f false e is =
        let one : TooManyAnts (hill_count kinds) ≡ fault = let read = sym (cond-false (leb (hill_count kinds) most_ants) _ _ e) ∙ is in cc in
        subst (IsWorldFault text) one
        (record { width = width; height = height; kinds = kinds; complete = whole; rim = rim-closed width height kinds f; is = refl; wrong = leb-false (hill_count kinds) most_ants e })

  rows_fault : (fault : WorldFault) → rows_ended width height (rows_from width 0 height lines) ≡ Err fault → IsWorldFault text fault
  rows_fault fault is = go (rows_from width 0 height lines) refl is where
    blank : (rows : Rows) → rows_from width 0 height lines ≡ Ok rows → (end : Bool) → list_all is_blank rows.rest ≡ end → cond end (limited width height rows.kinds (open_rim width height rows.kinds)) (Err ExtraRow) ≡ Err fault → IsWorldFault text fault
    blank rows told false e is =
        let one : ExtraRow ≡ fault = cc in
        subst (IsWorldFault text) one (extra_row rows told (not_all_blank rows.rest e))
    blank rows told true e is = limits_fault rows.kinds fault (complete rows told e) is

    go : (rows : Result Rows WorldFault) → rows_from width 0 height lines ≡ rows → rows_ended width height rows ≡ Err fault → IsWorldFault text fault
    go (Err other) told is =
        let one : other ≡ fault = cc in
        subst (IsWorldFault text) one (world_fault-row text other (row_at_fault other (rows_from-fault width 0 height lines other told)))
    go (Ok rows) told is = blank rows told (list_all is_blank rows.rest) refl is

height_fault : (text : List ℕ) (width : ℕ) (fault : WorldFault) → first_size (lines_of text) ≡ Some width → after_height width (first_size (drop 1 (lines_of text))) (drop 1 (drop 1 (lines_of text))) ≡ Err fault → IsWorldFault text fault
height_fault text width fault wide is = go (first_size (drop 1 (lines_of text))) refl is where
  go : (size : Option ℕ) → first_size (drop 1 (lines_of text)) ≡ size → after_height width size (drop 1 (drop 1 (lines_of text))) ≡ Err fault → IsWorldFault text fault
  go None none is =
      let one : BadHeight ≡ fault = cc in
      let first = first_size-known (lines_of text) width wide in
      subst (IsWorldFault text) one
      (record { width = width; first = first.line; lines = drop 1 (lines_of text); are = first.are; is_width = first.is; none = no_size-known (drop 1 (lines_of text)) none })
  go (Some height) tall is =
      let first = first_size-known (lines_of text) width wide in
      let second = first_size-known (drop 1 (lines_of text)) height tall in
      rows_fault text first.line second.line (drop 1 (drop 1 (lines_of text))) width height (first.are ∙ ap (λ ls. first.line ∷ ls) second.are) first.is second.is fault is

-- the fault that is read is what is wrong with the text
pub plan_of-fault : (text : List ℕ) (fault : WorldFault) → plan_of text ≡ Err fault → IsWorldFault text fault
unfolding plan_of
plan_of-fault text fault is = go (first_size (lines_of text)) refl is where
  go : (size : Option ℕ) → first_size (lines_of text) ≡ size → after_width size (drop 1 (lines_of text)) ≡ Err fault → IsWorldFault text fault
  go None none is =
      let one : BadWidth ≡ fault = cc in
      subst (IsWorldFault text) one (no_size-known (lines_of text) none)
  go (Some width) wide is = height_fault text width fault wide is
