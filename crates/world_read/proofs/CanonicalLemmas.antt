-- The canonical text of a world is that world's text.
use Rattle.std.proofs.Common.{◌≡◌, ℕ, zero, suc, ◌+◌, ◌*◌, ◌%◌, ◌≤◌, Bool, true, false, not, eqb, ltb, List, [], ◌∷◌, ◌++◌, length, take, drop, get_or, map, refl, sym, ◌∙◌, ap, ap₂, subst, append_assoc, append-nil, add-one, arith}
use Rattle.std.proofs.lemmas.Bool.{ne_eqb}
use Rattle.std.proofs.lemmas.List.{drop-drop, drop_all, get_or-drop, length-drop, length-map, length-take, map-append, take-append-drop, take_more}
use Rattle.std.proofs.lemmas.List.Elements.{All-nil, filter-append}
use Rattle.std.proofs.lemmas.List.FromFn.{get_or-range_with_len, length-range_with_len}
use Rattle.std.specs.List.{flat_map, range_with_len}
use Rattle.std.specs.Fmt.{decimal}
use Rattle.ant_base.specs.Layout.{numbered}
use Rattle.ant_base.specs.Lines.{has_no_lf, is_blank, is_lf, is_separator, lines_of}
use Rattle.ant_base.specs.Number.{decimal_value}
use Rattle.ant_base.proofs.Digits.{decimal_value-decimal}
use Rattle.ant_base.proofs.Linewise.{has_no_lf-append, has_no_lf-decimal, lines_of-joined, lines_of-line, trimmed-decimal}
use Rattle.ant_base.proofs.Numbered.{numbered-list, numbered-same}
use Rattle.cell_world.specs.declared.kind.Kind.{Kind}
use Rattle.cell_world.specs.declared.kind.Kind.TheVariants.{Rock, Food}
use Rattle.cell_world.specs.Grid.{Grid}
use Rattle.cell_world.specs.Opening.{IsPlan}
use Rattle.world_read.specs.Bytes.{byte_of, spelled}
use Rattle.world_read.specs.Canonical.{canonical_text, cell_text, line_of_row, space_if}
use Rattle.world_read.specs.Grammar.{AreRows, IsWorldText}
use Rattle.world_read.specs.Opened.{IsOpeningWorld, OpensAs, kinds_of}
use Rattle.world_read.proofs.OpenedLemmas.{kinds_of-opening}

-- a cell's byte is no LF
is_lf-byte_of : (kind : Kind) → is_lf (byte_of kind) ≡ false
is_lf-byte_of (Food n) = ne_eqb (48 + n) 10 (omega arith)
is_lf-byte_of it = refl

-- a cell's byte is not a separator
is_separator-byte_of : (kind : Kind) → is_separator (byte_of kind) ≡ false
is_separator-byte_of (Food n) = rw (ne_eqb (48 + n) 32 (omega arith), ne_eqb (48 + n) 9 (omega arith), ne_eqb (48 + n) 13 (omega arith)) refl
is_separator-byte_of it = refl

has_no_lf-space : (wanted : Bool) → has_no_lf (space_if wanted) ≡ true
has_no_lf-space true = refl
has_no_lf-space false = refl

spelled-space : (wanted : Bool) → spelled (space_if wanted) ≡ []
spelled-space true = refl
spelled-space false = refl

spelled-append : (a b : List ℕ) → spelled (a ++ b) ≡ spelled a ++ spelled b
spelled-append a b = filter-append (λ byte. not (is_separator byte)) a b

-- the text of a cell has no LF, and spells the cell
has_no_lf-cell : (x : ℕ) (kind : Kind) → has_no_lf (cell_text x (byte_of kind)) ≡ true
unfolding cell_text
has_no_lf-cell x kind = has_no_lf-append (space_if (ltb 0 x)) (byte_of kind ∷ []) (has_no_lf-space (ltb 0 x)) (rw (is_lf-byte_of kind) refl)

spelled-cell : (x : ℕ) (kind : Kind) → spelled (cell_text x (byte_of kind)) ≡ byte_of kind ∷ []
unfolding cell_text
spelled-cell x kind =
    spelled-append (space_if (ltb 0 x)) (byte_of kind ∷ [])
    ∙ ap (λ front. front ++ spelled (byte_of kind ∷ [])) (spelled-space (ltb 0 x))
    ∙ rw (is_separator-byte_of kind) refl

-- the cells of a row
abbrev cells_text : ℕ → List Kind → ℕ → ℕ → List ℕ
cells_text width kinds y n = numbered (λ x. cell_text x (byte_of (get_or kinds (y * width + x) Rock))) n

has_no_lf-cells : (width : ℕ) (kinds : List Kind) (y n : ℕ) → has_no_lf (cells_text width kinds y n) ≡ true
unfolding numbered
has_no_lf-cells width kinds y zero = refl
has_no_lf-cells width kinds y (suc n) =
    has_no_lf-append (cells_text width kinds y n) (cell_text n (byte_of (get_or kinds (y * width + n) Rock))) (has_no_lf-cells width kinds y n) (has_no_lf-cell n (get_or kinds (y * width + n) Rock))

spelled-cells : (width : ℕ) (kinds : List Kind) (y n : ℕ) → n ≤ length (drop (y * width) kinds) → spelled (cells_text width kinds y n) ≡ map byte_of (take n (drop (y * width) kinds))
unfolding numbered
spelled-cells width kinds y zero le = refl
spelled-cells width kinds y (suc n) le =
    let row = drop (y * width) kinds in
    let kind = get_or kinds (y * width + n) Rock in
    let next : take (suc n) row ≡ take n row ++ kind ∷ [] =
    rw (← add-one) (take_more row n Rock (omega arith)) ∙ ap (λ k. take n row ++ k ∷ []) (get_or-drop (y * width) kinds n Rock) in
    spelled-append (cells_text width kinds y n) (cell_text n (byte_of kind))
    ∙ ap₂ (λ a b. a ++ b) (spelled-cells width kinds y n (omega arith)) (spelled-cell n kind)
    ∙ sym (map-append byte_of (take n row) (kind ∷ []))
    ∙ ap (map byte_of) (sym next)

-- a row without its LF
row_line : ℕ → List Kind → ℕ → List ℕ
row_line width kinds y = space_if (eqb (y % 2) 1) ++ cells_text width kinds y width

line_of_row-line : (width : ℕ) (kinds : List Kind) (y : ℕ) → line_of_row width kinds y ≡ row_line width kinds y ++ 10 ∷ []
unfolding line_of_row row_line
line_of_row-line width kinds y = sym (append_assoc (space_if (eqb (y % 2) 1)) (cells_text width kinds y width) (10 ∷ []))

has_no_lf-row : (width : ℕ) (kinds : List Kind) (y : ℕ) → has_no_lf (row_line width kinds y) ≡ true
unfolding row_line
has_no_lf-row width kinds y = has_no_lf-append (space_if (eqb (y % 2) 1)) (cells_text width kinds y width) (has_no_lf-space (eqb (y % 2) 1)) (has_no_lf-cells width kinds y width)

spelled-row : (width : ℕ) (kinds : List Kind) (y : ℕ) → width ≤ length (drop (y * width) kinds) → spelled (row_line width kinds y) ≡ map byte_of (take width (drop (y * width) kinds))
unfolding row_line
spelled-row width kinds y le =
    spelled-append (space_if (eqb (y % 2) 1)) (cells_text width kinds y width)
    ∙ ap (λ front. front ++ spelled (cells_text width kinds y width)) (spelled-space (eqb (y % 2) 1))
    ∙ spelled-cells width kinds y width le

-- the lines of the rows
abbrev row_lines : ℕ → ℕ → List Kind → List (List ℕ)
row_lines width height kinds = map (row_line width kinds) (range_with_len 0 height)

lines_of-rows : (width height : ℕ) (kinds : List Kind) → lines_of (numbered (line_of_row width kinds) height) ≡ row_lines width height kinds ++ []
lines_of-rows width height kinds =
    let numbers = range_with_len 0 height in
    let text = λ (y : ℕ). row_line width kinds y ++ 10 ∷ [] in
    let each : numbered (line_of_row width kinds) height ≡ numbered (λ i. text (get_or numbers i 0)) height =
    numbered-same (line_of_row width kinds) (λ i. text (get_or numbers i 0)) height
    (λ i lt. line_of_row-line width kinds i ∙ ap text (sym (get_or-range_with_len 0 height i 0 lt ∙ omega arith))) in
    let many : numbered (λ i. text (get_or numbers i 0)) height ≡ numbered (λ i. text (get_or numbers i 0)) (length numbers) =
    ap (numbered (λ i. text (get_or numbers i 0))) (sym (length-range_with_len 0 height)) in
    ap lines_of (each ∙ many ∙ numbered-list text numbers 0 ∙ sym (append-nil (flat_map text numbers)))
    ∙ lines_of-joined (row_line width kinds) numbers [] (has_no_lf-row width kinds)

-- they are rows
are_rows-from : (width : ℕ) (kinds : List Kind) (y count : ℕ) → length kinds ≡ width * (y + count) → AreRows width (map (row_line width kinds) (range_with_len y count)) (drop (y * width) kinds)
are_rows-from width kinds y zero full = drop_all (y * width) kinds (omega arith)
are_rows-from width kinds y (suc count) full =
    let left = drop (y * width) kinds in
    let many : length left ≡ width + width * count = length-drop (y * width) kinds ∙ omega arith in
    let below : AreRows width (map (row_line width kinds) (range_with_len (y + 1) count)) (drop ((y + 1) * width) kinds) = are_rows-from width kinds (y + 1) count (omega arith) in (
      take width left,
      drop width left,
      sym (take-append-drop width left),
      omega (arith, length-take width left),
      spelled-row width kinds y (omega arith),
      subst (AreRows width (map (row_line width kinds) (range_with_len (y + 1) count))) (ap (λ n. drop n kinds) (omega arith) ∙ sym (drop-drop width (y * width) kinds)) below,
    )

-- the canonical text of kinds that are those of a world
pub IsWorldText-canonical : (width height : ℕ) (kinds : List Kind) → IsPlan width height kinds → IsWorldText (canonical_text width height kinds) width height kinds
unfolding canonical_text
IsWorldText-canonical width height kinds plan =
    let rows = numbered (line_of_row width kinds) height in
    let none : 0 * width ≡ 0 = omega arith in
    let all : height ≡ 0 + height = omega arith in
    record {
      first = decimal width;
      second = decimal height;
      rows = row_lines width height kinds;
      rest = [];
      lines =
          lines_of-line (decimal width) (decimal height ++ 10 ∷ rows) (has_no_lf-decimal width (omega (arith, plan.narrow)))
          ∙ ap (λ lines. decimal width ∷ lines) (lines_of-line (decimal height) rows (has_no_lf-decimal height (omega (arith, plan.low))))
          ∙ ap (λ lines. decimal width ∷ decimal height ∷ lines) (lines_of-rows width height kinds);
      is_width = ap decimal_value (trimmed-decimal width (omega (arith, plan.narrow))) ∙ decimal_value-decimal width (omega (arith, plan.narrow));
      is_height = ap decimal_value (trimmed-decimal height (omega (arith, plan.low))) ∙ decimal_value-decimal height (omega (arith, plan.low));
      as_many = length-map (range_with_len 0 height) (row_line width kinds) ∙ length-range_with_len 0 height;
      are_rows = subst (AreRows width (row_lines width height kinds)) (ap (λ n. drop n kinds) none) (are_rows-from width kinds 0 height (plan.full ∙ ap (λ n. width * n) all));
      blank = All-nil (λ line. is_blank line ≡ true);
      plan = plan;
    }

-- what is written of an opening world is a text of that world
pub OpensAs-canonical : (world : Grid) → IsOpeningWorld world → OpensAs (canonical_text world.width world.height (kinds_of world)) world
OpensAs-canonical world begins =
    let width = world.width in
    let height = world.height in
    let same : kinds_of world ≡ begins.kinds = ap kinds_of begins.is ∙ kinds_of-opening width height begins.kinds begins.plan.fed in
    record {
      kinds = begins.kinds;
      is = subst (λ kinds. IsWorldText (canonical_text width height kinds) width height begins.kinds) (sym same) (IsWorldText-canonical width height begins.kinds begins.plan);
      opened = begins.is;
    }
