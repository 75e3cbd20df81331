-- Reading gives exactly what the grammar says.
use Rattle.std.proofs.Common.{◌≡◌, ℕ, ◌≤◌, Bool, true, false, cond, ◌&&◌, leb, List, [], ◌∷◌, ◌++◌, drop, Option, Some, None, Result, Ok, Err, refl, sym, ◌∙◌, ap, subst}
use Rattle.std.proofs.lemmas.Bool.{and_from, and_parts, cond-true, le-leb, leb-true}
use Rattle.std.proofs.lemmas.List.Sums.{AllPass-from_list_all, list_all-from_AllPass}
use Rattle.std.specs.List.{list_all}
use Rattle.ant_base.specs.Lines.{lines_of, is_blank, trimmed}
use Rattle.ant_base.specs.Number.{decimal_value, within}
use Rattle.cell_world.specs.declared.kind.Kind.{Kind}
use Rattle.cell_world.specs.Limits.{least_size, most_size, most_ants}
use Rattle.cell_world.specs.Opening.{hill_count}
use Rattle.cell_world.proofs.Rims.{clear_inner}
use Rattle.world_read.specs.declared.fault.WorldFault.{WorldFault}
use Rattle.world_read.specs.declared.fault.WorldFault.TheVariants.{ExtraRow, TooManyAnts}
use Rattle.world_read.specs.Faulty.{HasSize}
use Rattle.world_read.specs.Grammar.{IsWorldText, Plan}
use Rattle.world_read.specs.Inner.Reading.{AreSizes, Rows, after_height, after_width, rows_ended, first_size, limited, open_rim, plan_of, rows_from, size_of}
use Rattle.world_read.proofs.PlanReads.{IsPlan-read, limited-known}
use Rattle.world_read.proofs.ScanLemmas.{open_rim-closed}
use Rattle.world_read.proofs.RowReads.{rows_from-known, rows_from-rows}

-- the size that is read from a line is that line's
pub size_of-known : (line : List ℕ) (size : ℕ) → size_of line ≡ Some size → HasSize line size
size_of-known line size is = go (decimal_value (trimmed line)) refl is where
  inside : (n : ℕ) → decimal_value (trimmed line) ≡ Some n → (in' : Bool) → (leb least_size n && leb n most_size) ≡ in' → cond in' (Some n) None ≡ Some size → HasSize line size
  inside n told false e is = absurd (cc)
  inside n told true e is =
      let one : n ≡ size = cc in
      let both = and_parts (leb least_size n) (leb n most_size) e in
      subst (HasSize line) one (record { is = told; least = leb-true least_size n both.0; most = leb-true n most_size both.1 })

  go : (told : Option ℕ) → decimal_value (trimmed line) ≡ told → within least_size most_size told ≡ Some size → HasSize line size
  go None told is = absurd (cc)
  go (Some n) told is = inside n told (leb least_size n && leb n most_size) refl is

-- the size of a line is read from it
pub size_of-line : (line : List ℕ) (size : ℕ) → decimal_value (trimmed line) ≡ Some size → least_size ≤ size → size ≤ most_size → size_of line ≡ Some size
size_of-line line size is least most =
    ap (within least_size most_size) is ∙ cond-true (leb least_size size && leb size most_size) (Some size) None (and_from (leb least_size size) (leb size most_size) (le-leb least_size size least) (le-leb size most_size most))

-- a text with both sizes and as many rows, after which there are blank lines alone
text_ended : (text first second : List ℕ) (lines : List (List ℕ)) (width height : ℕ) (rows : Rows) (plan : Plan) → lines_of text ≡ first ∷ second ∷ lines → size_of first ≡ Some width → size_of second ≡ Some height → rows_from width 0 height lines ≡ Ok rows → list_all is_blank rows.rest ≡ true → limited width height rows.kinds (open_rim width height rows.kinds) ≡ Ok plan → IsWorldText text plan.width plan.height plan.kinds
text_ended text first second lines width height rows plan are wide tall told blank within =
    let w = size_of-known first width wide in
    let h = size_of-known second height tall in
    let read = rows_from-known width 0 height lines rows told in
    let sizes : AreSizes width height = record { wide = w.least; narrow = w.most; tall = h.least; low = h.most } in
    subst (λ (p : Plan). IsWorldText text p.width p.height p.kinds) (limited-known width height rows.kinds (open_rim width height rows.kinds) plan within).is
    (record {
      first = first;
      second = second;
      rows = read.front;
      rest = rows.rest;
      lines = are ∙ ap (λ ls. first ∷ second ∷ ls) read.split;
      is_width = w.is;
      is_height = h.is;
      as_many = read.as_many;
      are_rows = read.are_rows;
      blank = AllPass-from_list_all is_blank rows.rest blank;
      plan = IsPlan-read width height lines rows plan sizes told within;
    })

text_rows : (text first second : List ℕ) (lines : List (List ℕ)) (width height : ℕ) (plan : Plan) → lines_of text ≡ first ∷ second ∷ lines → size_of first ≡ Some width → size_of second ≡ Some height → rows_ended width height (rows_from width 0 height lines) ≡ Ok plan → IsWorldText text plan.width plan.height plan.kinds
text_rows text first second lines width height plan are wide tall is = go (rows_from width 0 height lines) refl is where
  blank : (rows : Rows) → rows_from width 0 height lines ≡ Ok rows → (end : Bool) → list_all is_blank rows.rest ≡ end → cond end (limited width height rows.kinds (open_rim width height rows.kinds)) (Err ExtraRow) ≡ Ok plan → IsWorldText text plan.width plan.height plan.kinds
  blank rows told false e is = absurd (cc)
  blank rows told true e is = text_ended text first second lines width height rows plan are wide tall told e is

  go : (rows : Result Rows WorldFault) → rows_from width 0 height lines ≡ rows → rows_ended width height rows ≡ Ok plan → IsWorldText text plan.width plan.height plan.kinds
  go (Err fault) told is = absurd (cc)
  go (Ok rows) told is = blank rows told (list_all is_blank rows.rest) refl is

text_height : (text first : List ℕ) (lines : List (List ℕ)) (width : ℕ) (plan : Plan) → lines_of text ≡ first ∷ lines → size_of first ≡ Some width → after_height width (first_size lines) (drop 1 lines) ≡ Ok plan → IsWorldText text plan.width plan.height plan.kinds
text_height text first [] width plan are wide is = absurd (cc)
text_height text first (second ∷ lines) width plan are wide is = go (size_of second) refl is where
  go : (size : Option ℕ) → size_of second ≡ size → after_height width size lines ≡ Ok plan → IsWorldText text plan.width plan.height plan.kinds
  go None tall is = absurd (cc)
  go (Some height) tall is = text_rows text first second lines width height plan are wide tall is

text_width : (text : List ℕ) (lines : List (List ℕ)) (plan : Plan) → lines_of text ≡ lines → after_width (first_size lines) (drop 1 lines) ≡ Ok plan → IsWorldText text plan.width plan.height plan.kinds
text_width text [] plan are is = absurd (cc)
text_width text (first ∷ lines) plan are is = go (size_of first) refl is where
  go : (size : Option ℕ) → size_of first ≡ size → after_width size lines ≡ Ok plan → IsWorldText text plan.width plan.height plan.kinds
  go None wide is = absurd (cc)
  go (Some width) wide is = text_height text first lines width plan are wide is

-- a text that is read as a world is that world's text
pub plan_of-known : (text : List ℕ) (plan : Plan) → plan_of text ≡ Ok plan → IsWorldText text plan.width plan.height plan.kinds
unfolding plan_of
plan_of-known text plan is = text_width text (lines_of text) plan refl is

-- a world's text is read as that world
pub plan_of-text : (text : List ℕ) (width height : ℕ) (kinds : List Kind) → IsWorldText text width height kinds → plan_of text ≡ Ok (record { width = width; height = height; kinds = kinds })
unfolding plan_of
plan_of-text text width height kinds t =
    let lines = t.rows ++ t.rest in
    let read : rows_from width 0 height lines ≡ Ok (record { kinds = kinds; rest = t.rest }) =
    ap (λ n. rows_from width 0 n lines) (sym t.as_many) ∙ rows_from-rows width 0 t.rows t.rest kinds t.are_rows t.plan.fed in
    ap (λ ls. after_width (first_size ls) (drop 1 ls)) t.lines
    ∙ ap (λ o. after_width o (t.second ∷ lines)) (size_of-line t.first width t.is_width t.plan.wide t.plan.narrow)
    ∙ ap (λ o. after_height width o lines) (size_of-line t.second height t.is_height t.plan.tall t.plan.low)
    ∙ ap (rows_ended width height) read
    ∙ cond-true (list_all is_blank t.rest) (limited width height kinds (open_rim width height kinds)) (Err ExtraRow) (list_all-from_AllPass is_blank t.rest t.blank)
    ∙ ap (limited width height kinds) (open_rim-closed width height kinds (clear_inner width height kinds t.plan.rim))
    ∙ cond-true (leb (hill_count kinds) most_ants) (Ok (record { width = width; height = height; kinds = kinds })) (Err (TooManyAnts (hill_count kinds))) (le-leb (hill_count kinds) most_ants t.plan.few)
