-- The kinds that are read from a text, and the texts that they are read from.
use Rattle.std.proofs.Common.{◌≡◌, ℕ, ◌*◌, ◌≤◌, Bool, true, false, cond, leb, List, length, drop, Option, Some, None, Ok, Err, refl, sym, ◌∙◌, ap}
use Rattle.std.proofs.lemmas.Bool.{leb-true}
use Rattle.ant_base.specs.Lines.{lines_of}
use Rattle.hex_geometry.specs.declared.position.Pos.{Pos}
use Rattle.cell_world.specs.declared.kind.Kind.{Kind}
use Rattle.cell_world.specs.Limits.{most_ants}
use Rattle.cell_world.specs.Opening.{IsPlan, hill_count}
use Rattle.world_read.specs.declared.fault.WorldFault.TheVariants.{BadWidth, BadHeight, TooManyAnts}
use Rattle.world_read.specs.Grammar.{Plan}
use Rattle.world_read.specs.Inner.Reading.{AreSizes, Rows, after_height, after_width, rows_ended, first_size, limited, open_rim, opened, plan_of, rows_from, world_of_text}
use Rattle.cell_world.proofs.Rims.{rim_rock}
use Rattle.world_read.proofs.ScanLemmas.{rim-closed}
use Rattle.world_read.proofs.RowReads.{length-AreRows, rows_from-known}

-- a text whose first line is no width
pub world_of_text-width : (text : List ℕ) (lines : List (List ℕ)) → lines ≡ lines_of text → None ≡ first_size lines → world_of_text text ≡ Err BadWidth
unfolding world_of_text plan_of
world_of_text-width text lines are none = ap (λ ls. opened (after_width (first_size ls) (drop 1 ls))) (sym are) ∙ ap (λ o. opened (after_width o (drop 1 lines))) (sym none)

-- a text whose second line is no height
pub world_of_text-height : (text : List ℕ) (lines after : List (List ℕ)) (width : ℕ) → lines ≡ lines_of text → Some width ≡ first_size lines → after ≡ drop 1 lines → None ≡ first_size after → world_of_text text ≡ Err BadHeight
unfolding world_of_text plan_of
world_of_text-height text lines after width are wide next none =
    ap (λ ls. opened (after_width (first_size ls) (drop 1 ls))) (sym are)
    ∙ ap (λ o. opened (after_width o (drop 1 lines))) (sym wide)
    ∙ ap (λ ls. opened (after_height width (first_size ls) (drop 1 ls))) (sym next)
    ∙ ap (λ o. opened (after_height width o (drop 1 after))) (sym none)

-- a text with both sizes
pub world_of_text-rows : (text : List ℕ) (lines after rest : List (List ℕ)) (width height : ℕ) → lines ≡ lines_of text → Some width ≡ first_size lines → after ≡ drop 1 lines → Some height ≡ first_size after → rest ≡ drop 1 after → world_of_text text ≡ opened (rows_ended width height (rows_from width 0 height rest))
unfolding world_of_text plan_of
world_of_text-rows text lines after rest width height are wide next tall left =
    ap (λ ls. opened (after_width (first_size ls) (drop 1 ls))) (sym are)
    ∙ ap (λ o. opened (after_width o (drop 1 lines))) (sym wide)
    ∙ ap (λ ls. opened (after_height width (first_size ls) (drop 1 ls))) (sym next)
    ∙ ap (λ o. opened (after_height width o (drop 1 after))) (sym tall)
    ∙ ap (λ ls. opened (rows_ended width height (rows_from width 0 height ls))) (sym left)

-- kinds that keep the limits
pub record IsLimited (width height : ℕ) (kinds : List Kind) (found : Option Pos) (plan : Plan) : Type 0 where
  pub closed : found ≡ None
  pub few : hill_count kinds ≤ most_ants
  pub is : record { width = width; height = height; kinds = kinds } ≡ plan

pub limited-known : (width height : ℕ) (kinds : List Kind) (found : Option Pos) (plan : Plan) → limited width height kinds found ≡ Ok plan → IsLimited width height kinds found plan
limited-known width height kinds (Some p) plan is = absurd (cc)
limited-known width height kinds None plan is = go (leb (hill_count kinds) most_ants) refl is where
  go : (few : Bool) → leb (hill_count kinds) most_ants ≡ few → cond few (Ok (record { width = width; height = height; kinds = kinds })) (Err (TooManyAnts (hill_count kinds))) ≡ Ok plan → IsLimited width height kinds None plan
  go true e is = record { closed = refl; few = leb-true (hill_count kinds) most_ants e; is = let one : record { width = width; height = height; kinds = kinds } ≡ plan = cc in one }
  go false e is = absurd (cc)

-- kinds that are read as rows and keep the limits are those of a world
pub IsPlan-read : (width height : ℕ) (lines : List (List ℕ)) (rows : Rows) (plan : Plan) → AreSizes width height → rows_from width 0 height lines ≡ Ok rows → limited width height rows.kinds (open_rim width height rows.kinds) ≡ Ok plan → IsPlan width height rows.kinds
IsPlan-read width height lines rows plan sizes told within =
    let read = rows_from-known width 0 height lines rows told in
    let kept = limited-known width height rows.kinds (open_rim width height rows.kinds) plan within in
    record {
      wide = sizes.wide;
      narrow = sizes.narrow;
      tall = sizes.tall;
      low = sizes.low;
      full = length-AreRows width read.front rows.kinds read.are_rows ∙ ap (λ n. width * n) read.as_many;
      rim = rim_rock width height rows.kinds (rim-closed width height rows.kinds kept.closed);
      fed = read.fed;
      few = kept.few;
    }

-- as many kinds are read as there are cells
pub length-rows_from : (width height : ℕ) (lines : List (List ℕ)) (rows : Rows) → rows_from width 0 height lines ≡ Ok rows → length rows.kinds ≡ width * height
length-rows_from width height lines rows told =
    let read = rows_from-known width 0 height lines rows told in
    length-AreRows width read.front rows.kinds read.are_rows ∙ ap (λ n. width * n) read.as_many
