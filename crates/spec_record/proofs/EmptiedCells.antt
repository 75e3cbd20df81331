-- Which cells the checks empty: those that held an ant before and hold none at last.
use Rattle.std.proofs.Common.{◌≡◌, ◌≢◌, ◌≤◌, inl, inr, ℕ, Bool, true, false, if◌then◌else◌, ◌||◌, ◌&&◌, not, List, [], ◌∷◌, ◌++◌, refl, sym, ◌∙◌, ap}
use Rattle.std.specs.List.{AllByRecursion, flat_map}
use Rattle.std.proofs.Math.Path.{fun_ext}
use Rattle.std.proofs.lemmas.Bool.{cases_Bool, cond-true, cond-false}
use Rattle.list_lemmas.proofs.Elements.{append-empty}
use Rattle.hex_geometry.specs.declared.position.Pos.{Pos}
use Rattle.hex_geometry.specs.Direction.{directions}
use Rattle.hex_geometry.specs.Neighbourhood.{adjacent_pos, neighbours_of}
use Rattle.hex_geometry.specs.Position.{same_pos}
use Rattle.hex_geometry.specs.declared.direction.Dir.{Dir}
use Rattle.hex_geometry.specs.declared.direction.Dir.TheVariants.{East, SouthEast, SouthWest, West, NorthWest, NorthEast}
use Rattle.hex_geometry.proofs.Beside.{adjacent_pos_moves, adjacent_pos_one}
use Rattle.hex_geometry.proofs.Places.{same_pos_true, same_pos_false, same_pos_apart}
use Rattle.cell_world.specs.declared.ant.Ant.{Ant}
use Rattle.cell_world.specs.declared.cell.Cell.{Cell}
use Rattle.cell_world.specs.World.{Cells, put_cell}
use Rattle.cell_world.proofs.Puts.{put_cell-same, put_cell-other}
use Rattle.ant_turn.specs.Kills.{after_kill, check_all, check_at, is_surrounded, killed_all, killed_at, places_around}
use Rattle.ant_turn.specs.Sheet.{Sheet}
use Rattle.ant_turn.specs.Turn.{arrived, has_ant, left_by_ant, stepped, with_ant}
use Rattle.ant_turn.proofs.Checks.{Struck, check_at-spared, check_at-struck, is_surrounded-true, killed_at-struck}
use Rattle.ant_turn.proofs.QuietLemmas.{check_at-elsewhere}
use Rattle.spec_record.specs.Reads.{emptied, neighbours_if_manned, seen_around}
use Rattle.spec_record.specs.Inner.Moves.{beyond, fallen, is_manned, seen_from}

-- pairwise two
abbrev pub Distinct : List Pos → Type 0
Distinct [] = Unit {0}
Distinct (p ∷ places) = AllByRecursion (λ q. p ≢ q) places × Distinct places

-- checks of others change no cell
check_all-elsewhere : (sheet : Sheet) (places : List Pos) (cells : Cells) (p : Pos) → AllByRecursion (λ q. p ≢ q) places → check_all sheet cells places p ≡ cells p
check_all-elsewhere sheet [] cells p others = refl
check_all-elsewhere sheet (q ∷ places) cells p others =
    check_all-elsewhere sheet places (check_at sheet cells q) p others.1 ∙ check_at-elsewhere sheet cells q p (λ e. others.0 (sym e))

-- this position, if an ant was and none is at last
abbrev emptied_at : Cells → Cells → Pos → List Pos
emptied_at cells last r = if has_ant (cells r).ant && not (has_ant (last r).ant) then r ∷ [] else []

-- what each of a list brings, if it brings the same
pub flat_map-alike : {A B : Type 0} (f g : A → List B) (xs : List A) → AllByRecursion (λ x. f x ≡ g x) xs → flat_map f xs ≡ flat_map g xs
flat_map-alike {A} {B} f g [] alike = refl
flat_map-alike {A} {B} f g (x ∷ xs) alike = ap (λ some. some ++ flat_map f xs) alike.0 ∙ ap (λ more. g x ++ more) (flat_map-alike f g xs alike.1)

-- a check of another cell before changes nothing of that
alike_later : (sheet : Sheet) (cells last : Cells) (p : Pos) (places : List Pos) → AllByRecursion (λ q. p ≢ q) places → AllByRecursion (λ r. emptied_at (check_at sheet cells p) last r ≡ emptied_at cells last r) places
alike_later sheet cells last p [] others = tt
alike_later sheet cells last p (r ∷ places) others =
    (ap (λ (cell : Cell). if has_ant cell.ant && not (has_ant (last r).ant) then r ∷ [] else []) (check_at-elsewhere sheet cells p r others.0), alike_later sheet cells last p places others.1)

-- an ant that stays is not gone
and-not : (b : Bool) → (b && not b) ≡ false
and-not true = refl
and-not false = refl

-- the first of the checks
emptied_at-first : (sheet : Sheet) (cells last : Cells) (p : Pos) → last p ≡ check_at sheet cells p p → (if is_surrounded sheet cells p then p ∷ [] else []) ≡ emptied_at cells last p
emptied_at-first sheet cells last p at =
    elim (cases_Bool (is_surrounded sheet cells p)) [
      | inl hit ↦
          let it : Struck sheet cells p = is_surrounded-true sheet cells p hit in
          let was : has_ant (cells p).ant ≡ true = ap has_ant it.is in
          let gone : has_ant (last p).ant ≡ false = ap (λ (cell : Cell). has_ant cell.ant) (at ∙ ap (λ (now : Cells). now p) (check_at-struck sheet cells p hit) ∙ put_cell-same cells p (after_kill sheet (cells p))) in
          let both : (has_ant (cells p).ant && not (has_ant (last p).ant)) ≡ true = ap (λ b. b && not (has_ant (last p).ant)) was ∙ ap (λ b. true && not b) gone in
          cond-true _ _ _ hit ∙ sym (cond-true _ _ _ both)
      | inr free ↦
          let same : has_ant (last p).ant ≡ has_ant (cells p).ant = ap (λ (cell : Cell). has_ant cell.ant) (at ∙ ap (λ (now : Cells). now p) (check_at-spared sheet cells p free)) in
          let stays : (has_ant (cells p).ant && not (has_ant (last p).ant)) ≡ false = ap (λ b. has_ant (cells p).ant && not b) same ∙ and-not (has_ant (cells p).ant) in
          cond-false _ _ _ free ∙ sym (cond-false _ _ _ stays)
    ]

-- the cells that checks of different cells empty
emptied-flat : (sheet : Sheet) (places : List Pos) (cells last : Cells) → Distinct places → last ≡ check_all sheet cells places → emptied sheet cells places ≡ flat_map (emptied_at cells last) places
emptied-flat sheet [] cells last distinct is = refl
emptied-flat sheet (p ∷ places) cells last distinct is =
    let here : last p ≡ check_at sheet cells p p = ap (λ (now : Cells). now p) is ∙ check_all-elsewhere sheet places (check_at sheet cells p) p distinct.0 in
    ap (λ some. some ++ emptied sheet (check_at sheet cells p) places) (emptied_at-first sheet cells last p here)
    ∙ ap (λ more. emptied_at cells last p ++ more) (emptied-flat sheet places (check_at sheet cells p) last distinct.1 is ∙ flat_map-alike (emptied_at (check_at sheet cells p) last) (emptied_at cells last) places (alike_later sheet cells last p places distinct.0))

-- checks that kill no ant empty no cell
spared-none : (sheet : Sheet) (cells : Cells) (p : Pos) → killed_at sheet cells p ≡ [] → is_surrounded sheet cells p ≡ false
spared-none sheet cells p none =
    elim (cases_Bool (is_surrounded sheet cells p)) [
      | inl hit ↦
          let it : Struck sheet cells p = is_surrounded-true sheet cells p hit in
          let wrong : it.ant.id ∷ [] ≡ [] = sym (killed_at-struck sheet cells p it.ant it.is hit) ∙ none in
          absurd (cc)
      | inr free ↦ free
    ]

pub emptied-none : (sheet : Sheet) (places : List Pos) (cells : Cells) → killed_all sheet cells places ≡ [] → emptied sheet cells places ≡ []
emptied-none sheet [] cells none = refl
emptied-none sheet (p ∷ places) cells none =
    let parts : (killed_at sheet cells p ≡ []) × (killed_all sheet (check_at sheet cells p) places ≡ []) = append-empty (killed_at sheet cells p) (killed_all sheet (check_at sheet cells p) places) none in
    ap (λ some. some ++ emptied sheet (check_at sheet cells p) places) (cond-false _ (p ∷ []) [] (spared-none sheet cells p parts.0)) ∙ emptied-none sheet places (check_at sheet cells p) parts.1

-- two directions, two neighbours
apart : (q : Pos) (d e : Dir) → 1 ≤ q.x → 1 ≤ q.y → (d ≡ e → ⊥) → adjacent_pos q d ≢ adjacent_pos q e
apart q d e left top other same = other (adjacent_pos_one q d e left top same)

-- and none is the position itself
moved : (q : Pos) (d : Dir) → 1 ≤ q.x → 1 ≤ q.y → q ≢ adjacent_pos q d
moved q d left top same = adjacent_pos_moves q d left top (sym same)

-- the cells that are checked around a position are pairwise two
pub around-distinct : (q : Pos) → 1 ≤ q.x → 1 ≤ q.y → Distinct (places_around q)
unfolding places_around neighbours_of directions
around-distinct q left top = (
  (moved q East left top, (moved q SouthEast left top, (moved q SouthWest left top, (moved q West left top, (moved q NorthWest left top, (moved q NorthEast left top, tt)))))),
  ((apart q East SouthEast left top (λ e. absurd (cc)), (apart q East SouthWest left top (λ e. absurd (cc)), (apart q East West left top (λ e. absurd (cc)), (apart q East NorthWest left top (λ e. absurd (cc)), (apart q East NorthEast left top (λ e. absurd (cc)), tt))))), ((apart q SouthEast SouthWest left top (λ e. absurd (cc)), (apart q SouthEast West left top (λ e. absurd (cc)), (apart q SouthEast NorthWest left top (λ e. absurd (cc)), (apart q SouthEast NorthEast left top (λ e. absurd (cc)), tt)))), ((apart q SouthWest West left top (λ e. absurd (cc)), (apart q SouthWest NorthWest left top (λ e. absurd (cc)), (apart q SouthWest NorthEast left top (λ e. absurd (cc)), tt))), ((apart q West NorthWest left top (λ e. absurd (cc)), (apart q West NorthEast left top (λ e. absurd (cc)), tt)), ((apart q NorthWest NorthEast left top (λ e. absurd (cc)), tt), (tt, tt)))))),
)

-- an ant is on a cell after a step where it went there, or was there and didn't go
manned-after : (sheet : Sheet) (cells : Cells) (p : Pos) (ant : Ant) (q : Pos) (next : ℕ) (r : Pos) → has_ant (stepped sheet cells p ant q next r).ant ≡ (same_pos r q || is_manned cells p r)
unfolding stepped
manned-after sheet cells p ant q next r =
    let left : Cells = put_cell cells p (left_by_ant (cells p)) in
    let there : Cell = with_ant (cells q) (arrived sheet ant next) in
    elim (cases_Bool (same_pos r q)) [
      | inl same ↦
          ap (λ s. has_ant (put_cell left q there s).ant) (same_pos_true r q same)
          ∙ ap (λ (cell : Cell). has_ant cell.ant) (put_cell-same left q there)
          ∙ sym (ap (λ b. b || is_manned cells p r) same)
      | inr other ↦
          ap (λ (cell : Cell). has_ant cell.ant) (put_cell-other left q there r (λ e. same_pos_false r q other (sym e)))
          ∙ elim (cases_Bool (same_pos r p)) as (λ _. has_ant (left r).ant ≡ (same_pos r q || is_manned cells p r)) [
            | inl here ↦
                ap (λ s. has_ant (left s).ant) (same_pos_true r p here)
                ∙ ap (λ (cell : Cell). has_ant cell.ant) (put_cell-same cells p (left_by_ant (cells p)))
                ∙ sym (ap (λ b. b || is_manned cells p r) other ∙ ap (λ b. not b && has_ant (cells r).ant) here)
            | inr away ↦
                ap (λ (cell : Cell). has_ant cell.ant) (put_cell-other cells p (left_by_ant (cells p)) r (λ e. same_pos_false r p away (sym e)))
                ∙ sym (ap (λ b. b || is_manned cells p r) other ∙ ap (λ b. not b && has_ant (cells r).ant) away)
          ]
    ]

-- the cells of the killed, as a look finds them
pub emptied-fallen : (sheet : Sheet) (cells last : Cells) (p : Pos) (ant : Ant) (q : Pos) (next : ℕ) → 1 ≤ q.x → 1 ≤ q.y → last ≡ check_all sheet (stepped sheet cells p ant q next) (places_around q) →
    emptied sheet (stepped sheet cells p ant q next) (places_around q) ≡ fallen cells last p q
emptied-fallen sheet cells last p ant q next left top is =
    emptied-flat sheet (places_around q) (stepped sheet cells p ant q next) last (around-distinct q left top) is
    ∙ ap (λ f. flat_map f (places_around q)) (fun_ext λ r. ap (λ b. if b && not (has_ant (last r).ant) then r ∷ [] else []) (manned-after sheet cells p ant q next r))

-- a neighbour isn't the position itself
beside-alike : (sheet : Sheet) (cells : Cells) (p : Pos) (ant : Ant) (q : Pos) (next : ℕ) (d : Dir) → 1 ≤ q.x → 1 ≤ q.y → neighbours_if_manned (stepped sheet cells p ant q next) (adjacent_pos q d) ≡ beyond cells p (adjacent_pos q d)
beside-alike sheet cells p ant q next d left top =
    let r : Pos = adjacent_pos q d in
    ap (λ b. if b then neighbours_of r else []) (manned-after sheet cells p ant q next r ∙ ap (λ b. b || is_manned cells p r) (same_pos_apart r q (adjacent_pos_moves q d left top)))

beside_all : (sheet : Sheet) (cells : Cells) (p : Pos) (ant : Ant) (q : Pos) (next : ℕ) → 1 ≤ q.x → 1 ≤ q.y → AllByRecursion (λ r. neighbours_if_manned (stepped sheet cells p ant q next) r ≡ beyond cells p r) (neighbours_of q)
unfolding neighbours_of directions
beside_all sheet cells p ant q next left top = (beside-alike sheet cells p ant q next East left top, (beside-alike sheet cells p ant q next SouthEast left top, (beside-alike sheet cells p ant q next SouthWest left top, (beside-alike sheet cells p ant q next West left top, (beside-alike sheet cells p ant q next NorthWest left top, (beside-alike sheet cells p ant q next NorthEast left top, tt))))))

-- whose ants decide the checks, as a look finds them
pub seen_around-from : (sheet : Sheet) (cells : Cells) (p : Pos) (ant : Ant) (q : Pos) (next : ℕ) → 1 ≤ q.x → 1 ≤ q.y → seen_around (stepped sheet cells p ant q next) q ≡ seen_from cells p q
seen_around-from sheet cells p ant q next left top =
    ap (λ more. places_around q ++ more) (flat_map-alike (neighbours_if_manned (stepped sheet cells p ant q next)) (beyond cells p) (neighbours_of q) (beside_all sheet cells p ant q next left top))
