-- What is pushed, part after part, is the text of the save.
use Rattle.std.proofs.Common.{◌≡◌, ℕ, zero, suc, ◌+◌, ◌*◌, ◌%◌, ◌<◌, ◌≤◌, Bool, true, false, List, [], ◌∷◌, ◌++◌, length, map, take, drop, get_or, refl, sym, ◌∙◌, ap, ap₂, cond, Option, Some, None, append_assoc, append-nil, arith, codes, decimal, nat_le}
use Rattle.std.proofs.lemmas.Grind.{flat_map-append}
use Rattle.std.proofs.lemmas.List.{drop-drop, get_or-drop, get_or-take, length-drop, length-map, length-take-le}
use Rattle.std.specs.List.{flat_map}
use Rattle.std.proofs.lemmas.Bool.{lt-ltb}
use Rattle.std.proofs.lemmas.Nat.{mod_below}
use Rattle.ant_base.specs.Layout.{numbered}
use Rattle.ant_base.proofs.Numbered.{numbered-list, numbered-none, numbered-same}
use Rattle.hex_geometry.specs.RowOrder.{pos_at}
use Rattle.hex_geometry.specs.declared.position.Pos.{Pos}
use Rattle.hex_geometry.proofs.RowLemmas.{index_of-pos_at}
use Rattle.cell_world.specs.Cell.{rock}
use Rattle.cell_world.specs.Grid.{Grid, IsWorld, cell_in, world_of}
use Rattle.cell_world.specs.World.{place_in}
use Rattle.cell_world.specs.declared.ant.Ant.{Ant}
use Rattle.cell_world.specs.declared.ant.PlacedAnt.{PlacedAnt}
use Rattle.cell_world.specs.declared.cell.Cell.{Cell}
use Rattle.brain_read.specs.Canonical.{brain_text}
use Rattle.brain_read.specs.declared.instr.Instr.{Instr}
use Rattle.ant_turn.specs.Minds.{Minds}
use Rattle.match_save.specs.declared.head.Head.{Head}
use Rattle.match_save.specs.Draft.{Draft}
use Rattle.match_save.specs.Saved.{SavedValue, draft_of, head_of, living, living_at, placed_at, save_text, soil_of_cell}
use Rattle.match_save.specs.Text.{ant_lines, ant_tokens, brain_lines, cell_lines, draft_lines, draft_text, food_byte, food_lines, food_tokens, head_tokens, instruction_line, marks_byte, program_lines, rows, soil_byte, spaced, text_of_lines}
use Rattle.match_save.specs.Inner.LineTexts.{lines_text, tokens_text}
use Rattle.match_save.specs.Inner.Written.{ant_text, ant_text_at, cells_written, food_text, food_text_at, program_text, row_text, rows_text, standing_text, written}
use Rattle.match_save.proofs.Bytes.{tokens_text-spaced}
use Rattle.match_save.proofs.Drafted.{text-ended}
use Rattle.std.proofs.Math.ListN.{get_or-map}

-- the line of tokens
tokens-line : (tokens : List (List ℕ)) → spaced tokens ++ 10 ∷ [] ≡ tokens_text tokens
tokens-line tokens = sym (tokens_text-spaced tokens)

-- lines by their tokens
pub lines-tokens : (lines : List (List (List ℕ))) → text_of_lines (map spaced lines) ≡ lines_text lines
lines-tokens [] = refl
lines-tokens (line ∷ []) = append-nil (spaced line ++ 10 ∷ []) ∙ tokens-line line
lines-tokens (line ∷ next ∷ lines) = ap₂ (λ a b. a ++ b) (tokens-line line) (lines-tokens (next ∷ lines))

-- one row more
row_at : {A : Type 0} → (A → ℕ) → ℕ → List A → ℕ → List ℕ
row_at byte width list y = map byte (take width (drop (y * width) list))

length-rows : {A : Type 0} (byte : A → ℕ) (width height : ℕ) (list : List A) → length (rows byte width height list) ≡ height
length-rows byte width zero list = refl
length-rows byte width (suc height) list = ap suc (length-rows byte width height (drop width list))

get_or-rows : {A : Type 0} (byte : A → ℕ) (width height : ℕ) (list : List A) (y : ℕ) → y < height → get_or (rows byte width height list) y [] ≡ row_at byte width list y
unfolding row_at
get_or-rows byte width zero list y below = absurd (omega (arith, below))
get_or-rows byte width (suc height) list zero below =
    let none : 0 ≡ 0 * width = omega arith in
    ap (λ n. map byte (take width (drop n list))) none
get_or-rows byte width (suc height) list (suc y) below =
    get_or-rows byte width height (drop width list) y (omega (arith, below))
    ∙ ap (λ l. map byte (take width l)) (drop-drop (y * width) width list ∙ ap (λ n. drop n list) (omega arith))

-- a byte for each element
flat_map-bytes : {A : Type 0} (byte : A → ℕ) (list : List A) → flat_map (λ it. byte it ∷ []) list ≡ map byte list
flat_map-bytes byte [] = refl
flat_map-bytes byte (it ∷ list) = ap (λ l. byte it ∷ l) (flat_map-bytes byte list)

-- a row, byte after byte
row-bytes : {A : Type 0} (byte : A → ℕ) (width : ℕ) (list : List A) (d : A) (y : ℕ) → y * width + width ≤ length list
    → numbered (λ x. byte (get_or list (y * width + x) d) ∷ []) width ≡ row_at byte width list y
unfolding row_at
row-bytes byte width list d y long =
    let left : width ≤ length (drop (y * width) list) = (let l = length-drop (y * width) list in omega (arith, l, long)) in
    let cut = take width (drop (y * width) list) in
    let size : length cut ≡ width = length-take-le width (drop (y * width) list) left in
    numbered-same (λ x. byte (get_or list (y * width + x) d) ∷ []) (λ x. byte (get_or cut x d) ∷ []) width
    (λ x below. ap (λ it. byte it ∷ []) (sym (get_or-take width (drop (y * width) list) x d below ∙ get_or-drop (y * width) list x d)))
    ∙ ap (numbered (λ x. byte (get_or cut x d) ∷ [])) (sym size)
    ∙ numbered-list (λ it. byte it ∷ []) cut d ∙ flat_map-bytes byte cut

-- all rows
pub rows-written : {A : Type 0} (byte : A → ℕ) (width height : ℕ) (list : List A) (d : A) → length list ≡ height * width
    → text_of_lines (rows byte width height list) ≡ numbered (λ y. numbered (λ x. byte (get_or list (y * width + x) d) ∷ []) width ++ 10 ∷ []) height
rows-written byte width height list d full =
    sym (numbered-list (λ line. line ++ 10 ∷ []) (rows byte width height list) [])
    ∙ ap (numbered (λ y. get_or (rows byte width height list) y [] ++ 10 ∷ [])) (length-rows byte width height list)
    ∙ numbered-same (λ y. get_or (rows byte width height list) y [] ++ 10 ∷ []) (λ y. numbered (λ x. byte (get_or list (y * width + x) d) ∷ []) width ++ 10 ∷ []) height
    (λ y below. ap (λ l. l ++ 10 ∷ []) (get_or-rows byte width height list y below ∙ sym (row-bytes byte width list d y (grind (arith, full, below)))))

-- the first part, and those after it
numbered-first : (f : ℕ → List ℕ) (n : ℕ) → numbered f (suc n) ≡ f 0 ++ numbered (λ j. f (suc j)) n
unfolding numbered
numbered-first f zero = sym (append-nil (f 0))
numbered-first f (suc n) = ap (λ t. t ++ f (suc n)) (numbered-first f n) ∙ append_assoc (f 0) (numbered (λ j. f (suc j)) n) (f (suc n))

-- the cell of a number in row order, and of a position in a row
cell-at : (g : Grid) (i : ℕ) → 1 ≤ g.width → cell_in g (pos_at g.width i) ≡ get_or g.cells i rock
unfolding cell_in
cell-at g i wide = rw (lt-ltb (i % g.width) g.width (mod_below i g.width wide)) (ap (λ n. get_or g.cells n rock) (index_of-pos_at g.width i))

cell-in-row : (g : Grid) (x y : ℕ) → x < g.width → cell_in g (record { x = x; y = y }) ≡ get_or g.cells (y * g.width + x) rock
unfolding cell_in
cell-in-row g x y column = rw (lt-ltb x g.width column) refl

-- the rows of what each cell says
pub rows-cells : {A : Type 0} (byte : A → ℕ) (f : Cell → A) (g : Grid) → length g.cells ≡ g.width * g.height
    → text_of_lines (rows byte g.width g.height (map f g.cells)) ≡ rows_text (λ cell. byte (f cell)) g
rows-cells byte f g full =
    rows-written byte g.width g.height (map f g.cells) (f rock) (length-map g.cells f ∙ full ∙ omega arith)
    ∙ numbered-same (λ y. numbered (λ x. byte (get_or (map f g.cells) (y * g.width + x) (f rock)) ∷ []) g.width ++ 10 ∷ []) (row_text (λ cell. byte (f cell)) g) g.height
    (λ y below. ap (λ l. l ++ 10 ∷ [])
    (numbered-same (λ x. byte (get_or (map f g.cells) (y * g.width + x) (f rock)) ∷ []) (λ x. byte (f (cell_in g (record { x = x; y = y }))) ∷ []) g.width
    (λ x column. ap (λ it. byte it ∷ []) (get_or-map f g.cells (y * g.width + x) rock ∙ ap f (sym (cell-in-row g x y column))))))

-- the lines of food
one-food : (b : Bool) (tokens : List (List ℕ)) → text_of_lines (cond b [] (spaced tokens ∷ [])) ≡ cond b [] (tokens_text tokens)
one-food true tokens = refl
one-food false tokens = append-nil (spaced tokens ++ 10 ∷ []) ∙ tokens-line tokens

foods-written : (width i : ℕ) (foods : List ℕ) → text_of_lines (food_lines width i foods) ≡ numbered (λ j. food_text width (i + j) (get_or foods j 0)) (length foods)
foods-written width i [] = sym (numbered-none (λ j. food_text width (i + j) (get_or {A = ℕ} [] j 0)))
foods-written width i (food ∷ foods) =
    flat_map-append (λ line. line ++ 10 ∷ []) (cond (nat_le food 62) [] (spaced (food_tokens width i food) ∷ [])) (food_lines width (i + 1) foods)
    ∙ ap₂ (λ a b. a ++ b)
    (one-food (nat_le food 62) (food_tokens width i food) ∙ ap (λ k. food_text width k food) (omega arith))
    (foods-written width (i + 1) foods
    ∙ numbered-same (λ j. food_text width ((i + 1) + j) (get_or foods j 0)) (λ j. food_text width (i + suc j) (get_or foods j 0)) (length foods)
    (λ j below. ap (λ k. food_text width k (get_or foods j 0)) (omega arith)))
    ∙ sym (numbered-first (λ j. food_text width (i + j) (get_or (food ∷ foods) j 0)) (length foods))

pub foods-cells : (g : Grid) → length g.cells ≡ g.width * g.height → 1 ≤ g.width
    → text_of_lines (food_lines g.width 0 (map (λ (cell : Cell). cell.food) g.cells)) ≡ numbered (food_text_at g) (g.width * g.height)
unfolding rock
foods-cells g full wide =
    foods-written g.width 0 (map (λ (cell : Cell). cell.food) g.cells)
    ∙ ap (numbered (λ j. food_text g.width (0 + j) (get_or (map (λ (cell : Cell). cell.food) g.cells) j 0))) (length-map g.cells (λ (cell : Cell). cell.food) ∙ full)
    ∙ numbered-same (λ j. food_text g.width (0 + j) (get_or (map (λ (cell : Cell). cell.food) g.cells) j 0)) (food_text_at g) (g.width * g.height)
    (λ j below. let same : 0 + j ≡ j = omega arith in
    ap (λ k. food_text g.width k (get_or (map (λ (cell : Cell). cell.food) g.cells) j 0)) same
    ∙ ap (food_text g.width j) (get_or-map (λ (cell : Cell). cell.food) g.cells j rock ∙ ap (λ (cell : Cell). cell.food) (sym (cell-at g j wide))))

-- the lines of the ants
line_of_ant : PlacedAnt → List ℕ
line_of_ant it = tokens_text (ant_tokens it)

ants-lines : (ants : List PlacedAnt) → text_of_lines (ant_lines ants) ≡ flat_map line_of_ant ants ++ codes "end\n"
unfolding line_of_ant
ants-lines [] = refl
ants-lines (it ∷ ants) =
    ap₂ (λ a b. a ++ b) (tokens-line (ant_tokens it)) (ants-lines ants) ∙ sym (append_assoc (tokens_text (ant_tokens it)) (flat_map line_of_ant ants) (codes "end\n"))

one-standing : (p : Pos) (ant : Option Ant) → flat_map line_of_ant (placed_at p ant) ≡ standing_text p ant
unfolding line_of_ant
one-standing p None = refl
one-standing p (Some ant) = append-nil (tokens_text (ant_tokens (record { place = p; ant = ant })))

one-ant : (g : Grid) (at : Option Pos) → flat_map line_of_ant (living_at g at) ≡ ant_text g at
one-ant g None = refl
one-ant g (Some p) = one-standing p (cell_in g p).ant

living-written : (g : Grid) (n : ℕ) → flat_map line_of_ant (living g n) ≡ numbered (ant_text_at g) n
unfolding numbered
living-written g zero = refl
living-written g (suc n) =
    flat_map-append line_of_ant (living g n) (living_at g (place_in (world_of g) n)) ∙ ap₂ (λ a b. a ++ b) (living-written g n) (one-ant g (place_in (world_of g) n))

-- the lines of a brain
instructions-written : (list : List Instr) → text_of_lines (map instruction_line list) ≡ brain_text list
unfolding brain_text
instructions-written [] = refl
instructions-written (i ∷ list) = ap₂ (λ a b. a ++ b) (sym (text-ended i)) (instructions-written list)

program-written : (name : List ℕ) (list : List Instr) → text_of_lines (program_lines name list) ≡ program_text name list
program-written name list = ap₂ (λ a b. a ++ b) (tokens-line (name ∷ decimal (length list) ∷ [])) (instructions-written list)

-- some lines and others
append : (one other : List (List ℕ)) (a b : List ℕ) → text_of_lines one ≡ a → text_of_lines other ≡ b → text_of_lines (one ++ other) ≡ a ++ b
append one other a b e f = flat_map-append (λ line. line ++ 10 ∷ []) one other ∙ ap₂ (λ s t. s ++ t) e f

-- the lines of the cells
cells-lines : (d : Draft) (g : Grid) → length g.cells ≡ g.width * g.height → 1 ≤ g.width
    → d.head.width ≡ g.width → d.head.height ≡ g.height → d.soils ≡ map soil_of_cell g.cells → d.red_marks ≡ map (λ (cell : Cell). cell.red.set) g.cells
    → d.black_marks ≡ map (λ (cell : Cell). cell.black.set) g.cells → d.foods ≡ map (λ (cell : Cell). cell.food) g.cells
    → text_of_lines (cell_lines d) ≡ cells_written g
unfolding cells_written
cells-lines d g full wide w h soils reds blacks foods = rw (w, h, soils, reds, blacks, foods) (
    append (rows soil_byte g.width g.height (map soil_of_cell g.cells)) _ _ _ (rows-cells soil_byte soil_of_cell g full)
    (append (rows marks_byte g.width g.height (map (λ (cell : Cell). cell.red.set) g.cells)) _ _ _ (rows-cells marks_byte (λ cell. cell.red.set) g full)
    (append (rows marks_byte g.width g.height (map (λ (cell : Cell). cell.black.set) g.cells)) _ _ _ (rows-cells marks_byte (λ cell. cell.black.set) g full)
    (append (rows food_byte g.width g.height (map (λ (cell : Cell). cell.food) g.cells)) _ _ _ (rows-cells food_byte (λ cell. cell.food) g full)
    (foods-cells g full wide)))))

-- all of it
pub saved-written : (s : SavedValue) → IsWorld s.world → written s ≡ save_text s
unfolding written save_text draft_text draft_lines draft_of
saved-written s is = sym (
    append (map spaced (head_tokens (head_of s))) (brain_lines (draft_of s) ++ (cell_lines (draft_of s) ++ ant_lines (living s.world s.world.ids))) _ _ (lines-tokens (head_tokens (head_of s)))
    (append (brain_lines (draft_of s)) (cell_lines (draft_of s) ++ ant_lines (living s.world s.world.ids)) _ _
    (append (program_lines (codes "red") s.minds.red) (program_lines (codes "black") s.minds.black) _ _ (program-written (codes "red") s.minds.red) (program-written (codes "black") s.minds.black))
    (append (cell_lines (draft_of s)) (ant_lines (living s.world s.world.ids)) _ _ (cells-lines (draft_of s) s.world is.full (omega (arith, is.valid.wide)) refl refl refl refl refl refl)
    (ants-lines (living s.world s.world.ids) ∙ ap (λ t. t ++ codes "end\n") (living-written s.world s.world.ids))))
    ∙ ap (λ t. lines_text (head_tokens (head_of s)) ++ t)
    (append_assoc (program_text (codes "red") s.minds.red) (program_text (codes "black") s.minds.black) (cells_written s.world ++ (numbered (ant_text_at s.world) s.world.ids ++ codes "end\n"))))

-- the parts as they are pushed
pub written-parts : (s : SavedValue) (h : Head) (m : Minds) (g : Grid) → h ≡ head_of s → m ≡ s.minds → g ≡ s.world
    → lines_text (head_tokens h) ++ (program_text (codes "red") m.red ++ (program_text (codes "black") m.black ++ (cells_written g ++ (numbered (ant_text_at g) g.ids ++ codes "end\n")))) ≡ written s
unfolding written
written-parts s h m g head minds world = rw (head, minds, world) refl
