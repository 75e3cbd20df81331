-- No save is longer than a file may be.
use Rattle.std.proofs.Common.{◌≡◌, ℕ, zero, suc, ◌+◌, ◌*◌, ◌%◌, ◌/◌, ◌<◌, ◌≤◌, cond, List, [], ◌∷◌, ◌++◌, length, map, take, drop, Option, Some, None, codes, decimal, nat_le, sum_by, inl, inr, refl, sym, ◌∙◌, ap₂, subst, length-append, arith}
use Rattle.std.specs.List.{AllByRecursion}
use Rattle.std.proofs.lemmas.Bool.{cases_Bool, leb-false}
use Rattle.std.proofs.lemmas.Fmt.{length-decimal-le}
use Rattle.std.proofs.lemmas.List.{length-map, length-take}
use Rattle.std.proofs.lemmas.List.Sums.{sum_by-cons}
use Rattle.std.proofs.lemmas.Nat.{div_below, mod_below, mul-le}
use Rattle.ant_base.specs.Shelf.{longest}
use Rattle.brain_read.specs.declared.instr.Cond.{Cond}
use Rattle.brain_read.specs.declared.instr.Cond.TheVariants.{Marker}
use Rattle.brain_read.specs.declared.instr.Instr.{Instr}
use Rattle.brain_read.specs.declared.instr.Instr.TheVariants.{Sense, Mark, Unmark, PickUp, Drop, Turn, Move, Flip}
use Rattle.brain_read.specs.Forms.{fields_of_condition, word_of_sight, word_of_side}
use Rattle.brain_read.specs.Soundness.{IsSoundCondition}
use Rattle.cell_world.proofs.GridSums.{one_if-le_one, weight-list}
use Rattle.cell_world.specs.declared.ant.Ant.{Ant}
use Rattle.cell_world.specs.declared.ant.Colour.{Colour}
use Rattle.cell_world.specs.declared.ant.Colour.TheVariants.{Red, Black}
use Rattle.cell_world.specs.declared.ant.PlacedAnt.{PlacedAnt}
use Rattle.cell_world.specs.declared.cell.Cell.{Cell}
use Rattle.cell_world.specs.Cell.{cell_weight, one_if}
use Rattle.cell_world.specs.Grid.{Grid, IsWorld, cell_in, world_of}
use Rattle.cell_world.specs.Limits.{most_ants, most_weight}
use Rattle.cell_world.specs.World.{place_in}
use Rattle.dump_print.specs.Content.{colour_text}
use Rattle.hex_geometry.specs.declared.direction.Side.{Side}
use Rattle.hex_geometry.specs.declared.direction.Side.TheVariants.{Left, Right}
use Rattle.hex_geometry.specs.declared.neighbourhood.Sight.{Sight}
use Rattle.hex_geometry.specs.declared.neighbourhood.Sight.TheVariants.{Here}
use Rattle.hex_geometry.specs.declared.position.Pos.{Pos}
use Rattle.hex_geometry.specs.Direction.{number_of}
use Rattle.line_tokens.specs.Fields.{field_text}
use Rattle.match_save.specs.declared.head.Head.{Head}
use Rattle.match_save.specs.Draft.{Draft, IsAnt, IsHead, IsInForm, IsInstruction, IsProgram}
use Rattle.match_save.specs.Saved.{draft_of, living, living_at, placed_at, save_text}
use Rattle.match_save.specs.Saves.{SavesAreShort}
use Rattle.match_save.specs.Text.{ant_lines, ant_tokens, brain_lines, cell_lines, draft_lines, draft_text, food_byte, food_lines, food_tokens, head_tokens, instruction_line, marks_byte, program_lines, rows, soil_byte, spaced, text_of_lines}
use Rattle.match_save.proofs.AntReads.{low_dir}

-- the bytes of lines, each with its LF; and of tokens, each with the byte after it
bytes : List (List ℕ) → ℕ
bytes [] = 0
bytes (line ∷ lines) = length line + 1 + bytes lines

text-bytes : (lines : List (List ℕ)) → length (text_of_lines lines) ≡ bytes lines
unfolding bytes
text-bytes [] = refl
text-bytes (line ∷ lines) = length-append (line ++ 10 ∷ []) (text_of_lines lines) ∙ ap₂ ◌+◌ (length-append line (10 ∷ [])) (text-bytes lines)

bytes-append : (a b : List (List ℕ)) → bytes (a ++ b) ≡ bytes a + bytes b
unfolding bytes
bytes-append [] b = omega arith
bytes-append (line ∷ a) b = (let rest = bytes-append a b in omega (arith, rest))

spaced-bytes : (token : List ℕ) (tokens : List (List ℕ)) → length (spaced (token ∷ tokens)) + 1 ≡ bytes (token ∷ tokens)
unfolding bytes
spaced-bytes token [] = omega arith
spaced-bytes token (next ∷ tokens) =
    let front = length-append token (32 ∷ spaced (next ∷ tokens)) in
    let rest = spaced-bytes next tokens in
    omega (arith, front, rest)

-- the first eight lines
head-bytes : (h : Head) → IsHead h → bytes (map spaced (head_tokens h)) ≤ 200
unfolding bytes
head-bytes h ok =
    let seed = length-decimal-le 10 h.seed (omega arith) (let l = ok.seed in omega (arith, l)) (let l = ok.seed in omega (arith, l)) in
    let surround = length-decimal-le 1 h.surround (omega arith) (let l = ok.many in omega (arith, l)) (let l = ok.many in omega (arith, l)) in
    let corpse = length-decimal-le 1 h.corpse (omega arith) (let l = ok.corpse in omega (arith, l)) (let l = ok.corpse in omega (arith, l)) in
    let rest = length-decimal-le 3 h.rest (omega arith) (let l = ok.rest in omega (arith, l)) (let l = ok.rest in omega (arith, l)) in
    let window = length-decimal-le 5 h.window (omega arith) (let l = ok.window in omega (arith, l)) (let l = ok.window in omega (arith, l)) in
    let round = length-decimal-le 7 h.round (omega arith) (let l = ok.round in omega (arith, l)) (let l = ok.round in omega (arith, l)) in
    let place = length-decimal-le 11 h.place (omega arith) (let l = ok.place in omega (arith, l)) (let l = ok.place in omega (arith, l)) in
    let taken = length-decimal-le 11 h.taken (omega arith) (let l = ok.taken in omega (arith, l)) (let l = ok.taken in omega (arith, l)) in
    let redone = length-decimal-le 11 h.redone (omega arith) (let l = ok.redone in omega (arith, l)) (let l = ok.redone in omega (arith, l)) in
    let width = length-decimal-le 3 h.width (omega arith) (let l = ok.narrow in omega (arith, l)) (let l = ok.narrow in omega (arith, l)) in
    let height = length-decimal-le 3 h.height (omega arith) (let l = ok.low in omega (arith, l)) (let l = ok.low in omega (arith, l)) in
    let seed_line = spaced-bytes (codes "seed") (decimal h.seed ∷ []) in
    let sheet_line = spaced-bytes (codes "sheet") (decimal h.surround ∷ decimal h.corpse ∷ decimal h.rest ∷ []) in
    let window_line = spaced-bytes (codes "window") (decimal h.window ∷ []) in
    let round_line = spaced-bytes (codes "round") (decimal h.round ∷ []) in
    let place_line = spaced-bytes (codes "place") (decimal h.place ∷ []) in
    let taken_line = spaced-bytes (codes "taken") (decimal h.taken ∷ codes "redone" ∷ decimal h.redone ∷ []) in
    let size_line = spaced-bytes (codes "size") (decimal h.width ∷ decimal h.height ∷ []) in
    omega (arith, seed, surround, corpse, rest, window, round, place, taken, redone, width, height, seed_line, sheet_line, window_line, round_line, place_line, taken_line, size_line)

-- the words of an instruction
sight-short : (sight : Sight) → length (word_of_sight sight) ≤ 10
sight-short Here = omega arith
sight-short it = omega arith

side-short : (side : Side) → length (word_of_side side) ≤ 5
side-short Left = omega arith
side-short Right = omega arith

condition-bytes : (condition : Cond) → IsSoundCondition condition → bytes (map field_text (fields_of_condition condition)) ≤ 15
unfolding bytes
condition-bytes (Marker i) sound = (let digits = length-decimal-le 1 i (omega arith) (omega (arith, sound)) (omega (arith, sound)) in omega (arith, digits))
condition-bytes it sound = omega arith

-- a state of at most ten digits
state-short : (state : ℕ) → state ≤ 9999999999 → length (decimal state) ≤ 10
state-short state low = length-decimal-le 10 state (omega arith) (omega (arith, low)) (omega (arith, low))

marker-short : (i : ℕ) → i < 6 → length (decimal i) ≤ 1
marker-short i low = length-decimal-le 1 i (omega arith) (omega (arith, low)) (omega (arith, low))

-- the line of an instruction
instruction-bytes : (instruction : Instr) → IsInstruction instruction → length (instruction_line instruction) + 1 ≤ 54
unfolding instruction_line bytes
instruction-bytes (Sense sight met unmet condition) ok =
    let all = spaced-bytes (codes "Sense") (word_of_sight sight ∷ decimal met ∷ decimal unmet ∷ map field_text (fields_of_condition condition)) in
    let word = sight-short sight in
    let first = state-short met ok.states.0 in
    let second = state-short unmet ok.states.1.0 in
    let rest = condition-bytes condition ok.in_range in
    omega (arith, all, word, first, second, rest)
instruction-bytes (Mark i next) ok =
    let all = spaced-bytes (codes "Mark") (decimal i ∷ decimal next ∷ []) in
    let marker = marker-short i ok.in_range in
    let state = state-short next ok.states.0 in
    omega (arith, all, marker, state)
instruction-bytes (Unmark i next) ok =
    let all = spaced-bytes (codes "Unmark") (decimal i ∷ decimal next ∷ []) in
    let marker = marker-short i ok.in_range in
    let state = state-short next ok.states.0 in
    omega (arith, all, marker, state)
instruction-bytes (PickUp met unmet) ok =
    let all = spaced-bytes (codes "PickUp") (decimal met ∷ decimal unmet ∷ []) in
    let first = state-short met ok.states.0 in
    let second = state-short unmet ok.states.1.0 in
    omega (arith, all, first, second)
instruction-bytes (Drop next) ok =
    let all = spaced-bytes (codes "Drop") (decimal next ∷ []) in
    let state = state-short next ok.states.0 in
    omega (arith, all, state)
instruction-bytes (Turn side next) ok =
    let all = spaced-bytes (codes "Turn") (word_of_side side ∷ decimal next ∷ []) in
    let word = side-short side in
    let state = state-short next ok.states.0 in
    omega (arith, all, word, state)
instruction-bytes (Move met unmet) ok =
    let all = spaced-bytes (codes "Move") (decimal met ∷ decimal unmet ∷ []) in
    let first = state-short met ok.states.0 in
    let second = state-short unmet ok.states.1.0 in
    omega (arith, all, first, second)
instruction-bytes (Flip bound met unmet) ok =
    let all = spaced-bytes (codes "Flip") (decimal bound ∷ decimal met ∷ decimal unmet ∷ []) in
    let top = ok.in_range.1 in
    let number = state-short bound (omega (arith, top)) in
    let first = state-short met ok.states.0 in
    let second = state-short unmet ok.states.1.0 in
    omega (arith, all, number, first, second)

-- the lines of a brain
instructions-bytes : (list : List Instr) → AllByRecursion IsInstruction list → bytes (map instruction_line list) ≤ 54 * length list
unfolding bytes
instructions-bytes [] each = omega arith
instructions-bytes (instruction ∷ list) each =
    let one = instruction-bytes instruction each.0 in
    let rest = instructions-bytes list each.1 in
    omega (arith, one, rest)

program-bytes : (name : List ℕ) (list : List Instr) → length name ≤ 5 → IsProgram list → bytes (program_lines name list) ≤ 540012
unfolding bytes
program-bytes name list short ok =
    let few = ok.few in
    let digits = length-decimal-le 5 (length list) (omega arith) (omega (arith, few)) (omega (arith, few)) in
    let first = spaced-bytes name (decimal (length list) ∷ []) in
    let rest = instructions-bytes list ok.each in
    omega (arith, few, short, digits, first, rest)

-- this many rows
rows-bytes : {A : Type 0} (byte : A → ℕ) (width height : ℕ) (list : List A) → bytes (rows byte width height list) ≤ height * (width + 1)
unfolding bytes
rows-bytes byte width zero list = omega arith
rows-bytes byte width (suc height) list =
    let row = length-map (take width list) byte in
    let cut = length-take width list in
    let rest = rows-bytes byte width height (drop width list) in
    omega (arith, row, cut, rest)

-- amounts, all together
all_food : List ℕ → ℕ
all_food [] = 0
all_food (food ∷ foods) = food + all_food foods

-- the line of an amount above 62 is at most a third as long as that amount
food-bytes : (width height i food : ℕ) → 1 ≤ width → width ≤ 512 → height ≤ 512 → i < height * width → food ≤ most_weight → 62 < food → (length (spaced (food_tokens width i food)) + 1) * 3 ≤ food
unfolding bytes
food-bytes width height i food some narrow low early light above =
    let column = mod_below i width some in
    let row = div_below i width height some (omega (arith, early)) in
    let x = length-decimal-le 3 (i % width) (omega arith) (omega (arith, column, narrow)) (omega (arith, column, narrow)) in
    let y = length-decimal-le 3 (i / width) (omega arith) (omega (arith, row, low)) (omega (arith, row, low)) in
    let amount = length-decimal-le 7 food (omega arith) (omega (arith, light)) (omega (arith, light)) in
    let line = spaced-bytes (codes "food") (decimal (i % width) ∷ decimal (i / width) ∷ decimal food ∷ []) in
    omega (arith, x, y, amount, line, above)

foods-bytes : (width height i : ℕ) (foods : List ℕ) → 1 ≤ width → width ≤ 512 → height ≤ 512 → i + length foods ≤ height * width → AllByRecursion (λ food. food ≤ most_weight) foods → bytes (food_lines width i foods) * 3 ≤ all_food foods
unfolding bytes all_food
foods-bytes width height i [] some narrow low within light = omega arith
foods-bytes width height i (food ∷ foods) some narrow low within light =
    let rest = foods-bytes width height (i + 1) foods some narrow low (omega (arith, within)) light.1 in
    elim (cases_Bool (nat_le food 62)) [
      | inl few ↦ subst (λ b. bytes (cond b [] (spaced (food_tokens width i food) ∷ []) ++ food_lines width (i + 1) foods) * 3 ≤ food + all_food foods) (sym few) (omega (arith, rest))
      | inr many ↦
          let above = leb-false food 62 many in
          let one = food-bytes width height i food some narrow low (omega (arith, within)) light.0 (omega (arith, above)) in
          subst (λ b. bytes (cond b [] (spaced (food_tokens width i food) ∷ []) ++ food_lines width (i + 1) foods) * 3 ≤ food + all_food foods) (sym many) (omega (arith, one, rest))
    ]

-- the food of cells is at most their weight
food-weighs : (cells : List Cell) → all_food (map (λ (cell : Cell). cell.food) cells) ≤ sum_by cell_weight cells
unfolding all_food cell_weight
food-weighs [] = omega arith
food-weighs (cell ∷ cells) =
    let rest = food-weighs cells in
    let sum = sum_by-cons cell_weight cell cells in
    omega (arith, rest, sum)

-- the line of an ant
colour-short : (colour : Colour) → length (colour_text colour) ≤ 5
colour-short Red = omega arith
colour-short Black = omega arith

ant-bytes : (width height : ℕ) (it : PlacedAnt) → width ≤ 512 → height ≤ 512 → IsAnt width height it → length (spaced (ant_tokens it)) + 1 ≤ 37
unfolding bytes
ant-bytes width height it narrow low ok =
    let made = ok.id in
    let column = ok.column in
    let row = ok.row in
    let own = ok.state in
    let rests = ok.resting in
    let faces = low_dir it.ant.facing in
    let carries = one_if-le_one it.ant.laden in
    let id = length-decimal-le 5 it.ant.id (omega arith) (omega (arith, made)) (omega (arith, made)) in
    let colour = colour-short it.ant.colour in
    let x = length-decimal-le 3 it.place.x (omega arith) (omega (arith, column, narrow)) (omega (arith, column, narrow)) in
    let y = length-decimal-le 3 it.place.y (omega arith) (omega (arith, row, low)) (omega (arith, row, low)) in
    let facing = length-decimal-le 1 (number_of it.ant.facing) (omega arith) (omega (arith, faces)) (omega (arith, faces)) in
    let laden = length-decimal-le 1 (one_if it.ant.laden) (omega arith) (omega (arith, carries)) (omega (arith, carries)) in
    let state = length-decimal-le 4 it.ant.state (omega arith) (omega (arith, own)) (omega (arith, own)) in
    let resting = length-decimal-le 3 it.ant.resting (omega arith) (omega (arith, rests)) (omega (arith, rests)) in
    let line = spaced-bytes (codes "ant") (decimal it.ant.id ∷ colour_text it.ant.colour ∷ decimal it.place.x ∷ decimal it.place.y ∷ decimal (number_of it.ant.facing) ∷ decimal (one_if it.ant.laden) ∷ decimal it.ant.state ∷ decimal it.ant.resting ∷ []) in
    omega (arith, id, colour, x, y, facing, laden, state, resting, line)

ants-bytes : (width height : ℕ) (ants : List PlacedAnt) → width ≤ 512 → height ≤ 512 → AllByRecursion (IsAnt width height) ants → bytes (ant_lines ants) ≤ 37 * length ants + 4
unfolding bytes
ants-bytes width height [] narrow low each = omega arith
ants-bytes width height (it ∷ ants) narrow low each =
    let one = ant-bytes width height it narrow low each.0 in
    let rest = ants-bytes width height ants narrow low each.1 in
    omega (arith, one, rest)

-- no more ants live than ids were made
placed-few : (p : Pos) (o : Option Ant) → length (placed_at p o) ≤ 1
placed-few p None = omega arith
placed-few p (Some ant) = omega arith

living_at-few : (g : Grid) (o : Option Pos) → length (living_at g o) ≤ 1
living_at-few g None = omega arith
living_at-few g (Some p) = placed-few p (cell_in g p).ant

living-few : (g : Grid) (n : ℕ) → length (living g n) ≤ n
living-few g zero = omega arith
living-few g (suc n) =
    let both = length-append (living g n) (living_at g (place_in (world_of g) n)) in
    let before = living-few g n in
    let last = living_at-few g (place_in (world_of g) n) in
    omega (arith, both, before, last)

-- the lines of the cells
cells-bytes : (d : Draft) → IsInForm d → all_food d.foods ≤ most_weight → bytes (cell_lines d) ≤ 4 * (512 * 513) + 780300
cells-bytes d ok light =
    let narrow = ok.head.narrow in
    let low = ok.head.low in
    let wide = ok.head.wide in
    let full = ok.foods in
    let product : d.head.height * (d.head.width + 1) ≤ 512 * 513 = mul-le d.head.height (d.head.width + 1) 512 513 (omega (arith, low)) (omega (arith, narrow)) in
    let soils = rows-bytes soil_byte d.head.width d.head.height d.soils in
    let reds = rows-bytes marks_byte d.head.width d.head.height d.red_marks in
    let blacks = rows-bytes marks_byte d.head.width d.head.height d.black_marks in
    let foods = rows-bytes food_byte d.head.width d.head.height d.foods in
    let amounts = foods-bytes d.head.width d.head.height 0 d.foods (omega (arith, wide)) narrow low (omega (arith, full)) ok.amounts in
    let third = bytes-append (rows food_byte d.head.width d.head.height d.foods) (food_lines d.head.width 0 d.foods) in
    let second = bytes-append (rows marks_byte d.head.width d.head.height d.black_marks) (rows food_byte d.head.width d.head.height d.foods ++ food_lines d.head.width 0 d.foods) in
    let first = bytes-append (rows marks_byte d.head.width d.head.height d.red_marks) (rows marks_byte d.head.width d.head.height d.black_marks ++ (rows food_byte d.head.width d.head.height d.foods ++ food_lines d.head.width 0 d.foods)) in
    let all = bytes-append (rows soil_byte d.head.width d.head.height d.soils) (rows marks_byte d.head.width d.head.height d.red_marks ++ (rows marks_byte d.head.width d.head.height d.black_marks ++ (rows food_byte d.head.width d.head.height d.foods ++ food_lines d.head.width 0 d.foods))) in
    omega (arith, product, soils, reds, blacks, foods, amounts, third, second, first, all, light)

-- all lines
draft-length : (d : Draft) → IsInForm d → all_food d.foods ≤ most_weight → length d.ants ≤ most_ants → length (draft_text d) ≤ longest
unfolding draft_text draft_lines
draft-length d ok light few =
    let head = head-bytes d.head ok.head in
    let red = program-bytes (codes "red") d.red (omega arith) ok.red in
    let black = program-bytes (codes "black") d.black (omega arith) ok.black in
    let cells = cells-bytes d ok light in
    let ants = ants-bytes d.head.width d.head.height d.ants ok.head.narrow ok.head.low ok.ants in
    let brains = bytes-append (program_lines (codes "red") d.red) (program_lines (codes "black") d.black) in
    let third = bytes-append (cell_lines d) (ant_lines d.ants) in
    let second = bytes-append (brain_lines d) (cell_lines d ++ ant_lines d.ants) in
    let first = bytes-append (map spaced (head_tokens d.head)) (brain_lines d ++ (cell_lines d ++ ant_lines d.ants)) in
    let all = text-bytes (map spaced (head_tokens d.head) ++ (brain_lines d ++ (cell_lines d ++ ant_lines d.ants))) in
    omega (arith, head, red, black, cells, ants, brains, third, second, first, all, few)

pub saves_are_short : SavesAreShort
unfolding save_text draft_of
saves_are_short s is =
    let world : IsWorld s.world = subst IsWorld is.same is.state.world in
    let weight = weight-list s.world world.full in
    let light = world.valid.light in
    let food = food-weighs s.world.cells in
    let ids = world.valid.few in
    let living_few = living-few s.world s.world.ids in
    draft-length (draft_of s) is.in_form (omega (arith, weight, light, food)) (omega (arith, ids, living_few))
