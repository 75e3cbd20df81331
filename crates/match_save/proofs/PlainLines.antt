-- No line of a save has an LF.
use Rattle.std.proofs.Common.{◌≡◌, ℕ, zero, suc, ◌+◌, ◌%◌, ◌/◌, ◌<◌, ◌≤◌, ◌^◌, Bool, true, false, cond, leb, List, [], ◌∷◌, ◌++◌, length, map, take, drop, refl, sym, ◌∙◌, ap, subst, arith, codes, decimal}
use Rattle.std.specs.List.{AllByRecursion}
use Rattle.std.proofs.lemmas.Bool.{ne_eqb}
use Rattle.std.proofs.lemmas.Nat.{mul-le}
use Rattle.list_lemmas.proofs.AllElements.{AllByRecursion-append}
use Rattle.ant_base.specs.Lines.{has_no_lf, is_lf, lines_of}
use Rattle.ant_base.proofs.Linewise.{has_no_lf-append, has_no_lf-decimal}
use Rattle.brain_read.specs.declared.instr.Instr.{Instr}
use Rattle.brain_read.specs.Forms.{fields_of}
use Rattle.line_tokens.proofs.PrintedLemmas.{no_lf-body}
use Rattle.cell_world.proofs.GridSums.{one_if-le_one}
use Rattle.cell_world.specs.declared.ant.Colour.{Colour}
use Rattle.cell_world.specs.declared.ant.Colour.TheVariants.{Red, Black}
use Rattle.cell_world.specs.declared.ant.PlacedAnt.{PlacedAnt}
use Rattle.cell_world.specs.Cell.{one_if}
use Rattle.cell_world.specs.Limits.{most_weight}
use Rattle.hex_geometry.specs.Direction.{number_of}
use Rattle.match_save.specs.Draft.{Draft, IsAnt, IsHead, IsInForm, IsInstruction, IsProgram}
use Rattle.match_save.specs.declared.head.Head.{Head}
use Rattle.match_save.specs.declared.soil.Soil.{Soil}
use Rattle.match_save.specs.declared.soil.Soil.TheVariants.{Rock}
use Rattle.dump_print.specs.Content.{colour_text}
use Rattle.match_save.specs.Text.{ant_lines, ant_tokens, draft_lines, draft_text, food_byte, food_lines, food_tokens, head_tokens, instruction_line, marks_byte, program_lines, rows, soil_byte, spaced}
use Rattle.match_save.specs.Saved.{IsSaveLines, IsSaveText, SavedValue, draft_of, save_text}
use Rattle.match_save.specs.Verdict.{IsDraftText}
use Rattle.match_save.proofs.AntReads.{low_dir}
use Rattle.match_save.proofs.Bytes.{draft-bytes, ends-lines, lines-text}
use Rattle.match_save.proofs.FoodReads.{small_place}
use Rattle.match_save.proofs.ProgramReads.{printed, spaced-body}

abbrev Plain : List ℕ → Type 0
Plain line = has_no_lf line ≡ true

abbrev ArePlain : List (List ℕ) → Type 0
ArePlain lines = AllByRecursion (λ line. has_no_lf line ≡ true) lines

spaced-plain : (tokens : List (List ℕ)) → ArePlain tokens → Plain (spaced tokens)
spaced-plain [] all = refl
spaced-plain (token ∷ []) all = all.0
spaced-plain (token ∷ next ∷ tokens) all = has_no_lf-append token (32 ∷ spaced (next ∷ tokens)) all.0 (spaced-plain (next ∷ tokens) all.1)

number : (n most : ℕ) → n ≤ most → most < 2 ^ 64 → Plain (decimal n)
number n most low small = has_no_lf-decimal n (omega (arith, low, small))

head-plain : (h : Head) → IsHead h → ArePlain (map spaced (head_tokens h))
head-plain h ok = (
  refl,
  (
    spaced-plain (codes "seed" ∷ decimal h.seed ∷ []) (refl, (number h.seed 4294967295 ok.seed (omega arith), tt)),
    (
      spaced-plain (codes "sheet" ∷ decimal h.surround ∷ decimal h.corpse ∷ decimal h.rest ∷ []) (refl, (number h.surround 6 ok.many (omega arith), (number h.corpse 9 ok.corpse (omega arith), (number h.rest 255 ok.rest (omega arith), tt)))),
      (
        spaced-plain (codes "window" ∷ decimal h.window ∷ []) (refl, (number h.window 16384 ok.window (omega arith), tt)),
        (
          spaced-plain (codes "round" ∷ decimal h.round ∷ []) (refl, (number h.round 1000000 ok.round (omega arith), tt)),
          (
            spaced-plain (codes "place" ∷ decimal h.place ∷ []) (refl, (number h.place 99999999999 ok.place (omega arith), tt)),
            (
              spaced-plain (codes "taken" ∷ decimal h.taken ∷ codes "redone" ∷ decimal h.redone ∷ []) (refl, (number h.taken 99999999999 ok.taken (omega arith), (refl, (number h.redone 99999999999 ok.redone (omega arith), tt)))),
              (
                spaced-plain (codes "size" ∷ decimal h.width ∷ decimal h.height ∷ []) (refl, (number h.width 512 ok.narrow (omega arith), (number h.height 512 ok.low (omega arith), tt))),
                tt,
              ),
            ),
          ),
        ),
      ),
    ),
  ),
)

instructions-plain : (list : List Instr) → AllByRecursion IsInstruction list → ArePlain (map instruction_line list)
unfolding instruction_line
instructions-plain [] all = tt
instructions-plain (i ∷ list) all = (ap has_no_lf (spaced-body (fields_of i)) ∙ no_lf-body (fields_of i) (printed i all.0), instructions-plain list all.1)

program-plain : (name : List ℕ) (list : List Instr) → Plain name → IsProgram list → ArePlain (program_lines name list)
program-plain name list plain ok = (spaced-plain (name ∷ decimal (length list) ∷ []) (plain, (number (length list) 10000 ok.few (omega arith), tt)), instructions-plain list ok.each)

module _ {A : Type 0} (byte : A → ℕ) (other : (a : A) → is_lf (byte a) ≡ false) where
  map-plain : (row : List A) → Plain (map byte row)
  map-plain [] = refl
  map-plain (a ∷ row) = rw (other a) (map-plain row)

  rows-plain : (width height : ℕ) (list : List A) → ArePlain (rows byte width height list)
  rows-plain width zero list = tt
  rows-plain width (suc height) list = (map-plain (take width list), rows-plain width height (drop width list))

soil-other : (soil : Soil) → is_lf (soil_byte soil) ≡ false
soil-other Rock = refl
soil-other it = refl

marks-other : (set : ℕ) → is_lf (marks_byte set) ≡ false
marks-other set = ne_eqb (48 + set) 10 (omega arith)

food-other : (food : ℕ) → is_lf (food_byte food) ≡ false
food-other food = elim (leb food 62) as (λ b. is_lf (cond b (48 + food) 111) ≡ false) [ true ↦ ne_eqb (48 + food) 10 (omega arith) | false ↦ refl ]

foods-plain : (width i : ℕ) (foods : List ℕ) → 1 ≤ width → width ≤ 512 → i + length foods < 1000000 → AllByRecursion (λ food. food ≤ most_weight) foods → ArePlain (food_lines width i foods)
foods-plain width i [] some narrow few all = tt
foods-plain width i (food ∷ foods) some narrow few all =
    AllByRecursion-append Plain (cond (leb food 62) [] (spaced (food_tokens width i food) ∷ [])) (food_lines width (i + 1) foods) (here (leb food 62)) (foods-plain width (i + 1) foods some narrow (omega (arith, few)) all.1)
  where
    here : (b : Bool) → ArePlain (cond b [] (spaced (food_tokens width i food) ∷ []))
    here true = tt
    here false =
        let place = small_place width i some narrow (omega (arith, few)) in
        (spaced-plain (food_tokens width i food) (refl, (number (i % width) 99999999999 place.0 (omega arith), (number (i / width) 99999999999 place.1 (omega arith), (number food 2340900 all.0 (omega arith), tt)))), tt)

colour-plain : (colour : Colour) → Plain (colour_text colour)
colour-plain Red = refl
colour-plain Black = refl

ants-plain : (width height : ℕ) (ants : List PlacedAnt) → width ≤ 512 → height ≤ 512 → AllByRecursion (IsAnt width height) ants → ArePlain (ant_lines ants)
ants-plain width height [] narrow low all = (refl, tt)
ants-plain width height (it ∷ ants) narrow low all = (
  spaced-plain (ant_tokens it) (
    refl,
    (
      number it.ant.id 16384 (let l = all.0.id in omega (arith, l)) (omega arith),
      (
        colour-plain it.ant.colour,
        (
          number it.place.x 512 (let l = all.0.column in omega (arith, l, narrow)) (omega arith),
          (
            number it.place.y 512 (let l = all.0.row in omega (arith, l, low)) (omega arith),
            (
              number (number_of it.ant.facing) 5 (low_dir it.ant.facing) (omega arith),
              (
                number (one_if it.ant.laden) 1 (one_if-le_one it.ant.laden) (omega arith),
                (number it.ant.state 10000 (let l = all.0.state in omega (arith, l)) (omega arith), (number it.ant.resting 255 all.0.resting (omega arith), tt)),
              ),
            ),
          ),
        ),
      ),
    ),
  ),
  ants-plain width height ants narrow low all.1,
)

pub draft-plain : (d : Draft) → IsInForm d → ArePlain (draft_lines d)
unfolding draft_lines
draft-plain d ok =
    let width : ℕ = d.head.width in
    let height : ℕ = d.head.height in
    let ants : List (List ℕ) = ant_lines d.ants in
    let more : List (List ℕ) = food_lines width 0 d.foods in
    let foods : List (List ℕ) = rows food_byte width height d.foods in
    let blacks : List (List ℕ) = rows marks_byte width height d.black_marks in
    let reds : List (List ℕ) = rows marks_byte width height d.red_marks in
    let soils : List (List ℕ) = rows soil_byte width height d.soils in
    let black : List (List ℕ) = program_lines (codes "black") d.black in
    let red : List (List ℕ) = program_lines (codes "red") d.red in
    AllByRecursion-append Plain (map spaced (head_tokens d.head)) ((red ++ black) ++ ((soils ++ (reds ++ (blacks ++ (foods ++ more)))) ++ ants)) (head-plain d.head ok.head)
    (AllByRecursion-append Plain (red ++ black) ((soils ++ (reds ++ (blacks ++ (foods ++ more)))) ++ ants)
    (AllByRecursion-append Plain red black (program-plain (codes "red") d.red refl ok.red) (program-plain (codes "black") d.black refl ok.black))
    (AllByRecursion-append Plain (soils ++ (reds ++ (blacks ++ (foods ++ more)))) ants
    (AllByRecursion-append Plain soils (reds ++ (blacks ++ (foods ++ more))) (rows-plain soil_byte soil-other width height d.soils)
    (AllByRecursion-append Plain reds (blacks ++ (foods ++ more)) (rows-plain marks_byte marks-other width height d.red_marks)
    (AllByRecursion-append Plain blacks (foods ++ more) (rows-plain marks_byte marks-other width height d.black_marks)
    (AllByRecursion-append Plain foods more (rows-plain food_byte food-other width height d.foods)
    (foods-plain width 0 d.foods (let l = ok.head.wide in omega (arith, l)) ok.head.narrow (let l = mul-le height width 512 512 ok.head.low ok.head.narrow in let f = ok.foods in omega (arith, l, f)) ok.amounts)))))
    (ants-plain width height d.ants ok.head.narrow ok.head.low ok.ants)))

-- the text of a save's lines has these lines
pub draft-lines : (d : Draft) → IsInForm d → lines_of (draft_text d) ≡ draft_lines d
unfolding draft_text
draft-lines d ok = lines-text (draft_lines d) (draft-plain d ok)

-- the text of a save's lines is a text of them
pub draft-text-is : (d : Draft) → IsInForm d → IsDraftText (draft_text d) d
unfolding draft_text draft_lines
draft-text-is d ok = record { in_form = ok; lines = draft-lines d ok; ended = ends-lines (draft_lines d) (omega arith) }

-- a text is the text of a save exactly if its lines are the save's
pub save-lines : (text : List ℕ) (s : SavedValue) → IsSaveText text s → IsSaveLines text s
unfolding save_text
save-lines text s is = record { saved = is.saved; are = subst (λ (t : List ℕ). IsDraftText t (draft_of s)) (sym is.is) (draft-text-is (draft_of s) is.saved.in_form) }

pub save-text : (text : List ℕ) (s : SavedValue) → IsSaveLines text s → IsSaveText text s
unfolding save_text
save-text text s is = record { saved = is.saved; is = draft-bytes text (draft_of s) is.are }
