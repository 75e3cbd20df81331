-- Lists that are filled with what is read, one value after another.
use Rattle.std.proofs.Common.{◌≡◌, ℕ, suc, ◌+◌, ◌<◌, Bool, true, false, cond, leb, List, [], ◌∷◌, ◌++◌, length, get_or, drop, Option, Some, None, Result, Ok, Err, refl, sym, ◌∙◌, ap, append_assoc, append-nil, arith, codes}
use Rattle.std.specs.Str.{bytes_eq}
use Rattle.std.proofs.lemmas.Bool.{eq-eqb}
use Rattle.cell_world.specs.declared.ant.PlacedAnt.{PlacedAnt}
use Rattle.cell_world.specs.declared.cell.Cell.{Cell}
use Rattle.match_save.specs.declared.fault.SaveFault.{SaveFault}
use Rattle.match_save.specs.declared.fault.SaveFault.TheVariants.{BadLine, BadState, OutOfMemory}
use Rattle.match_save.specs.declared.soil.Soil.{Soil}
use Rattle.match_save.specs.State.{ground_cell, ground_cells}
use Rattle.match_save.specs.Inner.Answered.{FaultTold, behind, row_behind}
use Rattle.match_save.specs.Inner.Readers.{Left, Reader, followed, go_on, made, many, one, one_of, paired, taken, with_first}
use Rattle.match_save.specs.Inner.Reading.{all_of, ant_of, ant_onto, ant_or_end, ants_from, food_at, if_rises, joined, next_ant, read_foods, read_rows, row_of, with_value}
use Rattle.match_save.proofs.PutLemmas.{drop-from}

-- a fault of a part is the fault of the whole
pub fault-passed : {A B : Type 0} (whole : Result A ℕ) (part : Result B ℕ) (fault : SaveFault) → ((k : ℕ) → part ≡ Err k → whole ≡ Err k) → FaultTold part fault → FaultTold whole fault
fault-passed whole part (BadLine k) pass told = pass k told
fault-passed whole part BadState pass told = told
fault-passed whole part OutOfMemory pass told = tt

pub err-behind : {E A : Type 0} (front : List A) (told : Result (List A × Left E) ℕ) (k : ℕ) → behind front told ≡ Err k → told ≡ Err k
err-behind front (Ok read) k e = absurd (cc)
err-behind front (Err j) k e = (let s : j ≡ k = cc in ap Err s)

-- one value, and those after it
regroup-one : {E A : Type 0} (front : List A) (x : A) (rest : Result (List A × Left E) ℕ) → behind front (made with_first (paired x rest)) ≡ behind (front ++ x ∷ []) rest
regroup-one front x (Err k) = refl
regroup-one front x (Ok rest) = ap (λ l. Ok (l, rest.1)) (sym (append_assoc front (x ∷ []) rest.0))

module _ {E A : Type 0} (r : Reader E A) (later : A → Reader E (List A)) where
  -- a first value was read
  pub first-more : (old : List A) (x : A) (at left : Left E) → r at ≡ Ok (x, left) → behind old (made with_first (followed r later at)) ≡ behind (old ++ x ∷ []) (later x left)
  first-more old x at left e = ap (λ got. behind old (made with_first (go_on later got))) e ∙ regroup-one old x (later x left)

  -- a first value was refused
  pub first-refused : (old : List A) (k : ℕ) (at : Left E) → r at ≡ Err k → behind old (made with_first (followed r later at)) ≡ Err k
  first-refused old k at e = ap (λ got. behind old (made with_first (go_on later got))) e

module _ {A : Type 0} (value : ℕ → Option A) where
  -- a row's value after others, and those after it
  with_value-behind : (front : List A) (x : A) (rest : Option (List A)) → row_behind front (with_value (Some x) rest) ≡ row_behind (front ++ x ∷ []) rest
  with_value-behind front x None = refl
  with_value-behind front x (Some rest) = ap Some (sym (append_assoc front (x ∷ []) rest))

  pub row-more : (front : List A) (x : A) (byte : ℕ) (line : List ℕ) → value byte ≡ Some x → row_behind front (all_of value (byte ∷ line)) ≡ row_behind (front ++ x ∷ []) (all_of value line)
  row-more front x byte line e = ap (λ o. row_behind front (with_value o (all_of value line))) e ∙ with_value-behind front x (all_of value line)

  pub row-refused : (front : List A) (byte : ℕ) (line : List ℕ) → value byte ≡ None → row_behind front (all_of value (byte ∷ line)) ≡ None
  row-refused front byte line e = ap (λ o. row_behind front (with_value o (all_of value line))) e

  -- a line of as many bytes as a row has is one, if each byte has a value
  pub row-wide : (width : ℕ) (line : List ℕ) → length line ≡ width → row_of value width line ≡ all_of value line
  row-wide width line wide = ap (λ b. cond b (all_of value line) None) (eq-eqb (length line) width wide)

  pub row-ends : (front : List A) → row_behind front (all_of value []) ≡ Some front
  row-ends front = ap Some (append-nil front)

  pub none-behind : (front : List A) (told : Option (List A)) → row_behind front told ≡ None → told ≡ None
  none-behind front None e = refl
  none-behind front (Some row) e = absurd (cc)

  module _ (width : ℕ) where
    regroup : (front row : List A) (rest : Result (List (List A) × Left (List ℕ)) ℕ) → behind front (made joined (made with_first (paired row rest))) ≡ behind (front ++ row) (made joined rest)
    regroup front row (Err k) = refl
    regroup front row (Ok rest) = ap (λ l. Ok (l, rest.1)) (sym (append_assoc front row (joined rest.0)))

    -- one row more
    pub rows-more : (old new : List A) (n : ℕ) (at left : Left (List ℕ)) → behind old (one (row_of value width) at) ≡ Ok (new, left) → behind old (read_rows value width (suc n) at) ≡ behind new (read_rows value width n left)
    rows-more old new n at left e = go (one (row_of value width) at) refl e where
      go : (got : Result (List A × Left (List ℕ)) ℕ) → one (row_of value width) at ≡ got → behind old got ≡ Ok (new, left) → behind old (read_rows value width (suc n) at) ≡ behind new (read_rows value width n left)
      go (Err k) is e = absurd (cc)
      go (Ok got) is e =
          let pair : ◌≡◌ {A = List A × Left (List ℕ)} (old ++ got.0, got.1) (new, left) = cc in
          ap (λ r. behind old (made joined (made with_first (go_on (λ x. many (row_of value width) n) r)))) is
          ∙ regroup old got.0 (many (row_of value width) n got.1)
          ∙ ap (λ (z : List A × Left (List ℕ)). behind z.0 (read_rows value width n z.1)) pair

    -- a row that is refused
    pub rows-refused : (old : List A) (n k : ℕ) (at : Left (List ℕ)) → behind old (one (row_of value width) at) ≡ Err k → behind old (read_rows value width (suc n) at) ≡ Err k
    rows-refused old n k at e =
        ap (λ r. behind old (made joined (made with_first (go_on (λ x. many (row_of value width) n) r)))) (err-behind old (one (row_of value width) at) k e)

-- one food more
pub foods-more : (width i value : ℕ) (values old : List ℕ) (food : ℕ) (at left : Left (List ℕ)) → food_at width i value at ≡ Ok (food, left)
    → behind old (read_foods width i (value ∷ values) at) ≡ behind (old ++ food ∷ []) (read_foods width (i + 1) values left)
foods-more width i value values old food at left e = first-more (food_at width i value) (λ f. read_foods width (i + 1) values) old food at left e

-- a food that is refused
pub foods-refused : (width i value : ℕ) (values old : List ℕ) (k : ℕ) (at : Left (List ℕ)) → food_at width i value at ≡ Err k → behind old (read_foods width i (value ∷ values) at) ≡ Err k
foods-refused width i value values old k at e = first-refused (food_at width i value) (λ f. read_foods width (i + 1) values) old k at e

pub foods-none : (width i : ℕ) (old : List ℕ) (at : Left (List ℕ)) → behind old (read_foods width i [] at) ≡ Ok (old, at)
foods-none width i old at = ap (λ l. Ok (l, at)) (append-nil old)

-- what is returned for the next ant, and for all
abbrev NextAnt : Type 0
NextAnt = Result (Option PlacedAnt × Left (List ℕ)) ℕ

abbrev AllAnts : Type 0
AllAnts = Result (List PlacedAnt × Left (List ℕ)) ℕ

-- the ants of the lines that are left, if the first is requested
ants_then : ℕ → ℕ → NextAnt → AllAnts
ants_then width height (Err k) = Err k
ants_then width height (Ok (None, left)) = Ok ([], left)
ants_then width height (Ok (Some it, left)) = made (λ ants. it ∷ ants) (ants_from width height left.items (suc it.ant.id) left.number)

-- the ants are the next one and those after it
ants-next : (width height least : ℕ) (at : Left (List ℕ)) → ants_from width height at.items least at.number ≡ ants_then width height (next_ant width height least at)
unfolding ants_then
ants-next width height least at = go at.items at.number where
  late : (it : PlacedAnt) (lines : List (List ℕ)) (n : ℕ) (b : Bool)
      → cond {A = AllAnts} b (made (λ ants. it ∷ ants) (ants_from width height lines (suc it.ant.id) (n + 1))) (Err n) ≡ ants_then width height (taken (cond {A = Option (Option PlacedAnt)} b (Some (Some it)) None) n lines)
  late it lines n true = refl
  late it lines n false = refl

  one_more : (lines : List (List ℕ)) (n : ℕ) (told : Option PlacedAnt) → ant_onto least told n (λ it. ants_from width height lines (suc it.ant.id) (n + 1)) ≡ ants_then width height (taken (if_rises least told) n lines)
  one_more lines n None = refl
  one_more lines n (Some it) = late it lines n (leb least it.ant.id)

  ends : (line : List ℕ) (lines : List (List ℕ)) (n : ℕ) (b : Bool)
      → cond {A = AllAnts} b (Ok ([], record { number = n + 1; items = lines })) (ant_onto least (ant_of width height line) n (λ it. ants_from width height lines (suc it.ant.id) (n + 1)))
      ≡ ants_then width height (taken (cond {A = Option (Option PlacedAnt)} b (Some None) (if_rises least (ant_of width height line))) n lines)
  ends line lines n true = refl
  ends line lines n false = one_more lines n (ant_of width height line)

  go : (items : List (List ℕ)) (n : ℕ) → ants_from width height items least n ≡ ants_then width height (one_of (ant_or_end width height least) n items)
  go [] n = refl
  go (line ∷ lines) n = ends line lines n (bytes_eq (codes "end") line)

ants-behind : (old : List PlacedAnt) (it : PlacedAnt) (told : AllAnts) → behind old (made (λ ants. it ∷ ants) told) ≡ behind (old ++ it ∷ []) told
ants-behind old it (Err k) = refl
ants-behind old it (Ok read) = ap (λ l. Ok (l, read.1)) (sym (append_assoc old (it ∷ []) read.0))

-- one ant more
pub ants-more : (width height least : ℕ) (old : List PlacedAnt) (it : PlacedAnt) (at left : Left (List ℕ)) → next_ant width height least at ≡ Ok (Some it, left)
    → behind old (ants_from width height at.items least at.number) ≡ behind (old ++ it ∷ []) (ants_from width height left.items (it.ant.id + 1) left.number)
unfolding ants_then
ants-more width height least old it at left e =
    ap (behind old) (ants-next width height least at ∙ ap (ants_then width height) e)
    ∙ ants-behind old it (ants_from width height left.items (suc it.ant.id) left.number)
    ∙ ap (λ (n : ℕ). behind (old ++ it ∷ []) (ants_from width height left.items n left.number)) (let s : suc it.ant.id ≡ it.ant.id + 1 = omega arith in s)

-- the last line
pub ants-last : (width height least : ℕ) (old : List PlacedAnt) (at left : Left (List ℕ)) → next_ant width height least at ≡ Ok (None, left) → behind old (ants_from width height at.items least at.number) ≡ Ok (old, left)
unfolding ants_then
ants-last width height least old at left e =
    ap (behind old) (ants-next width height least at ∙ ap (ants_then width height) e) ∙ ap (λ l. Ok (l, left)) (append-nil old)

-- a line that is refused
pub ants-refused : (width height least k : ℕ) (old : List PlacedAnt) (at : Left (List ℕ)) → next_ant width height least at ≡ Err k → behind old (ants_from width height at.items least at.number) ≡ Err k
unfolding ants_then
ants-refused width height least k old at e = ap (behind old) (ants-next width height least at ∙ ap (ants_then width height) e)

-- a line is gone with each answer
pub one-fewer : {E A : Type 0} (parse : E → Option A) (x : A) (at left : Left E) → one parse at ≡ Ok (x, left) → length left.items < length at.items
one-fewer {E} {A} parse x at left e = go at.items at.number e where
  last : (items : List E) (n : ℕ) (told : Option A) → taken told n items ≡ Ok (x, left) → length left.items < suc (length items)
  last items n None is = absurd (cc)
  last items n (Some y) is =
      let pair : ◌≡◌ {A = A × Left E} (y, record { number = n + 1; items = items }) (x, left) = cc in
      let long : length items ≡ length left.items = ap (λ (z : A × Left E). length z.1.items) pair in
      omega (arith, long)

  go : (items : List E) (n : ℕ) → one_of parse n items ≡ Ok (x, left) → length left.items < length items
  go [] n is = absurd (cc)
  go (y ∷ items) n is = last items n (parse y) is

-- one value more of this many
pub many-more : {E A : Type 0} (parse : E → Option A) (old : List A) (x : A) (n : ℕ) (at left : Left E) → one parse at ≡ Ok (x, left) → behind old (many parse (suc n) at) ≡ behind (old ++ x ∷ []) (many parse n left)
many-more parse old x n at left e = first-more (one parse) (λ y. many parse n) old x at left e

-- a value that is refused
pub many-refused : {E A : Type 0} (parse : E → Option A) (old : List A) (n k : ℕ) (at : Left E) → one parse at ≡ Err k → behind old (many parse (suc n) at) ≡ Err k
many-refused parse old n k at e = first-refused (one parse) (λ y. many parse n) old k at e

-- one cell more
pub ground-more : (soils : List Soil) (reds blacks foods : List ℕ) (i : ℕ) (d : Soil) (front new : List Cell) (cell : Cell) → length reds ≡ length soils → length blacks ≡ length soils → length foods ≡ length soils → i < length soils
    → cell ≡ ground_cell (get_or soils i d) (get_or reds i 0) (get_or blacks i 0) (get_or foods i 0) → new ≡ front ++ cell ∷ []
    → new ++ ground_cells (drop (i + 1) soils) (drop (i + 1) reds) (drop (i + 1) blacks) (drop (i + 1) foods) ≡ front ++ ground_cells (drop i soils) (drop i reds) (drop i blacks) (drop i foods)
ground-more soils reds blacks foods i d front new cell red black food early is grown =
    let rest : List Cell = ground_cells (drop (i + 1) soils) (drop (i + 1) reds) (drop (i + 1) blacks) (drop (i + 1) foods) in
    let all : ground_cells (drop i soils) (drop i reds) (drop i blacks) (drop i foods) ≡ ground_cell (get_or soils i d) (get_or reds i 0) (get_or blacks i 0) (get_or foods i 0) ∷ rest =
    ap (λ (l : List Soil). ground_cells l (drop i reds) (drop i blacks) (drop i foods)) (drop-from soils i d early)
    ∙ ap (λ (l : List ℕ). ground_cells (get_or soils i d ∷ drop (i + 1) soils) l (drop i blacks) (drop i foods)) (drop-from reds i 0 (omega arith))
    ∙ ap (λ (l : List ℕ). ground_cells (get_or soils i d ∷ drop (i + 1) soils) (get_or reds i 0 ∷ drop (i + 1) reds) l (drop i foods)) (drop-from blacks i 0 (omega arith))
    ∙ ap (λ (l : List ℕ). ground_cells (get_or soils i d ∷ drop (i + 1) soils) (get_or reds i 0 ∷ drop (i + 1) reds) (get_or blacks i 0 ∷ drop (i + 1) blacks) l) (drop-from foods i 0 (omega arith)) in
    ap (λ (l : List Cell). l ++ rest) grown ∙ append_assoc front (cell ∷ []) rest ∙ ap (λ (x : Cell). front ++ x ∷ rest) is ∙ ap (λ (l : List Cell). front ++ l) (sym all)
