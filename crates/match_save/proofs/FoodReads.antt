-- The food of the cells.
use Rattle.std.proofs.Common.{◌≡◌, ◌≢◌, ℕ, zero, suc, ◌+◌, ◌*◌, ◌/◌, ◌%◌, ◌<◌, ◌≤◌, Bool, true, false, cond, eqb, leb, List, [], ◌∷◌, ◌++◌, length, map, take, drop, refl, sym, ◌∙◌, ap, arith, codes, decimal}
use Rattle.std.specs.List.{AllByRecursion}
use Rattle.std.proofs.lemmas.Bool.{eqb-true, eqb-false, le-leb, leb-true, leb-false, lt-leb}
use Rattle.std.proofs.lemmas.Nat.{div_below, mod_below, mul-le}
use Rattle.cell_world.specs.Limits.{most_weight}
use Rattle.match_save.specs.Draft.{most_counted}
use Rattle.match_save.specs.Text as text
use Rattle.match_save.specs.Text.{food_byte, food_lines, marks_byte, rows, spaced}
use Rattle.match_save.specs.Inner.Readers.{Spells, nothing, one, with_first}
use Rattle.match_save.specs.Inner.Reading.{food_at, food_of, read_all_foods, read_foods}
use Rattle.match_save.proofs.Readers.Composed.{Recasts}
use Rattle.match_save.proofs.Readers.Elements.{nothing-reads, nothing-refuses}
use Rattle.match_save.proofs.Readers.Good.{Good, followed-good, mapped-good, one-good, recast-good}
use Rattle.match_save.proofs.RowBytes.{IsSet, value-spells}
use Rattle.match_save.proofs.RowReads.{rows-good}
use Rattle.match_save.proofs.Tokens.{IsBetween, line-spells, number-good, plain-decimal, word-good}

-- what the byte of an amount of food stands for: the amount, or 63 for all above 62
abbrev pub value_of_food : ℕ → ℕ
value_of_food food = cond (leb food 62) food 63

-- an amount of food whose byte stands for this
abbrev pub HasValue : ℕ → ℕ → Type 0
HasValue value food = (value_of_food food ≡ value) × (food ≤ most_weight)

abbrev pub food_line : ℕ → ℕ → ℕ → List (List ℕ)
food_line width i food = cond (leb food 62) [] (spaced (text.food_tokens width i food) ∷ [])

abbrev IsFoodLine : ℕ → ℕ → ℕ × (ℕ × ℕ) → Type 0
IsFoodLine x y z = IsBetween x x z.0 × (IsBetween y y z.1.0 × IsBetween 63 most_weight z.1.1)

abbrev food_print : ℕ × (ℕ × ℕ) → List (List ℕ)
food_print z = codes "food" ∷ decimal z.0 ∷ decimal z.1.0 ∷ decimal z.1.1 ∷ []

food-casts : (x y : ℕ) → Recasts (λ (z : ℕ × (ℕ × ℕ)). z.1.1) (IsFoodLine x y) (IsBetween 63 most_weight) food_print (λ food. codes "food" ∷ decimal x ∷ decimal y ∷ decimal food ∷ [])
food-casts x y = record {
  made_ok = λ z ok. ok.1.1;
  same = λ z ok.
      let column : x ≡ z.0 = omega (arith, ok.0.0, ok.0.1) in
      let row : y ≡ z.1.0 = omega (arith, ok.1.0.0, ok.1.0.1) in
      ap (λ n. codes "food" ∷ decimal n ∷ decimal y ∷ decimal z.1.1 ∷ []) column
      ∙ ap (λ n. codes "food" ∷ decimal z.0 ∷ decimal n ∷ decimal z.1.1 ∷ []) row;
  unmade = λ food ok. ((x, (y, food)), ((omega arith, omega arith), ((omega arith, omega arith), ok)), refl);
}

-- the line of the food in this column and row
food-spells : (x y : ℕ) → x ≤ most_counted → y ≤ most_counted → Spells (food_of x y) (IsBetween 63 most_weight) (λ food. spaced (codes "food" ∷ decimal x ∷ decimal y ∷ decimal food ∷ []))
food-spells x y small small' = line-spells
    (mapped-good {make = λ (z : ℕ × (ℕ × ℕ)). z.1.1} (food-casts x y)
    (word-good (codes "food") (followed-good (number-good x x small (omega arith)) (λ column ok. followed-good (number-good y y small' (omega arith)) (λ row ok'. number-good 63 most_weight (omega arith) (omega arith)))))).reads
    (λ food ok. (refl, (plain-decimal x (omega (arith, small)), (plain-decimal y (omega (arith, small')), plain-decimal food (omega (arith, ok.1))))))

-- a value of 63 stands for amounts above 62
value-high : (food : ℕ) → value_of_food food ≡ 63 → 63 ≤ food
value-high food e = go (leb food 62) refl e where
  go : (b : Bool) → leb food 62 ≡ b → cond b food 63 ≡ 63 → 63 ≤ food
  go true is e = (let low = leb-true food 62 is in let e' = e in omega (arith, e'))
  go false is e = (let high = leb-false food 62 is in omega (arith, high))

-- every other value is the amount
value-low : (food value : ℕ) → value_of_food food ≡ value → value ≢ 63 → (food ≤ 62) × (food ≡ value)
value-low food value e other = go (leb food 62) refl e where
  go : (b : Bool) → leb food 62 ≡ b → cond b food 63 ≡ value → (food ≤ 62) × (food ≡ value)
  go true is e = (leb-true food 62 is, e)
  go false is e = absurd (other (sym e))

not_last : (value : ℕ) → IsSet value → eqb value 63 ≡ false → value ≤ 62
not_last value is_set other = go (leb value 62) refl where
  go : (b : Bool) → leb value 62 ≡ b → value ≤ 62
  go true is = leb-true value 62 is
  go false is =
      let high = leb-false value 62 is in
      let last : value ≡ 63 = omega (arith, high, is_set) in
      absurd (eqb-false value 63 other last)

food-good : (width i value : ℕ) → IsSet value → i % width ≤ most_counted → i / width ≤ most_counted → Good (food_at width i value) (HasValue value) (food_line width i)
food-good width i value is_set small small' = go (eqb value 63) refl where
  go : (b : Bool) → eqb value 63 ≡ b → Good (λ at. (cond b (one (food_of (i % width) (i / width))) (nothing value)) at) (HasValue value) (food_line width i)
  go true is =
      let full : value ≡ 63 = eqb-true value 63 is in
      recast-good
      (record {
        made_ok = λ food ok. (ap (λ b. cond b food 63) (lt-leb food 62 (let low = ok.0 in omega (arith, low))) ∙ sym full, ok.1);
        same = λ food ok. ap (λ b. cond b [] (spaced (text.food_tokens width i food) ∷ [])) (lt-leb food 62 (let low = ok.0 in omega (arith, low)));
        unmade = λ food ok. (food, (value-high food (ok.0 ∙ full), ok.1), refl);
      })
      (one-good (food-spells (i % width) (i / width) small small') 63 (omega arith, omega arith))
  go false is =
      let other : value ≢ 63 = eqb-false value 63 is in
      let low : value ≤ 62 = not_last value is_set is in
      let is_some : HasValue value value = (ap (λ b. cond b value 63) (le-leb value 62 low), omega (arith, low)) in
      let only : (food : ℕ) → HasValue value food → food ≡ value = λ food ok. (value-low food value ok.0 other).1 in
      record {
        reads = nothing-reads value (HasValue value) (food_line width i) is_some (ap (λ b. cond b [] (spaced (text.food_tokens width i value) ∷ [])) (le-leb value 62 low)) only;
        refuses = nothing-refuses value (HasValue value) (food_line width i);
        some = value;
        is_some = is_some;
      }

-- the values of these foods stand for these values, one by one
abbrev pub AreFoods : List ℕ → List ℕ → Type 0
AreFoods [] [] = Unit {0}
AreFoods (value ∷ values) (food ∷ foods) = HasValue value food × AreFoods values foods
AreFoods it that = ⊥

-- numbers in row order of a world have columns and rows of few digits
pub small_place : (width i : ℕ) → 1 ≤ width → width ≤ 512 → i < 1000000 → (i % width ≤ most_counted) × (i / width ≤ most_counted)
small_place width i some narrow small = (let l = mod_below i width some in omega (arith, l), let l = div_below i width 1000000 some (omega arith) in omega (arith, l))

foods-good : (width i : ℕ) (values : List ℕ) → 1 ≤ width → width ≤ 512 → AllByRecursion IsSet values → i + length values < 1000000 → Good (read_foods width i values) (AreFoods values) (food_lines width i)
foods-good width i [] some narrow are few = record {
  reads = nothing-reads [] (AreFoods []) (food_lines width i) tt refl none;
  refuses = nothing-refuses [] (AreFoods []) (food_lines width i);
  some = [];
  is_some = tt;
} where
  none : (foods : List ℕ) → AreFoods [] foods → foods ≡ []
  none [] ok = refl
  none (food ∷ foods) ok = absurd ok
foods-good width i (value ∷ values) some narrow are few =
    let place = small_place width i some narrow (omega (arith, few)) in
    mapped-good {make = with_first}
    (record {
      made_ok = λ z ok. ok;
      same = λ z ok. refl;
      unmade = unmade;
    })
    (followed-good (food-good width i value are.0 place.0 place.1) (λ food ok. foods-good width (i + 1) values some narrow are.1 (omega (arith, few))))
  where
    unmade : (foods : List ℕ) → AreFoods (value ∷ values) foods → (z : ℕ × List ℕ) × (HasValue value z.0 × AreFoods values z.1) × (with_first z ≡ foods)
    unmade [] ok = absurd ok
    unmade (food ∷ foods) ok = ((food, foods), ok, refl)

-- the byte of what a byte stands for is this byte
marks_byte-value : (food : ℕ) → marks_byte (value_of_food food) ≡ food_byte food
marks_byte-value food = elim (leb food 62) as (λ b. 48 + cond b food 63 ≡ cond b (48 + food) 111) [ true ↦ refl | false ↦ refl ]

map-value : (foods : List ℕ) → map marks_byte (map value_of_food foods) ≡ map food_byte foods
map-value [] = refl
map-value (food ∷ foods) = ap (λ c. c ∷ map marks_byte (map value_of_food foods)) (marks_byte-value food) ∙ ap (λ l. food_byte food ∷ l) (map-value foods)

take-map : (n : ℕ) (list : List ℕ) → take n (map value_of_food list) ≡ map value_of_food (take n list)
take-map (suc n) (x ∷ list) = ap (λ l. value_of_food x ∷ l) (take-map n list)
take-map it list = refl

drop-map : (n : ℕ) (list : List ℕ) → drop n (map value_of_food list) ≡ map value_of_food (drop n list)
drop-map (suc n) (x ∷ list) = drop-map n list
drop-map it list = refl

rows-map : (width height : ℕ) (foods : List ℕ) → rows marks_byte width height (map value_of_food foods) ≡ rows food_byte width height foods
rows-map width zero foods = refl
rows-map width (suc height) foods =
    ap (λ r. map marks_byte r ∷ rows marks_byte width height (drop width (map value_of_food foods))) (take-map width foods)
    ∙ ap (λ r. r ∷ rows marks_byte width height (drop width (map value_of_food foods))) (map-value (take width foods))
    ∙ ap (λ l. map food_byte (take width foods) ∷ rows marks_byte width height l) (drop-map width foods)
    ∙ ap (λ l. map food_byte (take width foods) ∷ l) (rows-map width height (drop width foods))

-- this many amounts of food
pub record AreAmounts (width height : ℕ) (foods : List ℕ) : Type 0 where
  pub full : length foods ≡ height * width
  pub each : AllByRecursion (λ food. food ≤ most_weight) foods

length-foods : (values foods : List ℕ) → AreFoods values foods → length foods ≡ length values
length-foods [] [] ok = refl
length-foods (value ∷ values) (food ∷ foods) ok = ap suc (length-foods values foods ok.1)
length-foods it that ok = absurd ok

each-foods : (values foods : List ℕ) → AreFoods values foods → AllByRecursion (λ food. food ≤ most_weight) foods
each-foods [] [] ok = tt
each-foods (value ∷ values) (food ∷ foods) ok = (ok.0.1, each-foods values foods ok.1)
each-foods it that ok = absurd ok

values-foods : (values foods : List ℕ) → AreFoods values foods → values ≡ map value_of_food foods
values-foods [] [] ok = refl
values-foods (value ∷ values) (food ∷ foods) ok = ap (λ b. b ∷ values) (sym ok.0.0) ∙ ap (λ l. value_of_food food ∷ l) (values-foods values foods ok.1)
values-foods it that ok = absurd ok

again-foods : (foods : List ℕ) → AllByRecursion (λ food. food ≤ most_weight) foods → AreFoods (map value_of_food foods) foods
again-foods [] ok = tt
again-foods (food ∷ foods) ok = ((refl, ok.0), again-foods foods ok.1)

small_value : (food : ℕ) → IsSet (value_of_food food)
small_value food = go (leb food 62) refl where
  go : (b : Bool) → leb food 62 ≡ b → IsSet (cond b food 63)
  go true is = (let low = leb-true food 62 is in omega (arith, low))
  go false is = omega arith

each-values : (foods : List ℕ) → AllByRecursion IsSet (map value_of_food foods)
each-values [] = tt
each-values (food ∷ foods) = (small_value food, each-values foods)

length-values : (foods : List ℕ) → length (map value_of_food foods) ≡ length foods
length-values [] = refl
length-values (food ∷ foods) = ap suc (length-values foods)

-- all foods of a world of these sizes
pub all-foods-good : (width height : ℕ) → 1 ≤ width → width ≤ 512 → height ≤ 512 → Good (read_all_foods width height) (AreAmounts width height) (λ foods. rows food_byte width height foods ++ food_lines width 0 foods)
all-foods-good width height some narrow low = mapped-good {make = λ (both : List ℕ × List ℕ). both.1}
    (record {
      made_ok = λ z ok. record { full = length-foods z.0 z.1 ok.1 ∙ ok.0.full; each = each-foods z.0 z.1 ok.1 };
      same = λ z ok. ap (λ l. l ++ food_lines width 0 z.1) (sym (rows-map width height z.1) ∙ ap (rows marks_byte width height) (sym (values-foods z.0 z.1 ok.1)));
      unmade = λ foods ok. ((map value_of_food foods, foods), (record { full = length-values foods ∙ ok.full; each = each-values foods }, again-foods foods ok.each), refl);
    })
    (followed-good (rows-good value-spells width height 0 (omega arith)) (λ values ok. foods-good width 0 values some narrow ok.each (bound width height (length values) narrow low ok.full)))
  where
    bound : (width height n : ℕ) → width ≤ 512 → height ≤ 512 → n ≡ height * width → 0 + n < 1000000
    bound width height n narrow low full = (let l = mul-le height width 512 512 low narrow in omega (arith, l, full))
