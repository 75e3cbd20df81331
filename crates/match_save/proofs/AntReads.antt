-- The ants, and the last line.
use Rattle.std.proofs.Common.{◌≡◌, ℕ, suc, ◌+◌, ◌-◌, ◌≤◌, Bool, true, false, cond, eqb, leb, List, [], ◌∷◌, ◌++◌, length, Option, Some, None, Result, Ok, Err, refl, sym, ◌∙◌, ap, subst, arith, codes, decimal}
use Rattle.std.specs.List.{AllByRecursion}
use Rattle.std.specs.Str.{bytes_eq}
use Rattle.std.proofs.lemmas.Bool.{le-leb, leb-true, leb-false}
use Rattle.std.proofs.lemmas.Slice.Eq.{bytes_eq-Decides}
use Rattle.hex_geometry.proofs.Turns.{dir_of_number_of}
use Rattle.hex_geometry.specs.declared.direction.Dir.{Dir}
use Rattle.hex_geometry.specs.declared.direction.Dir.TheVariants.{East}
use Rattle.hex_geometry.specs.Direction.{dir_of, number_of}
use Rattle.cell_world.proofs.GridSums.{one_if-le_one}
use Rattle.cell_world.specs.declared.ant.Colour.{Colour}
use Rattle.cell_world.specs.declared.ant.Colour.TheVariants.{Red, Black}
use Rattle.cell_world.specs.declared.ant.PlacedAnt.{PlacedAnt}
use Rattle.cell_world.specs.Cell.{one_if}
use Rattle.match_save.specs.Draft.{IdsRise, IsAnt}
use Rattle.match_save.specs.Text as text
use Rattle.dump_print.specs.Content.{colour_text}
use Rattle.match_save.specs.Text.{ant_lines, spaced}
use Rattle.match_save.specs.Inner.Readers.{Left, Spells, Took, StopsAt, Begins, made}
use Rattle.match_save.specs.Inner.Reading.{AntParts, ant_of, ant_tokens, ants_from, colour_of, ant_onto, placed_ant, read_ants}
use Rattle.match_save.proofs.Readers.Composed.{Recasts, left_at}
use Rattle.match_save.proofs.Readers.Good.{Good, followed-good, mapped-good, one-good}
use Rattle.match_save.proofs.Tokens.{AreTokens, IsBetween, has_no_space, line-spells, number-good, plain-decimal, word-good}

IsColour : Colour → Type 0
IsColour colour = Unit {0}

colour-spells : Spells colour_of IsColour colour_text
unfolding IsColour
colour-spells = record {
  parses = parses;
  accepted = λ token colour e. tt;
  spelled = λ token colour e. first token colour (bytes_eq (codes "red") token) refl e;
} where
  parses : (colour : Colour) → IsColour colour → colour_of (colour_text colour) ≡ Some colour
  parses Red ok = refl
  parses Black ok = refl

  next : (token : List ℕ) (colour : Colour) (b : Bool) → bytes_eq (codes "black") token ≡ b → cond b (Some Black) None ≡ Some colour → token ≡ colour_text colour
  next token colour false is e = absurd (cc)
  next token colour true is e =
      let same : Black ≡ colour = cc in
      sym ((bytes_eq-Decides (codes "black") token).0 is) ∙ ap colour_text same

  first : (token : List ℕ) (colour : Colour) (b : Bool) → bytes_eq (codes "red") token ≡ b → cond b (Some Red) (cond (bytes_eq (codes "black") token) (Some Black) None) ≡ Some colour → token ≡ colour_text colour
  first token colour false is e = next token colour (bytes_eq (codes "black") token) refl e
  first token colour true is e =
      let same : Red ≡ colour = cc in
      sym ((bytes_eq-Decides (codes "red") token).0 is) ∙ ap colour_text same

abbrev IsAntParts : ℕ → ℕ → AntParts → Type 0
IsAntParts width height p =
    IsBetween 0 16383 p.0 × (IsColour p.1.0 × (IsBetween 0 (width - 1) p.1.1.0 × (IsBetween 0 (height - 1) p.1.1.1.0
    × (IsBetween 0 5 p.1.1.1.1.0 × (IsBetween 0 1 p.1.1.1.1.1.0 × (IsBetween 0 9999 p.1.1.1.1.1.1.0 × IsBetween 0 255 p.1.1.1.1.1.1.1))))))

abbrev ant_print : AntParts → List (List ℕ)
ant_print p = codes "ant" ∷ decimal p.0 ∷ colour_text p.1.0 ∷ decimal p.1.1.0 ∷ decimal p.1.1.1.0 ∷ decimal p.1.1.1.1.0 ∷ decimal p.1.1.1.1.1.0 ∷ decimal p.1.1.1.1.1.1.0 ∷ decimal p.1.1.1.1.1.1.1 ∷ []

number_of-dir_of : (n : ℕ) → n ≤ 5 → number_of (dir_of n) ≡ n
number_of-dir_of (suc (suc (suc (suc (suc (suc n)))))) low = absurd (let wrong : ⊥ = omega arith in wrong)
number_of-dir_of it low = refl

one_if-is : (n : ℕ) → n ≤ 1 → one_if (eqb n 1) ≡ n
one_if-is (suc (suc n)) low = absurd (let wrong : ⊥ = omega arith in wrong)
one_if-is it low = refl

-- a direction is that of its number
pub dir_of_number : (d : Dir) (n : ℕ) → number_of d ≡ n → d ≡ dir_of n
dir_of_number d n e = sym (dir_of_number_of d) ∙ ap dir_of e

pub low_dir : (d : Dir) → number_of d ≤ 5
low_dir East = omega arith
low_dir it = omega arith

is_load : (b : Bool) → eqb (one_if b) 1 ≡ b
is_load true = refl
is_load false = refl

ant-casts : (width height : ℕ) → 1 ≤ width → 1 ≤ height → Recasts placed_ant (IsAntParts width height) (IsAnt width height) ant_print text.ant_tokens
unfolding IsColour
ant-casts width height wide tall = record {
  made_ok = λ p ok. record {
    id = (let l = ok.0.1 in omega (arith, l));
    column = (let l = ok.1.1.0.1 in omega (arith, l, wide));
    row = (let l = ok.1.1.1.0.1 in omega (arith, l, tall));
    state = (let l = ok.1.1.1.1.1.1.0.1 in omega (arith, l));
    resting = ok.1.1.1.1.1.1.1.1;
  };
  same = λ p ok.
      ap (λ d. codes "ant" ∷ decimal p.0 ∷ colour_text p.1.0 ∷ decimal p.1.1.0 ∷ decimal p.1.1.1.0 ∷ decimal d ∷ decimal (one_if (eqb p.1.1.1.1.1.0 1)) ∷ decimal p.1.1.1.1.1.1.0 ∷ decimal p.1.1.1.1.1.1.1 ∷ []) (number_of-dir_of p.1.1.1.1.0 ok.1.1.1.1.0.1)
      ∙ ap (λ l. codes "ant" ∷ decimal p.0 ∷ colour_text p.1.0 ∷ decimal p.1.1.0 ∷ decimal p.1.1.1.0 ∷ decimal p.1.1.1.1.0 ∷ decimal l ∷ decimal p.1.1.1.1.1.1.0 ∷ decimal p.1.1.1.1.1.1.1 ∷ []) (one_if-is p.1.1.1.1.1.0 ok.1.1.1.1.1.0.1);
  unmade = unmade;
} where
  unmade : (it : PlacedAnt) → IsAnt width height it → (p : AntParts) × IsAntParts width height p × (placed_ant p ≡ it)
  unmade it ok = (
    (it.ant.id, (it.ant.colour, (it.place.x, (it.place.y, (number_of it.ant.facing, (one_if it.ant.laden, (it.ant.state, it.ant.resting))))))),
    (
      (omega arith, (let l = ok.id in omega (arith, l))),
      (
        tt,
        (
          (omega arith, (let l = ok.column in omega (arith, l))),
          (
            (omega arith, (let l = ok.row in omega (arith, l))),
            ((omega arith, low_dir it.ant.facing), ((omega arith, one_if-le_one it.ant.laden), ((omega arith, (let l = ok.state in omega (arith, l))), (omega arith, ok.resting)))),
          ),
        ),
      ),
    ),
    ap (λ d. record it { ant = record (it.ant) { facing = d; laden = eqb (one_if it.ant.laden) 1 } }) (dir_of_number_of it.ant.facing) ∙ ap (λ l. record it { ant = record (it.ant) { laden = l } }) (is_load it.ant.laden),
  )

plain_colour : (colour : Colour) → has_no_space (colour_text colour) ≡ true
plain_colour Red = refl
plain_colour Black = refl

parts-good : (width height : ℕ) → 1 ≤ width → width ≤ 512 → 1 ≤ height → height ≤ 512 → Good (ant_tokens width height) (IsAntParts width height) ant_print
unfolding IsColour
parts-good width height some narrow some' low =
    followed-good (word-good (codes "ant") (number-good 0 16383 (omega arith) (omega arith)))
    (λ id ok. followed-good (one-good colour-spells Red tt)
    (λ colour ok1. followed-good (number-good 0 (width - 1) (omega (arith, narrow)) (omega arith))
    (λ x ok2. followed-good (number-good 0 (height - 1) (omega (arith, low)) (omega arith))
    (λ y ok3. followed-good (number-good 0 5 (omega arith) (omega arith))
    (λ facing ok4. followed-good (number-good 0 1 (omega arith) (omega arith))
    (λ laden ok5. followed-good (number-good 0 9999 (omega arith) (omega arith))
    (λ state ok6. number-good 0 255 (omega arith) (omega arith))))))))

-- ants whose ids rise from this one on
pub record AreAnts (width height least : ℕ) (ants : List PlacedAnt) : Type 0 where
  pub each : AllByRecursion (IsAnt width height) ants
  pub rise : IdsRise least ants

module _ (width height : ℕ) (some : 1 ≤ width) (narrow : width ≤ 512) (some' : 1 ≤ height) (low : height ≤ 512) where
  plain : (it : PlacedAnt) → IsAnt width height it → AreTokens (text.ant_tokens it)
  plain it ok = (
    refl,
    (
      plain-decimal it.ant.id (let l = ok.id in omega (arith, l)),
      (
        plain_colour it.ant.colour,
        (
          plain-decimal it.place.x (let l = ok.column in omega (arith, l, narrow)),
          (
            plain-decimal it.place.y (let l = ok.row in omega (arith, l, low)),
            (
              plain-decimal (number_of it.ant.facing) (let l = low_dir it.ant.facing in omega (arith, l)),
              (
                plain-decimal (one_if it.ant.laden) (let l = one_if-le_one it.ant.laden in omega (arith, l)),
                (plain-decimal it.ant.state (let l = ok.state in omega (arith, l)), plain-decimal it.ant.resting (let l = ok.resting in omega (arith, l))),
              ),
            ),
          ),
        ),
      ),
    ),
  )

  ant-spells : Spells (ant_of width height) (IsAnt width height) (λ it. spaced (text.ant_tokens it))
  ant-spells = line-spells (mapped-good (ant-casts width height some some') (parts-good width height some narrow some' low)).reads plain

  printed : (ants : List PlacedAnt) (least n : ℕ) (rest : List (List ℕ)) → AreAnts width height least ants → ants_from width height (ant_lines ants ++ rest) least n ≡ Ok (ants, left_at (n + length (ant_lines ants)) rest)
  printed [] least n rest ok = refl
  printed (it ∷ ants) least n rest ok =
      ap (λ o. ant_onto least o n (λ other. ants_from width height (ant_lines ants ++ rest) (suc other.ant.id) (n + 1))) (ant-spells.parses it ok.each.0)
      ∙ ap (λ b. cond b (made (λ l. it ∷ l) (ants_from width height (ant_lines ants ++ rest) (suc it.ant.id) (n + 1))) (Err n)) (le-leb least it.ant.id ok.rise.0)
      ∙ ap (made (λ l. it ∷ l)) (printed ants (suc it.ant.id) (n + 1) rest (record { each = ok.each.1; rise = ok.rise.1 }))
      ∙ ap (λ m. Ok (it ∷ ants, left_at m rest)) (let s : n + 1 + length (ant_lines ants) ≡ n + suc (length (ant_lines ants)) = omega arith in s)

  known : (lines : List (List ℕ)) (least n : ℕ) (ants : List PlacedAnt) (left : Left (List ℕ)) → ants_from width height lines least n ≡ Ok (ants, left) → Took (AreAnts width height least) ant_lines (left_at n lines) ants left
  known [] least n ants left e = absurd (cc)
  known (line ∷ lines) least n ants left e = ends (bytes_eq (codes "end") line) refl (λ it. known lines (suc it.ant.id) (n + 1)) e where
    below : (it : PlacedAnt) → ant_of width height line ≡ Some it → least ≤ it.ant.id → (got : Result (List PlacedAnt × Left (List ℕ)) ℕ)
        → ((found : List PlacedAnt) (rest : Left (List ℕ)) → got ≡ Ok (found, rest) → Took (AreAnts width height (suc it.ant.id)) ant_lines (left_at (n + 1) lines) found rest)
        → made (λ l. it ∷ l) got ≡ Ok (ants, left) → Took (AreAnts width height least) ant_lines (left_at n (line ∷ lines)) ants left
    below it is later (Err k) rec e = absurd (cc)
    below it is later (Ok got) rec e =
        let took = rec got.0 got.1 refl in
        let pair : ◌≡◌ {A = List PlacedAnt × Left (List ℕ)} (it ∷ got.0, got.1) (ants, left) = cc in
        let here : Took (AreAnts width height least) ant_lines (left_at n (line ∷ lines)) (it ∷ got.0) got.1 = record {
          is_ok = record { each = (ant-spells.accepted line it is, took.is_ok.each); rise = (later, took.is_ok.rise) };
          items = ap (λ l. l ∷ lines) (ant-spells.spelled line it is) ∙ ap (λ l. spaced (text.ant_tokens it) ∷ l) took.items;
          number = (let l = took.number in omega (arith, l));
        } in
        subst (λ (p : List PlacedAnt × Left (List ℕ)). Took (AreAnts width height least) ant_lines (left_at n (line ∷ lines)) p.0 p.1) pair here

    late : (it : PlacedAnt) → ant_of width height line ≡ Some it → (b : Bool) → leb least it.ant.id ≡ b
        → ((found : List PlacedAnt) (rest : Left (List ℕ)) → ants_from width height lines (suc it.ant.id) (n + 1) ≡ Ok (found, rest) → Took (AreAnts width height (suc it.ant.id)) ant_lines (left_at (n + 1) lines) found rest)
        → cond b (made (λ l. it ∷ l) (ants_from width height lines (suc it.ant.id) (n + 1))) (Err n) ≡ Ok (ants, left) → Took (AreAnts width height least) ant_lines (left_at n (line ∷ lines)) ants left
    late it is false is_b rec e = absurd (cc)
    late it is true is_b rec e = below it is (leb-true least it.ant.id is_b) (ants_from width height lines (suc it.ant.id) (n + 1)) rec e

    one : (told : Option PlacedAnt) → ant_of width height line ≡ told
        → ((it : PlacedAnt) (found : List PlacedAnt) (rest : Left (List ℕ)) → ants_from width height lines (suc it.ant.id) (n + 1) ≡ Ok (found, rest) → Took (AreAnts width height (suc it.ant.id)) ant_lines (left_at (n + 1) lines) found rest)
        → ant_onto least told n (λ it. ants_from width height lines (suc it.ant.id) (n + 1)) ≡ Ok (ants, left) → Took (AreAnts width height least) ant_lines (left_at n (line ∷ lines)) ants left
    one None is rec e = absurd (cc)
    one (Some it) is rec e = late it is (leb least it.ant.id) refl (rec it) e

    ends : (b : Bool) → bytes_eq (codes "end") line ≡ b
        → ((it : PlacedAnt) (found : List PlacedAnt) (rest : Left (List ℕ)) → ants_from width height lines (suc it.ant.id) (n + 1) ≡ Ok (found, rest) → Took (AreAnts width height (suc it.ant.id)) ant_lines (left_at (n + 1) lines) found rest)
        → cond b (Ok ([], left_at (n + 1) lines)) (ant_onto least (ant_of width height line) n (λ it. ants_from width height lines (suc it.ant.id) (n + 1))) ≡ Ok (ants, left)
        → Took (AreAnts width height least) ant_lines (left_at n (line ∷ lines)) ants left
    ends false is rec e = one (ant_of width height line) refl rec e
    ends true is rec e =
        let pair : ◌≡◌ {A = List PlacedAnt × Left (List ℕ)} ([], left_at (n + 1) lines) (ants, left) = cc in
        let here : Took (AreAnts width height least) ant_lines (left_at n (line ∷ lines)) [] (left_at (n + 1) lines) = record {
          is_ok = record { each = tt; rise = tt };
          items = ap (λ l. l ∷ lines) (sym ((bytes_eq-Decides (codes "end") line).0 is));
          number = refl;
        } in
        subst (λ (p : List PlacedAnt × Left (List ℕ)). Took (AreAnts width height least) ant_lines (left_at n (line ∷ lines)) p.0 p.1) pair here

  first_is : (least : ℕ) (line : List ℕ) (begins : Begins (AreAnts width height least) ant_lines (line ∷ [])) → bytes_eq (codes "end") line ≡ false
      → (it : PlacedAnt) × (ant_of width height line ≡ Some it) × (least ≤ it.ant.id)
  first_is least line begins other = go begins.value begins.is_ok begins.is where
    go : (ants : List PlacedAnt) → AreAnts width height least ants → ant_lines ants ≡ line ∷ begins.rest → (it : PlacedAnt) × (ant_of width height line ≡ Some it) × (least ≤ it.ant.id)
    go [] ok is =
        let same : codes "end" ≡ line = cc in
        let passed = (bytes_eq-Decides (codes "end") line).1 same in
        absurd (cc)
    go (it ∷ ants) ok is =
        let same : spaced (text.ant_tokens it) ≡ line = cc in
        (it, ap (ant_of width height) (sym same) ∙ ant-spells.parses it ok.each.0, ok.rise.0)

  refused : (lines : List (List ℕ)) (least n k : ℕ) → ants_from width height lines least n ≡ Err k → StopsAt (AreAnts width height least) ant_lines (left_at n lines) k
  refused [] least n k e = record {
    before = [];
    after = [];
    split = refl;
    number = (let s : n ≡ k = cc in omega (arith, s));
    good = record { value = []; is_ok = record { each = tt; rise = tt }; rest = codes "end" ∷ []; is = refl };
    bad = λ next later is_next begins. absurd (cc);
  }
  refused (line ∷ lines) least n k e = ends (bytes_eq (codes "end") line) refl (λ it j. refused lines (suc it.ant.id) (n + 1) j) e where
    here : n ≡ k → (Begins (AreAnts width height least) ant_lines (line ∷ []) → ⊥) → StopsAt (AreAnts width height least) ant_lines (left_at n (line ∷ lines)) k
    here same wrong = record {
      before = [];
      after = line ∷ lines;
      split = refl;
      number = omega (arith, same);
      good = record { value = []; is_ok = record { each = tt; rise = tt }; rest = codes "end" ∷ []; is = refl };
      bad = λ next later is_next begins.
          let same_line : line ≡ next = cc in
          wrong (subst (λ l. Begins (AreAnts width height least) ant_lines (l ∷ [])) (sym same_line) begins);
    }

    below : (it : PlacedAnt) → bytes_eq (codes "end") line ≡ false → ant_of width height line ≡ Some it → least ≤ it.ant.id → (got : Result (List PlacedAnt × Left (List ℕ)) ℕ)
        → ((j : ℕ) → got ≡ Err j → StopsAt (AreAnts width height (suc it.ant.id)) ant_lines (left_at (n + 1) lines) j)
        → made (λ l. it ∷ l) got ≡ Err k → StopsAt (AreAnts width height least) ant_lines (left_at n (line ∷ lines)) k
    below it other is later (Ok got) rec e = absurd (cc)
    below it other is later (Err j) rec e =
        let same : j ≡ k = cc in
        let stop = rec k (ap Err same) in
        let spelled = ant-spells.spelled line it is in
        record {
          before = line ∷ stop.before;
          after = stop.after;
          split = ap (λ l. line ∷ l) stop.split;
          number = (let l = stop.number in omega (arith, l));
          good = record {
            value = it ∷ stop.good.value;
            is_ok = record { each = (ant-spells.accepted line it is, stop.good.is_ok.each); rise = (later, stop.good.is_ok.rise) };
            rest = stop.good.rest;
            is = ap (λ l. l ∷ ant_lines stop.good.value) (sym spelled) ∙ ap (λ l. line ∷ l) stop.good.is;
          };
          bad = λ next more is_next begins. stop.bad next more is_next (go next stop.before begins.rest begins.value begins.is_ok begins.is);
        }
      where
        go : (next : List ℕ) (front rest : List (List ℕ)) (ants : List PlacedAnt) → AreAnts width height least ants → ant_lines ants ≡ (line ∷ front ++ next ∷ []) ++ rest → Begins (AreAnts width height (suc it.ant.id)) ant_lines (front ++ next ∷ [])
        go next front rest [] ok e' =
            let same : codes "end" ≡ line = cc in
            let passed = (bytes_eq-Decides (codes "end") line).1 same in
            absurd (cc)
        go next front rest (other_it ∷ ants) ok e' =
            let same_line : spaced (text.ant_tokens other_it) ≡ line = cc in
            let others : ant_lines ants ≡ (front ++ next ∷ []) ++ rest = cc in
            let both : Some it ≡ Some other_it = sym is ∙ ap (ant_of width height) (sym same_line) ∙ ant-spells.parses other_it ok.each.0 in
            let same_it : it ≡ other_it = cc in
            record {
              value = ants;
              is_ok = record { each = ok.each.1; rise = subst (λ (v : PlacedAnt). IdsRise (suc v.ant.id) ants) (sym same_it) ok.rise.1 };
              rest = rest;
              is = others;
            }

    late : (it : PlacedAnt) → bytes_eq (codes "end") line ≡ false → ant_of width height line ≡ Some it → (b : Bool) → leb least it.ant.id ≡ b
        → ((j : ℕ) → ants_from width height lines (suc it.ant.id) (n + 1) ≡ Err j → StopsAt (AreAnts width height (suc it.ant.id)) ant_lines (left_at (n + 1) lines) j)
        → cond b (made (λ l. it ∷ l) (ants_from width height lines (suc it.ant.id) (n + 1))) (Err n) ≡ Err k → StopsAt (AreAnts width height least) ant_lines (left_at n (line ∷ lines)) k
    late it other is true is_b rec e = below it other is (leb-true least it.ant.id is_b) (ants_from width height lines (suc it.ant.id) (n + 1)) rec e
    late it other is false is_b rec e = here (let s : n ≡ k = cc in s) (λ begins.
        let found = first_is least line begins other in
        let both : Some it ≡ Some found.0 = sym is ∙ found.1 in
        let same : it ≡ found.0 = cc in
        let low : least ≤ it.ant.id = subst (λ (v : PlacedAnt). least ≤ v.ant.id) (sym same) found.2 in
        let high = leb-false least it.ant.id is_b in
        let wrong : ⊥ = omega (arith, low, high) in
        wrong)

    one : bytes_eq (codes "end") line ≡ false → (told : Option PlacedAnt) → ant_of width height line ≡ told
        → ((it : PlacedAnt) (j : ℕ) → ants_from width height lines (suc it.ant.id) (n + 1) ≡ Err j → StopsAt (AreAnts width height (suc it.ant.id)) ant_lines (left_at (n + 1) lines) j)
        → ant_onto least told n (λ it. ants_from width height lines (suc it.ant.id) (n + 1)) ≡ Err k → StopsAt (AreAnts width height least) ant_lines (left_at n (line ∷ lines)) k
    one other (Some it) is rec e = late it other is (leb least it.ant.id) refl (rec it) e
    one other None is rec e = here (let s : n ≡ k = cc in s) (λ begins.
        let found = first_is least line begins other in
        let both : None ≡ Some found.0 = sym is ∙ found.1 in
        absurd (cc))

    ends : (b : Bool) → bytes_eq (codes "end") line ≡ b
        → ((it : PlacedAnt) (j : ℕ) → ants_from width height lines (suc it.ant.id) (n + 1) ≡ Err j → StopsAt (AreAnts width height (suc it.ant.id)) ant_lines (left_at (n + 1) lines) j)
        → cond b (Ok ([], left_at (n + 1) lines)) (ant_onto least (ant_of width height line) n (λ it. ants_from width height lines (suc it.ant.id) (n + 1))) ≡ Err k
        → StopsAt (AreAnts width height least) ant_lines (left_at n (line ∷ lines)) k
    ends true is rec e = absurd (cc)
    ends false is rec e = one is (ant_of width height line) refl rec e

  pub ants-good : Good (read_ants width height) (AreAnts width height 0) ant_lines
  ants-good = record {
    reads = record { prints = λ n ants rest ok. printed ants 0 n rest ok; reads = λ at ants left e. known at.items 0 at.number ants left e };
    refuses = λ at k e. refused at.items 0 at.number k e;
    some = [];
    is_some = record { each = tt; rise = tt };
  }
