-- Rows of bytes.
use Rattle.std.proofs.Common.{◌≡◌, ℕ, zero, suc, ◌*◌, ◌≤◌, Bool, true, false, cond, eqb, List, [], ◌∷◌, ◌++◌, length, map, take, drop, Option, Some, None, refl, sym, ◌∙◌, ap, subst, length-append, take-append-drop, arith}
use Rattle.std.specs.List.{AllByRecursion}
use Rattle.std.proofs.lemmas.Bool.{eqb-true, eq-eqb}
use Rattle.std.proofs.lemmas.List.{length-take, length-drop, take-append-le, drop-append-le, take_all, drop_all}
use Rattle.list_lemmas.proofs.AllElements.{AllByRecursion-append}
use Rattle.match_save.specs.Text.{rows}
use Rattle.match_save.specs.Inner.Readers.{Spells}
use Rattle.match_save.specs.Inner.Reading.{all_of, joined, read_rows, row_of, with_value}
use Rattle.match_save.proofs.Readers.Elements.{IsList}
use Rattle.match_save.proofs.Readers.Good.{Good, many-good, mapped-good}

module _ {A : Type 0} {value : ℕ → Option A} {accepts : A → Type 0} {byte : A → ℕ} (h : Spells value accepts byte) where
  all-parses : (row : List A) → AllByRecursion accepts row → all_of value (map byte row) ≡ Some row
  all-parses [] ok = refl
  all-parses (x ∷ row) ok = ap (λ o. with_value o (all_of value (map byte row))) (h.parses x ok.0) ∙ ap (with_value (Some x)) (all-parses row ok.1)

  record AreBytes (line : List ℕ) (row : List A) : Type 0 where
    each : AllByRecursion accepts row
    is : line ≡ map byte row

  all-known : (line : List ℕ) (row : List A) → all_of value line ≡ Some row → AreBytes line row
  all-known [] row e = let same : [] ≡ row = cc in subst (AreBytes []) same (record { each = tt; is = refl })
  all-known (b ∷ line) row e = go (value b) refl (all_of value line) (all-known line) e where
    go : (one : Option A) → value b ≡ one → (others : Option (List A)) → ((found : List A) → others ≡ Some found → AreBytes line found) → with_value one others ≡ Some row → AreBytes (b ∷ line) row
    go None is others known e = absurd (cc)
    go (Some x) is None known e = absurd (cc)
    go (Some x) is (Some found) known e =
        let same : x ∷ found ≡ row = cc in
        let rest = known found refl in
        subst (AreBytes (b ∷ line)) same (record { each = (h.accepted b x is, rest.each); is = ap (λ c. c ∷ line) (h.spelled b x is) ∙ ap (λ l. byte x ∷ l) rest.is })

  -- a row of this many accepted values
  pub record IsRow (width : ℕ) (row : List A) : Type 0 where
    pub wide : length row ≡ width
    pub each : AllByRecursion accepts row

  length-bytes : (row : List A) → length (map byte row) ≡ length row
  length-bytes [] = refl
  length-bytes (x ∷ row) = ap suc (length-bytes row)

  pub row-spells : (width : ℕ) → Spells (row_of value width) (IsRow width) (map byte)
  row-spells width = record { parses = parses; accepted = λ line row e. (known line row e).0; spelled = λ line row e. (known line row e).1 } where
    parses : (row : List A) → IsRow width row → row_of value width (map byte row) ≡ Some row
    parses row ok = ap (λ b. cond b (all_of value (map byte row)) None) (eq-eqb _ _ (length-bytes row ∙ ok.wide)) ∙ all-parses row ok.each

    go : (line : List ℕ) (row : List A) (b : Bool) → eqb (length line) width ≡ b → cond b (all_of value line) None ≡ Some row → IsRow width row × (line ≡ map byte row)
    go line row false is e = absurd (cc)
    go line row true is e =
        let all = all-known line row e in
        let wide = eqb-true (length line) width is in
        (record { wide = sym (length-bytes row) ∙ ap length (sym all.is) ∙ wide; each = all.each }, all.is)

    known : (line : List ℕ) (row : List A) → row_of value width line ≡ Some row → IsRow width row × (line ≡ map byte row)
    known line row e = go line row (eqb (length line) width) refl e

  -- the values of this many rows, one after another
  pub record AreValues (width height : ℕ) (list : List A) : Type 0 where
    pub full : length list ≡ height * width
    pub each : AllByRecursion accepts list

  all-take : (n : ℕ) (a : List A) → AllByRecursion accepts a → AllByRecursion accepts (take n a)
  all-take (suc n) (x ∷ a) p = (p.0, all-take n a p.1)
  all-take it a p = tt

  all-drop : (n : ℕ) (a : List A) → AllByRecursion accepts a → AllByRecursion accepts (drop n a)
  all-drop zero a p = p
  all-drop (suc n) [] p = tt
  all-drop (suc n) (x ∷ a) p = all-drop n a p.1

  module _ (width : ℕ) where
    abbrev AreRows : ℕ → List (List A) → Type 0
    AreRows height list = IsList (row-spells width) height list

    joined-ok : (height : ℕ) (list : List (List A)) → AreRows height list → AreValues width height (joined list)
    joined-ok zero [] ok = record { full = (let z : 0 ≡ 0 * width = omega arith in z); each = tt }
    joined-ok (suc height) (row ∷ list) ok =
        let below = joined-ok height list (record { as_many = (let l = ok.as_many in omega (arith, l)); each = ok.each.1 }) in
        let wide = ok.each.0.wide in
        record { full = (let l = length-append row (joined list) in let f = below.full in omega (arith, l, f, wide)); each = AllByRecursion-append accepts row (joined list) ok.each.0.each below.each }
    joined-ok it that ok = absurd (let wrong : ⊥ = omega (arith, ok.as_many) in wrong)

    take-row : (row rest : List A) → length row ≡ width → take width (row ++ rest) ≡ row
    take-row row rest wide = ap (λ n. take n (row ++ rest)) (sym wide) ∙ take-append-le (length row) row rest (omega arith) ∙ take_all (length row) row (omega arith)

    drop-row : (row rest : List A) → length row ≡ width → drop width (row ++ rest) ≡ rest
    drop-row row rest wide = ap (λ n. drop n (row ++ rest)) (sym wide) ∙ drop-append-le (length row) row rest (omega arith) ∙ ap (λ l. l ++ rest) (drop_all (length row) row (omega arith))

    joined-print : (height : ℕ) (list : List (List A)) → AreRows height list → rows byte width height (joined list) ≡ map (map byte) list
    joined-print zero [] ok = refl
    joined-print (suc height) (row ∷ list) ok =
        ap (λ r. map byte r ∷ rows byte width height (drop width (row ++ joined list))) (take-row row (joined list) ok.each.0.wide)
        ∙ ap (λ l. map byte row ∷ rows byte width height l) (drop-row row (joined list) ok.each.0.wide)
        ∙ ap (λ l. map byte row ∷ l) (joined-print height list (record { as_many = (let l = ok.as_many in omega (arith, l)); each = ok.each.1 }))
    joined-print it that ok = absurd (let wrong : ⊥ = omega (arith, ok.as_many) in wrong)

    cut : (height : ℕ) (list : List A) → AreValues width height list → (rows' : List (List A)) × AreRows height rows' × (joined rows' ≡ list)
    cut zero [] ok = ([], record { as_many = refl; each = tt }, refl)
    cut zero (x ∷ list) ok = absurd (let wrong : ⊥ = omega (arith, ok.full) in wrong)
    cut (suc height) list ok =
        let full = ok.full in
        let enough : width ≤ length list = omega (arith, full) in
        let below = cut height (drop width list) (record { full = length-drop width list ∙ omega (arith, full); each = all-drop width list ok.each }) in
        let wide : length (take width list) ≡ width = length-take width list ∙ omega (arith, enough) in (
          take width list ∷ below.0,
          record { as_many = (let l = below.1.as_many in omega (arith, l)); each = (record { wide = wide; each = all-take width list ok.each }, below.1.each) },
          ap (λ l. take width list ++ l) below.2 ∙ take-append-drop width list,
        )

    copies : (n : ℕ) (some : A) → accepts some → (row : List A) × IsRow n row
    copies zero some ok = ([], record { wide = refl; each = tt })
    copies (suc n) some ok = (some ∷ (copies n some ok).0, record { wide = (let l = (copies n some ok).1.wide in omega (arith, l)); each = (ok, (copies n some ok).1.each) })

    pub rows-good : (height : ℕ) (some : A) → accepts some → Good (read_rows value width height) (AreValues width height) (rows byte width height)
    rows-good height some ok = mapped-good
        (record { made_ok = joined-ok height; same = joined-print height; unmade = cut height })
        (many-good (row-spells width) (copies width some ok).0 (copies width some ok).1 height)
