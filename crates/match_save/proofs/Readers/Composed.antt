-- What holds of readers that are put together.
use Rattle.std.proofs.Common.{◌≡◌, ℕ, ◌+◌, List, [], ◌∷◌, ◌++◌, length, Result, Ok, Err, refl, sym, ◌∙◌, ap, subst, append_assoc, length-append, arith, inl, inr, ◌⊎◌}
use Rattle.match_save.specs.Inner.Readers.{Left, Reader, paired, go_on, followed, made, mapped, Begins, Took, StopsAt, Reads, Refuses}

-- of two prefixes of one list, one is a prefix of the other
pub fronts : {E : Type 0} → (p q x y : List E) → p ++ x ≡ q ++ y
    → ((z : List E) × (p ≡ q ++ z)) ⊎ ((z : List E) × (q ≡ p ++ z))
fronts [] q x y e = inr (q, refl)
fronts (a ∷ p) [] x y e = inl (a ∷ p, refl)
fronts (a ∷ p) (b ∷ q) x y e =
    let same : a ≡ b = cc in
    let rest : p ++ x ≡ q ++ y = cc in
    elim (fronts p q x y rest) [
      | inl found ↦ inl (found.0, ap (λ l. a ∷ l) found.1 ∙ ap (λ h. h ∷ (q ++ found.0)) same)
      | inr found ↦ inr (found.0, ap (λ l. b ∷ l) found.1 ∙ ap (λ h. h ∷ (p ++ found.0)) (sym same))
    ]

abbrev pub left_at : {E : Type 0} → ℕ → List E → Left E
left_at n items = record { number = n; items = items }

-- what is read is the only value whose printing is a front
pub one-value : {E A : Type 0} {read : Reader E A} {accepts : A → Type 0} {print : A → List E} → Reads read accepts print →
    (a b : A) (x y : List E) → accepts a → accepts b → print a ++ x ≡ print b ++ y → ◌≡◌ {A = A × List E} (a, x) (b, y)
one-value {E} {A} {read} {accepts} {print} r a b x y is_a is_b e =
    let first = r.prints 0 a x is_a in
    let second = r.prints 0 b y is_b in
    let one : A × Left E = (a, left_at (0 + length (print a)) x) in
    let other : A × Left E = (b, left_at (0 + length (print b)) y) in
    let both : ◌≡◌ {A = Result (A × Left E) ℕ} (Ok one) (Ok other) = sym first ∙ ap (λ l. read (left_at 0 l)) e ∙ second in
    let pair : one ≡ other = cc in
    ap (λ (z : A × Left E). (z.0, z.1.items)) pair

-- a refusal is no answer
pub err-no-ok : {A : Type 0} → (answer : Result A ℕ) (k : ℕ) (x : A) → answer ≡ Err k → answer ≡ Ok x → ⊥
err-no-ok answer k x e f = absurd (cc)

module _ {E A B : Type 0} (r : Reader E A) (s : A → Reader E B) (is_a : A → Type 0) (is_b : A → B → Type 0) (print_a : A → List E) (print_b : A → B → List E) where
  abbrev pub both_ok : A × B → Type 0
  both_ok z = is_a z.0 × is_b z.0 z.1

  abbrev pub both_print : A × B → List E
  both_print z = print_a z.0 ++ print_b z.0 z.1

  pub followed-reads : Reads r is_a print_a → ((a : A) → is_a a → Reads (s a) (is_b a) (print_b a)) → Reads (followed r s) both_ok both_print
  followed-reads first second = record { prints = prints; reads = reads } where
    prints : (n : ℕ) (z : A × B) (rest : List E) → both_ok z → followed r s (left_at n (both_print z ++ rest)) ≡ Ok (z, left_at (n + length (both_print z)) rest)
    prints n z rest ok =
        ap (λ l. followed r s (left_at n l)) (append_assoc (print_a z.0) (print_b z.0 z.1) rest)
        ∙ ap (go_on s) (first.prints n z.0 (print_b z.0 z.1 ++ rest) ok.0)
        ∙ ap (paired z.0) ((second z.0 ok.0).prints (n + length (print_a z.0)) z.1 rest ok.1)
        ∙ ap (λ m. Ok (z, left_at m rest)) (let l = length-append (print_a z.0) (print_b z.0 z.1) in omega (arith, l))

    reads : (at : Left E) (z : A × B) (left : Left E) → followed r s at ≡ Ok (z, left) → Took both_ok both_print at z left
    reads at z left e = go (r at) refl e where
      last : (a : A) (mid : Left E) → r at ≡ Ok (a, mid) → (two : Result (B × Left E) ℕ) → s a mid ≡ two → paired a two ≡ Ok (z, left) → Took both_ok both_print at z left
      last a mid is_one (Err k) is_two e = absurd (cc)
      last a mid is_one (Ok two) is_two e =
          let one = first.reads at a mid is_one in
          let two_took = (second a one.is_ok).reads mid two.0 two.1 is_two in
          let pair : ◌≡◌ {A = (A × B) × Left E} ((a, two.0), two.1) (z, left) = cc in
          let took : Took both_ok both_print at (a, two.0) two.1 = record {
            is_ok = (one.is_ok, two_took.is_ok);
            items = one.items ∙ ap (λ l. print_a a ++ l) two_took.items ∙ sym (append_assoc (print_a a) (print_b a two.0) two.1.items);
            number = (let l = length-append (print_a a) (print_b a two.0) in omega (arith, l, one.number, two_took.number));
          } in
          subst (λ (p : (A × B) × Left E). Took both_ok both_print at p.0 p.1) pair took

      go : (one : Result (A × Left E) ℕ) → r at ≡ one → go_on s one ≡ Ok (z, left) → Took both_ok both_print at z left
      go (Err k) is_one e = absurd (cc)
      go (Ok one) is_one e = last one.0 one.1 is_one (s one.0 one.1) refl e

  pub followed-refuses : Reads r is_a print_a → Refuses r is_a print_a → ((a : A) → is_a a → Reads (s a) (is_b a) (print_b a)) →
      ((a : A) → is_a a → Refuses (s a) (is_b a) (print_b a)) → ((a : A) → is_a a → (b : B) × is_b a b) → Refuses (followed r s) both_ok both_print
  followed-refuses first first_no second second_no some at k e = go (r at) refl e where
    in_first : StopsAt is_a print_a at k → r at ≡ Err k → StopsAt both_ok both_print at k
    in_first stop is_one =
        let a : A = stop.good.value in
        let more = some a stop.good.is_ok in
        record {
          before = stop.before;
          after = stop.after;
          split = stop.split;
          number = stop.number;
          good = record {
            value = (a, more.0);
            is_ok = (stop.good.is_ok, more.1);
            rest = stop.good.rest ++ print_b a more.0;
            is = ap (λ l. l ++ print_b a more.0) stop.good.is ∙ append_assoc stop.before stop.good.rest (print_b a more.0);
          };
          bad = λ next later is_after begins. bad next later is_after begins;
        } where
          bad : (next : E) (later : List E) → stop.after ≡ next ∷ later → Begins both_ok both_print (stop.before ++ next ∷ []) → ⊥
          bad next later is_after begins =
              let a : A = begins.value.0 in
              let front : List E = stop.before ++ next ∷ [] in
              let whole : at.items ≡ front ++ later = stop.split ∙ ap (λ l. stop.before ++ l) is_after ∙ sym (append_assoc stop.before (next ∷ []) later) in
              elim (fronts (print_a a) front (print_b a begins.value.1) begins.rest begins.is) [
                | inl found ↦ stop.bad next later is_after (record { value = a; is_ok = begins.is_ok.0; rest = found.0; is = found.1 })
                | inr found ↦
                    let items : at.items ≡ print_a a ++ (found.0 ++ later) = whole ∙ ap (λ l. l ++ later) found.1 ∙ append_assoc (print_a a) found.0 later in
                    let taken = first.prints at.number a (found.0 ++ later) begins.is_ok.0 in
                    err-no-ok (r at) k (a, left_at (at.number + length (print_a a)) (found.0 ++ later)) is_one (ap (λ l. r (left_at at.number l)) items ∙ taken)
              ]

    in_second : (a : A) (mid : Left E) → Took is_a print_a at a mid → StopsAt (is_b a) (print_b a) mid k → StopsAt both_ok both_print at k
    in_second a mid took stop =
        record {
          before = print_a a ++ stop.before;
          after = stop.after;
          split = took.items ∙ ap (λ l. print_a a ++ l) stop.split ∙ sym (append_assoc (print_a a) stop.before stop.after);
          number = (let l = length-append (print_a a) stop.before in omega (arith, l, took.number, stop.number));
          good = record {
            value = (a, stop.good.value);
            is_ok = (took.is_ok, stop.good.is_ok);
            rest = stop.good.rest;
            is = ap (λ l. print_a a ++ l) stop.good.is ∙ sym (append_assoc (print_a a) stop.before stop.good.rest);
          };
          bad = λ next later is_after begins. bad next later is_after begins;
        } where
          bad : (next : E) (later : List E) → stop.after ≡ next ∷ later → Begins both_ok both_print (print_a a ++ stop.before ++ next ∷ []) → ⊥
          bad next later is_after begins =
              let front : List E = stop.before ++ next ∷ [] in
              let is : print_a begins.value.0 ++ print_b begins.value.0 begins.value.1 ≡ print_a a ++ (front ++ begins.rest) =
              begins.is ∙ ap (λ l. l ++ begins.rest) (append_assoc (print_a a) stop.before (next ∷ [])) ∙ append_assoc (print_a a) front begins.rest in
              let same = one-value first begins.value.0 a (print_b begins.value.0 begins.value.1) (front ++ begins.rest) begins.is_ok.0 took.is_ok is in
              let there : Begins (is_b begins.value.0) (print_b begins.value.0) front = record { value = begins.value.1; is_ok = begins.is_ok.1; rest = begins.rest; is = ap (λ z. z.1) same } in
              stop.bad next later is_after (subst (λ (v : A). Begins (is_b v) (print_b v) front) (ap (λ z. z.0) same) there)

    last : (a : A) (mid : Left E) → Took is_a print_a at a mid → (two : Result (B × Left E) ℕ) → s a mid ≡ two → paired a two ≡ Err k → StopsAt both_ok both_print at k
    last a mid took (Ok two) is_two e = absurd (cc)
    last a mid took (Err j) is_two e =
        let same : j ≡ k = cc in
        in_second a mid took (second_no a took.is_ok mid k (is_two ∙ ap Err same))

    go : (one : Result (A × Left E) ℕ) → r at ≡ one → go_on s one ≡ Err k → StopsAt both_ok both_print at k
    go (Err j) is_one e =
        let same : j ≡ k = cc in
        in_first (first_no at k (is_one ∙ ap Err same)) (is_one ∙ ap Err same)
    go (Ok one) is_one e = last one.0 one.1 (first.reads at one.0 one.1 is_one) (s one.0 one.1) refl e

-- what is built from values: accepted ones of accepted ones, with the same printing, and each accepted one is built
-- from one
pub record Recasts {E A B : Type 0} (make : A → B) (is_a : A → Type 0) (is_b : B → Type 0) (print_a : A → List E) (print_b : B → List E) : Type 0 where
  pub made_ok : (a : A) → is_a a → is_b (make a)
  pub same : (a : A) → is_a a → print_b (make a) ≡ print_a a
  pub unmade : (b : B) → is_b b → (a : A) × is_a a × (make a ≡ b)

module _ {E A B : Type 0} {make : A → B} {is_a : A → Type 0} {is_b : B → Type 0} {print_a : A → List E} {print_b : B → List E} (cast : Recasts make is_a is_b print_a print_b) (r : Reader E A) where
  -- what is printed of a value is what is printed of that of which it is made
  unmade_print : (b : B) (ok : is_b b) → print_b b ≡ print_a (cast.unmade b ok).0
  unmade_print b ok =
      let from = cast.unmade b ok in
      ap print_b (sym from.2) ∙ cast.same from.0 from.1

  pub mapped-reads : Reads r is_a print_a → Reads (mapped make r) is_b print_b
  mapped-reads first = record { prints = prints; reads = reads } where
    prints : (n : ℕ) (b : B) (rest : List E) → is_b b → mapped make r (left_at n (print_b b ++ rest)) ≡ Ok (b, left_at (n + length (print_b b)) rest)
    prints n b rest ok =
        let from = cast.unmade b ok in
        let printed = unmade_print b ok in
        ap (λ l. mapped make r (left_at n (l ++ rest))) printed
        ∙ ap (made make) (first.prints n from.0 rest from.1)
        ∙ ap (λ v. Ok (v, left_at (n + length (print_a from.0)) rest)) from.2
        ∙ ap (λ l. Ok (b, left_at (n + length l) rest)) (sym printed)

    reads : (at : Left E) (b : B) (left : Left E) → mapped make r at ≡ Ok (b, left) → Took is_b print_b at b left
    reads at b left e = go (r at) refl e where
      go : (one : Result (A × Left E) ℕ) → r at ≡ one → made make one ≡ Ok (b, left) → Took is_b print_b at b left
      go (Err k) is_one e = absurd (cc)
      go (Ok one) is_one e =
          let took = first.reads at one.0 one.1 is_one in
          let pair : ◌≡◌ {A = B × Left E} (make one.0, one.1) (b, left) = cc in
          let same = cast.same one.0 took.is_ok in
          let here : Took is_b print_b at (make one.0) one.1 = record {
            is_ok = cast.made_ok one.0 took.is_ok;
            items = took.items ∙ ap (λ l. l ++ one.1.items) (sym same);
            number = took.number ∙ ap (λ l. at.number + length l) (sym same);
          } in
          subst (λ (p : B × Left E). Took is_b print_b at p.0 p.1) pair here

  pub mapped-refuses : Refuses r is_a print_a → Refuses (mapped make r) is_b print_b
  mapped-refuses refused at k e = go (r at) refl e where
    go : (one : Result (A × Left E) ℕ) → r at ≡ one → made make one ≡ Err k → StopsAt is_b print_b at k
    go (Ok one) is_one e = absurd (cc)
    go (Err j) is_one e =
        let same : j ≡ k = cc in
        let stop = refused at k (is_one ∙ ap Err same) in
        record {
          before = stop.before;
          after = stop.after;
          split = stop.split;
          number = stop.number;
          good = record {
            value = make stop.good.value;
            is_ok = cast.made_ok stop.good.value stop.good.is_ok;
            rest = stop.good.rest;
            is = cast.same stop.good.value stop.good.is_ok ∙ stop.good.is;
          };
          bad = λ next later is_after begins.
              let from = cast.unmade begins.value begins.is_ok in
              stop.bad next later is_after (record { value = from.0; is_ok = from.1; rest = begins.rest; is = sym (unmade_print begins.value begins.is_ok) ∙ begins.is });
        }
