-- What holds of readers of single elements.
use Rattle.std.proofs.Common.{◌≡◌, ℕ, zero, suc, ◌+◌, Bool, true, false, cond, List, [], ◌∷◌, ◌++◌, length, map, Option, Some, None, Result, Ok, Err, refl, sym, ◌∙◌, ap, subst, append-nil, arith}
use Rattle.std.specs.List.{AllByRecursion}
use Rattle.match_save.specs.Inner.Readers.{Left, Reader, taken, one_of, one, led, lead, nothing, with_first, many, followed, if_none_left, all_read, whole, Spells, Begins, Took, StopsAt, Reads, Refuses}
use Rattle.match_save.proofs.Readers.Composed.{Recasts, left_at, followed-reads, followed-refuses, mapped-reads, mapped-refuses}

module _ {E A : Type 0} {parse : E → Option A} {accepts : A → Type 0} {spell : A → E} (h : Spells parse accepts spell) where
  abbrev pub print_one : A → List E
  print_one a = spell a ∷ []

  pub one-reads : Reads (one parse) accepts print_one
  one-reads = record {
    prints = λ n a rest ok. ap (λ o. taken o n rest) (h.parses a ok);
    reads = λ at a left e. go at.number at.items a left e;
  } where
    last : (n : ℕ) (x : E) (rest : List E) (a : A) (left : Left E) (told : Option A) → parse x ≡ told → taken told n rest ≡ Ok (a, left) → Took accepts print_one (left_at n (x ∷ rest)) a left
    last n x rest a left None is e = absurd (cc)
    last n x rest a left (Some b) is e =
        let pair : ◌≡◌ {A = A × Left E} (b, left_at (n + 1) rest) (a, left) = cc in
        let took : Took accepts print_one (left_at n (x ∷ rest)) b (left_at (n + 1) rest) = record {
          is_ok = h.accepted x b is;
          items = ap (λ y. y ∷ rest) (h.spelled x b is);
          number = refl;
        } in
        subst (λ (p : A × Left E). Took accepts print_one (left_at n (x ∷ rest)) p.0 p.1) pair took

    go : (n : ℕ) (items : List E) (a : A) (left : Left E) → one_of parse n items ≡ Ok (a, left) → Took accepts print_one (left_at n items) a left
    go n [] a left e = absurd (cc)
    go n (x ∷ rest) a left e = last n x rest a left (parse x) refl e

  pub one-refuses : (some : A) → accepts some → Refuses (one parse) accepts print_one
  one-refuses some is_some at k e = go at.number at.items e where
    stops : (n : ℕ) (items : List E) → n ≡ k → ((next : E) (later : List E) → items ≡ next ∷ later → Begins accepts print_one (next ∷ []) → ⊥) → StopsAt accepts print_one (left_at n items) k
    stops n items same wrong = record {
      before = [];
      after = items;
      split = refl;
      number = omega (arith, same);
      good = record { value = some; is_ok = is_some; rest = spell some ∷ []; is = refl };
      bad = wrong;
    }

    last : (n : ℕ) (x : E) (rest : List E) (told : Option A) → parse x ≡ told → taken told n rest ≡ Err k → StopsAt accepts print_one (left_at n (x ∷ rest)) k
    last n x rest (Some b) is e = absurd (cc)
    last n x rest None is e = stops n (x ∷ rest) (let s : n ≡ k = cc in s) (λ next later is_next begins.
        let heads : x ≡ next = cc in
        let spelled : spell begins.value ≡ next = (let b = begins.is in let c : spell begins.value ∷ [] ≡ next ∷ begins.rest = b in cc) in
        let known : parse x ≡ Some begins.value = ap parse (heads ∙ sym spelled) ∙ h.parses begins.value begins.is_ok in
        absurd (cc))

    go : (n : ℕ) (items : List E) → one_of parse n items ≡ Err k → StopsAt accepts print_one (left_at n items) k
    go n [] e = stops n [] (let s : n ≡ k = cc in s) (λ next later is_next begins. absurd (cc))
    go n (x ∷ rest) e = last n x rest (parse x) refl e

  -- lists of this many accepted values
  pub record IsList (n : ℕ) (list : List A) : Type 0 where
    pub as_many : length list ≡ n
    pub each : AllByRecursion accepts list

  abbrev pub print_many : List A → List E
  print_many list = map spell list

module _ {E A : Type 0} (test : E → Bool) (word : E) (r : Reader E A) (accepts : A → Type 0) (print : A → List E) where
  abbrev pub print_led : A → List E
  print_led a = word ∷ print a

  pub lead-reads : test word ≡ true → ((x : E) → test x ≡ true → x ≡ word) → Reads r accepts print → Reads (lead test r) accepts print_led
  lead-reads passes only first = record {
    prints = λ n a rest ok.
        ap (λ b. cond b (r (left_at (n + 1) (print a ++ rest))) (Err n)) passes
        ∙ first.prints (n + 1) a rest ok
        ∙ ap (λ m. Ok (a, left_at m rest)) (let s : n + 1 + length (print a) ≡ n + suc (length (print a)) = omega arith in s);
    reads = λ at a left e. go at.number at.items a left e;
  } where
    last : (n : ℕ) (x : E) (rest : List E) (a : A) (left : Left E) (b : Bool) → test x ≡ b → cond b (r (left_at (n + 1) rest)) (Err n) ≡ Ok (a, left) → Took accepts print_led (left_at n (x ∷ rest)) a left
    last n x rest a left false is e = absurd (cc)
    last n x rest a left true is e =
        let took = first.reads (left_at (n + 1) rest) a left e in
        record {
          is_ok = took.is_ok;
          items = ap (λ y. y ∷ rest) (only x is) ∙ ap (λ l. word ∷ l) took.items;
          number = (let l = took.number in omega (arith, l));
        }

    go : (n : ℕ) (items : List E) (a : A) (left : Left E) → led test r n items ≡ Ok (a, left) → Took accepts print_led (left_at n items) a left
    go n [] a left e = absurd (cc)
    go n (x ∷ rest) a left e = last n x rest a left (test x) refl e

-- nothing is read of nothing
pub nothing-reads : {E A : Type 0} (x : A) (accepts : A → Type 0) (print : A → List E) → accepts x → print x ≡ [] → ((a : A) → accepts a → a ≡ x) → Reads (nothing x) accepts print
nothing-reads {E} {A} x accepts print is_ok none only = record {
  prints = λ n a rest ok. subst (λ (b : A). ◌≡◌ {A = Result (A × Left E) ℕ} (Ok (x, left_at n (print b ++ rest))) (Ok (b, left_at (n + length (print b)) rest))) (sym (only a ok)) (here n rest);
  reads = λ at a left e.
      let pair : ◌≡◌ {A = A × Left E} (x, at) (a, left) = cc in
      subst (λ (p : A × Left E). Took accepts print at p.0 p.1) pair (record { is_ok = is_ok; items = ap (λ l. l ++ at.items) (sym none); number = (let s : at.number ≡ at.number + 0 = omega arith in s) ∙ ap (λ l. at.number + length l) (sym none) });
} where
  here : (n : ℕ) (rest : List E) → ◌≡◌ {A = Result (A × Left E) ℕ} (Ok (x, left_at n (print x ++ rest))) (Ok (x, left_at (n + length (print x)) rest))
  here n rest =
      ap (λ l. Ok (x, left_at n (l ++ rest))) none
      ∙ ap (λ m. Ok (x, left_at m rest)) (let s : n ≡ n + 0 = omega arith in s)
      ∙ ap (λ l. Ok (x, left_at (n + length l) rest)) (sym none)

pub nothing-refuses : {E A : Type 0} (x : A) (accepts : A → Type 0) (print : A → List E) → Refuses (nothing x) accepts print
nothing-refuses x accepts print at k e = absurd (cc)

module _ {E A : Type 0} {parse : E → Option A} {accepts : A → Type 0} {spell : A → E} (h : Spells parse accepts spell) where
  -- a first value and a list of n others
  abbrev is_first : ℕ → A × List A → Type 0
  is_first n z = accepts z.0 × IsList h n z.1

  abbrev print_first : A × List A → List E
  print_first z = print_one h z.0 ++ print_many h z.1

  casts : (n : ℕ) → Recasts with_first (is_first n) (IsList h (suc n)) print_first (print_many h)
  casts n = record {
    made_ok = λ z ok. record { as_many = (let l = ok.1.as_many in omega (arith, l)); each = (ok.0, ok.1.each) };
    same = λ z ok. refl;
    unmade = unmade;
  } where
    unmade : (list : List A) → IsList h (suc n) list → (z : A × List A) × is_first n z × (with_first z ≡ list)
    unmade [] ok = absurd (let wrong : ⊥ = omega (arith, ok.as_many) in wrong)
    unmade (x ∷ list) ok = ((x, list), (ok.each.0, record { as_many = (let l = ok.as_many in omega (arith, l)); each = ok.each.1 }), refl)

  none_only : (list : List A) → IsList h 0 list → list ≡ []
  none_only [] ok = refl
  none_only (x ∷ list) ok = absurd (let wrong : ⊥ = omega (arith, ok.as_many) in wrong)

  -- this many elements are read as their values
  pub many-reads : (n : ℕ) → Reads (many parse n) (IsList h n) (print_many h)
  many-reads zero = nothing-reads [] (IsList h 0) (print_many h) (record { as_many = refl; each = tt }) refl none_only
  many-reads (suc n) = mapped-reads (casts n) (followed (one parse) (λ x. many parse n)) (followed-reads (one parse) (λ x. many parse n) accepts (λ x. IsList h n) (print_one h) (λ x. print_many h) (one-reads h) (λ x ok. many-reads n))

  module _ (some : A) (is_some : accepts some) where
    -- this many of one value
    pub copies : (n : ℕ) → (list : List A) × IsList h n list
    copies zero = ([], record { as_many = refl; each = tt })
    copies (suc n) = (some ∷ (copies n).0, record { as_many = (let l = (copies n).1.as_many in omega (arith, l)); each = (is_some, (copies n).1.each) })

    pub many-refuses : (n : ℕ) → Refuses (many parse n) (IsList h n) (print_many h)
    many-refuses zero = nothing-refuses [] (IsList h 0) (print_many h)
    many-refuses (suc n) = mapped-refuses (casts n) (followed (one parse) (λ x. many parse n))
        (followed-refuses (one parse) (λ x. many parse n) accepts (λ x. IsList h n) (print_one h) (λ x. print_many h)
        (one-reads h) (one-refuses h some is_some) (λ x ok. many-reads n) (λ x ok. many-refuses n) (λ x ok. copies n))

-- of one element that is spelled, the whole is read
pub whole-spells : {E A : Type 0} {r : Reader E A} {accepts : A → Type 0} {print : A → List E} → Reads r accepts print → Spells (whole r) accepts print
whole-spells {E} {A} {r} {accepts} {print} h = record {
  parses = λ a ok. ap (λ l. whole r l) (sym (append-nil (print a))) ∙ ap all_read (h.prints 0 a [] ok);
  accepted = λ items a e. (read items a e).0;
  spelled = λ items a e. (read items a e).1;
} where
  read : (items : List E) (a : A) → whole r items ≡ Some a → accepts a × (items ≡ print a)
  read items a e = go (r (left_at 0 items)) refl e where
    last : (b : A) (left : List E) (m : ℕ) → Took accepts print (left_at 0 items) b (left_at m left) → if_none_left b left ≡ Some a → accepts a × (items ≡ print a)
    last b (next ∷ later) m took e = absurd (cc)
    last b [] m took e =
        let same : b ≡ a = cc in
        subst (λ (v : A). accepts v × (items ≡ print v)) same (took.is_ok, took.items ∙ append-nil (print b))

    go : (got : Result (A × Left E) ℕ) → r (left_at 0 items) ≡ got → all_read got ≡ Some a → accepts a × (items ≡ print a)
    go (Err k) is_got e = absurd (cc)
    go (Ok got) is_got e = last got.0 got.1.items got.1.number (h.reads (left_at 0 items) got.0 got.1 is_got) e
