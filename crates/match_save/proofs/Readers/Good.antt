-- Readers that take what is printed, refuse if no printing continues, and have something to take.
use Rattle.std.proofs.Common.{◌≡◌, ℕ, ◌+◌, Bool, true, false, cond, List, [], ◌∷◌, ◌++◌, map, Option, Result, Ok, Err, refl, sym, ◌∙◌, ap, arith}
use Rattle.match_save.specs.Inner.Readers.{Left, Reader, made, one, led, lead, many, followed, mapped, Spells, StopsAt, Reads, Refuses}
use Rattle.match_save.proofs.Readers.Composed.{Recasts, left_at, followed-reads, followed-refuses, mapped-reads, mapped-refuses}
use Rattle.match_save.proofs.Readers.Elements.{IsList, copies, one-reads, one-refuses, many-reads, many-refuses, lead-reads}

pub record Good {E A : Type 0} (read : Reader E A) (accepts : A → Type 0) (print : A → List E) : Type 0 where
  pub reads : Reads read accepts print
  pub refuses : Refuses read accepts print
  pub some : A
  pub is_some : accepts some

pub followed-good : {E A B : Type 0} {r : Reader E A} {s : A → Reader E B} {is_a : A → Type 0} {is_b : A → B → Type 0} {print_a : A → List E} {print_b : A → B → List E}
    → Good r is_a print_a → ((a : A) → is_a a → Good (s a) (is_b a) (print_b a)) → Good (followed r s) (λ (z : A × B). is_a z.0 × is_b z.0 z.1) (λ (z : A × B). print_a z.0 ++ print_b z.0 z.1)
followed-good {E} {A} {B} {r} {s} {is_a} {is_b} {print_a} {print_b} first second = record {
  reads = followed-reads r s is_a is_b print_a print_b first.reads (λ a ok. (second a ok).reads);
  refuses = followed-refuses r s is_a is_b print_a print_b first.reads first.refuses (λ a ok. (second a ok).reads) (λ a ok. (second a ok).refuses) (λ a ok. ((second a ok).some, (second a ok).is_some));
  some = (first.some, (second first.some first.is_some).some);
  is_some = (first.is_some, (second first.some first.is_some).is_some);
}

pub mapped-good : {E A B : Type 0} {make : A → B} {is_a : A → Type 0} {is_b : B → Type 0} {print_a : A → List E} {print_b : B → List E} {r : Reader E A}
    → Recasts make is_a is_b print_a print_b → Good r is_a print_a → Good (mapped make r) is_b print_b
mapped-good {E} {A} {B} {make} {is_a} {is_b} {print_a} {print_b} {r} cast first = record {
  reads = mapped-reads cast r first.reads;
  refuses = mapped-refuses cast r first.refuses;
  some = make first.some;
  is_some = cast.made_ok first.some first.is_some;
}

pub one-good : {E A : Type 0} {parse : E → Option A} {accepts : A → Type 0} {spell : A → E} → Spells parse accepts spell → (a : A) → accepts a → Good (one parse) accepts (λ (v : A). spell v ∷ [])
one-good h a ok = record { reads = one-reads h; refuses = one-refuses h a ok; some = a; is_some = ok }

pub many-good : {E A : Type 0} {parse : E → Option A} {accepts : A → Type 0} {spell : A → E} → (h : Spells parse accepts spell) → (a : A) → accepts a → (n : ℕ) → Good (many parse n) (IsList h n) (map spell)
many-good h a ok n = record { reads = many-reads h n; refuses = many-refuses h a ok n; some = (copies h a ok n).0; is_some = (copies h a ok n).1 }

pub lead-refuses : {E A : Type 0} (test : E → Bool) (word : E) (r : Reader E A) (accepts : A → Type 0) (print : A → List E) → test word ≡ true → ((x : E) → test x ≡ true → x ≡ word) →
    Good r accepts print → Refuses (lead test r) accepts (λ (a : A). word ∷ print a)
lead-refuses {E} {A} test word r accepts print passes only first at k e = go at.number at.items e where
  printed : A → List E
  printed a = word ∷ print a

  starts : (n : ℕ) (items : List E) → n ≡ k → ((next : E) (later : List E) → items ≡ next ∷ later → test next ≡ false) → StopsAt accepts (λ (a : A). word ∷ print a) (left_at n items) k
  starts n items same wrong = record {
    before = [];
    after = items;
    split = refl;
    number = omega (arith, same);
    good = record { value = first.some; is_ok = first.is_some; rest = word ∷ print first.some; is = refl };
    bad = λ next later is_next begins.
        let b = begins.is in
        let heads : word ≡ next = cc in
        let fails = wrong next later is_next in
        let passed : test next ≡ true = ap test (sym heads) ∙ passes in
        absurd (cc);
  }

  last : (n : ℕ) (x : E) (rest : List E) (b : Bool) → test x ≡ b → cond b (r (left_at (n + 1) rest)) (Err n) ≡ Err k → StopsAt accepts (λ (a : A). word ∷ print a) (left_at n (x ∷ rest)) k
  last n x rest false is e = starts n (x ∷ rest) (let s : n ≡ k = cc in s) (λ next later is_next. ap test (let h : next ≡ x = cc in h) ∙ is)
  last n x rest true is e =
      let stop = first.refuses (left_at (n + 1) rest) k e in
      record {
        before = word ∷ stop.before;
        after = stop.after;
        split = ap (λ y. y ∷ rest) (only x is) ∙ ap (λ l. word ∷ l) stop.split;
        number = (let l = stop.number in omega (arith, l));
        good = record { value = stop.good.value; is_ok = stop.good.is_ok; rest = stop.good.rest; is = ap (λ l. word ∷ l) stop.good.is };
        bad = λ next later is_next begins. stop.bad next later is_next (record {
          value = begins.value;
          is_ok = begins.is_ok;
          rest = begins.rest;
          is = (let b = begins.is in let c : print begins.value ≡ (stop.before ++ next ∷ []) ++ begins.rest = cc in c);
        });
      }

  go : (n : ℕ) (items : List E) → led test r n items ≡ Err k → StopsAt accepts (λ (a : A). word ∷ print a) (left_at n items) k
  go n [] e = starts n [] (let s : n ≡ k = cc in s) (λ next later is_next. absurd (cc))
  go n (x ∷ rest) e = last n x rest (test x) refl e

pub lead-good : {E A : Type 0} {test : E → Bool} {word : E} {r : Reader E A} {accepts : A → Type 0} {print : A → List E} → test word ≡ true → ((x : E) → test x ≡ true → x ≡ word) →
    Good r accepts print → Good (lead test r) accepts (λ (a : A). word ∷ print a)
lead-good {E} {A} {test} {word} {r} {accepts} {print} passes only first = record {
  reads = lead-reads test word r accepts print passes only first.reads;
  refuses = lead-refuses test word r accepts print passes only first;
  some = first.some;
  is_some = first.is_some;
}

made-same : {E A : Type 0} (told : Result (A × Left E) ℕ) → told ≡ made (λ (a : A). a) told
made-same (Ok read) = refl
made-same (Err number) = refl

-- a reader of some values, said of others that are the same and are printed the same
pub recast-good : {E A : Type 0} {is_a is_b : A → Type 0} {print_a print_b : A → List E} {r : Reader E A}
    → Recasts (λ (a : A). a) is_a is_b print_a print_b → Good r is_a print_a → Good r is_b print_b
recast-good {E} {A} {is_a} {is_b} {print_a} {print_b} {r} cast first =
    let other = mapped-good {make = λ (a : A). a} cast first in
    record {
      reads = record {
        prints = λ n a rest ok. made-same (r (left_at n (print_b a ++ rest))) ∙ other.reads.prints n a rest ok;
        reads = λ at a left e. other.reads.reads at a left (sym (made-same (r at)) ∙ e);
      };
      refuses = λ at k e. other.refuses at k (sym (made-same (r at)) ∙ e);
      some = first.some;
      is_some = cast.made_ok first.some first.is_some;
    }
