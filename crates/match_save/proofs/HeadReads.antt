-- The first eight lines.
use Rattle.std.proofs.Common.{◌≡◌, ℕ, ◌≤◌, List, [], ◌∷◌, ◌++◌, map, refl, sym, arith, codes, decimal, true}
use Rattle.match_save.specs.Draft.{IsHead, most_counted}
use Rattle.match_save.specs.declared.head.Head.{Head}
use Rattle.match_save.specs.Text.{head_tokens, spaced}
use Rattle.match_save.specs.Inner.Reading.{HeadParts, counts_tokens, head_of, head_parts, line_of, number, read_head, sheet_tokens, size_tokens, word}
use Rattle.match_save.proofs.Readers.Composed.{Recasts}
use Rattle.match_save.proofs.Readers.Good.{Good, followed-good, lead-good, mapped-good}
use Rattle.match_save.proofs.Tokens.{IsBetween, has_no_space, line-good, number-good, plain-decimal, word-good}
use Rattle.std.proofs.lemmas.Slice.Eq.{bytes_eq-Decides}

-- a line of a word and a number
abbrev pub named_tokens : List ℕ → ℕ → List (List ℕ)
named_tokens text n = text ∷ decimal n ∷ []

pub named-good : (text : List ℕ) → has_no_space text ≡ true → (least most : ℕ) → most ≤ most_counted → least ≤ most → Good (line_of (word text (number least most))) (IsBetween least most) (λ n. spaced (named_tokens text n) ∷ [])
named-good text plain least most few some = line-good (word-good text (number-good least most few some)) (λ n ok. (plain, plain-decimal n (omega (arith, ok.1))))

abbrev pub IsSheet : ℕ × (ℕ × ℕ) → Type 0
IsSheet z = IsBetween 4 6 z.0 × (IsBetween 0 9 z.1.0 × IsBetween 0 255 z.1.1)

abbrev pub sheet_print : ℕ × (ℕ × ℕ) → List (List ℕ)
sheet_print z = codes "sheet" ∷ decimal z.0 ∷ decimal z.1.0 ∷ decimal z.1.1 ∷ []

sheet-good : Good (line_of sheet_tokens) IsSheet (λ z. spaced (sheet_print z) ∷ [])
sheet-good = line-good
    (word-good (codes "sheet") (followed-good (number-good 4 6 (omega arith) (omega arith)) (λ surround ok. followed-good (number-good 0 9 (omega arith) (omega arith)) (λ corpse ok'. number-good 0 255 (omega arith) (omega arith)))))
    (λ z ok. (refl, (plain-decimal z.0 (omega (arith, ok.0.1)), (plain-decimal z.1.0 (omega (arith, ok.1.0.1)), plain-decimal z.1.1 (omega (arith, ok.1.1.1))))))

abbrev pub IsCounts : ℕ × ℕ → Type 0
IsCounts z = IsBetween 0 most_counted z.0 × IsBetween 0 most_counted z.1

abbrev pub counts_print : ℕ × ℕ → List (List ℕ)
counts_print z = codes "taken" ∷ decimal z.0 ∷ codes "redone" ∷ decimal z.1 ∷ []

counts-good : Good (line_of counts_tokens) IsCounts (λ z. spaced (counts_print z) ∷ [])
counts-good = line-good
    (followed-good (word-good (codes "taken") (number-good 0 most_counted (omega arith) (omega arith))) (λ taken ok. word-good (codes "redone") (number-good 0 most_counted (omega arith) (omega arith))))
    (λ z ok. (refl, (plain-decimal z.0 (omega (arith, ok.0.1)), (refl, plain-decimal z.1 (omega (arith, ok.1.1))))))

abbrev pub IsSize : ℕ × ℕ → Type 0
IsSize z = IsBetween 3 512 z.0 × IsBetween 3 512 z.1

abbrev pub size_print : ℕ × ℕ → List (List ℕ)
size_print z = codes "size" ∷ decimal z.0 ∷ decimal z.1 ∷ []

size-good : Good (line_of size_tokens) IsSize (λ z. spaced (size_print z) ∷ [])
size-good = line-good
    (word-good (codes "size") (followed-good (number-good 3 512 (omega arith) (omega arith)) (λ width ok. number-good 3 512 (omega arith) (omega arith))))
    (λ z ok. (refl, (plain-decimal z.0 (omega (arith, ok.0.1)), plain-decimal z.1 (omega (arith, ok.1.1)))))

abbrev IsParts : HeadParts → Type 0
IsParts p = IsBetween 0 4294967295 p.0 × (IsSheet p.1.0 × (IsBetween 1 16384 p.1.1.0 × (IsBetween 0 1000000 p.1.1.1.0 × (IsBetween 0 most_counted p.1.1.1.1.0 × (IsCounts p.1.1.1.1.1.0 × IsSize p.1.1.1.1.1.1)))))

abbrev parts_print : HeadParts → List (List ℕ)
parts_print p =
    codes "ants save 1"
    ∷ ((spaced (named_tokens (codes "seed") p.0) ∷ [])
    ++ ((spaced (sheet_print p.1.0) ∷ [])
    ++ ((spaced (named_tokens (codes "window") p.1.1.0) ∷ [])
    ++ ((spaced (named_tokens (codes "round") p.1.1.1.0) ∷ [])
    ++ ((spaced (named_tokens (codes "place") p.1.1.1.1.0) ∷ [])
    ++ ((spaced (counts_print p.1.1.1.1.1.0) ∷ [])
    ++ (spaced (size_print p.1.1.1.1.1.1) ∷ [])))))))

parts-good : Good head_parts IsParts parts_print
parts-good =
    lead-good ((bytes_eq-Decides (codes "ants save 1") (codes "ants save 1")).1 refl) (λ line passed. sym ((bytes_eq-Decides (codes "ants save 1") line).0 passed))
    (followed-good (named-good (codes "seed") refl 0 4294967295 (omega arith) (omega arith))
    (λ seed ok. followed-good sheet-good
    (λ sheet ok. followed-good (named-good (codes "window") refl 1 16384 (omega arith) (omega arith))
    (λ window ok. followed-good (named-good (codes "round") refl 0 1000000 (omega arith) (omega arith))
    (λ round ok. followed-good (named-good (codes "place") refl 0 most_counted (omega arith) (omega arith))
    (λ place ok. followed-good counts-good
    (λ counts ok. size-good)))))))

abbrev pub head_print : Head → List (List ℕ)
head_print h = map spaced (head_tokens h)

head-casts : Recasts head_of IsParts IsHead parts_print head_print
head-casts = record {
  made_ok = λ p ok. record {
    seed = ok.0.1;
    few = ok.1.0.0.0;
    many = ok.1.0.0.1;
    corpse = ok.1.0.1.0.1;
    rest = ok.1.0.1.1.1;
    some = ok.1.1.0.0;
    window = ok.1.1.0.1;
    round = ok.1.1.1.0.1;
    place = ok.1.1.1.1.0.1;
    taken = ok.1.1.1.1.1.0.0.1;
    redone = ok.1.1.1.1.1.0.1.1;
    wide = ok.1.1.1.1.1.1.0.0;
    narrow = ok.1.1.1.1.1.1.0.1;
    tall = ok.1.1.1.1.1.1.1.0;
    low = ok.1.1.1.1.1.1.1.1;
  };
  same = λ p ok. refl;
  unmade = λ h ok. (
    (h.seed, ((h.surround, (h.corpse, h.rest)), (h.window, (h.round, (h.place, ((h.taken, h.redone), (h.width, h.height))))))),
    ((omega arith, ok.seed), (((ok.few, ok.many), ((omega arith, ok.corpse), (omega arith, ok.rest))), ((ok.some, ok.window), ((omega arith, ok.round), ((omega arith, ok.place), (((omega arith, ok.taken), (omega arith, ok.redone)), ((ok.wide, ok.narrow), (ok.tall, ok.low)))))))),
    refl,
  );
}

pub head-good : Good read_head IsHead head_print
head-good = mapped-good head-casts parts-good
