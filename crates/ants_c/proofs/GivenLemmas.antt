-- The words and the files of a call, one after another.
use Rattle.std.proofs.Common.{◌≡◌, ◌∙◌, ◌≤◌, ◌⊎◌, inr, ℕ, false, List, [], ◌∷◌, ◌++◌, ◌==◌, length, drop, map, refl, ap, sym, subst, arith}
use Rattle.std.specs.List.{AllByRecursion, sum}
use Rattle.std.specs.Prelude.{IfSome, Option, Some, String, Vec, string_bytes}
use Rattle.std.specs.Str.{IsUtf8}
use Rattle.std.proofs.lemmas.Bool.{false≢true}
use Rattle.std.proofs.lemmas.List.{length-drop}
use Rattle.std.proofs.lemmas.Str.{IsUtf8-string_bytes}
use Rattle.ant_base.proofs.Linewise.{lines_of-first}
use Rattle.ant_base.specs.Lines.{lines_of}
use Rattle.ants_c.specs.Called.{AreFiles, CanBeRead}

-- words are UTF-8
words_are : {Z : Type 0} (words : List (String Z)) → AllByRecursion IsUtf8 (map string_bytes words)
words_are [] = tt
words_are (word ∷ words) = (IsUtf8-string_bytes word, words_are words)

-- a property of an optional value, if the value is there
some_at : {X : Type 0} (P : X → Type 0) (found : Option X) (x : X) → found ≡ Some x → IfSome found P → P x
some_at {X} P found x is holds = subst (λ (it : Option X). IfSome it P) is holds

-- if words and files were made of what was given, it can be read
pub is_read : {Z A : Type 0} (spoken : Option (Vec (String Z) A)) (words : Vec (String Z) A) (text names sizes bytes : List ℕ) (status : ℕ)
    → spoken ≡ Some words → IfSome spoken (λ words. map string_bytes words.items ≡ lines_of text) → AreFiles (lines_of names) sizes bytes
    → (status ≡ 1) ⊎ ((status ≡ 6) ⊎ CanBeRead text names sizes bytes)
is_read {Z} {A} spoken words text names sizes bytes status at same are =
    let lines = some_at (λ (it : Vec (String Z) A). map string_bytes it.items ≡ lines_of text) spoken words at same in
    inr (inr (record { spoken = subst (AllByRecursion IsUtf8) lines (words_are words.items); files = are }))

-- the words that were made are the lines
pub spoken_are : {Z A : Type 0} (spoken : Option (Vec (String Z) A)) (words : Vec (String Z) A) (list : List (String Z)) (text : List ℕ)
    → spoken ≡ Some words → IfSome spoken (λ words. map string_bytes words.items ≡ lines_of text) → list ≡ words.items → map string_bytes list ≡ lines_of text
spoken_are {Z} {A} spoken words list text at same is = ap (map string_bytes) is ∙ some_at (λ (it : Vec (String Z) A). map string_bytes it.items ≡ lines_of text) spoken words at same

-- if one of some lines is not UTF-8, not all of them are UTF-8
pub not_all : (front rest : List (List ℕ)) (line : List ℕ) → (IsUtf8 line → ⊥) → AllByRecursion IsUtf8 (front ++ (line ∷ rest)) → ⊥
not_all [] rest line not_one all = not_one all.0
not_all (first ∷ front) rest line not_one all = not_all front rest line not_one all.1

-- if no size is left, no name and no byte is
nothing : (sizes : List ℕ) → length sizes ≡ 0 → sum sizes ≡ 0
nothing [] none = refl
nothing (size ∷ sizes) none = absurd (omega (arith, none))

no_text : (text : List ℕ) → length (lines_of text) ≡ 0 → length text ≡ 0
no_text [] none = refl
no_text (byte ∷ text) none = let some = ap length (lines_of-first (byte ∷ text) (omega arith)) in absurd (omega (arith, none, some))

pub none_left : (text bytes sizes : List ℕ) (i : ℕ) → length sizes ≤ i → AreFiles (lines_of text) (drop i sizes) bytes → (length text ≡ 0) × (length bytes ≡ 0)
none_left text bytes sizes i all are =
    let left = length-drop i sizes in let none : length (drop i sizes) ≡ 0 = omega (arith, left, all) in
    let sized = are.sized in let whole = are.whole in let total = nothing (drop i sizes) none in
    (no_text text (omega (arith, none, sized)), omega (arith, whole, total))

-- if a test says that a length isn't zero, it isn't
pub some_left : (n : ℕ) → (n == 0) ≡ false → n ≡ 0 → ⊥
some_left n some none = false≢true (sym (subst (λ (m : ℕ). (m == 0) ≡ false) none some))
