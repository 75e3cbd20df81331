-- Texts in parts (this project's own).
use Rattle.std.specs.Prelude.{ℕ, zero, suc, List, [], ◌++◌, Option, Some, None}

infixr 65 ◌+++◌
-- one text and then another; the operator groups to the right
abbrev pub ◌+++◌ : List ℕ → List ℕ → List ℕ
a +++ b = a ++ b

-- the texts f 0 to f (n - 1), one after another
unfoldable pub numbered : (ℕ → List ℕ) → ℕ → List ℕ
numbered f zero = []
numbered f (suc n) = numbered f n ++ f n

-- the text of a part that may be left out
abbrev pub text_of_option : {A : Type 0} → (A → List ℕ) → Option A → List ℕ
text_of_option f None = []
text_of_option f (Some x) = f x
