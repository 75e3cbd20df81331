-- What holds of each element of a list.
use Rattle.std.proofs.Common.{zero, suc, List, [], ◌∷◌, ◌++◌, subst, arith}
use Rattle.std.specs.List.{AllByRecursion, Contains}
use Rattle.list_lemmas.proofs.Elements.{Contains-first, Contains-later}

-- of a list with one more element at its end
pub AllByRecursion-push : {X : Type 0} (P : X → Type 0) (xs : List X) (y : X) → AllByRecursion P xs → P y → AllByRecursion P (xs ++ y ∷ [])
AllByRecursion-push P [] y all here = (here, tt)
AllByRecursion-push P (x ∷ xs) y all here = (all.0, AllByRecursion-push P xs y all.1 here)

-- of one list after another
pub AllByRecursion-append : {X : Type 0} (P : X → Type 0) (xs ys : List X) → AllByRecursion P xs → AllByRecursion P ys → AllByRecursion P (xs ++ ys)
AllByRecursion-append P [] ys all more = more
AllByRecursion-append P (x ∷ xs) ys all more = (all.0, AllByRecursion-append P xs ys all.1 more)

-- the converse, for the first list and for the second
pub AllByRecursion-append_first : {X : Type 0} (P : X → Type 0) (xs ys : List X) → AllByRecursion P (xs ++ ys) → AllByRecursion P xs
AllByRecursion-append_first P [] ys all = tt
AllByRecursion-append_first P (x ∷ xs) ys all = (all.0, AllByRecursion-append_first P xs ys all.1)

pub AllByRecursion-append_second : {X : Type 0} (P : X → Type 0) (xs ys : List X) → AllByRecursion P (xs ++ ys) → AllByRecursion P ys
AllByRecursion-append_second P [] ys all = all
AllByRecursion-append_second P (x ∷ xs) ys all = AllByRecursion-append_second P xs ys all.1

-- what follows from it also holds of each element
pub AllByRecursion-weaker : {X : Type 0} (P Q : X → Type 0) (xs : List X) → AllByRecursion P xs → ((x : X) → P x → Q x) → AllByRecursion Q xs
AllByRecursion-weaker P Q [] all weaker = tt
AllByRecursion-weaker P Q (x ∷ xs) all weaker = (weaker x all.0, AllByRecursion-weaker P Q xs all.1 weaker)

-- what holds of all that a list contains holds of each element
pub AllByRecursion-each : {X : Type 0} (P : X → Type 0) (xs : List X) → ((x : X) → Contains xs x → P x) → AllByRecursion P xs
AllByRecursion-each P [] each = tt
AllByRecursion-each P (x ∷ xs) each = (each x (Contains-first x xs), AllByRecursion-each P xs (λ y later. each y (Contains-later x y xs later)))

-- the converse
pub AllByRecursion-at : {X : Type 0} (P : X → Type 0) (xs : List X) (x : X) → AllByRecursion P xs → Contains xs x → P x
AllByRecursion-at P [] x all (k, within, is) = absurd (omega arith)
AllByRecursion-at P (y ∷ xs) x all (zero, within, is) = subst P is all.0
AllByRecursion-at P (y ∷ xs) x all (suc k, within, is) = AllByRecursion-at P xs x all.1 (k, omega arith, is)
