-- Texts in numbered parts.
use Rattle.std.proofs.Common.{◌≡◌, ℕ, zero, suc, ◌+◌, ◌-◌, ◌<◌, ◌≤◌, List, [], ◌∷◌, ◌++◌, length, take, get_or, refl, sym, ◌∙◌, ap, append_assoc, append-nil, add-one, take_all, arith}
use Rattle.std.proofs.lemmas.List.{take_more, flat_map_more}
use Rattle.std.specs.List.{flat_map}
use Rattle.ant_base.specs.Layout.{numbered}

-- no parts have no text
pub numbered-none : (f : ℕ → List ℕ) → numbered f 0 ≡ []
unfolding numbered
numbered-none f = refl

-- one part more comes last
pub numbered-more : (f : ℕ → List ℕ) (n : ℕ) → numbered f (n + 1) ≡ numbered f n ++ f n
unfolding numbered
numbered-more f n = rw add-one refl

-- the k parts from number n on
parts_from : (ℕ → List ℕ) → ℕ → ℕ → List ℕ
parts_from f n zero = []
parts_from f n (suc k) = parts_from f n k ++ f (n + k)

numbered-add : (f : ℕ → List ℕ) (n k : ℕ) → numbered f (n + k) ≡ numbered f n ++ parts_from f n k
unfolding parts_from
numbered-add f n zero = ap (numbered f) (omega arith) ∙ sym (append-nil (numbered f n))
numbered-add f n (suc k) =
    let at : n + suc k ≡ (n + k) + 1 = omega arith in
    ap (numbered f) at ∙ numbered-more f (n + k) ∙ ap (λ t. t ++ f (n + k)) (numbered-add f n k) ∙ append_assoc (numbered f n) (parts_from f n k) (f (n + k))

-- the first parts are a prefix of all
pub numbered-front : (f : ℕ → List ℕ) (i n : ℕ) → i ≤ n → (rest : List ℕ) × (numbered f n ≡ numbered f i ++ rest)
numbered-front f i n le =
    let at : n ≡ i + (n - i) = omega arith in
    (parts_from f i (n - i), ap (numbered f) at ∙ numbered-add f i (n - i))

-- parts that are the same one by one are the same text
pub numbered-same : (f g : ℕ → List ℕ) (n : ℕ) → ((i : ℕ) → i < n → f i ≡ g i) → numbered f n ≡ numbered g n
unfolding numbered
numbered-same f g zero same = refl
numbered-same f g (suc n) same =
    ap (λ t. t ++ f n) (numbered-same f g n (λ i lt. same i (omega arith))) ∙ ap (λ t. numbered g n ++ t) (same n (omega arith))

numbered-take : {X : Type 0} (f : X → List ℕ) (xs : List X) (d : X) (n : ℕ) → n ≤ length xs → numbered (λ i. f (get_or xs i d)) n ≡ flat_map f (take n xs)
unfolding numbered
numbered-take f xs d zero le = refl
numbered-take f xs d (suc n) le =
    let front = numbered-take f xs d n (omega arith) in
    let more = flat_map_more f [] (take n xs) (get_or xs n d) in
    let next : take (suc n) xs ≡ take n xs ++ get_or xs n d ∷ [] = rw (← add-one) (take_more xs n d (omega arith)) in
    ap (λ t. t ++ f (get_or xs n d)) front ∙ more ∙ ap (flat_map f) (sym next)

-- the parts of a list's elements, in their order
pub numbered-list : {X : Type 0} (f : X → List ℕ) (xs : List X) (d : X) → numbered (λ i. f (get_or xs i d)) (length xs) ≡ flat_map f xs
numbered-list f xs d = numbered-take f xs d (length xs) (omega arith) ∙ ap (flat_map f) (take_all (length xs) xs (omega arith))
