-- Steps of 32 bits follow the unbounded stream, and a jump of twice the places is two jumps.
use Rattle.std.proofs.Common.{◌≡◌, ℕ, zero, suc, ◌+◌, ◌*◌, ◌/◌, ◌%◌, ◌^◌, bit_and, refl, sym, ap, ◌∙◌, arith, add-suc, suc-add, add-one}
use Rattle.std.proofs.Math.Nat.{mod-add-mod, add-mod-mod, mod-mod_of_dvd}
use Rattle.std.proofs.lemmas.Nat.{mul-mod_first, mul-mod_second, and_mask, field_of}
use Rattle.std.proofs.lemmas.Nat.Gcd.{dvd_of_mod-eq-zero}
use Rattle.std.specs.Fn.{iterate}
use Rattle.ant_random.specs.Stream.{state_at, random_at}
use Rattle.ant_random.specs.Inner.Jump.{next_state, landed}
use Rattle.ant_random.specs.declared.jump.Jump.{Jump}

-- a wrapped product and a wrapped sum are wrapped once
wrapped : (a b c : ℕ) → (a * b % 2 ^ 32 + c) % 2 ^ 32 ≡ (a * b + c) % 2 ^ 32
wrapped a b c = mod-add-mod (a * b) (2 ^ 32) c

-- 32 bits of a factor give 32 bits of a step
step_of_low : (a b c : ℕ) → (a % 2 ^ 32 * b + c) % 2 ^ 32 ≡ (a * b + c) % 2 ^ 32
step_of_low a b c =
    sym (wrapped (a % 2 ^ 32) b c) ∙ ap (λ (n : ℕ). (n + c) % 2 ^ 32) (mul-mod_first a b (2 ^ 32)) ∙ wrapped a b c

-- the code's step is the step
pub stepped_is : (s : ℕ) → (s * 22695477 % 2 ^ 32 + 1) % 2 ^ 32 ≡ next_state s
unfolding next_state
stepped_is s = wrapped s 22695477 1

-- the code's landing is the landing
pub landed_is : (jump : Jump) (s : ℕ) → (s * jump.times % 2 ^ 32 + jump.plus) % 2 ^ 32 ≡ landed jump s
unfolding landed
landed_is jump s = wrapped s jump.times jump.plus

-- the jump of one place is one step
pub landed_one : (s : ℕ) → landed (record { times = 22695477; plus = 1 }) s ≡ next_state s
unfolding landed next_state
landed_one s = refl

-- the jump made of a jump lands where two of it do
pub landed_twice : (t p s : ℕ)
    → landed (record { times = t * t % 2 ^ 32; plus = (p * t % 2 ^ 32 + p) % 2 ^ 32 }) s ≡ landed (record { times = t; plus = p }) (landed (record { times = t; plus = p }) s)
unfolding landed
landed_twice t p s =
    let M = 2 ^ 32 in
    let once : (s * (t * t % M) + (p * t % M + p) % M) % M ≡ (s * (t * t) + (p * t + p)) % M =
    ap (λ (n : ℕ). (s * (t * t % M) + n) % M) (wrapped p t p) ∙ add-mod-mod (s * (t * t % M)) (p * t + p) M
    ∙ sym (wrapped s (t * t % M) (p * t + p)) ∙ ap (λ (n : ℕ). (n + (p * t + p)) % M) (mul-mod_second s (t * t) M) ∙ wrapped s (t * t) (p * t + p) in
    let same : s * (t * t) + (p * t + p) ≡ (s * t + p) * t + p = omega arith in
    once ∙ ap (λ (n : ℕ). n % M) same ∙ sym (step_of_low (s * t + p) t p)

-- 32 bits of a state give 32 bits of the next
pub next_state-low : (seed i : ℕ) → next_state (state_at seed i % 2 ^ 32) ≡ state_at seed (i + 1) % 2 ^ 32
unfolding next_state state_at
next_state-low seed i = rw (add-one i) (step_of_low (state_at seed i) 22695477 1)

-- this many steps from a state lead to the state this many places on
pub iterate-next_state : (seed i n : ℕ) → iterate next_state n (state_at seed i % 2 ^ 32) ≡ state_at seed (i + n) % 2 ^ 32
iterate-next_state seed i zero = let e : i + 0 ≡ i = omega arith in ap (λ (k : ℕ). state_at seed k % 2 ^ 32) (sym e)
iterate-next_state seed i (suc n) =
    let e : i + 1 + n ≡ i + suc n = omega arith in
    ap (iterate next_state n) (next_state-low seed i) ∙ iterate-next_state seed (i + 1) n ∙ ap (λ (k : ℕ). state_at seed k % 2 ^ 32) e

-- steps that agree lead to the same state
pub iterate_same : (f g : ℕ → ℕ) → ((s : ℕ) → f s ≡ g s) → (n s : ℕ) → iterate f n s ≡ iterate g n s
iterate_same f g same zero s = refl
iterate_same f g same (suc n) s = ap (iterate f n) (same s) ∙ iterate_same f g same n (g s)

-- half as many double steps lead as far
pub iterate_double : (f g : ℕ → ℕ) → ((s : ℕ) → g s ≡ f (f s)) → (n s : ℕ) → iterate g n s ≡ iterate f (n + n) s
iterate_double f g double zero s = refl
iterate_double f g double (suc n) s =
    let two_more : suc n + suc n ≡ suc (suc (n + n)) = rw (suc-add n (suc n), add-suc n n) refl in
    ap (iterate g n) (double s) ∙ iterate_double f g double n (f (f s)) ∙ ap (λ (k : ℕ). iterate f k s) (sym two_more)

-- at an even number of steps to go, half as many double steps lead to the same end
pub iterate_even : (f g : ℕ → ℕ) → ((s : ℕ) → g s ≡ f (f s)) → (n s t end : ℕ) → ¬ (n % 2 ≡ 1) → t ≡ s → iterate f n s ≡ end → iterate g (n / 2) t ≡ end
iterate_even f g double n s t end even stays leads =
    let halves : n / 2 + n / 2 ≡ n = omega arith in
    ap (iterate g (n / 2)) stays ∙ iterate_double f g double (n / 2) s ∙ ap (λ (k : ℕ). iterate f k s) halves ∙ leads

-- at an odd number, one step and half as many double steps do
pub iterate_odd : (f g : ℕ → ℕ) → ((s : ℕ) → g s ≡ f (f s)) → (n s t end : ℕ) → n % 2 ≡ 1 → t ≡ f s → iterate f n s ≡ end → iterate g (n / 2) t ≡ end
iterate_odd f g double n s t end odd moves leads =
    let halves : suc (n / 2 + n / 2) ≡ n = omega (arith, add-one (n / 2 + n / 2)) in
    ap (iterate g (n / 2)) moves ∙ iterate_double f g double (n / 2) (f s) ∙ ap (λ (k : ℕ). iterate f k s) halves ∙ leads

-- the number that is read off 32 bits of the state four places on
pub read_off : (seed place ahead : ℕ) → ahead ≡ state_at seed (place + 4) % 2 ^ 32 → bit_and (ahead / 65536) 16383 ≡ random_at seed place
unfolding random_at
read_off seed place ahead is =
    let s = state_at seed (place + 4) in
    and_mask (ahead / 65536) 14 ∙ ap (λ (n : ℕ). n / 65536 % 16384) is ∙ ap (λ (n : ℕ). n % 16384) (field_of s 16 16)
    ∙ mod-mod_of_dvd 16384 (s / 65536) (dvd_of_mod-eq-zero 16384 {n = 65536} refl)
