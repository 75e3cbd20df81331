-- Borders of pieces: how small they are, and in which order they stand.
use Rattle.std.proofs.Common.{◌≡◌, ℕ, ◌+◌, ◌*◌, ◌/◌, ◌%◌, ◌^◌, ◌<◌, ◌≤◌, ◌∙◌, ap, arith}
use Rattle.std.proofs.Math.Nat.{add-mul, div-le_of_le-mul, div-mul-le_self, le-div_iff_mul-le, lt_of_not-le, mod-lt, mul-div_cancel_left, mul-le-mul_right, one-mul, zero-div, zero-mul}
use Rattle.std.proofs.lemmas.Nat.{div-add-mod'}
use Rattle.work_share.specs.Borders.{border}
use Rattle.work_share.specs.Laws.{PiecesAreEven, PiecesAreTheRow}

-- the numerator of a border is small
pub border_small : (k n w : ℕ) → k ≤ w → w ≤ 16 → n < 2 ^ 32 → k * n < 2 ^ 64
border_small k n w le small few =
    let most : k * n ≤ 16 * n = mul-le-mul_right n (omega arith) in
    omega arith

-- a border lies within the row
pub border_within : (k n w : ℕ) → k ≤ w → k * n / w ≤ n
border_within k n w le = div-le_of_le-mul w (mul-le-mul_right n le)

-- borders rise
pub border_rises : (k n w : ℕ) → 0 < w → k * n / w ≤ (k + 1) * n / w
border_rises k n w some_workers =
    let front = div-mul-le_self (k * n) w in
    let more : k * n ≤ (k + 1) * n = mul-le-mul_right n (omega arith) in
    let both : k * n / w * w ≤ (k + 1) * n = omega arith in
    (le-div_iff_mul-le some_workers).1 both

-- the last border is the end
pub border_last : (n w : ℕ) → 0 < w → w * n / w ≡ n
border_last n w some_workers = mul-div_cancel_left n some_workers

pub pieces_are_the_row : PiecesAreTheRow
pieces_are_the_row workers n some = record {
  first = ap (λ m. m / workers) (zero-mul n) ∙ zero-div workers;
  rises = λ k. border_rises k n workers some;
  last = border_last n workers some;
}

pub pieces_are_even : PiecesAreEven
pieces_are_even workers n k some =
    let here = border workers n k in
    let each = n / workers in
    let next : (k + 1) * n ≡ k * n + n = add-mul k 1 n ∙ ap (λ m. k * n + m) (one-mul n) in
    let front : here * workers ≤ k * n = div-mul-le_self (k * n) workers in
    let part : each * workers ≤ n = div-mul-le_self n workers in
    let both : (here + each) * workers ≡ here * workers + each * workers = add-mul here each workers in
    let least : here + each ≤ border workers n (k + 1) = (le-div_iff_mul-le some).1 (omega arith) in
    let rest : here * workers + k * n % workers ≡ k * n = div-add-mod' (k * n) workers in
    let left : each * workers + n % workers ≡ n = div-add-mod' n workers in
    let small : k * n % workers < workers = mod-lt (k * n) some in
    let few : n % workers < workers = mod-lt n some in
    let more : (here + each + 2) * workers ≡ here * workers + each * workers + 2 * workers = add-mul (here + each) 2 workers ∙ ap (λ m. m + 2 * workers) both in
    let over : (k + 1) * n < (here + each + 2) * workers = omega arith in
    let most : border workers n (k + 1) < here + each + 2 = lt_of_not-le (λ le. absurd (let all : (here + each + 2) * workers ≤ (k + 1) * n = (le-div_iff_mul-le some).0 le in omega arith)) in
    record { least = omega arith; most = omega arith }
