-- Each law of pieces, used at one worker and at three: a weaker law would not do.
use Rattle.std.proofs.Common.{◌≡◌, ℕ, ◌+◌, ◌-◌, ◌*◌, ◌/◌, ◌≤◌, arith}
use Rattle.work_share.specs.Laws.{PiecesAreEven, PiecesAreTheRow}

-- n things: one worker has them all, and of three the pieces begin at 0 and end at n
pub pieces_are_the_row_used : PiecesAreTheRow → (n : ℕ) →
    (1 * n / 1 ≡ n) × (0 * n / 3 ≡ 0) × ((k : ℕ) → k * n / 3 ≤ (k + 1) * n / 3) × (3 * n / 3 ≡ n)
pieces_are_the_row_used law n =
    let lone = law 1 n (omega arith) in
    let three = law 3 n (omega arith) in
    (lone.last, three.first, three.rises, three.last)

-- seven things: each piece of three has two or three, and that of one worker all
pub pieces_are_even_used : PiecesAreEven → (k : ℕ) →
    (2 ≤ (k + 1) * 7 / 3 - k * 7 / 3) × ((k + 1) * 7 / 3 - k * 7 / 3 ≤ 3) × (7 ≤ (k + 1) * 7 / 1 - k * 7 / 1)
pieces_are_even_used law k =
    let three = law 3 7 k (omega arith) in
    (three.least, three.most, (law 1 7 k (omega arith)).least)
