use Rattle.std.proofs.Common.{◌≡◌, ℕ, ◌+◌, ◌<◌, ◌≤◌, ◌*◌, ◌/◌, ◌^◌, Fits, w64, length, take, sym, ap, ◌∙◌, arith}
use Rattle.std.proofs.Math.Nat.{le_antisymm}
use Rattle.std.proofs.Math.Seq.{take-length}
use Rattle.work_share.proofs.BordersLemmas.{border_rises, border_last}
use Rattle.tournament.proofs.PiecesLemmas.{dealt_more}
use Rattle.tournament.proofs.pieces.deal.Goals as goal

-- numbers that fit, and the order of two borders
few_games : (n : ℕ) → n < 2 ^ 30 → n < 2 ^ 32
few_games n few = omega arith

next_fits : (k w : ℕ) → k < w → w ≤ 16 → Fits w64 (k + 1)
next_fits k w lt few = omega arith

next_within : (k w : ℕ) → k < w → k + 1 ≤ w
next_within k w lt = omega arith

start_fits : (from n : ℕ) → from ≤ n → n < 2 ^ 30 → Fits w64 (from * 12)
start_fits from n le few = omega arith

from_to : (from to x y : ℕ) → from ≡ x → to ≡ y → x ≤ y → from ≤ to
from_to from to x y f t le = omega arith

pub border-from-requires-clause-few : goal.border-from-requires-clause-few
border-from-requires-clause-few c = few_games (length c.args.games.now) c.requires.few

pub overflow_add-k : goal.overflow_add-k
overflow_add-k c = next_fits c.loop-k.k c.args.workers c.loop-k-test.true c.requires.workers.1

pub border-to-requires-clause-worker : goal.border-to-requires-clause-worker
border-to-requires-clause-worker c = next_within c.loop-k.k c.args.workers c.loop-k-test.true

pub border-to-requires-clause-few : goal.border-to-requires-clause-few
border-to-requires-clause-few c = few_games (length c.args.games.now) c.requires.few

pub offset_bounds-games-from : goal.offset_bounds-games-from
offset_bounds-games-from c = start_fits c.border-from.result (length c.args.games.now) c.border-from.ensures.within c.requires.few

pub slice_bounds-add_piece-count : goal.slice_bounds-add_piece-count
slice_bounds-add_piece-count c = from_to c.border-from.result c.border-to.result _ _ c.border-from.ensures.border c.border-to.ensures.border (border_rises c.loop-k.k (length c.args.games.now) c.args.workers c.requires.workers.0)

pub loop-k-preserved : goal.loop-k-preserved
loop-k-preserved c =
    let le = from_to c.border-from.result c.border-to.result _ _ c.border-from.ensures.border c.border-to.ensures.border (border_rises c.loop-k.k (length c.args.games.now) c.args.workers c.requires.workers.0) in
    let before = c.loop-k.invariant.games ∙ ap (λ n. take n c.args.games.now) (sym c.border-from.ensures.border) in
    record {
      games = dealt_more c.args.games.now _ _ c.border-from.result c.border-to.result le before c.in_ok-add_piece.ensures.games ∙ ap (λ n. take n c.args.games.now) c.border-to.ensures.border;
      fresh = c.in_ok-add_piece.ensures.fresh c.loop-k.invariant.fresh;
    }

pub returns-clause-games : goal.returns-clause-games
returns-clause-games c =
    let at = le_antisymm c.loop-k.auto.k-end c.loop-k-test.false in
    c.loop-k.invariant.games ∙ ap (λ k. take (k * length c.args.games.now / c.args.workers) c.args.games.now) at
    ∙ ap (λ n. take n c.args.games.now) (border_last (length c.args.games.now) c.args.workers c.requires.workers.0) ∙ take-length c.args.games.now
