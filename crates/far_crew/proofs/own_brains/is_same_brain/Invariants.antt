-- the instructions so far are the same
use Rattle.std.proofs.Common.{◌≡◌, ◌<◌, ℕ, slice_get}
use Rattle.far_crew.proofs.own_brains.is_same_brain.Given as goal

abbrev pub invariant-loop-state : goal.invariant-loop-state
invariant-loop-state l = (i : ℕ) → i < l.state → slice_get l.one i ≡ slice_get l.other i
