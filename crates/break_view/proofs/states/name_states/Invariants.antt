use Rattle.std.proofs.Common.{ℕ, ◌<◌, get_or}
use Rattle.break_view.specs.declared.breaks.Break.{Break}
use Rattle.break_view.specs.Inner.Changes.{IsNamed}
use Rattle.break_view.proofs.states.name_states.Given as goal

-- the tables name the states of the breaks so far
abbrev pub invariant-loop-item : goal.invariant-loop-item
invariant-loop-item l = (k : ℕ) (d : Break) → k < l.item-index → IsNamed l.red l.black (get_or l.items k d)
