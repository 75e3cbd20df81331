-- the turns so far have picks, which name the looks at them
use Rattle.std.proofs.Common.{◌≡◌, ◌-◌, ◌≤◌, List, [], length}
use Rattle.std.specs.Vec.{vec_capacity, vec_len}
use Rattle.far_crew.specs.declared.channels.WorkerChannels.{WorkerChannels}
use Rattle.far_crew.specs.Inner.Picks.{AreFilled, ArePicksOf}
use Rattle.far_crew.proofs.pick.fill.Given as goal

abbrev pub invariant-loop-id : goal.invariant-loop-id
invariant-loop-id g l = record {
  picks : (lines : List WorkerChannels) → ArePicksOf l.field l.turns lines [] l.fn.picks → ArePicksOf l.field l.turns lines l.own.items l.picks;
  filled : AreFilled l.picks (l.id - l.turns.from);
  count : length l.picks ≡ l.turns.to - l.turns.from;
  len : vec_len l.own ≤ l.id - l.turns.from;
  capacity : vec_capacity l.own ≡ vec_capacity l.fn.own;
}
