-- A cup that is printed world by world.
use Rattle.std.specs.Prelude.{◌≡◌, ◌≢◌, ℕ, ◌<◌, ◌≤◌, ◌/◌, List, Result, Ok, Err}
use Rattle.ant_base.specs.Sink.{SinkState, PushedAll, PushedFront}
use Rattle.ant_base.specs.declared.push_fault.PushFault.{PushFault}
use Rattle.ant_base.specs.declared.push_fault.PushFault.TheVariants.{WriteFault, OutOfMemory}

-- this many players, worlds, seeds and workers make a cup, and the referee knows each game on this world with each seed
pub record CanBePrinted (knows : ℕ → ℕ → ℕ → Type 0) (players worlds seeds workers world : ℕ) : Type 0 where
  pub pair : 2 ≤ players
  pub few_players : players ≤ 16
  pub few_worlds : worlds ≤ 16
  pub seed : 1 ≤ seeds
  pub few_seeds : seeds ≤ 1000
  pub worker : 1 ≤ workers
  pub few_workers : workers ≤ 16
  pub early : world < worlds
  pub known : (n red black : ℕ) → n / seeds ≡ world → red < players → black < players → red ≢ black → knows n red black

-- why the lines of a world weren't pushed: the sink failed, after a prefix of them; or memory ran out, and the sink is
-- unchanged
abbrev pub WorldStops : SinkState → SinkState → List ℕ → PushFault → Type 0
WorldStops old new text WriteFault = PushedFront old new text
WorldStops old new text OutOfMemory = new ≡ old

-- the lines of a world were pushed, or why not
abbrev pub WorldPrinted : SinkState → SinkState → List ℕ → Result (Unit {0}) PushFault → Type 0
WorldPrinted old new text (Ok _) = PushedAll old new text
WorldPrinted old new text (Err fault) = WorldStops old new text fault
