-- What holds of the fields of a field and of a book.
use Rattle.std.specs.Prelude.{◌≡◌, ℕ, ◌+◌, ◌-◌, ◌*◌, ◌<◌, ◌≤◌, ◌^◌, [], Option}
use Rattle.std.specs.List.{count_by}
use Rattle.std.specs.Option.{ForSome}
use Rattle.std.specs.Vec.{vec_capacity, vec_len}
use Rattle.cell_world.specs.Grid.{Grid, world_of}
use Rattle.ant_turn.specs.Minds.{Minds, AreSound, Fits}
use Rattle.round_book.specs.declared.workspace.Workspace.{Workspace}
use Rattle.round_book.specs.Counts.{is_taken_verdict}
use Rattle.round_book.specs.Inner.Workspace.{AreMarked, most_listed}

-- a workspace with an equal world, and with nothing written yet
pub record IsWorkspaceReady (world : Grid) (work : Workspace) : Type 0 where
  pub same : work.world ≡ world
  pub marks : AreMarked world work.marked.items []
  pub none_written : work.written.items ≡ []
  pub no_verdicts : work.verdicts.items ≡ []

-- brains that fit the world, and a ready workspace, if there is one
pub record IsFieldKept (world : Grid) (minds : Minds) (workspace : Option Workspace) : Type 0 where
  pub fits : Fits (world_of world) minds
  pub sound : AreSound minds
  pub ready : ForSome workspace (IsWorkspaceReady world)

-- the next turn is one of the window or its end; the stream is long enough for the turns that are left; there is room
-- for what they write and for their verdicts; and the looks used so far are counted
pub record IsWorkspaceKept (from to next place taken : ℕ) (work : Workspace) : Type 0 where
  pub begun : from ≤ next
  pub left : next ≤ to
  pub ids : to ≤ work.world.ids
  pub lasting : place + (to - next) < 2 ^ 63
  pub marks : AreMarked work.world work.marked.items work.written.items
  pub write_room : most_listed work.world (vec_len work.written) (7 * (to - next)) ≤ vec_capacity work.written
  pub verdict_room : vec_len work.verdicts + (to - next) ≤ vec_capacity work.verdicts
  pub counted : taken ≡ count_by is_taken_verdict work.verdicts.items
  pub few : taken ≤ next - from
