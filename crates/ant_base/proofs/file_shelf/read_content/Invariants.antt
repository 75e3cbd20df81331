-- what was taken is the content so far, which is at most one byte too long; a reader that is sure of as much gave a
-- byte each turn
use Rattle.std.proofs.Common.{◌+◌, ◌≤◌}
use Rattle.std.specs.Io.KnownBytes.{Consumes}
use Rattle.std.specs.Prelude.{vec_len}
use Rattle.ant_base.specs.Shelf.{longest}
use Rattle.ant_base.proofs.file_shelf.read_content.Given as goal

abbrev pub invariant-loop-turn : goal.invariant-loop-turn
invariant-loop-turn g l = Consumes (g.R.Read.remaining l.initial.reader) (g.R.Read.remaining l.reader) l.content.items × (vec_len l.content ≤ longest + 1)
    × (longest + 1 ≤ g.R.SureReader.sure l.initial.reader → (longest + 1 ≤ g.R.SureReader.sure l.reader + vec_len l.content) × (l._turn ≤ vec_len l.content))
