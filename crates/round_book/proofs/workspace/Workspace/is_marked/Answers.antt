use Rattle.std.proofs.Common.{◌≡◌, true, sym, ◌∙◌}
use Rattle.std.proofs.lemmas.Bool.{false≢true}
use Rattle.round_book.proofs.workspace.Workspace.is_marked.Goals as goal

pub returns-then-not-is_inside : goal.returns-then-not-is_inside
returns-then-not-is_inside c = (
  λ e. absurd (false≢true e),
  λ held.
      let here = c.requires.inside c.args.p held in
      let inside : c.is_inside.result ≡ true = c.is_inside.ensures.inside.1 (here.column, here.row) in
      sym c.if-not-is_inside.true ∙ inside,
)
