use Rattle.std.proofs.Common.{◌≡◌, ◌<◌, List, sym, ◌∙◌, ap, subst}
use Rattle.std.specs.List.{Contains}
use Rattle.hex_geometry.specs.declared.position.Pos.{Pos}
use Rattle.round_book.specs.declared.workspace.Workspace.{Workspace}
use Rattle.round_book.specs.Book.{FieldValue}
use Rattle.round_book.proofs.field.Field.take_back.Goals as goal

pub catch_up-requires-clause-inside : goal.catch_up-requires-clause-inside
catch_up-requires-clause-inside c =
    let width : c.self.inside.world.width ≡ c.args.work.world.width = ap (λ (f : FieldValue). f.world.width) c.self.view_is ∙ c.requires.width in
    let height : c.self.inside.world.height ≡ c.args.work.world.height = ap (λ (f : FieldValue). f.world.height) c.self.view_is ∙ c.requires.height in
    let same : c.in-Some.kept ≡ c.args.work = (let is = c.in-Some.is in cc) in
    λ p held.
    let here = c.requires.marks.inside p (subst (λ (ps : List Pos). Contains ps p) (c.deref.ensures.value ∙ ap (λ (w : Workspace). w.written.items) same) held) in
    record { column = subst (λ n. p.x < n) (sym width) here.column; row = subst (λ n. p.y < n) (sym height) here.row }
