use Rattle.std.proofs.Common.{ℕ, ◌+◌, List, drop, get_or, refl, sym, ap, ◌∙◌}
use Rattle.std.proofs.lemmas.List.{drop_all}
use Rattle.match_save.specs.Inner.Answered.{row_behind}
use Rattle.match_save.specs.Inner.Reading.{all_of}
use Rattle.match_save.proofs.FilledLists.{none-behind, row-ends, row-more, row-refused, row-wide}
use Rattle.match_save.proofs.PutLemmas.{drop-from}
use Rattle.match_save.proofs.rows.push_row.Goals as goal

pub loop-byte-preserved : goal.loop-byte-preserved
loop-byte-preserved g c =
    let value = g.T.RowCell.of_byte in let i = c.loop-byte.byte-index in let line = c.args.line.now in let front = c.loop-byte.cells.items in
    c.loop-byte.invariant ∙ ap (λ (l : List ℕ). row_behind front (all_of value l)) (drop-from line i 0 c.loop-byte-test.true)
    ∙ row-more value front c.in-Some.cell (get_or line i 0) (drop (i + 1) line) (sym c.of_byte.ensures ∙ c.in-Some.is)
    ∙ ap (λ l. row_behind l (all_of value (drop (i + 1) line))) (sym c.in_ok-push.ensures.items)

pub returns : goal.returns
returns g c =
    let value = g.T.RowCell.of_byte in let line = c.args.line.now in let front = c.loop-byte.cells.items in
    ap (row_behind c.args.cells.now.items) (row-wide value c.args.width line c.if-line-width.false) ∙ c.loop-byte.invariant
    ∙ ap (λ (l : List ℕ). row_behind front (all_of value l)) (drop_all c.loop-byte.byte-index line c.loop-byte-test.false) ∙ row-ends value front

pub returns-in_default : goal.returns-in_default
returns-in_default g c =
    let value = g.T.RowCell.of_byte in let i = c.loop-byte.byte-index in let line = c.args.line.now in let front = c.loop-byte.cells.items in
    let none = c.loop-byte.invariant ∙ ap (λ (l : List ℕ). row_behind front (all_of value l)) (drop-from line i 0 c.loop-byte-test.true)
    ∙ row-refused value front (get_or line i 0) (drop (i + 1) line) (sym c.of_byte.ensures ∙ c.in_default.is) in
    (row-wide value c.args.width line c.if-line-width.false ∙ none-behind value c.args.cells.now.items (all_of value line) none, refl)
