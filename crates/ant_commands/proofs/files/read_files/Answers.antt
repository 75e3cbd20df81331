-- one more file was read, or the reading stopped at it
use Rattle.std.proofs.Common.{◌+◌, Vec, Global, map}
use Rattle.ant_commands.proofs.Listed.{reads_more, stopped_at, wanting_at}
use Rattle.ant_commands.proofs.files.read_files.Goals as goal

pub returns-in_err-value : goal.returns-in_err-value
returns-in_err-value g c =
    stopped_at (λ (values : Vec g.row.T.Denot Global). map g.T.FileText.content values.items) (g.S.Shelf.state c.args.shelf.now) (g.S.Shelf.state c.loop-name.shelf) (g.S.Shelf.state c.read_file.new.shelf) g.T.FileText.kind
    c.args.names.now c.loop-name.name-index c.name-item.result c.as_str.result.now (map g.T.FileText.content c.loop-name.values.items) c.from_residual.result c.in_err-value.field-0.0
    c.loop-name-test.true c.name-item.is c.as_str.ensures.value c.from_residual.ensures.1 c.loop-name.invariant c.in_err-value.ensures

pub returns-in_err-push : goal.returns-in_err-push
returns-in_err-push g c =
    wanting_at (λ (values : Vec g.row.T.Denot Global). map g.T.FileText.content values.items) (g.S.Shelf.state c.args.shelf.now) (g.S.Shelf.state c.read_file.new.shelf) g.T.FileText.kind
    c.args.names.now (c.loop-name.name-index + 1) _ c.from_residual-in_err-push.result c.from_residual-in_err-push.ensures.1
    (reads_more g.T.FileText.content (g.S.Shelf.state c.args.shelf.now) (g.S.Shelf.state c.loop-name.shelf) (g.S.Shelf.state c.read_file.new.shelf) g.T.FileText.kind
    c.args.names.now c.loop-name.name-index c.name-item.result c.as_str.result.now c.loop-name.values.items c.in_ok-value.value
    c.loop-name-test.true c.name-item.is c.as_str.ensures.value c.loop-name.invariant c.in_ok-value.ensures)

pub loop-name-preserved : goal.loop-name-preserved
loop-name-preserved g c =
    rw c.in_ok-push.ensures.items
    (reads_more g.T.FileText.content (g.S.Shelf.state c.args.shelf.now) (g.S.Shelf.state c.loop-name.shelf) (g.S.Shelf.state c.read_file.new.shelf) g.T.FileText.kind
    c.args.names.now c.loop-name.name-index c.name-item.result c.as_str.result.now c.loop-name.values.items c.in_ok-value.value
    c.loop-name-test.true c.name-item.is c.as_str.ensures.value c.loop-name.invariant c.in_ok-value.ensures)
