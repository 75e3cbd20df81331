-- one brain, and then the other
use Rattle.std.proofs.Common.{[], ◌∷◌}
use Rattle.ant_commands.specs.declared.commands.same.Pair.{Pair}
use Rattle.ant_commands.specs.Files.FileContent.{BrainContent}
use Rattle.ant_commands.specs.Inner.Plans.{pair_read}
use Rattle.ant_commands.specs.Inner.Reading.ReadOutcome.{Contents}
use Rattle.ant_commands.specs.Outputs.{brain_file, pair_contents}
use Rattle.ant_commands.proofs.Readings.{reads_then, stopped_first, stopped_later}
use Rattle.ant_commands.proofs.commands.same.pair_of.Goals as goal

pub returns-in_err-first : goal.returns-in_err-first
returns-in_err-first g c =
    stopped_first (λ (pair : Pair). pair_contents (pair_read pair)) (g.S.Shelf.state c.args.shelf.now) (g.S.Shelf.state c.read_file.new.shelf) (brain_file c.args.first.now ∷ []) (brain_file c.args.second.now ∷ [])
    c.from_residual.result c.in_err-first.field-0.0 c.from_residual.ensures.1 c.in_err-first.ensures

pub returns-in_err-second : goal.returns-in_err-second
returns-in_err-second g c =
    stopped_later (λ (pair : Pair). pair_contents (pair_read pair)) (g.S.Shelf.state c.args.shelf.now) (g.S.Shelf.state c.read_file.new.shelf) (g.S.Shelf.state c.read_file-2.new.shelf) (brain_file c.args.first.now ∷ []) (brain_file c.args.second.now ∷ [])
    (BrainContent c.in_ok-first.first ∷ []) c.from_residual-in_err-second.result c.in_err-second.field-0.0 c.from_residual-in_err-second.ensures.1 c.in_ok-first.ensures c.in_err-second.ensures

pub returns : goal.returns
returns g c =
    reads_then (g.S.Shelf.state c.args.shelf.now) (g.S.Shelf.state c.read_file.new.shelf) (g.S.Shelf.state c.read_file-2.new.shelf) (brain_file c.args.first.now ∷ []) (brain_file c.args.second.now ∷ [])
    (BrainContent c.in_ok-first.first ∷ []) (Contents (BrainContent c.in_ok-second.second ∷ [])) c.in_ok-first.ensures c.in_ok-second.ensures
