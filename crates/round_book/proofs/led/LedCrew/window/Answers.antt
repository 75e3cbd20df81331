use Rattle.std.proofs.Common.{refl}
use Rattle.std.specs.Prelude.{Err}
use Rattle.round_book.proofs.LedLemmas.{IsWindow-called, IsWindow-err}
use Rattle.round_book.proofs.led.LedCrew.window.Goals as goal

pub returns-in_err-counts-clause-unchanged : goal.returns-in_err-counts-clause-unchanged
returns-in_err-counts-clause-unchanged g c =
    IsWindow-err (Err _) c.from_residual.result c.args.field.now c.args.from c.args.to _ _
    (IsWindow-called g.F.FnMut c.requires.ready.1 _ _ _ _ c.args.from c.args.to _ c.requires.window c.in_err-counts.ensures) refl

pub returns-clause-played : goal.returns-clause-played
returns-clause-played g c = (IsWindow-called g.F.FnMut c.requires.ready.1 _ _ _ _ c.args.from c.args.to _ c.requires.window c.in_ok-counts.ensures).played

pub returns-clause-counts : goal.returns-clause-counts
returns-clause-counts g c = (IsWindow-called g.F.FnMut c.requires.ready.1 _ _ _ _ c.args.from c.args.to _ c.requires.window c.in_ok-counts.ensures).counts
