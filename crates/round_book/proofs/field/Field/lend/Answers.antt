use Rattle.std.proofs.Common.{◌≡◌, ◌-◌, sym, ◌∙◌, subst}
use Rattle.std.proofs.lemmas.Option.{same_Some}
use Rattle.round_book.specs.declared.workspace.Workspace.{Workspace}
use Rattle.round_book.specs.Inner.Kept.{IsWorkspaceReady}
use Rattle.round_book.proofs.WorkspaceLemmas.{ready-own, ready-reserved}
use Rattle.round_book.proofs.field.Field.lend.Goals as goal

pub invariant_of-self : goal.invariant_of-self
invariant_of-self c = let had = c.reserve.ensures in record {
  fits = c.self.invariant.fits;
  sound = c.self.invariant.sound;
  ready = λ work is. let same : c.reserve.new.self ≡ work = same_Some c.reserve.new.self work is in
      subst (IsWorkspaceReady c.self.inside.world) same (ready-reserved c.self.inside.world c.in-Some.kept c.reserve.new.self (c.self.invariant.ready c.in-Some.kept c.in-Some.is) had.rest had.written had.verdicts);
}

pub over-requires-clause-ready : goal.over-requires-clause-ready
over-requires-clause-ready c =
    let had = c.reserve.ensures in
    let same : c.reserve.new.self ≡ c.in-Some-take.work = same_Some c.reserve.new.self c.in-Some-take.work (sym c.take.ensures.value ∙ c.in-Some-take.is) in
    subst (λ (w : Workspace). IsWorkspaceReady w.world w) same
    (ready-own c.self.inside.world c.reserve.new.self
    (ready-reserved c.self.inside.world c.in-Some.kept c.reserve.new.self (c.self.invariant.ready c.in-Some.kept c.in-Some.is) had.rest had.written had.verdicts))
