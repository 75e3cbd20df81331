use Rattle.std.proofs.Common.{◌≡◌, List, ℕ, sym, ap, ◌∙◌, subst}
use Rattle.std.specs.List.Sorted.{IsNonDecreasing}
use Rattle.ant_base.specs.NumberList.{NumberList}
use Rattle.match_run.specs.Dumps.{has_round}
use Rattle.match_run.proofs.RisingRounds.{has_round-searched}
use Rattle.match_run.proofs.dumps.Rounds.has.Goals as goal

pub returns-then-self : goal.returns-then-self
returns-then-self c =
    let list : c.deref.result.now ≡ c.self.inside.list.items = c.deref.ensures.value in
    let numbers : c.args.self.now.numbers ≡ c.self.inside.list.items = ap (λ (rounds : NumberList). rounds.numbers) (sym c.self.view_is) in
    let rises : IsNonDecreasing c.deref.result.now = subst IsNonDecreasing (sym list) (c.self.invariant c.if-self.true) in
    c.is_ok.ensures.value ∙ has_round-searched c.deref.result.now c.args.round c.binary_search.result rises c.binary_search.ensures.position
    ∙ ap (λ (rounds : List ℕ). has_round rounds c.args.round) (list ∙ sym numbers)
