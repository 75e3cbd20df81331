use Rattle.std.proofs.Common.{◌≡◌, ◌∙◌, ℕ, List, [], ◌++◌, length, take, Option, subst, sym}
use Rattle.std.proofs.Math.Seq.{take-append_seam}
use Rattle.far_crew.specs.declared.pick.Pick.{Pick}
use Rattle.far_crew.specs.Inner.Picks.{AreNone, ArePicked, ArePicksOf}
use Rattle.far_crew.specs.Inner.Turns.{window_on}
use Rattle.far_crew.proofs.PickLemmas.{none_picked}
use Rattle.far_crew.proofs.pick.choose.Goals as goal

pub sift-requires-clause-picks : goal.sift-requires-clause-picks
sift-requires-clause-picks g c = record {
  count = c.deref_mut.ensures.len ∙ c.requires.count;
  picked = none_picked c.args.lines.now [] (window_on c.args.field.now c.args.turns.now) c.deref_mut.result.now (subst AreNone (sym c.deref_mut.ensures.value) c.requires.none);
}

-- what a call through a slice leaves in the list is what it left in the slice
written : (n : ℕ) (new rest : List (Option Pick)) → length new ≡ n → take n (new ++ rest) ≡ new
written n new rest all = subst (λ k. take k (new ++ rest) ≡ new) all (take-append_seam new rest)

pub returns-clause-picked : goal.returns-clause-picked
returns-clause-picked g c =
    let sifted = c.deref_mut-2.ensures.value ∙ written c.args.picks.now.len c.sift.new.picks _ (c.sift.ensures.count ∙ sym c.requires.count) in
    let filled = c.fill.ensures.picks c.args.lines.now (subst (ArePicksOf c.args.field.now c.args.turns.now c.args.lines.now []) (sym sifted) c.sift.ensures) in
    subst (λ picks. ArePicked c.args.lines.now c.fill.new.own.items picks (window_on c.args.field.now c.args.turns.now))
    (sym (written c.args.picks.now.len c.fill.new.picks _ (filled.count ∙ sym c.requires.count))) filled.picked
