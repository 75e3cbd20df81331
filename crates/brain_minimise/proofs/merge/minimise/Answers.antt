use Rattle.brain_minimise.proofs.MinimisedLemmas.{IsBrain-kept, IsMinimised-from}
use Rattle.brain_minimise.proofs.merge.minimise.Goals as goal

pub kept_instructions-requires-clause-rising : goal.kept_instructions-requires-clause-rising
kept_instructions-requires-clause-rising c = rw c.deref-4.ensures.value c.in_ok-numbers.ensures.rising

pub from_list-requires : goal.from_list-requires
from_list-requires c =
    let numbers = rw (c.deref.ensures.value, c.deref-2.ensures.value) at c.in_ok-numbers.ensures in
    let list = rw c.deref-4.ensures.value at c.in_ok-list.ensures in
    IsBrain-kept c.args.brain.now c.in_ok-list.list.items c.in_ok-seen.seen.items c.in_ok-classes.classes.items c.in_ok-numbers.numbers.items c.in_ok-seen.ensures.brain c.in_ok-seen.ensures.seen c.in_ok-classes.ensures.classes c.in_ok-classes.ensures.stable numbers list

pub returns : goal.returns
returns c =
    let numbers = rw (c.deref.ensures.value, c.deref-2.ensures.value) at c.in_ok-numbers.ensures in
    let list = rw c.deref-4.ensures.value at c.in_ok-list.ensures in
    rw (c.from_list.ensures, c.from_list-2.ensures)
    (IsMinimised-from c.args.brain.now c.in_ok-list.list.items c.in_ok-seen.seen.items c.in_ok-classes.classes.items c.in_ok-numbers.numbers.items c.in_ok-seen.ensures.brain c.in_ok-seen.ensures.seen c.in_ok-classes.ensures.classes c.in_ok-classes.ensures.stable numbers list)
