-- a position that was noted, and one that wasn't
use Rattle.std.proofs.Common.{◌≡◌, ◌<◌, true, false, [], ◌∷◌, length, length-append, slice_index_or, slice_set, sym, ◌∙◌, ap, subst, arith}
use Rattle.cell_world.specs.Grid.{world_of}
use Rattle.cell_world.specs.declared.part.Part.TheVariants as part
use Rattle.cell_world.specs.Parts.{only}
use Rattle.spec_record.specs.Claims.{Sighting}
use Rattle.spec_record.specs.Inner.Near.{AreSeen, is_seen, number_near}
use Rattle.spec_record.proofs.Near.{AreSeen-noted, sighted-seen, sighted-unseen}
use Rattle.spec_record.proofs.moves.note_who.Goals as goal
use Rattle.spec_record.proofs.moves.note_who.Goals.{After-number_near-number}

-- what is noted
abbrev new : After-number_near-number → Sighting
new c = (c.args.r, only part.Who, (world_of c.args.base.now).cells c.args.r)

-- its mark tells whether it was
told : (c : After-number_near-number) → slice_index_or c.args.seen.now c.number_near-number.result false ≡ is_seen c.args.r c.args.list.now.items
told c = ap (λ n. slice_index_or c.args.seen.now n false) c.number_near-number.ensures.number ∙ c.requires.seen.marks c.args.r c.requires.near

pub push-requires : goal.push-requires
push-requires c =
    let at = (goal.at.push-requires c).After-number_near-number in
    let last = sighted-unseen c.args.list.now.items (new at) (sym (told at) ∙ c.if-not-seen-number.true) in
    let e = ap length last ∙ length-append c.args.list.now.items (new at ∷ []) in
    let room : length c.args.list.now.items < 19 = omega (arith, e, c.requires.room) in
    (omega arith, room)

pub returns-then-not-seen-number-clause-noted : goal.returns-then-not-seen-number-clause-noted
returns-then-not-seen-number-clause-noted c =
    let at = (goal.at.returns-then-not-seen-number-clause-noted c).After-number_near-number in
    rw (c.push.ensures.items, c.who.ensures, c.cell.ensures.content) (sym (sighted-unseen c.args.list.now.items (new at) (sym (told at) ∙ c.if-not-seen-number.true)))

pub returns-then-not-seen-number-clause-seen : goal.returns-then-not-seen-number-clause-seen
returns-then-not-seen-number-clause-seen c =
    let at = (goal.at.returns-then-not-seen-number-clause-seen c).After-number_near-number in
    let none = sym (told at) ∙ c.if-not-seen-number.true in
    rw (c.push.ensures.items, c.who.ensures, c.cell.ensures.content, c.number_near-number.ensures.number)
    (subst (AreSeen c.args.q (slice_set c.args.seen.now (number_near c.args.q c.args.r) true)) (sighted-unseen c.args.list.now.items (new at) none)
    (AreSeen-noted c.args.q c.args.seen.now c.args.list.now.items c.args.r ((world_of c.args.base.now).cells c.args.r) c.requires.near c.requires.seen none))

pub returns-else-not-seen-number-clause-noted : goal.returns-else-not-seen-number-clause-noted
returns-else-not-seen-number-clause-noted c =
    let at = (goal.at.returns-else-not-seen-number-clause-noted c).After-number_near-number in
    sym (sighted-seen c.args.list.now.items c.args.r (only part.Who) ((world_of c.args.base.now).cells c.args.r) (sym (told at) ∙ c.if-not-seen-number.false) c.requires.seen.named)
