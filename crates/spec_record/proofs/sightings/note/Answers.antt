-- a position that was noted, and one that wasn't
use Rattle.std.proofs.Common.{◌≡◌, ◌<◌, [], ◌∷◌, length, length-append, sym, ◌∙◌, ap, arith, rules}
use Rattle.spec_record.specs.Claims.{Sighting}
use Rattle.spec_record.specs.Inner.Sightings.{seen_number}
use Rattle.spec_record.proofs.Sighting.{sighted-unfound, sighted-written}
use Rattle.spec_record.proofs.sightings.note.Goals as goal

pub push-requires : goal.push-requires
push-requires g c =
    let items = c.args.list.now.items in
    let new : Sighting = (c.args.p, c.args.parts, c.args.cell) in
    let last = sighted-unfound items c.as_slice.result.now new c.number_of-number.result c.len.result c.as_slice.ensures.value c.number_of-number.ensures c.len.ensures.value c.if-number-len.false in
    let e = ap length last ∙ length-append items (new ∷ []) in
    (search rules, omega (arith, e, c.requires))

pub returns-then-number-len : goal.returns-then-number-len
returns-then-number-len g c =
    let items = c.args.list.now.items in
    let new : Sighting = (c.args.p, c.args.parts, c.args.cell) in
    let here : c.number_of-number.result ≡ seen_number c.args.p items = c.number_of-number.ensures ∙ ap (seen_number c.args.p) c.as_slice.ensures.value in
    let below : seen_number c.args.p items < length items = omega (arith, c.if-number-len.true) in
    sighted-written items c.deref_mut.result.now c.deref.result.now c.number_of-number.result c.union.result new _ c.deref_mut.ensures.value c.deref.ensures.0 here c.union.ensures below

pub returns-else-number-len : goal.returns-else-number-len
returns-else-number-len g c =
    let new : Sighting = (c.args.p, c.args.parts, c.args.cell) in
    let last = sighted-unfound c.args.list.now.items c.as_slice.result.now new c.number_of-number.result c.len.result c.as_slice.ensures.value c.number_of-number.ensures c.len.ensures.value c.if-number-len.false in
    c.push.ensures.items ∙ sym last
