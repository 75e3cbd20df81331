-- what was read is lost, if memory can't be had for it
use Rattle.std.proofs.Common.{◌<◌, length, sym, subst}
use Rattle.std.proofs.KnownBytes.{Consumes-kept}
use Rattle.std.specs.Prelude.{vec_len}
use Rattle.ant_base.proofs.Streams.{fault_none, interrupted_none, read_ended, read_few, read_fits, read_gave, read_kept, read_less, read_lost, read_more_taken, read_on, read_room, read_stopped, read_unsure}
use Rattle.ant_base.proofs.file_shelf.read_more.Goals as goal

pub returns-in_err-given-clause-lost : goal.returns-in_err-given-clause-lost
returns-in_err-given-clause-lost g c = λ start consumes.
    read_stopped c.from_residual.result start _ _ c.args.content.now.items (vec_len c.args.content.now) (length c.args.chunk.now) 4194305 consumes
    (read_kept c.read_some.result c.given_by.result _ _ c.read_some.new.chunk c.read_some.ensures.bytes c.given_by.ensures (fault_none _ c.in_err-given.field-0.0 c.in_err-given.was))
    c.args.content.now.ok.0 c.requires.room

pub returns-in_err-given-clause-sure : goal.returns-in_err-given-clause-sure
returns-in_err-given-clause-sure g c = λ sure.
    absurd (read_unsure c.read_some.result c.given_by.result _ _ (c.read_some.ensures.sure c.requires.some sure) c.given_by.ensures (fault_none _ c.in_err-given.field-0.0 c.in_err-given.was))

pub returns-in_default-clause-sure : goal.returns-in_default-clause-sure
returns-in_default-clause-sure g c = λ sure.
    absurd (read_unsure c.read_some.result c.given_by.result _ _ (c.read_some.ensures.sure c.requires.some sure) c.given_by.ensures (interrupted_none _ c.in_ok-given.field-0 c.in_ok-given.was c.in_default.is))

pub returns-in_default-clause-taken : goal.returns-in_default-clause-taken
returns-in_default-clause-taken g c = λ start consumes.
    Consumes-kept start _ _ c.args.content.now.items consumes
    (read_kept c.read_some.result c.given_by.result _ _ c.read_some.new.chunk c.read_some.ensures.bytes c.given_by.ensures (interrupted_none _ c.in_ok-given.field-0 c.in_ok-given.was c.in_default.is))

pub slice_bounds-extend_from_slice-end : goal.slice_bounds-extend_from_slice-end
slice_bounds-extend_from_slice-end g c =
    read_fits c.read_some.result c.given_by.result c.in_ok-given.field-0 c.read_some.new.chunk c.in-Some.given c.read_some.ensures.bound c.given_by.ensures c.in_ok-given.was c.in-Some.is

pub returns-in_err-extend_from_slice-clause-lost : goal.returns-in_err-extend_from_slice-clause-lost
returns-in_err-extend_from_slice-clause-lost g c = λ start consumes.
    let fits = read_fits c.read_some.result c.given_by.result c.in_ok-given.field-0 c.read_some.new.chunk c.in-Some.given c.read_some.ensures.bound c.given_by.ensures c.in_ok-given.was c.in-Some.is in
    let gave = read_gave c.read_some.result c.given_by.result c.in_ok-given.field-0 c.in-Some.given _ _ c.read_some.new.chunk c.read_some.ensures.bytes c.given_by.ensures c.in_ok-given.was c.in-Some.is in
    let room = read_room (vec_len c.args.content.now) _ _ (length c.args.chunk.now) 4194305 c.args.content.now.ok.0 c.read_some.auto.chunk c.requires.room in
    read_lost c.from_residual-in_err-extend_from_slice.result start _ _ c.args.content.now.items c.read_some.new.chunk c.in-Some.given (length c.read_some.new.chunk) 4194305 consumes gave.0 fits room

pub returns-clause-few : goal.returns-clause-few
returns-clause-few g c = read_few (vec_len c.args.content.now) _ c.in-Some.given (length c.args.chunk.now) 4194305 c.read_some.new.chunk c.in_ok-extend_from_slice.ensures.len c.read_some.auto.chunk c.requires.room

pub returns-clause-taken : goal.returns-clause-taken
returns-clause-taken g c = λ start consumes.
    let gave = read_gave c.read_some.result c.given_by.result c.in_ok-given.field-0 c.in-Some.given _ _ c.read_some.new.chunk c.read_some.ensures.bytes c.given_by.ensures c.in_ok-given.was c.in-Some.is in
    read_more_taken start _ _ c.args.content.now.items c.read_some.new.chunk _ c.in-Some.given gave.0 c.in_ok-extend_from_slice.ensures.items consumes

pub returns-clause-end : goal.returns-clause-end
returns-clause-end g c =
    let gave = read_gave c.read_some.result c.given_by.result c.in_ok-given.field-0 c.in-Some.given _ _ c.read_some.new.chunk c.read_some.ensures.bytes c.given_by.ensures c.in_ok-given.was c.in-Some.is in
    read_ended c.in-Some.given (vec_len c.args.content.now) _ c.read_some.new.chunk _ gave.1 (subst (λ n. 0 < n) (sym c.read_some.auto.chunk) c.requires.some) c.in_ok-extend_from_slice.ensures.len

pub returns-clause-sure : goal.returns-clause-sure
returns-clause-sure g c = λ sure.
    let fits = read_fits c.read_some.result c.given_by.result c.in_ok-given.field-0 c.read_some.new.chunk c.in-Some.given c.read_some.ensures.bound c.given_by.ensures c.in_ok-given.was c.in-Some.is in
    let less = read_less c.read_some.result c.given_by.result c.in_ok-given.field-0 c.in-Some.given _ _ (c.read_some.ensures.sure c.requires.some sure) c.given_by.ensures c.in_ok-given.was c.in-Some.is in
    read_on _ _ _ _ c.in-Some.given c.read_some.new.chunk c.in_ok-extend_from_slice.ensures.len fits less
