-- the words and the files were read; and the program ran over them, whether its text and its line have room or not
use Rattle.std.proofs.Common.{◌∙◌, ℕ, List, true, false, ap, inl, refl, subst, sym}
use Rattle.ant_base.specs.Lines.{lines_of}
use Rattle.ant_commands.specs.FaultLines.{plain_ending}
use Rattle.ant_commands.specs.Status.{status_number}
use Rattle.ants_c.specs.Called.{Runs, files_in, lent}
use Rattle.ants_c.specs.Rooms.{behind}
use Rattle.ants_c.proofs.CalledLemmas.{is_called}
use Rattle.ants_c.proofs.GivenLemmas.{is_read, spoken_are}
use Rattle.ants_c.proofs.ants_call.Goals as goal

pub returns-then-not-has_room-clause-read : goal.returns-then-not-has_room-clause-read
returns-then-not-has_room-clause-read c =
    is_read c.in-Ok.spoken c.in-Some.list c.args.words.now c.args.names.now c.args.sizes.now c.args.bytes.now 4
    c.in-Some.is c.in-Ok.ensures.words (c.are_files.ensures.all c.if-not-are_files.false)

pub returns-then-not-has_room-clause-called : goal.returns-then-not-has_room-clause-called
returns-then-not-has_room-clause-called c =
    let words = lines_of c.args.words.now in let names = lines_of c.args.names.now in let files = files_in names c.args.sizes.now c.args.bytes.now in
    let ran = c.lay_program-ran in let ending = plain_ending ran.result.ended in
    let text = behind c.args.out.now ran.result.text.bytes in let line = behind c.args.said.now ran.result.line.bytes in
    let spoken = spoken_are c.in-Ok.spoken c.in-Some.list c.deref.result.now c.args.words.now c.in-Some.is c.in-Ok.ensures.words c.deref.ensures.value in
    let runs = subst (λ (list : List (List ℕ)). Runs list files text line ending) spoken ran.ensures.runs in
    inl (is_called words names files text line ending (lent c.args.out.now c.args.used.now c.args.said.now c.args.told.now c.args.fault.now)
    (lent ran.new.out ran.result.used ran.new.said ran.result.told c.args.fault.now) 4 false runs ran.ensures.unfailing ran.ensures.out ran.ensures.used ran.ensures.said ran.ensures.told
    c.has_room.ensures.short_out c.has_room.ensures.short_said (sym c.if-not-has_room.true ∙ c.has_room.ensures.room) refl refl)

pub returns-clause-read : goal.returns-clause-read
returns-clause-read c =
    is_read c.in-Ok.spoken c.in-Some.list c.args.words.now c.args.names.now c.args.sizes.now c.args.bytes.now c.from.result
    c.in-Some.is c.in-Ok.ensures.words (c.are_files.ensures.all c.if-not-are_files.false)

pub returns-clause-called : goal.returns-clause-called
returns-clause-called c =
    let words = lines_of c.args.words.now in let names = lines_of c.args.names.now in let files = files_in names c.args.sizes.now c.args.bytes.now in
    let ran = c.lay_program-ran in let ending = plain_ending ran.result.ended in
    let text = behind c.args.out.now ran.result.text.bytes in let line = behind c.args.said.now ran.result.line.bytes in
    let spoken = spoken_are c.in-Ok.spoken c.in-Some.list c.deref.result.now c.args.words.now c.in-Some.is c.in-Ok.ensures.words c.deref.ensures.value in
    let runs = subst (λ (list : List (List ℕ)). Runs list files text line ending) spoken ran.ensures.runs in
    inl (is_called words names files text line ending (lent c.args.out.now c.args.used.now c.args.said.now c.args.told.now c.args.fault.now)
    (lent ran.new.out ran.result.used ran.new.said ran.result.told c.tell_ending.new.fault) c.from.result true runs ran.ensures.unfailing ran.ensures.out ran.ensures.used ran.ensures.said ran.ensures.told
    c.has_room.ensures.short_out c.has_room.ensures.short_said (sym c.if-not-has_room.false ∙ c.has_room.ensures.room)
    (c.from.ensures ∙ c.number.ensures ∙ ap status_number c.status.ensures) c.tell_ending.ensures)
