use Rattle.std.proofs.Common.{◌≡◌, ◌∙◌, ◌+◌, None, Some, sym, ap}
use Rattle.std.specs.Option.{option_copied}
use Rattle.cell_world.proofs.Patches.{some_one}
use Rattle.round_book.specs.Book.{window_of}
use Rattle.round_book.specs.Window.{look_for}
use Rattle.far_crew.proofs.settle.settle_next.Goals as goal

pub unreachable-requires-in_default-look_named : goal.unreachable-requires-in_default-look_named
unreachable-requires-in_default-look_named c =
    let never : None ≡ Some (look_for (window_of c.args.field.now c.args.book.now.from c.args.book.now.to) (c.args.book.now.from + c.args.turn)) =
    ap option_copied (sym c.in_default-look_named.is) ∙ c.look_named.ensures ∙ c.requires.picked c.args.turn c.in-Some.pick c.in-Some.is in
    absurd (cc)

pub advance-requires-clause-look : goal.advance-requires-clause-look
advance-requires-clause-look c =
    let window = window_of c.args.field.now c.args.book.now.from c.args.book.now.to in
    some_one (ap option_copied (sym c.in-Some-look_named.is) ∙ c.look_named.ensures ∙ c.requires.picked c.args.turn c.in-Some.pick c.in-Some.is)
    ∙ ap (look_for window) (sym c.requires.next)
